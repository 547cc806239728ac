-- The rows of an extract after its HD bring no reference, are each counted, and end at ZZ.
use Rattle.std.proofs.Common.{◌≡◌, ℕ, ◌+◌, Bool, true, false, not, List, [], ◌∷◌, length, flat_map, fold, unwrap_or, sym, refl, ap, ◌∙◌, arith}
use Rattle.std.specs.List.{list_all}
use Rattle.std.proofs.lemmas.Bool.{true≢false, and_parts, and_from, not-true}
use Rattle.std.proofs.lemmas.List.Sums.{fold-append}
use Rattle.cif.specs.declared.content.Content.{Content}
use Rattle.cif.specs.declared.content.Content.TheVariants.{Header}
use Rattle.cif.specs.declared.identity.Identity.{Identity}
use Rattle.cif.specs.declared.identity.Identity.TheVariants.{Header as IsHeader, BasicSchedule as IsSchedule, TiplocInsert, TiplocAmend, TiplocDelete, Association, Trailer}
use Rattle.extract.specs.declared.stage.Stage.TheVariants.{Between, Complete}
use Rattle.extract.specs.Stages.{next_stage, is_complete, is_trailer}
use Rattle.extract.specs.Progress.{Progress, identity_for, current_after, after, after_row}
use Rattle.extract.specs.Judging.{Standing, is_misplaced}
use Rattle.schedule.specs.declared.transaction.Change.{Change}
use Rattle.controller.specs.ScheduleRows.{begins_schedule, AreTaken, standing_after}
use Rattle.controller.specs.ExtractRows.{Part, Whole, Brief, Other, is_other, is_part, part_contents, ComeTo, is_trailer_part, EndAtTrailer}
use Rattle.controller.proofs.Heard.{heard_read, row_moves}
use Rattle.controller.proofs.Taking.{AdmitsAll, taken_heard, heard_admits, taken_all}
use Rattle.controller.proofs.Building.{schedule_ends, brief_joins}
use Rattle.controller.proofs.Parting.{moved_all, admits_both}

-- row takes no HD, so no row that it takes brings a reference
reference_stays : (p : Progress) (c : Content) → is_misplaced p.stage (identity_for c) ≡ false → current_after p c ≡ p.current
reference_stays p (Header h) place = absurd (true≢false place)
reference_stays p c place = refl

pub same_reference : (s : Standing) (rows : List (List ℕ)) → AreTaken s rows → (fold after_row s.extract rows).current ≡ s.extract.current
same_reference s [] t = refl
same_reference s (row ∷ rows) t =
    let h = (taken_heard s row t.0).1 in
    same_reference (standing_after s row) rows t.1
    ∙ (ap (λ (p : Progress). p.current) (row_moves s.extract row h.content (heard_read h)) ∙ reference_stays s.extract h.content (heard_admits h).place)

-- each row that is taken is counted
pub each_counted : (s : Standing) (rows : List (List ℕ)) → AreTaken s rows → (fold after_row s.extract rows).taken ≡ s.extract.taken + length rows
each_counted s [] t = omega arith
each_counted s (row ∷ rows) t =
    let h = (taken_heard s row t.0).1 in
    let more = ap (λ (p : Progress). p.taken) (row_moves s.extract row h.content (heard_read h)) in
    let on = each_counted (standing_after s row) rows t.1 in
    omega arith

-- no row is taken after ZZ
complete_takes : (i : Identity) → is_misplaced Complete i ≡ true
complete_takes IsHeader = refl
complete_takes i = refl

none_after : (parts : List Part) (s : Standing) → s.extract.stage ≡ Complete → AdmitsAll s (flat_map part_contents parts) → parts ≡ []
none_after [] s at a = refl
none_after (Whole r ∷ parts) s at a = absurd (true≢false (sym (ap (λ st. is_misplaced st IsSchedule) at) ∙ a.0.place))
none_after (Brief b ∷ parts) s at a = absurd (true≢false (sym (ap (λ st. is_misplaced st IsSchedule) at) ∙ a.0.place))
none_after (Other i ∷ parts) s at a = absurd (true≢false (sym (ap (λ st. is_misplaced st i) at ∙ complete_takes i) ∙ a.0.place))

-- any other part is followed by parts
other_leaves : (i : Identity) → is_other i ≡ true → is_trailer i ≡ false → unwrap_or (next_stage Between i false) Between ≡ Between
other_leaves Trailer is not_last = absurd (true≢false not_last)
other_leaves TiplocInsert is not_last = refl
other_leaves TiplocAmend is not_last = refl
other_leaves TiplocDelete is not_last = refl
other_leaves Association is not_last = refl
other_leaves i is not_last = absurd (true≢false (sym is))

part_leaves : (part : Part) (s : Standing) → is_part part ≡ true → is_trailer_part part ≡ false → s.extract.stage ≡ Between → AdmitsAll s (part_contents part) → (fold after s.extract (part_contents part)).stage ≡ Between
part_leaves (Whole r) s is not_last at a = (schedule_ends s r is a).stage
part_leaves (Brief b) s is not_last at a = (brief_joins s b (not-true (begins_schedule b) is) a.0).stage
part_leaves (Other i) s is not_last at a = ap (λ st. unwrap_or (next_stage st i false) st) at ∙ other_leaves i is not_last

trailer_is : (part : Part) → is_trailer_part part ≡ true → part ≡ Other Trailer
trailer_is (Other Trailer) e = refl
trailer_is part e = absurd (true≢false (sym e))

-- a part and those after it end at ZZ, where it is ZZ or those after it do
module _ (part : Part) (parts : List Part) (s : Standing) (is : is_part part ≡ true) (at : s.extract.stage ≡ Between) (a : AdmitsAll s (part_contents part)) where
  ends_from : (b : AdmitsAll (moved_all s (part_contents part)) (flat_map part_contents parts)) → ((moved_all s (part_contents part)).extract.stage ≡ Between → EndAtTrailer parts)
      → (last : Bool) → is_trailer_part part ≡ last → EndAtTrailer (part ∷ parts)
  ends_from b go true e =
      let is_last = trailer_is part e in
      let closed = ap (λ (p : Part). (fold after s.extract (part_contents p)).stage) is_last ∙ ap (λ st. unwrap_or (next_stage st Trailer false) st) at in
      let none = none_after parts (moved_all s (part_contents part)) closed b in
      record { others = []; are = ap (λ (p : Part). p ∷ parts) is_last ∙ ap (λ (ps : List Part). Other Trailer ∷ ps) none; none = refl }
  ends_from b go false e =
      let on = go (part_leaves part s is e at a) in
      record {
        others = part ∷ on.others;
        are = ap (λ (ps : List Part). part ∷ ps) on.are;
        none = and_from (not (is_trailer_part part)) (list_all (λ p. not (is_trailer_part p)) on.others) (ap not e) on.none;
      }

-- parts from between to complete end at ZZ
parts_end : (parts : List Part) (s : Standing) → list_all is_part parts ≡ true → s.extract.stage ≡ Between → AdmitsAll s (flat_map part_contents parts) → is_complete (fold after s.extract (flat_map part_contents parts)).stage ≡ true → EndAtTrailer parts
parts_end [] s is at a complete = absurd (true≢false (sym complete ∙ ap is_complete at))
parts_end (part ∷ parts) s is at a complete =
    let each = and_parts (is_part part) (list_all is_part parts) is in
    let both = admits_both (part_contents part) (flat_map part_contents parts) s a in
    let to_end = sym (ap (λ (p : Progress). is_complete p.stage) (fold-append after s.extract (part_contents part) (flat_map part_contents parts))) ∙ complete in
    ends_from part parts s each.0 at both.0 both.1 (λ between. parts_end parts (moved_all s (part_contents part)) each.1 between both.1 to_end) (is_trailer_part part) refl

-- so do rows that are taken from between to complete
pub rows_end : {before after_all : List Change} (s : Standing) (rows : List (List ℕ)) (come : ComeTo rows before after_all) → AreTaken s rows → s.extract.stage ≡ Between → is_complete (fold after_row s.extract rows).stage ≡ true → EndAtTrailer come.parts
rows_end s rows come t at complete =
    let r = taken_all s rows (flat_map part_contents come.parts) come.read t in
    parts_end come.parts s come.each at r.0 (sym (ap (λ (p : Progress). is_complete p.stage) r.1) ∙ complete)
