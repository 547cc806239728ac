use Rattle.std.proofs.Common.{[], ◌∷◌, ◌++◌, cond, ap, sym, ◌∙◌, ◌≡◌, refl, true, rules, map, take, inl, inr, ⊎_elim}
use Rattle.std.proofs.Output.{has_written_of_eq, has_written_append}
use Rattle.wording.specs.Texts.{weekdays, days_named}
use Rattle.wording.proofs.Days.{three_letters, short, named, named_map, is_nil, is_nil-push, join_more, days_some, days_none, short_weekdays, turn_run, turn_not_run, turns_end}
use Rattle.wording.proofs.words.DaysRunDisplay.fmt.Goals.{then-none, else-none}
use Rattle.wording.proofs.words.DaysRunDisplay.fmt.Goals as goal

pub loop-name-init : goal.loop-name-init
loop-name-init g c =
    λ plain.
    let taken = c.into_iter-name-iterator.result in
    let both = c.into_iter-name-iterator.ensures.into_iter_gives in
    let words = ap (λ it. map short it.a.rest.now) both ∙ ap (λ it. map short it.rest.now) c.zip-name-items.ensures.first
    ∙ ap (map short) c.iter.ensures.rest ∙ short_weekdays in
    let days = ap (λ it. it.b.rest.now) both ∙ c.zip-name-items.ensures.second.0 in (
      [],
      search rules,
      refl,
      named_map short taken.a.rest.now taken.b.rest.now ∙ (λ i. named (λ n. n) (words i) (days i))
          ∙ sym (named_map (take 3) weekdays c.args.self.now.0.now),
    )

pub loop-name-preserved-then-runs : goal.loop-name-preserved-then-runs
loop-name-preserved-then-runs g c =
    λ plain.
    let now = c.loop-name.invariant plain in
    let taken = c.in-Some.ensures.steps in
    let name = short c.in-Some.name.now in
    let between : c.if-none.between.now ≡ cond (is_nil now.0) [] (32 ∷ []) =
    elim c.if-none.branch [
      | then-none w ↦ ap (λ b. b.now) w.between-is ∙ ap (λ t. cond t [] (32 ∷ [])) (sym w.if-none.true ∙ now.2)
      | else-none w ↦ ap (λ b. b.now) w.between-is ∙ ap (λ t. cond t [] (32 ∷ [])) (sym w.if-none.false ∙ now.2)
    ] in (
      now.0 ++ name ∷ [],
      has_written_of_eq _ _ _ _ _
          (rw (between, c.laid_out.ensures, three_letters c.in-Some.name.now.now) (join_more now.0 name))
          (has_written_append _ _ _ _ _ _ now.1 (c.in_ok-write.ensures.writes now.1.plain (refl {a = true}))),
      is_nil-push now.0 name,
      turn_run short now.0 _ _ _ _ _ _ _ taken.0 taken.1 c.if-runs.true now.3,
    )

pub loop-name-preserved : goal.loop-name-preserved
loop-name-preserved g c =
    λ plain.
    let now = c.loop-name.invariant plain in
    let taken = c.in-Some.ensures.steps in (
      now.0,
      now.1,
      now.2,
      turn_not_run short now.0 _ _ _ _ _ _ _ taken.0 taken.1 c.if-runs.false now.3,
    )

pub returns-in_ok-write_str-clause-writes : goal.returns-in_ok-write_str-clause-writes
returns-in_ok-write_str-clause-writes g c =
    λ plain ok.
    let now = c.loop-name.invariant plain in
    let all = turns_end short now.0 _ _ _ (⊎_elim (λ h. inl h.1.0) (λ h. inr h.1.0) c.in-None.ensures.steps) now.3 in
    has_written_of_eq _ _ _ _ _ (days_none now.0 (sym now.2 ∙ c.if-none-2.true) ∙ ap days_named all)
    (has_written_append _ _ _ _ _ _ now.1 (c.in_ok-write_str.ensures.writes now.1.plain (refl {a = true})))

pub returns-else-none-2-clause-writes : goal.returns-else-none-2-clause-writes
returns-else-none-2-clause-writes g c =
    λ plain ok.
    let now = c.loop-name.invariant plain in
    let all = turns_end short now.0 _ _ _ (⊎_elim (λ h. inl h.1.0) (λ h. inr h.1.0) c.in-None.ensures.steps) now.3 in
    has_written_of_eq _ _ _ _ _ (days_some now.0 (sym now.2 ∙ c.if-none-2.false) ∙ ap days_named all) now.1
