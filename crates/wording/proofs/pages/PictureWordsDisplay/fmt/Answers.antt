use Rattle.std.proofs.Common.{◌≡◌, ◌++◌, ◌∙◌, arith, ap, refl, true, flat_map, append_assoc, length}
use Rattle.std.proofs.Output.{has_written_of_eq, has_written_append}
use Rattle.std.specs.List.{range_with_len}
use Rattle.wording.specs.Pages.{place_text, head, foot}
use Rattle.wording.proofs.Places.{text_more}
use Rattle.wording.proofs.pages.PictureWordsDisplay.fmt.Goals as goal

pub loop-place-preserved : goal.loop-place-preserved
loop-place-preserved g c =
    λ plain.
    let before = c.loop-place.invariant plain in
    let page = c.args.self.now.0.now in
    has_written_of_eq _ _ _ _ _
    (append_assoc head (flat_map (place_text page) (range_with_len 0 c.loop-place.place)) _ ∙ ap (λ l. head ++ l) (text_more (place_text page) c.loop-place.place))
    (has_written_append _ _ _ _ _ _ before (c.in_ok-write_cell.ensures before.plain (refl {a = true})))

pub returns-clause-writes : goal.returns-clause-writes
returns-clause-writes g c =
    λ plain ok.
    let before = c.loop-place.invariant plain in
    let page = c.args.self.now.0.now in
    let all : c.loop-place.place ≡ length page = omega arith in
    has_written_of_eq _ _ _ _ _
    (append_assoc head (flat_map (place_text page) (range_with_len 0 c.loop-place.place)) foot ∙ ap (λ n. head ++ flat_map (place_text page) (range_with_len 0 n) ++ foot) all)
    (has_written_append _ _ _ _ _ _ before (c.write_str-2.ensures.writes before.plain ok))
