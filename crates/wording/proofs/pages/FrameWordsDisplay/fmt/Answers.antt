use Rattle.std.proofs.Common.{◌≡◌, ◌+◌, ◌/◌, ◌++◌, ◌∙◌, arith, ap, sym, refl, true, map, min, take, drop, length, codes, flat_map, append_assoc}
use Rattle.std.proofs.Output.{has_written_of_eq, has_written_append}
use Rattle.std.specs.List.{range_with_len}
use Rattle.wording.specs.Pages.{row_bytes, row_text, border}
use Rattle.wording.proofs.Places.{rows_more, chunk_is, rest_is, behind_row, within_more, row_count}
use Rattle.wording.proofs.pages.FrameWordsDisplay.fmt.Goals as goal

pub loop-row-init : goal.loop-row-init
loop-row-init g c =
    λ plain.
    let rows = c.into_iter-row-iterator.ensures.into_iter_gives in (
      0,
      ap (λ it. it.size) rows ∙ c.chunks-row-items.ensures.size,
      ap (λ it. it.rest.now) rows ∙ c.chunks-row-items.ensures.rest,
      omega arith,
      c.in_ok-writeln.ensures.writes plain (refl {a = true}),
    )

pub loop-row-preserved : goal.loop-row-preserved
loop-row-preserved g c =
    λ plain.
    let now = c.loop-row.invariant plain in
    let taken = c.in-Some.ensures.steps in
    let page = c.args.self.now.0.now in
    let left = c.loop-row.row-iterator.rest.now in
    let row = c.in-Some.row.now in
    let rest = c.next.new.self.rest.now in
    let long : length row ≡ min 24 (length left) = taken.1.1 ∙ ap (λ n. min n (length left)) now.1 in
    let is : row ≡ row_bytes page now.0 = chunk_is 24 left row rest taken.1.0 long ∙ ap (take 24) now.2 in
    let rows = flat_map row_text (map (row_bytes page) (range_with_len 0 now.0)) in
    let more = c.in_ok-writeln-2.ensures.writes now.4.plain (refl {a = true}) in (
      now.0 + 1,
      taken.0 ∙ now.1,
      rest_is 24 left row rest taken.1.0 long ∙ ap (drop 24) now.2 ∙ behind_row now.0 page,
      within_more now.0 page (omega (arith, taken.1.2, ap length now.2)),
      has_written_of_eq _ _ _ _ _
          (append_assoc (border ++ codes "\n") rows (row_text row)
          ∙ ap (λ l. border ++ codes "\n" ++ l) (ap (λ r. rows ++ row_text r) is ∙ rows_more row_text (row_bytes page) now.0))
          (has_written_append _ _ _ _ _ _ now.4 more),
    )

pub returns-clause-writes : goal.returns-clause-writes
returns-clause-writes g c =
    λ plain ok.
    let now = c.loop-row.invariant plain in
    let none = c.in-None.ensures.steps in
    let page = c.args.self.now.0.now in
    let count : now.0 ≡ (length page + 23) / 24 = sym (row_count now.0 page (sym (ap length now.2) ∙ none.1.0) now.3) in
    has_written_of_eq _ _ _ _ _
    (append_assoc (border ++ codes "\n") (flat_map row_text (map (row_bytes page) (range_with_len 0 now.0))) border
    ∙ ap (λ n. border ++ codes "\n" ++ flat_map row_text (map (row_bytes page) (range_with_len 0 n)) ++ border) count)
    (has_written_append _ _ _ _ _ _ now.4 (c.write_str.ensures.writes now.4.plain ok))
