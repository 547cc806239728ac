use Rattle.std.proofs.Common.{◌≡◌, ◌<◌, ◌+◌, ◌*◌, ℕ, ◌++◌, map, drop, length, codes, flat_map}
use Rattle.std.specs.Fmt.{HasWritten, IsPlainFormatter}
use Rattle.std.specs.List.{range_with_len}
use Rattle.wording.specs.Pages.{row_bytes, row_text, border}
use Rattle.wording.proofs.pages.FrameWordsDisplay.fmt.Given as goal

abbrev pub invariant-loop-row : goal.invariant-loop-row
invariant-loop-row g l =
    IsPlainFormatter l.fn.f
    → (k : ℕ) × (l.row-iterator.size ≡ 24) × (l.row-iterator.rest.now ≡ drop (24 * k) l.self.0.now)
    × (24 * k < length l.self.0.now + 24)
    × HasWritten g.W.Write.write_str_gives l.fn.f
    (border ++ codes "\n" ++ flat_map row_text (map (row_bytes l.self.0.now) (range_with_len 0 k))) l.f
