use Rattle.std.proofs.Common.{◌++◌, flat_map}
use Rattle.std.specs.Fmt.{HasWritten, IsPlainFormatter}
use Rattle.std.specs.List.{range_with_len}
use Rattle.wording.specs.Pages.{place_text, head}
use Rattle.wording.proofs.pages.PictureWordsDisplay.fmt.Given as goal

abbrev pub invariant-loop-place : goal.invariant-loop-place
invariant-loop-place g l =
    IsPlainFormatter l.fn.f
    → HasWritten g.W.Write.write_str_gives l.fn.f (head ++ flat_map (place_text l.self.0.now) (range_with_len 0 l.place)) l.f
