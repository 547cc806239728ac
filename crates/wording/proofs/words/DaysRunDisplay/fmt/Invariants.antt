use Rattle.std.proofs.Common.{◌≡◌, ℕ, List, ◌++◌}
use Rattle.std.specs.Fmt.{HasWritten, IsPlainFormatter}
use Rattle.std.specs.List.{join_with_byte}
use Rattle.wording.specs.Texts.{names_run}
use Rattle.wording.proofs.Days.{short, named, is_nil}
use Rattle.wording.proofs.words.DaysRunDisplay.fmt.Given as goal

abbrev pub invariant-loop-name : goal.invariant-loop-name
invariant-loop-name g l =
    IsPlainFormatter l.fn.f
    → (names : List (List ℕ)) × HasWritten g.W.Write.write_str_gives l.fn.f (join_with_byte 32 names) l.f
    × (l.none ≡ is_nil names)
    × (names ++ named short l.name-iterator.a.rest.now l.name-iterator.b.rest.now ≡ names_run l.self.0.now)
