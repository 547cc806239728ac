-- Boards before and after a change of some trains.
use Rattle.std.specs.Prelude.{◌≡◌, ℕ, Bool, false, cond, List, [], ◌∷◌}
use Rattle.schedule.specs.declared.key.Key.{Key}
use Rattle.schedule.specs.declared.record.Record.{Record}
use Rattle.timetable.specs.Timetables.{schedule_of}
use Rattle.board.specs.declared.line.Line.{Line}
use Rattle.board.specs.Lines.{BoardOf}

-- the lines that are left when those of the named trains are struck out
abbrev pub lines_without : (ℕ → Bool) → List Line → List Line
lines_without named [] = []
lines_without named (l ∷ ls) = cond (named l.key.uid) (lines_without named ls) (l ∷ lines_without named ls)

-- where two maps differ in the schedules of named trains only, their boards differ in the lines of these trains only
abbrev pub UnnamedLinesStay : Type 0
UnnamedLinesStay =
    (m n : List Record) (station : List ℕ) (day : ℕ) (named : ℕ → Bool) (xs ys : List Line)
    → ((k : Key) → named k.uid ≡ false → schedule_of m k ≡ schedule_of n k)
    → BoardOf m station day xs → BoardOf n station day ys → lines_without named xs ≡ lines_without named ys
