-- Two installations, over stores of any two makes, each begun new over an empty store.
use Rattle.std.specs.Prelude.{◌≡◌, ℕ, List, Option}
use Rattle.timetable.specs.Timetables.{Meaning, StoreEdit}
use Rattle.overlay.specs.Laws.{of_train}
use Rattle.board.specs.declared.line.Line.{Line}
use Rattle.controller.specs.declared.answer.Answer.{Answer}
use Rattle.controller.specs.Ledger.{Ledger}
use Rattle.runs.specs.Runs.{ledger_of, state_of, Next}
use Rattle.runs.specs.declared.pair.Pair.{Pair}
use Rattle.runs.specs.declared.pair.Side.{Side}
use Rattle.runs.specs.declared.pair.Side.TheVariants.{Left, Right}

-- what holds of the one on a side, and what of the other
abbrev pub OnSide : Side → Type 0 → Type 0 → Type 0
OnSide Left left right = left
OnSide Right left right = right

-- where two ledgers have the same confirmed transactions for each train, and both boards were last turned to the same station and day
-- or neither ever was, the lines are equal
abbrev pub SameLines : Ledger → Ledger → List Line → List Line → Type 0
SameLines ℓ k xs ys = ((uid : ℕ) → of_train uid ℓ.confirmed ≡ of_train uid k.confirmed) → ℓ.shown ≡ k.shown → xs ≡ ys

-- THE WHOLE PROMISE, of the next call to one of two installations, whatever calls were made to either before, refused ones included
pub record WholePromise {S T : Type 0} {M N : _} (meaning_s : S → Meaning) (meaning_t : T → Meaning)
    (becomes_s : S → List StoreEdit → S → Type 0) (becomes_t : T → List StoreEdit → T → Type 0) (first : Ledger) (before after : Pair S T M N) (side : Side) (answer : Option Answer) : Type 0 where
  -- the call goes by the ledger of the calls that were made before to the installation that is asked
  pub asked :
      OnSide side
      (Next meaning_s becomes_s first before.left after.left answer)
      (Next meaning_t becomes_t first before.right after.right answer)
  -- the other one is the value that it was
  pub other : OnSide side (after.right ≡ before.right) (after.left ≡ before.left)
  -- two installations that had the same for each train, and were turned alike, show the same
  pub alike :
      SameLines (ledger_of first after.left) (ledger_of first after.right)
      (state_of meaning_s after.left).lines (state_of meaning_t after.right).lines
