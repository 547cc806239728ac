-- The open extract is what its rows give afresh, and what is pending may be done to the store.
use Rattle.std.specs.Prelude.{◌≡◌, ℕ, true, List}
use Rattle.timetable.specs.Timetables.{Meaning, IsMap, IsWithinCapacity}
use Rattle.overlay.specs.Overlays.{with_done}
use Rattle.overlay.specs.Permitted.{MayBeDone, EachMayBeDone}
use Rattle.extract.specs.Stages.{is_reading}
use Rattle.extract.specs.Progress.{Progress, progress_of}

-- an extract agrees with the rows that were taken: it is what they give, read afresh from their bytes; each pending transaction, done
-- in order to the store, is one that may be done, and so is the one that is being read, after them
pub record Agrees (store : Meaning) (rows : List (List ℕ)) (p : Progress) : Type 0 where
  pub is_map : IsMap store.map
  pub within : IsWithinCapacity store
  pub progress : p ≡ progress_of rows
  pub pending : EachMayBeDone store p.changes
  pub reading : is_reading p.stage ≡ true → MayBeDone (with_done store p.changes) p.draft
