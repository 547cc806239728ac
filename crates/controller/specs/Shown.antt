-- What a controller has and shows.
use Rattle.std.specs.Prelude.{◌≡◌, ℕ, List}
use Rattle.timetable.specs.Timetables.{Meaning}
use Rattle.overlay.specs.Overlays.{pending_in}
use Rattle.extract.specs.Progress.{Progress}
use Rattle.extract.specs.Judging.{Standing}
use Rattle.extract.specs.Standings.{progress_with, standing}
use Rattle.controller.specs.declared.controller.Controller.{Controller}

-- its store
abbrev pub store_of : {S : Type 0} → Controller S → S
store_of c = c.overlay.store

-- the reference in force
abbrev pub reference_of : {S : Type 0} → Controller S → List ℕ
reference_of c = c.reference

-- how many transactions were confirmed, as it counts them
abbrev pub count_of : {S : Type 0} → Controller S → ℕ
count_of c = c.tally

-- how far its open extract is read
abbrev pub progress_in : {S : Type 0} → Controller S → Progress
progress_in c = progress_with c.extract (pending_in c.overlay.pending)

-- what a call is judged by
abbrev pub standing_in : {S : Type 0} → (S → Meaning) → Controller S → Standing
standing_in meaning c = standing meaning c.extract c.overlay c.reference

-- a call changed the open extract at the most: store, reference and tally stay
pub record SameButExtract {S : Type 0} (before after : Controller S) : Type 0 where
  pub store : store_of after ≡ store_of before
  pub reference : reference_of after ≡ reference_of before
  pub tally : count_of after ≡ count_of before
