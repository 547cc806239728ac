-- How far an open extract is read with what is pending over a store, and what a row is judged by.
use Rattle.std.specs.Prelude.{◌≡◌, ℕ, Bool, true, false, List, Some}
use Rattle.cif.specs.declared.content.BasicSchedule.{BasicSchedule}
use Rattle.cif.specs.declared.content.Action.{Action}
use Rattle.cif.specs.declared.content.Action.TheVariants.{New as AsksNew, Revise as AsksRevise, Delete as AsksDelete}
use Rattle.schedule.specs.declared.transaction.Change.{Change}
use Rattle.cif.specs.declared.identity.Identity.{Identity}
use Rattle.schedule.specs.Records.{in_range}
use Rattle.schedule.specs.Transactions.{change_of}
use Rattle.timetable.specs.Timetables.{Meaning}
use Rattle.overlay.specs.declared.overlay.Overlay.{Overlay}
use Rattle.overlay.specs.Overlays.{pending_in}
use Rattle.extract.specs.declared.extract.Extract.{Extract}
use Rattle.extract.specs.declared.stage.Stage.{Stage}
use Rattle.extract.specs.Stages.{next_stage, is_trailer}
use Rattle.extract.specs.Progress.{Progress, begun_by}
use Rattle.extract.specs.Judging.{Standing}

-- how far the extract is read, with what is pending
abbrev pub progress_with : Extract → List Change → Progress
progress_with e changes = record { stage = e.stage; taken = e.taken; current = e.current; draft = change_of e.draft; changes = changes }

-- what a row is judged by, for what a store means and what is pending
abbrev pub standing_at : Meaning → Extract → List Change → List ℕ → Standing
standing_at store e changes reference = record { extract = progress_with e changes; store = store; reference = reference }

-- the same over a store, with what is pending over it
abbrev pub standing : {S : Type 0} → (S → Meaning) → Extract → Overlay S → List ℕ → Standing
standing meaning e o reference = standing_at (meaning o.store) e (pending_in o.pending) reference

-- the schedule that a BS begins, if it begins one, is in range
abbrev pub range_in : BasicSchedule → Action → Bool
range_in b (AsksNew d) = in_range (begun_by b d)
range_in b (AsksRevise d) = in_range (begun_by b d)
range_in b AsksDelete = true

-- what a row is judged by has this extract
abbrev pub StandsOn : Extract → Standing → Type 0
StandsOn e s = s.extract ≡ progress_with e s.extract.changes

-- a row of which nothing is read takes an extract from one stage to the next
abbrev pub Passes : Identity → Stage → Stage → Type 0
Passes i stage next = (next_stage stage i false ≡ Some next) × (is_trailer i ≡ false)
