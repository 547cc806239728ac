-- A map whose schedules all have a last day is one after transactions whose schedules have one.
use Rattle.std.proofs.Common.{◌≡◌, true, List, [], ◌∷◌}
use Rattle.std.specs.List.{list_all}
use Rattle.std.proofs.lemmas.Bool.{and_parts}
use Rattle.schedule.specs.declared.record.Record.{Record}
use Rattle.schedule.specs.declared.transaction.Change.{Change}
use Rattle.schedule.specs.declared.transaction.Change.TheVariants.{New, Revise, Delete}
use Rattle.schedule.specs.Ended.{ends, each_ends, change_ends}
use Rattle.timetable.proofs.Valid.{passes_with, passes_without}
use Rattle.overlay.specs.Overlays.{done_to, done_all}

done_ends : (m : List Record) (c : Change) → each_ends m ≡ true → change_ends c ≡ true → each_ends (done_to m c) ≡ true
done_ends m (New r) all c = passes_with ends m r all c
done_ends m (Revise r) all c = passes_with ends m r all c
done_ends m (Delete k) all c = passes_without ends m k all

pub all_done_ends : (m : List Record) (cs : List Change) → each_ends m ≡ true → list_all change_ends cs ≡ true → each_ends (done_all m cs) ≡ true
all_done_ends m [] all each = all
all_done_ends m (c ∷ cs) all each =
    let p = and_parts (change_ends c) (list_all change_ends cs) each in
    all_done_ends (done_to m c) cs (done_ends m c all p.0) p.1
