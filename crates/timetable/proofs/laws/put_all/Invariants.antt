use Rattle.std.proofs.Common.{◌≡◌, take}
use Rattle.timetable.specs.Laws.{set_all, puts_of}
use Rattle.timetable.proofs.laws.put_all.Given as goal

abbrev pub invariant-loop-fields : goal.invariant-loop-fields
invariant-loop-fields g l = record {
  map : (g.S.Timetable.meaning l.store).map ≡ set_all (g.S.Timetable.meaning l.initial.store).map (take l.fields-index l.records);
  capacity : (g.S.Timetable.meaning l.store).capacity ≡ (g.S.Timetable.meaning l.initial.store).capacity;
  becomes : g.S.Store.becomes l.initial.store (puts_of (take l.fields-index l.records)) l.store;
}
