-- Transactions that may be done, one after another.
use Rattle.std.proofs.Common.{◌≡◌, ℕ, zero, suc, ◌≤◌, true, List, [], ◌∷◌, ◌++◌, length, take, refl, sym, arith}
use Rattle.std.proofs.lemmas.Bool.{and_from}
use Rattle.schedule.specs.declared.transaction.Change.{Change}
use Rattle.schedule.specs.declared.transaction.Change.TheVariants.{New, Revise, Delete}
use Rattle.schedule.specs.Transactions.{is_lawful, every_lawful}
use Rattle.timetable.specs.Timetables.{Meaning, IsMap, IsWithinCapacity}
use Rattle.overlay.specs.Overlays.{done_to, with_done}
use Rattle.overlay.specs.Maps.{done_map}
use Rattle.overlay.specs.Permitted.{MayBeDone, EachMayBeDone}
use Rattle.overlay.proofs.Dones.{done_count}

-- what may be done is lawful
permitted_lawful : (t : Meaning) (c : Change) → MayBeDone t c → is_lawful c ≡ true
permitted_lawful t (New r) h = h.0
permitted_lawful t (Revise r) h = h.0
permitted_lawful t (Delete k) h = refl

pub each_lawful : (t : Meaning) (cs : List Change) → EachMayBeDone t cs → every_lawful cs ≡ true
each_lawful t [] h = refl
each_lawful t (c ∷ cs) h = and_from (is_lawful c) (every_lawful cs) (permitted_lawful t c h.0) (each_lawful (record t { map = done_to t.map c }) cs h.1)

-- transactions that may be done after others
pub each_append : (t : Meaning) (cs ds : List Change) → EachMayBeDone t cs → EachMayBeDone (with_done t cs) ds → EachMayBeDone t (cs ++ ds)
each_append t [] ds h k = k
each_append t (c ∷ cs) ds h k = (h.0, each_append (record t { map = done_to t.map c }) cs ds h.1 k)

pub each_push : (t : Meaning) (cs : List Change) (c : Change) → EachMayBeDone t cs → MayBeDone (with_done t cs) c → EachMayBeDone t (cs ++ c ∷ [])
each_push t cs c h k = each_append t cs (c ∷ []) h (k, tt)

-- what may be done leaves no more keys than the capacity
done_within : (t : Meaning) (c : Change) → IsMap t.map → IsWithinCapacity t → MayBeDone t c → length (done_to t.map c) ≤ t.capacity
done_within t (New r) is l h = let n = done_count t.map (New r) _ is (sym h.1) in omega (arith, h.2)
done_within t (Revise r) is l h = let n = done_count t.map (Revise r) _ is (sym h.1) in omega arith
done_within t (Delete k) is l h = let n = done_count t.map (Delete k) _ is (sym h) in omega arith

pub each_within : (t : Meaning) (cs : List Change) → IsMap t.map → IsWithinCapacity t → EachMayBeDone t cs → IsWithinCapacity (with_done t cs)
each_within t [] is l h = l
each_within t (c ∷ cs) is l h =
    each_within (record t { map = done_to t.map c }) cs (done_map t.map c is (permitted_lawful t c h.0)) (done_within t c is l h.0) h.1

-- the first of them
pub each_take : (t : Meaning) (k : ℕ) (cs : List Change) → EachMayBeDone t cs → EachMayBeDone t (take k cs)
each_take t zero cs h = tt
each_take t (suc k) [] h = tt
each_take t (suc k) (c ∷ cs) h = (h.0, each_take (record t { map = done_to t.map c }) k cs h.1)
