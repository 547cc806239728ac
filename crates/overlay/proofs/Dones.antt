-- What transactions that are done make of a map, key by key.
use Rattle.std.proofs.Common.{◌≡◌, ◌+◌, ◌-◌, Bool, true, false, cond, List, [], ◌∷◌, ◌++◌, length, is_some, Some, None, Option, sym, refl, ap, ◌∙◌, arith}
use Rattle.std.proofs.lemmas.List.Sums.{fold_push}
use Rattle.std.proofs.lemmas.Bool.{and_parts, true≢false}
use Rattle.maps.specs.Orders.{same}
use Rattle.maps.proofs.Maps.{lookup_including, lookup_excluding, excluding_absent}
use Rattle.maps.proofs.Heaped.{length_including}
use Rattle.maps.proofs.Lengths.{length_again, length_without}
use Rattle.schedule.specs.declared.key.Key.{Key}
use Rattle.schedule.specs.declared.record.Record.{Record}
use Rattle.schedule.specs.declared.transaction.Change.{Change}
use Rattle.schedule.specs.declared.transaction.Change.TheVariants.{New, Revise, Delete}
use Rattle.schedule.specs.Keys.{key_before}
use Rattle.schedule.specs.Records.{key_of}
use Rattle.schedule.specs.Transactions.{changed_key, is_lawful, every_lawful}
use Rattle.timetable.specs.Timetables.{schedule_of, with_schedule, without_key, IsMap}
use Rattle.timetable.proofs.Valid.{key_lawful}
use Rattle.overlay.specs.Overlays.{done_to, done_all, leaves, last_from, last_on}
use Rattle.overlay.specs.Maps.{done_map}

-- a transaction decides what is under its key, and no other
pub done_look : (m : List Record) (c : Change) (k : Key) → IsMap m → schedule_of (done_to m c) k ≡ cond (same key_before (changed_key c) k) (leaves c) (schedule_of m k)
done_look m (New r) k is = lookup_including key_before key_of key_lawful m r k
done_look m (Revise r) k is = lookup_including key_before key_of key_lawful m r k
done_look m (Delete q) k is = lookup_excluding key_before key_of key_lawful m q k is.rising

-- what a last transaction, if there is one, makes of what was there before
abbrev pub after_last : Option Change → Option Record → Option Record
after_last (Some c) o = leaves c
after_last None o = o

after_one : (b : Bool) (c : Change) (o : Option Change) (x y : Option Record) → y ≡ after_last o x → cond b (leaves c) y ≡ after_last (cond b (Some c) o) x
after_one true c o x y h = refl
after_one false c o x y h = h

look_from : (m : List Record) (cs : List Change) (k : Key) (o : Option Change) (x : Option Record) → IsMap m → every_lawful cs ≡ true → schedule_of m k ≡ after_last o x → schedule_of (done_all m cs) k ≡ after_last (last_from k o cs) x
look_from m [] k o x is h e = e
look_from m (c ∷ cs) k o x is h e =
    let p = and_parts (is_lawful c) (every_lawful cs) h in
    look_from (done_to m c) cs k (cond (same key_before (changed_key c) k) (Some c) o) x (done_map m c is p.0) p.1
    (done_look m c k is ∙ after_one (same key_before (changed_key c) k) c o x (schedule_of m k) e)

-- the last transaction on a key decides what is under it
pub all_look : (m : List Record) (cs : List Change) (k : Key) → IsMap m → every_lawful cs ≡ true → schedule_of (done_all m cs) k ≡ after_last (last_on k cs) (schedule_of m k)
all_look m cs k is h = look_from m cs k None (schedule_of m k) is h refl

-- one transaction more
pub done_push : (m : List Record) (cs : List Change) (c : Change) → done_all m (cs ++ c ∷ []) ≡ done_to (done_all m cs) c
done_push m cs c = fold_push done_to m cs c

none_from : (o : Option Record) → is_some o ≡ false → o ≡ None
none_from (Some r) h = absurd (true≢false h)
none_from None h = refl

set_count : (m : List Record) (r : Record) (there : Bool) → IsMap m → there ≡ is_some (schedule_of m (key_of r)) → length (with_schedule m r) ≡ cond there (length m) (length m + 1)
set_count m r true is e = length_again key_before key_of key_lawful m r is.rising (sym e)
set_count m r false is e = let l = length_including key_before key_of key_lawful m r (none_from (schedule_of m (key_of r)) (sym e)) in omega arith

drop_count : (m : List Record) (k : Key) (there : Bool) → IsMap m → there ≡ is_some (schedule_of m k) → length (without_key m k) ≡ cond there (length m - 1) (length m)
drop_count m k true is e = let l = length_without key_before key_of key_lawful m k is.rising (sym e) in omega arith
drop_count m k false is e = ap length (excluding_absent key_before key_of key_lawful m k is.rising (none_from (schedule_of m k) (sym e)))

-- how many keys there are after a transaction, by whether its key was there
pub done_count : (m : List Record) (c : Change) (there : Bool) → IsMap m → there ≡ is_some (schedule_of m (changed_key c)) → length (done_to m c) ≡ cond (is_some (leaves c)) (cond there (length m) (length m + 1)) (cond there (length m - 1) (length m))
done_count m (New r) there is e = set_count m r there is e
done_count m (Revise r) there is e = set_count m r there is e
done_count m (Delete k) there is e = drop_count m k there is e

-- a map that has a key is not empty
pub some_there : (m : List Record) (k : Key) → is_some (schedule_of m k) ≡ true → (length m ≡ 0 → ⊥)
some_there [] k h l = true≢false (sym h)
some_there (x ∷ xs) k h l = omega arith
