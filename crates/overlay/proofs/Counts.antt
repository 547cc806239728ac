-- How many keys there are, transaction by transaction.
use Rattle.std.proofs.Common.{◌≡◌, ℕ, zero, suc, ◌+◌, ◌-◌, ◌<◌, Bool, true, cond, List, [], ◌∷◌, length, get_or, take, is_some, sym, refl, ap, ◌∙◌}
use Rattle.std.proofs.lemmas.List.{take_more}
use Rattle.std.proofs.lemmas.Bool.{and_parts, and_from}
use Rattle.schedule.specs.declared.record.Record.{Record}
use Rattle.schedule.specs.declared.transaction.Change.{Change}
use Rattle.schedule.specs.Transactions.{changed_key, is_lawful, every_lawful}
use Rattle.timetable.specs.Timetables.{schedule_of, IsMap}
use Rattle.overlay.specs.Overlays.{done_all, leaves}
use Rattle.overlay.proofs.Dones.{done_push, done_count}
use Rattle.overlay.specs.Maps.{all_map}
use Rattle.overlay.proofs.Lasts.{no_change}

pub lawful_take : (n : ℕ) (cs : List Change) → every_lawful cs ≡ true → every_lawful (take n cs) ≡ true
lawful_take zero cs h = refl
lawful_take (suc n) [] h = refl
lawful_take (suc n) (c ∷ cs) h = let p = and_parts (is_lawful c) (every_lawful cs) h in and_from (is_lawful c) _ p.0 (lawful_take n cs p.1)

-- one transaction more is counted by whether its key was there
pub count_more : (m : List Record) (cs : List Change) (i n new : ℕ) (before : Bool) → i < length cs → IsMap m → every_lawful cs ≡ true → before ≡ is_some (schedule_of (done_all m (take i cs)) (changed_key (get_or cs i no_change))) → n ≡ length (done_all m (take i cs)) → new ≡ cond (is_some (leaves (get_or cs i no_change))) (cond before n (n + 1)) (cond before (n - 1) n) → new ≡ length (done_all m (take (i + 1) cs))
count_more m cs i n new before l is h there count e =
    e
    ∙ ap (λ (v : ℕ). cond (is_some (leaves (get_or cs i no_change))) (cond before v (v + 1)) (cond before (v - 1) v)) count
    ∙ sym (done_count (done_all m (take i cs)) (get_or cs i no_change) before (all_map m (take i cs) is (lawful_take i cs h)) there)
    ∙ ap length (sym (done_push m (take i cs) (get_or cs i no_change)) ∙ ap (done_all m) (sym (take_more cs i no_change l)))
