-- The transactions of a train decide what it has.
use Rattle.std.proofs.Common.{◌≡◌, Bool, false, cond, eqb, List, [], ◌∷◌, Some, None, Option, sym, refl, ap, ◌∙◌, ⊎_elim}
use Rattle.std.proofs.lemmas.Bool.{cases_Bool, both_ways, cond-true, cond-false, eq-eqb}
use Rattle.maps.specs.Orders.{same}
use Rattle.maps.proofs.Maps.{same_is}
use Rattle.schedule.specs.declared.key.Key.{Key}
use Rattle.schedule.specs.declared.transaction.Change.{Change}
use Rattle.schedule.specs.Keys.{key_before}
use Rattle.schedule.specs.Records.{key_of}
use Rattle.schedule.specs.Transactions.{changed_key}
use Rattle.timetable.specs.Timetables.{schedule_of}
use Rattle.timetable.proofs.Keys.{decide}
use Rattle.timetable.proofs.Valid.{key_lawful}
use Rattle.overlay.specs.Overlays.{last_from, last_on}
use Rattle.overlay.specs.Laws.{of_train, TrainsDecide, UnnamedKeep}
use Rattle.overlay.proofs.Dones.{after_last, all_look}
use Rattle.overlay.specs.Maps.{all_map}

-- a key of another train is another key
other_train : (c k : Key) → eqb c.uid k.uid ≡ false → same key_before c k ≡ false
other_train c k h = ⊎_elim (λ t. absurd (both_ways (eqb c.uid k.uid) h (eq-eqb c.uid k.uid (ap (λ x. x.uid) (same_is key_before key_of key_lawful c k t))))) (λ f. f) (cases_Bool (same key_before c k))

last_train : (k : Key) (o : Option Change) (cs : List Change) → last_from k o cs ≡ last_from k o (of_train k.uid cs)
last_train k o [] = refl
last_train k o (c ∷ cs) =
    ⊎_elim
    (λ t. last_train k (cond (same key_before (changed_key c) k) (Some c) o) cs ∙ sym (ap (last_from k o) (cond-true (eqb (changed_key c).uid k.uid) (c ∷ of_train k.uid cs) (of_train k.uid cs) t)))
    (λ f. ap (λ (b : Bool). last_from k (cond b (Some c) o) cs) (other_train (changed_key c) k f) ∙ last_train k o cs ∙ sym (ap (last_from k o) (cond-false (eqb (changed_key c).uid k.uid) (c ∷ of_train k.uid cs) (of_train k.uid cs) f)))
    (cases_Bool (eqb (changed_key c).uid k.uid))

pub trains_decide : TrainsDecide
trains_decide m cs ds is p q h =
    decide _ _ (all_map m cs is p) (all_map m ds is q)
    (λ k. all_look m cs k is p
    ∙ ap (λ o. after_last o (schedule_of m k)) (last_train k None cs ∙ ap (last_on k) (h k.uid) ∙ sym (last_train k None ds))
    ∙ sym (all_look m ds k is q))

pub unnamed_keep : UnnamedKeep
unnamed_keep m cs k is p h = all_look m cs k is p ∙ ap (λ o. after_last o (schedule_of m k)) (last_train k None cs ∙ ap (last_on k) h)
