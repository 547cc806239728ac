-- One turn of the walk over the keys of a train, and its end.
use Rattle.std.proofs.Common.{◌≡◌, ℕ, Bool, true, false, cond, ◌<◌, ◌&&◌, leb, ◌⊎◌, List, Some, None, Option, MatchOption, sym, refl, ap, ◌∙◌, subst, inl, inr, ⊎_elim, arith}
use Rattle.std.proofs.lemmas.Option.{none-some, same_Some}
use Rattle.std.proofs.lemmas.Bool.{and_parts, cases_Bool, both_ways, cond-true, cond-false}
use Rattle.std.proofs.lemmas.Bool.Decides.{nat_tests}
use Rattle.schedule.specs.declared.key.Key.{Key}
use Rattle.schedule.specs.declared.record.Record.{Record}
use Rattle.schedule.specs.declared.schedule.Schedule.{Schedule}
use Rattle.schedule.specs.Keys.{key_before}
use Rattle.schedule.specs.Records.{key_of}
use Rattle.schedule.specs.Orders.{key_total}
use Rattle.timetable.specs.Timetables.{schedule_of}
use Rattle.timetable.proofs.Nexts.{Next, has_held, found_key}
use Rattle.running.specs.Running.{Holds, Candidate, Outranks, InForce, covering}
use Rattle.running.specs.Walking.{outranking, takes, record_in}
use Rattle.running.proofs.Forces.{same_held}
use Rattle.running.proofs.Walks.{Walked, held_has, outranking_true, outranking_false, outranks_trans, outranks_self}

not_begun : (r : Record) (d : ℕ) → d < r.key.from → leb r.key.from d ≡ false
not_begun r d l = grind (arith, nat_tests)

-- a schedule that begins after the day takes no place
pub begins_after : (h : Record) (day : ℕ) (best : Option Record) → day < h.key.from → takes h day best ≡ false
begins_after h day None l = let f : leb h.key.from day ≡ false = not_begun h day l in rw f refl
begins_after h day (Some b) l = let f : leb h.key.from day ≡ false = not_begun h day l in rw f refl

-- a schedule that takes the place of the best covers the day
covers_taken : (h : Record) (day : ℕ) (best : Option Record) → takes h day best ≡ true → covering h day ≡ true
covers_taken h day None t = t
covers_taken h day (Some b) t = (and_parts (covering h day) (outranking h b) t).0

module _ (m : List Record) (uid day : ℕ) (probe key nxt : Key) (h : Record) (best : Option Record)
    (n : Next m probe key) (is : schedule_of m key ≡ Some h) (tight : (q : Key) → key_before q nxt ≡ true → key_before key q ≡ false)
    (train : key.uid ≡ uid) (w : Walked m uid day probe best) where
  there : Holds m h
  there = ap (schedule_of m) (found_key m key h is) ∙ is

  -- a candidate before the next probe is before this one, or is the schedule looked at
  old_or_here : (s : Record) → Candidate m uid day s → key_before (key_of s) nxt ≡ true → (key_before (key_of s) probe ≡ true) ⊎ (s ≡ h)
  old_or_here s c b =
      ⊎_elim
      (λ t. inl t)
      (λ f. inr (same_held m s h c.there there
      (key_total (key_of s) key (n.least (key_of s) (held_has m s c.there) f) (tight (key_of s) b) ∙ sym (found_key m key h is))))
      (cases_Bool (key_before (key_of s) probe))

  here_covers : (s : Record) → Candidate m uid day s → s ≡ h → covering h day ≡ true
  here_covers s c e = sym (ap (λ (r : Record). covering r day) e) ∙ c.on

  taken : takes h day best ≡ true → Walked m uid day nxt (Some h)
  taken t = record {
    has = λ b e. subst (λ (r : Record). Candidate m uid day r) (same_Some h b e) (record { there = there; train = ap (λ (k : Key). k.uid) (found_key m key h is) ∙ train; on = covers_taken h day best t });
    first = λ b e s c k. subst (λ (r : Record). Outranks r s) (same_Some h b e)
        (⊎_elim
        (λ old. over best refl t s c old)
        (λ e. subst (λ (r : Record). Outranks h r) (sym e) (outranks_self h))
        (old_or_here s c k));
    none = λ e. absurd (none-some h (sym e));
  }
    where
      over : (o : Option Record) → best ≡ o → takes h day o ≡ true → (s : Record) → Candidate m uid day s → key_before (key_of s) probe ≡ true → Outranks h s
      over None e u s c old = absurd (w.none e s c old)
      over (Some b) e u s c old = outranks_trans h b s (outranking_true h b (and_parts (covering h day) (outranking h b) u).1) (w.first b e s c old)

  passed : takes h day best ≡ false → Walked m uid day nxt best
  passed t = record {
    has = w.has;
    first = λ b e s c k. ⊎_elim
        (λ old. w.first b e s c old)
        (λ i. subst (λ (r : Record). Outranks b r) (sym i) (outranking_false h b (sym (ap (λ (v : Bool). v && outranking h b) (here_covers s c i)) ∙ (sym (ap (takes h day) e) ∙ t))))
        (old_or_here s c k);
    none = λ e s c k. ⊎_elim
        (λ old. w.none e s c old)
        (λ i. both_ways (takes h day best) t (ap (takes h day) e ∙ here_covers s c i))
        (old_or_here s c k);
  }

  -- the turn, by what was kept
  pub turned : (best' : Option Record) → best' ≡ cond (takes h day best) (Some h) best → Walked m uid day nxt best'
  turned best' e =
      ⊎_elim
      (λ t. subst (λ (o : Option Record). Walked m uid day nxt o) (sym (e ∙ cond-true (takes h day best) (Some h) best t)) (taken t))
      (λ f. subst (λ (o : Option Record). Walked m uid day nxt o) (sym (e ∙ cond-false (takes h day best) (Some h) best f)) (passed f))
      (cases_Bool (takes h day best))

-- at the end, what was kept is in force
pub ended : (m : List Record) (uid day : ℕ) (probe : Key) (best : Option Schedule) → Walked m uid day probe (record_in best) → ((s : Record) → Candidate m uid day s → key_before (key_of s) probe ≡ true)
    → MatchOption best ((s : Record) → Candidate m uid day s → ⊥) (λ s. InForce m uid day s.fields)
ended m uid day probe None w all = λ s c. w.none refl s c (all s c)
ended m uid day probe (Some b) w all = record { candidate = w.has b.fields refl; first = λ s c. w.first b.fields refl s c (all s c) }

-- the next train's keys come after all of this one
other_train : (probe key k : Key) (uid : ℕ) → probe.uid ≡ uid → (key.uid ≡ uid → ⊥) → k.uid ≡ uid → key_before key probe ≡ false → key_before k key ≡ true
other_train probe key k uid a b c d = grind (arith, nat_tests)

pub past_train : (m : List Record) (uid day : ℕ) (probe key : Key) → Next m probe key → probe.uid ≡ uid → (key.uid ≡ uid → ⊥) → (s : Record) → Candidate m uid day s → key_before (key_of s) probe ≡ true
past_train m uid day probe key n a b s c =
    ⊎_elim (λ t. t)
    (λ f. absurd (both_ways (key_before (key_of s) key) (n.least (key_of s) (held_has m s c.there) f) (other_train probe key (key_of s) uid a b c.train n.past)))
    (cases_Bool (key_before (key_of s) probe))

-- the turn, by what was asked of a timetable that has not changed
pub walk_turn : (m n : List Record) → n ≡ m → (probe key : Key) → Next m probe key → (uid day : ℕ) (nxt : Key) (best best' : Option Record)
    → ((h : Record) → schedule_of n key ≡ Some h → best' ≡ cond (takes h day best) (Some h) best)
    → ((q : Key) → key_before q nxt ≡ true → key_before key q ≡ false) → key.uid ≡ uid
    → Walked m uid day probe best → Walked m uid day nxt best'
walk_turn m n same_map probe key step uid day nxt best best' b tight train w =
    has_held m key (Walked m uid day nxt best') step.there
    (λ h e. turned m uid day probe key nxt h best step e tight train w best' (b h (ap (λ (x : List Record). schedule_of x key) same_map ∙ e)))
