-- A walk over the keys of a train that keeps the best candidate so far.
use Rattle.std.proofs.Common.{◌≡◌, ℕ, true, false, eqb, ltb, List, is_some, Some, None, Option, sym, refl, ap, ◌∙◌, inl, inr, ⊎_elim, arith}
use Rattle.std.proofs.lemmas.Option.{none-some}
use Rattle.std.proofs.lemmas.Bool.{and_parts, and_cases, or_cases, or_parts, ltb-true, ltb-false, leb-true, leb-false, eqb-true, eqb-false, cases_order}
use Rattle.std.proofs.lemmas.Bool.Decides.{nat_tests}
use Rattle.forms.specs.declared.letters.Stp.TheVariants.{Cancellation}
use Rattle.schedule.specs.declared.key.Key.{Key}
use Rattle.schedule.specs.declared.record.Record.{Record}
use Rattle.schedule.specs.Keys.{rank_of, key_before}
use Rattle.schedule.specs.Records.{key_of}
use Rattle.timetable.specs.Laws.{Has}
use Rattle.running.specs.Running.{Holds, Candidate, Outranks}
use Rattle.running.specs.Walking.{outranking}

pub held_has : (m : List Record) (r : Record) → Holds m r → Has m (key_of r)
held_has m r h = ap is_some h

pub outranking_true : (r s : Record) → outranking r s ≡ true → Outranks r s
outranking_true r s h =
    ⊎_elim
    (λ t. inl (ltb-true (rank_of r.key.stp) (rank_of s.key.stp) t))
    (λ t. let p = and_parts (eqb (rank_of r.key.stp) (rank_of s.key.stp)) _ t in inr (eqb-true _ _ p.0, leb-true _ _ p.1))
    (or_cases (ltb (rank_of r.key.stp) (rank_of s.key.stp)) _ h)

pub outranking_false : (r s : Record) → outranking r s ≡ false → Outranks s r
outranking_false r s h =
    let p = or_parts (ltb (rank_of r.key.stp) (rank_of s.key.stp)) _ h in
    let high = ltb-false (rank_of r.key.stp) (rank_of s.key.stp) p.0 in
    ⊎_elim
    (λ e. ⊎_elim
    (λ f. absurd (eqb-false (rank_of r.key.stp) (rank_of s.key.stp) f e))
    (λ f. inr (sym e, let l = leb-false s.key.from r.key.from f in omega arith))
    (and_cases (eqb (rank_of r.key.stp) (rank_of s.key.stp)) _ p.1))
    (λ n. ⊎_elim (λ l. absurd (omega arith)) (λ l. inl l) n)
    (cases_order (rank_of r.key.stp) (rank_of s.key.stp))

pub outranks_trans : (a b c : Record) → Outranks a b → Outranks b c → Outranks a c
outranks_trans a b c p q =
    ⊎_elim
    (λ l. ⊎_elim (λ k. inl (omega arith)) (λ k. inl (let e = k.0 in omega arith)) q)
    (λ l. ⊎_elim (λ k. inl (let e = l.0 in omega arith)) (λ k. inr (l.0 ∙ k.0, let e = l.1 in let f = k.1 in omega arith)) q)
    p

pub outranks_self : (r : Record) → Outranks r r
outranks_self r = inr (refl, omega arith)

-- the best candidate among the keys before a probe, or that there is none
pub record Walked (m : List Record) (uid day : ℕ) (probe : Key) (best : Option Record) : Type 0 where
  pub has : (b : Record) → best ≡ Some b → Candidate m uid day b
  pub first : (b : Record) → best ≡ Some b → (s : Record) → Candidate m uid day s → key_before (key_of s) probe ≡ true → Outranks b s
  pub none : best ≡ None → (s : Record) → Candidate m uid day s → key_before (key_of s) probe ≡ true → ⊥

before_first : (k : Key) (uid : ℕ) → k.uid ≡ uid → key_before k (record { uid = uid; from = 0; stp = Cancellation }) ≡ true → ⊥
before_first k uid e h = let z : ◌≡◌ {A = ℕ} 0 1 = grind (arith, nat_tests) in omega arith

pub begin : (m : List Record) (uid day : ℕ) → Walked m uid day (record { uid = uid; from = 0; stp = Cancellation }) None
begin m uid day = record {
  has = λ b e. absurd (none-some b e);
  first = λ b e. absurd (none-some b e);
  none = λ _ s c b. before_first (key_of s) uid c.train b;
}
