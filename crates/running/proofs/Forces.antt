-- Why at most one schedule is in force, and which schedules matter.
use Rattle.std.proofs.Common.{◌≡◌, ℕ, false, leb, List, sym, refl, ap, ◌∙◌, ⊎_elim, arith}
use Rattle.std.proofs.lemmas.Option.{none-some, same_Some}
use Rattle.std.proofs.lemmas.Bool.{le-leb, and_from, both_ways}
use Rattle.forms.specs.declared.end.End.{End}
use Rattle.forms.specs.Ends.{lasts}
use Rattle.forms.specs.declared.letters.Stp.{Stp}
use Rattle.schedule.specs.declared.key.Key.{Key}
use Rattle.schedule.specs.declared.record.Record.{Record}
use Rattle.schedule.specs.Keys.{rank_of}
use Rattle.schedule.specs.Records.{key_of}
use Rattle.schedule.specs.Orders.{same_rank}
use Rattle.timetable.specs.Timetables.{schedule_of, without_key, IsMap}
use Rattle.timetable.proofs.Keys.{keep}
use Rattle.running.specs.Running.{Holds, Candidate, Outranks, InForce, covering}
use Rattle.running.specs.Laws.{SameCandidates, SameCandidatesSameForce, NoEndIsCandidate, OneInForce, TrainAlone, OnlyOnItsDays}

-- two schedules of a map under one key are one
pub same_held : (m : List Record) (r s : Record) → Holds m r → Holds m s → key_of r ≡ key_of s → r ≡ s
same_held m r s h i e = same_Some r s (sym h ∙ (ap (schedule_of m) e ∙ i))

-- schedules that outrank each other have one letter and one start
both_outrank : (r s : Record) → Outranks r s → Outranks s r → (rank_of r.key.stp ≡ rank_of s.key.stp) × (r.key.from ≡ s.key.from)
both_outrank r s p q =
    ⊎_elim
    (λ l. ⊎_elim (λ k. absurd (omega arith)) (λ k. absurd (let a = k.0 in omega arith)) q)
    (λ l. ⊎_elim (λ k. absurd (let a = l.0 in omega arith)) (λ k. (l.0, let a = l.1 in let b = k.1 in omega arith)) q)
    p

same_key : {u v f g : ℕ} {s t : Stp} → u ≡ v → f ≡ g → s ≡ t → ◌≡◌ {A = Key} (record { uid = u; from = f; stp = s }) (record { uid = v; from = g; stp = t })
same_key a b c = cc

pub one : OneInForce
one m uid day r s p q =
    let b = both_outrank r s (p.first s q.candidate) (q.first r p.candidate) in
    same_held m r s p.candidate.there q.candidate.there
    (same_key (p.candidate.train ∙ sym q.candidate.train) b.1 (same_rank r.key.stp s.key.stp b.0))

-- what comes first depends on the candidates alone
pub same_force : SameCandidatesSameForce
same_force covers covers' m n uid day same r p = record { candidate = (same r).0 p.candidate; first = λ s d. p.first s ((same s).1 d) }

-- a candidate in one map is one in another that has the same schedule under its key
moved : (m n : List Record) (uid day : ℕ) (r : Record) → schedule_of m (key_of r) ≡ schedule_of n (key_of r) → Candidate m uid day r → Candidate n uid day r
moved m n uid day r e c = record { there = sym e ∙ c.there; train = c.train; on = c.on }

-- a train has the same candidates in maps that have the same schedules of it
pub same_held_candidates : (m n : List Record) (uid day : ℕ) → ((k : Key) → k.uid ≡ uid → schedule_of m k ≡ schedule_of n k) → SameCandidates covering covering m n uid day
same_held_candidates m n uid day same s = (
  (λ c. moved m n uid day s (same (key_of s) c.train) c),
  (λ c. moved n m uid day s (sym (same (key_of s) c.train)) c),
)

pub alone : TrainAlone
alone m n uid day same r p = same_force covering covering m n uid day (same_held_candidates m n uid day same) r p

module _ (m : List Record) (uid day : ℕ) (c : Record) (is : IsMap m) (off : covering c day ≡ false) (held : Holds m c) where
  -- a candidate has another key than a schedule that does not cover the day
  apart : (s : Record) → Candidate m uid day s → key_of c ≡ key_of s → ⊥
  apart s p e =
      both_ways (covering c day) off (ap (λ (r : Record). covering r day) (same_held m c s held p.there e) ∙ p.on)

  gone : (s : Record) → Candidate (without_key m (key_of c)) uid day s → key_of c ≡ key_of s → ⊥
  gone s p e = none-some s (sym (keep.removed m (key_of c) is) ∙ (ap (schedule_of (without_key m (key_of c))) e ∙ p.there))

  away : (s : Record) → Candidate m uid day s → Candidate (without_key m (key_of c)) uid day s
  away s p = moved m (without_key m (key_of c)) uid day s (sym (keep.removed_others m (key_of c) (key_of s) is (apart s p))) p

  back : (s : Record) → Candidate (without_key m (key_of c)) uid day s → Candidate m uid day s
  back s p = moved (without_key m (key_of c)) m uid day s (keep.removed_others m (key_of c) (key_of s) is (gone s p)) p

  unchanged : (r : Record) → (InForce m uid day r → InForce (without_key m (key_of c)) uid day r) × (InForce (without_key m (key_of c)) uid day r → InForce m uid day r)
  unchanged r = (
    same_force covering covering m (without_key m (key_of c)) uid day (λ s. (away s, back s)) r,
    same_force covering covering (without_key m (key_of c)) m uid day (λ s. (back s, away s)) r,
  )

-- one with no end lasts to every day
pub no_end_stands : NoEndIsCandidate
no_end_stands m day r held never begun runs =
    record {
      there = held;
      train = refl;
      on = and_from (leb r.key.from day) _ (le-leb r.key.from day begun) (and_from (lasts r.to day) _ (ap (λ (e : End). lasts e day) never) runs);
    }

pub own_days : OnlyOnItsDays
own_days m uid day c is off held r = unchanged m uid day c is off held r
