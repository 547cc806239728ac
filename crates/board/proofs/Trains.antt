-- The lines of one train, by its schedule in force.
use Rattle.std.proofs.Common.{◌≡◌, ℕ, ◌<◌, ◌≤◌, Bool, true, false, leb, List, [], take, sym, refl, ap, ◌∙◌, subst, inl, inr, ⊎_elim, arith}
use Rattle.std.proofs.lemmas.Option.{none-some}
use Rattle.std.proofs.lemmas.Bool.{and_parts, leb-true, both_ways}
use Rattle.forms.specs.declared.letters.Stp.{Stp}
use Rattle.forms.specs.declared.letters.Stp.TheVariants.{Cancellation, ShortTerm, Overlay, Permanent}
use Rattle.schedule.specs.declared.record.Record.{Record}
use Rattle.schedule.specs.Records.{visits, kept_calls, few_visits, in_range, is_cancellation, is_schedule}
use Rattle.running.specs.Running.{covering, InForce}
use Rattle.running.specs.Laws.{SameCandidates}
use Rattle.running.proofs.Forces.{one, same_force, same_held_candidates}
use Rattle.board.specs.declared.line.Line.{Line}
use Rattle.board.specs.Lines.{line_at, IsLineBy, IsLine, SameCandidatesSameBoard, LinesOfTrainAlone, InForceHides, CancelledHides}
use Rattle.board.specs.Filling.{Added, Trained}
use Rattle.board.proofs.Adds.{line_here, two_visits}

pub runs_if : (s : Stp) → (s ≡ Cancellation → ⊥) → is_cancellation s ≡ false
runs_if Cancellation no-c = absurd (no-c refl)
runs_if ShortTerm no-c = refl
runs_if Overlay no-c = refl
runs_if Permanent no-c = refl

-- a schedule has at most 48 calls, and at most two at a station
pub record Calls (station : List ℕ) (r : Record) : Type 0 where
  pub count : r.count ≤ 48
  pub two : visits station (take r.count r.calls) ≤ 2

pub calls : (station : List ℕ) (r : Record) → is_schedule r ≡ true → Calls station r
calls station r v =
    let a = (and_parts (in_range r) _ v).1 in
    let b = and_parts (leb r.count 48) _ a in
    let c = and_parts (few_visits (kept_calls r)) _ b.1 in
    record { count = leb-true r.count 48 b.0; two = two_visits station (kept_calls r) c.0 }

module _ (m : List Record) (station : List ℕ) (day uid : ℕ) (xs : List Line) where
  in_force_is : (r : Record) → InForce m uid day r → (l : Line) → (i : IsLine m station day l) → l.key.uid ≡ uid → i.schedule ≡ r
  in_force_is r f l i e = one m uid day i.schedule r (subst (λ (u : ℕ). InForce m u day i.schedule) e i.force) f

  pub cancelled_none : (r : Record) → InForce m uid day r → is_cancellation r.key.stp ≡ true → (l : Line) → IsLine m station day l → l.key.uid ≡ uid → ⊥
  cancelled_none r f c l i e = both_ways (is_cancellation i.schedule.key.stp) i.runs (ap (λ (s : Record). is_cancellation s.key.stp) (in_force_is r f l i e) ∙ c)

  pub trained_calls : (r : Record) (ys : List Line) → InForce m uid day r → is_cancellation r.key.stp ≡ false → is_schedule r ≡ true → Added station r r.count xs ys → Trained m station day uid xs ys
  trained_calls r ys f runs v a = record {
    only = λ l o. ⊎_elim (λ x. inl x)
        (λ h.
        let e : l.key.uid ≡ uid = (line_here station r l.key.place l h.1).uid ∙ f.candidate.train in
        inr (record { schedule = r; force = subst (λ (u : ℕ). InForce m u day r) (sym e) f; runs = runs; kept = h.0; line = h.1 }, e))
        (a.only l o);
    kept = a.kept;
    every = λ l i e.
        let s = in_force_is r f l i e in
        a.every l (subst (λ (x : Record). l.key.place < x.count) s i.kept) (ap (λ (x : Record). line_at station x l.key.place) (sym s) ∙ i.line);
    few = let n = a.few in let t = (calls station r v).two in omega arith;
    distinct = a.distinct;
  }

-- a line depends on the candidates of its train alone
same_line : (covers covers' : Record → ℕ → Bool) (m n : List Record) (station : List ℕ) (day : ℕ) (l : Line) → SameCandidates covers covers' m n l.key.uid day
    → IsLineBy covers m station day l → IsLineBy covers' n station day l
same_line covers covers' m n station day l same i = record {
  schedule = i.schedule;
  force = same_force covers covers' m n l.key.uid day same i.schedule i.force;
  runs = i.runs;
  kept = i.kept;
  line = i.line;
}

pub same_board : SameCandidatesSameBoard
same_board covers covers' m n station day same lines b = record {
  ordered = b.ordered;
  only = λ l o. same_line covers covers' m n station day l (same l.key.uid) (b.only l o);
  every = λ l i. b.every l (same_line covers' covers n m station day l (turned l.key.uid) i);
}
  where
    turned : (uid : ℕ) → SameCandidates covers' covers n m uid day
    turned uid r = ((same uid r).1, (same uid r).0)

pub train_alone : LinesOfTrainAlone
train_alone m n station day uid same l e i =
    same_line covering covering m n station day l (same_held_candidates m n l.key.uid day (λ k f. same k (f ∙ e))) i

pub hides : InForceHides
hides m station day uid r f none l e i =
    let s = in_force_is m station day uid [] r f l i e in
    none-some l (sym (none l.key.place (subst (λ (x : Record). l.key.place < x.count) s i.kept)) ∙ (ap (λ (x : Record). line_at station x l.key.place) (sym s) ∙ i.line))

pub cancelled : CancelledHides
cancelled m station day uid r f c l e i = cancelled_none m station day uid [] r f c l i e
