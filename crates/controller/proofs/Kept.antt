-- Each call keeps to the ledger.
use Rattle.std.proofs.Common.{◌≡◌, ℕ, ◌+◌, min, true, false, List, [], ◌∷◌, ◌++◌, length, is_ok, Some, None, Ok, Err, Option, Result, sym, refl, ap, ◌∙◌, subst, length-append, nat_lt, arith, MatchOption}
use Rattle.std.proofs.lemmas.List.Sums.{fold-append}
use Rattle.std.proofs.lemmas.Bool.{true≢false}
use Rattle.std.proofs.lemmas.Bool.Decides.{nat_tests}
use Rattle.cif.specs.Refusals.{fault_of}
use Rattle.schedule.specs.declared.record.Record.{Record}
use Rattle.schedule.specs.declared.transaction.Change.{Change}
use Rattle.schedule.specs.Transactions.{every_lawful}
use Rattle.timetable.specs.Timetables.{Meaning, IsMap, IsWithinCapacity}
use Rattle.overlay.specs.Laws.{of_train}
use Rattle.overlay.specs.Maps.{all_map}
use Rattle.overlay.specs.Overlays.{done_to, done_all, with_done}
use Rattle.overlay.specs.Permitted.{EachMayBeDone}
use Rattle.overlay.specs.Settling.{after_tries}
use Rattle.overlay.proofs.Permitted.{each_lawful, each_append, each_within}
use Rattle.overlay.proofs.Settled.{all_tried}
use Rattle.overlay.proofs.Trains.{unnamed_keep}
use Rattle.extract.specs.Progress.{Progress, idle, transactions_of}
use Rattle.extract.specs.Judging.{Standing}
use Rattle.board.specs.declared.display.StationDay.{StationDay}
use Rattle.board.specs.declared.line.Line.{Line}
use Rattle.board.specs.Lines.{BoardOf, LinesFor}
use Rattle.board.specs.Strikes.{lines_without}
use Rattle.board.proofs.Strikes.{lines_stay}
use Rattle.controller.specs.declared.fault.ExtractFault.{ExtractFault}
use Rattle.controller.specs.declared.answer.Answer.{Answer}
use Rattle.controller.specs.declared.answer.Answer.TheVariants.{Done, Refused}
use Rattle.controller.specs.Calls.{Call, refusal_of}
use Rattle.controller.specs.Agreeing.{Agrees}
use Rattle.controller.specs.Ledger.{Ledger, with_confirmed, with_shown, ledger_with, confirmed_map, standing_of, LinesOf, Accepts, AnswerOf, answer_of, has_train}
use Rattle.controller.specs.Keeping.{State, KeepsTo, DoesAllPending, is_confirm, Obeyed, Obeys}
use Rattle.controller.proofs.Called.{idle_agrees}

-- what keeps to a ledger is judged by what the ledger gives
standing_is : (s : State) (ℓ : Ledger) → KeepsTo s ℓ → s.standing ≡ standing_of ℓ s.standing.store.capacity
standing_is s ℓ k = same s.standing.store.capacity k.extract.progress k.map k.reference
  where
    same : {p q : Progress} {m n : List Record} {r t : List ℕ} (c : ℕ) → p ≡ q → m ≡ n → r ≡ t
        → ◌≡◌ {A = Standing} (record { extract = p; store = record { map = m; capacity = c }; reference = r }) (record { extract = q; store = record { map = n; capacity = c }; reference = t })
    same c e f g = cc

done_or_refused : (r : Result (Unit {0}) ExtractFault) (o : Option ExtractFault) → fault_of r ≡ o → MatchOption o (answer_of r ≡ Done) (λ f. answer_of r ≡ Refused f)
done_or_refused r o e = subst (λ (v : Option ExtractFault). MatchOption v (answer_of r ≡ Done) (λ f. answer_of r ≡ Refused f)) e (of r)
  where
    of : (q : Result (Unit {0}) ExtractFault) → MatchOption (fault_of q) (answer_of q ≡ Done) (λ f. answer_of q ≡ Refused f)
    of (Ok u) = refl
    of (Err f) = refl

accepts_or_refused : (P Q : Type 0) (a : Answer) (o : Option ExtractFault) → (P → Q) → MatchOption o P (λ f. a ≡ Refused f) → MatchOption o Q (λ f. a ≡ Refused f)
accepts_or_refused P Q a (Some f) g h = h
accepts_or_refused P Q a None g h = g h

-- a call that answers only that it was done obeys, where what it does when it is done keeps to the ledger, and nothing changes when it is refused
module _ (before after : State) (call : Call) (r : Result (Unit {0}) ExtractFault) where
  abbrev Does : Ledger → Type 0
  Does ℓ = KeepsTo after (ledger_with ℓ call) × (is_confirm call ≡ true → lines_without (has_train (transactions_of ℓ.rows)) before.lines ≡ lines_without (has_train (transactions_of ℓ.rows)) after.lines)

  pub obeys_done :
      fault_of r ≡ refusal_of call before.standing before.slots
      → ((ℓ : Ledger) → answer_of r ≡ Done → Accepts ℓ call (answer_of r))
      → (is_ok r ≡ true → (ℓ : Ledger) → KeepsTo before ℓ → Does ℓ)
      → (is_ok r ≡ false → after ≡ before)
      → after.standing.store.capacity ≡ before.standing.store.capacity
      → after.slots ≡ before.slots
      → Obeys before after call (answer_of r)
  obeys_done told accepts does stays capacity slots = record { ledger = at r refl; capacity = capacity; slots = slots }
    where
      answer : (ℓ : Ledger) → KeepsTo before ℓ → AnswerOf ℓ before.standing.store.capacity before.slots call (answer_of r)
      answer ℓ k = accepts_or_refused _ _ (answer_of r) (refusal_of call (standing_of ℓ before.standing.store.capacity) before.slots) (accepts ℓ) (done_or_refused r _ (told ∙ ap (λ s. refusal_of call s before.slots) (standing_is before ℓ k)))

      at : (q : Result (Unit {0}) ExtractFault) → r ≡ q → (ℓ : Ledger) → KeepsTo before ℓ → Obeyed before after call (answer_of r) ℓ
      at (Ok u) e ℓ k =
          let d = does (ap is_ok e) ℓ k in
          let a : answer_of r ≡ Done = ap answer_of e in
          subst (λ (v : Answer). AnswerOf ℓ before.standing.store.capacity before.slots call v → Obeyed before after call v ℓ) (sym a)
          (λ t. record { told = t; keeps = d.0; unnamed = λ c y. d.1 c })
          (answer ℓ k)
      at (Err f) e ℓ k =
          let a : answer_of r ≡ Refused f = ap answer_of e in
          subst (λ (v : Answer). AnswerOf ℓ before.standing.store.capacity before.slots call v → Obeyed before after call v ℓ) (sym a)
          (λ t. record { told = t; keeps = subst (λ (s : State). KeepsTo s ℓ) (sym (stays (ap is_ok e))) k; unnamed = λ c y. absurd (true≢false (sym y)) })
          (answer ℓ k)

-- what stays as it was
pub record Stays (before after : State) : Type 0 where
  pub store : after.standing.store ≡ before.standing.store
  pub reference : after.standing.reference ≡ before.standing.reference
  pub tally : after.tally ≡ before.tally
  pub shown : after.shown ≡ before.shown
  pub lines : after.lines ≡ before.lines

-- what was confirmed could be done to the start, whatever the store has now
confirmed_stays : (t u : Meaning) (start : List Record) (cs : List Change) → u.capacity ≡ t.capacity → EachMayBeDone (record t { map = start }) cs → EachMayBeDone (record u { map = start }) cs
confirmed_stays t u start cs e h = subst (λ (c : ℕ). EachMayBeDone (record { map = start; capacity = c }) cs) (sym e) h

module _ (before after : State) (ℓ : Ledger) (k : KeepsTo before ℓ) where
  -- only the open extract is another
  pub keeps_extract : (rows : List (List ℕ)) → Stays before after → Agrees after.standing.store rows after.standing.extract → KeepsTo after (record ℓ { rows = rows })
  keeps_extract rows stays agrees = record {
    map = ap (λ (t : Meaning). t.map) stays.store ∙ k.map;
    extract = agrees;
    reference = stays.reference ∙ k.reference;
    tally = stays.tally ∙ k.tally;
    shown = stays.shown ∙ k.shown;
    lines = subst (λ (ls : List Line). LinesOf ℓ ls) (sym stays.lines) k.lines;
    confirmed = confirmed_stays before.standing.store after.standing.store ℓ.start ℓ.confirmed (ap (λ (t : Meaning). t.capacity) stays.store) k.confirmed;
  }

  -- a board is turned
  pub keeps_shown : (station : List ℕ) (day : ℕ) → after.standing ≡ before.standing → after.tally ≡ before.tally → after.shown ≡ Some (record { station = station; day = day }) → BoardOf before.standing.store.map station day after.lines → KeepsTo after (with_shown ℓ station day)
  keeps_shown station day same tally shown lines = record {
    map = ap (λ (s : Standing). s.store.map) same ∙ k.map;
    extract = subst (λ (s : Standing). Agrees s.store ℓ.rows s.extract) (sym same) k.extract;
    reference = ap (λ (s : Standing). s.reference) same ∙ k.reference;
    tally = tally ∙ k.tally;
    shown = shown;
    lines = subst (λ (m : List Record). BoardOf m station day after.lines) k.map lines;
    confirmed = confirmed_stays before.standing.store after.standing.store ℓ.start ℓ.confirmed (ap (λ (s : Standing). s.store.capacity) same) k.confirmed;
  }

most_twice : (a b : ℕ) → min (min a 4294967295 + b) 4294967295 ≡ min (a + b) 4294967295
most_twice a b = omega arith

-- a train that is not named has no transaction
not_named : (cs : List Change) (uid : ℕ) → has_train cs uid ≡ false → of_train uid cs ≡ []
not_named cs uid h = of (of_train uid cs) h
  where
    of : (ts : List Change) → nat_lt 0 (length ts) ≡ false → ts ≡ []
    of [] h = refl
    of (t ∷ ts) h = absurd (true≢false (let z : nat_lt 0 (length (t ∷ ts)) ≡ true = grind (arith, nat_tests) in sym z ∙ h))

-- the lines of trains that are not named are the same list
unnamed_stay : (m : List Record) (cs : List Change) (shown : Option StationDay) (xs ys : List Line) → IsMap m → every_lawful cs ≡ true → LinesFor m shown xs → LinesFor (done_all m cs) shown ys → lines_without (has_train cs) xs ≡ lines_without (has_train cs) ys
unnamed_stay m cs None xs ys is lawful p q = ap (lines_without (has_train cs)) (p ∙ sym q)
unnamed_stay m cs (Some s) xs ys is lawful p q =
    lines_stay m (done_all m cs) s.station s.day (has_train cs) xs ys (λ k h. sym (unnamed_keep m cs k is lawful (not_named cs k.uid h))) p q

-- what is pending is of the rows, and all of it finds room
pending_of_rows : (before : State) (ℓ : Ledger) → KeepsTo before ℓ → before.standing.extract.changes ≡ transactions_of ℓ.rows
pending_of_rows before ℓ k = ap (λ (p : Progress). p.changes) k.extract.progress

pending_done : (before : State) (store : Meaning) (ℓ : Ledger) → KeepsTo before ℓ → store ≡ after_tries before.standing.store before.standing.extract.changes → store ≡ with_done before.standing.store before.standing.extract.changes
pending_done before store ℓ k tried = tried ∙ all_tried before.standing.store before.standing.extract.changes k.extract.pending

pub does_all : (before : State) (store : Meaning) → store ≡ after_tries before.standing.store before.standing.extract.changes → DoesAllPending before store
does_all before store tried ℓ k = pending_done before store ℓ k tried ∙ ap (with_done before.standing.store) (pending_of_rows before ℓ k)

-- an extract is confirmed
module _ (before after : State) (ℓ : Ledger) (k : KeepsTo before ℓ)
    (store : after.standing.store ≡ after_tries before.standing.store before.standing.extract.changes)
    (reference : after.standing.reference ≡ before.standing.extract.current)
    (tally : after.tally ≡ min (before.tally + length before.standing.extract.changes) 4294967295)
    (idles : after.standing.extract ≡ idle)
    (shown : after.shown ≡ before.shown)
    (lines : LinesFor after.standing.store.map before.shown after.lines)
  where
    abbrev cs : List Change
    cs = before.standing.extract.changes

    lawful : every_lawful cs ≡ true
    lawful = each_lawful before.standing.store cs k.extract.pending

    of_rows : cs ≡ transactions_of ℓ.rows
    of_rows = pending_of_rows before ℓ k

    done : after.standing.store ≡ with_done before.standing.store cs
    done = pending_done before after.standing.store ℓ k store

    done_map : after.standing.store.map ≡ done_all before.standing.store.map cs
    done_map = ap (λ (t : Meaning). t.map) done

    pub same_capacity : after.standing.store.capacity ≡ before.standing.store.capacity
    same_capacity = ap (λ (t : Meaning). t.capacity) done

    pub map_is : after.standing.store.map ≡ confirmed_map (with_confirmed ℓ)
    map_is = done_map ∙ ap (λ m. done_all m cs) k.map ∙ ap (done_all (confirmed_map ℓ)) of_rows ∙ sym (fold-append done_to ℓ.start ℓ.confirmed (transactions_of ℓ.rows))

    within : IsWithinCapacity after.standing.store
    within = subst (λ (t : Meaning). IsWithinCapacity t) (sym done) (each_within before.standing.store cs k.extract.is_map k.extract.within k.extract.pending)

    is_map : IsMap after.standing.store.map
    is_map = subst (λ (m : List Record). IsMap m) (sym done_map) (all_map before.standing.store.map cs k.extract.is_map lawful)

    -- the transactions of the rows may be done after those that were confirmed
    more : EachMayBeDone (record before.standing.store { map = ℓ.start }) (ℓ.confirmed ++ transactions_of ℓ.rows)
    more = each_append (record before.standing.store { map = ℓ.start }) ℓ.confirmed (transactions_of ℓ.rows) k.confirmed
        (subst (λ (m : List Record). EachMayBeDone (record before.standing.store { map = m }) (transactions_of ℓ.rows)) k.map
        (subst (λ (xs : List Change). EachMayBeDone before.standing.store xs) of_rows k.extract.pending))

    pub keeps_confirmed : KeepsTo after (with_confirmed ℓ)
    keeps_confirmed = record {
      map = map_is;
      extract = idle_agrees after.standing.store after.standing.extract idles is_map within;
      reference = reference ∙ ap (λ (p : Progress). p.current) k.extract.progress;
      tally =
          tally
          ∙ ap (λ n. min (n + length cs) 4294967295) k.tally
          ∙ most_twice (length ℓ.confirmed) (length cs)
          ∙ ap (λ (xs : List Change). min (length ℓ.confirmed + length xs) 4294967295) of_rows
          ∙ ap (λ n. min n 4294967295) (sym (length-append ℓ.confirmed (transactions_of ℓ.rows)));
      shown = shown ∙ k.shown;
      lines = subst (λ (o : Option StationDay). LinesFor (confirmed_map (with_confirmed ℓ)) o after.lines) k.shown (subst (λ (m : List Record). LinesFor m before.shown after.lines) map_is lines);
      confirmed = confirmed_stays before.standing.store after.standing.store ℓ.start (ℓ.confirmed ++ transactions_of ℓ.rows) same_capacity more;
    }

    pub keeps_unnamed : lines_without (has_train (transactions_of ℓ.rows)) before.lines ≡ lines_without (has_train (transactions_of ℓ.rows)) after.lines
    keeps_unnamed = subst (λ (xs : List Change). lines_without (has_train xs) before.lines ≡ lines_without (has_train xs) after.lines) of_rows
        (unnamed_stay before.standing.store.map cs before.shown before.lines after.lines k.extract.is_map lawful
        (subst (λ (o : Option StationDay). LinesFor before.standing.store.map o before.lines) (sym k.shown) (subst (λ (m : List Record). LinesFor m ℓ.shown before.lines) (sym k.map) k.lines))
        (subst (λ (m : List Record). LinesFor m before.shown after.lines) done_map lines))
