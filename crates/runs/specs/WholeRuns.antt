-- Whole runs: all calls of a list, one after another, from a new installation on.
use Rattle.std.specs.Prelude.{◌≡◌, ℕ, ◌<◌, ◌≤◌, drop, fold, true, List, [], length, Some, Result, MatchResult, IfOk, get_or, slice_get}
use Rattle.std.specs.Borrow.{MutBor}
use Rattle.timetable.specs.Timetables.{Meaning}
use Rattle.board.specs.declared.display.Board.{Board}
use Rattle.board.specs.declared.line.Line.{Line}
use Rattle.board.specs.Strikes.{lines_without}
use Rattle.overlay.specs.Permitted.{EachMayBeDone}
use Rattle.controller.specs.declared.answer.Answer.{Answer}
use Rattle.controller.specs.Calls.{Call}
use Rattle.controller.specs.Ledger.{Ledger, ledger_after, ledger_after_all, LinesOf, AnswerOf, Writes, is_accepted}
use Rattle.controller.specs.Keeping.{State, KeepsTo, is_confirm}
use Rattle.runs.specs.Calls.{calls_within, room_of, entries, ledger_at, WritesWhere, written_over}
use Rattle.runs.specs.Runs.{installation_of, memory_of, state_of, named_in, Suits}
use Rattle.runs.specs.Pairs.{SameLines}
use Rattle.runs.specs.declared.memory.Memory.{Memory}
use Rattle.runs.specs.declared.plan.Plan.{Plan}
use Rattle.runs.specs.declared.run.Run.{Run}

-- one call of a run that is over, by the ledger of the calls before it: its answer is the ledger's, there are the lines that the ledger
-- gives before and after it, and around an accepted confirm those of the trains that the extract does not name are the same list
pub record ByLedger (capacity slots : ℕ) (ℓ : Ledger) (call : Call) (answer : Answer) : Type 0 where
  pub told : AnswerOf ℓ capacity slots call answer
  pub before : List Line
  pub shown_before : LinesOf ℓ before
  pub after : List Line
  pub shown_after : LinesOf (ledger_after ℓ call (is_accepted answer)) after
  pub unnamed :
      is_confirm call ≡ true → is_accepted answer ≡ true → lines_without (named_in ℓ) before ≡ lines_without (named_in ℓ) after

-- what holds of each of the first n calls of a run, by its place, the ledger of the calls before it, and its answer
abbrev pub FirstCalls : (ℕ → Ledger → Call → Answer → Type 0) → Ledger → List Call → List Answer → ℕ → Type 0
FirstCalls P first calls answers n =
    (k : ℕ) (call : Call) (answer : Answer) → k < n → slice_get calls k ≡ Some call → slice_get answers k ≡ Some answer
    → P k (ledger_at first calls answers k) call answer

-- the ledger of all calls of a run
abbrev pub ledger_of_all : Ledger → List Call → List Answer → Ledger
ledger_of_all first calls answers = ledger_after_all first (entries calls answers)

-- a run that is over: each call went by the ledger of the calls before it, and controller and board keep to the ledger of all of them:
-- map, tally and lines are those that it works out afresh
pub record RunsAll (first : Ledger) (capacity slots : ℕ) (calls : List Call) (answers : List Answer) (end : State) : Type 0 where
  pub places : length answers ≡ length calls
  pub each : FirstCalls (λ _. ByLedger capacity slots) first calls answers (length calls)
  pub keeps : KeepsTo end (ledger_of_all first calls answers)
  -- each transaction that was confirmed could be done when its turn came: N found its key absent, R and D found it there
  pub confirmed : EachMayBeDone (record { map = first.start; capacity = capacity }) (ledger_of_all first calls answers).confirmed
  -- capacity and line slots are still those that the answers go by
  pub capacity_stays : end.standing.store.capacity ≡ capacity
  pub slots_stay : end.slots ≡ slots

-- no more than n lines stood on the board when the run began and after each of its first calls
abbrev pub AtMost : Ledger → List Call → List Answer → ℕ → ℕ → Type 0
AtMost first calls answers made n =
    (k : ℕ) (lines : List Line) → k ≤ made → LinesOf (ledger_at first calls answers k) lines → length lines ≤ n

-- the line slots of a board, as they were lent
abbrev pub line_slots : Board → MutBor (List Line)
line_slots b = b.lines.elements.slots

-- a board's line slots are those that were lent; past the most lines that ever stood on it they keep what they had
pub record PastKept (first : Ledger) (calls : List Call) (answers : List Answer) (made : ℕ) (lent : MutBor (List Line)) (b : Board) : Type 0 where
  pub lender : (line_slots b).ghost_name ≡ lent.ghost_name
  pub rest : (n : ℕ) → AtMost first calls answers made n → drop n (line_slots b).now ≡ drop n lent.now

-- what calls wrote stands over what stood in memory, one over another in their order, each as the ledger of the calls before it has it
pub record OverwrittenIn {X : Type 0} (writes : Ledger → Call → List X → Type 0) (first : Ledger) (calls : List Call) (answers : List Answer) (made : ℕ) (lent now : List X) : Type 0 where
  pub written : List (List X)
  pub one_each : length written ≡ made
  pub each : FirstCalls (λ k ℓ call answer. WritesWhere (is_accepted answer) (writes ℓ call) (get_or written k [])) first calls answers made
  pub over : now ≡ fold written_over lent written

-- so it does in a memory that was lent to a run; no byte is lost, and it is the same lender's
pub record Overwritten (first : Ledger) (calls : List Call) (answers : List Answer) (made : ℕ) (lent now : Memory) : Type 0 where
  pub bytes : OverwrittenIn Writes first calls answers made lent.bytes.now now.bytes.now
  pub room : room_of now ≡ room_of lent
  pub lender : now.bytes.ghost_name ≡ lent.bytes.ghost_name

-- the calls of a plan
abbrev pub calls_planned : {S : Type 0} → Plan S → List Call
calls_planned p = calls_within (room_of p.memory) p.calls.now

-- a run has made all calls of its plan, in what the plan lent: the answers are in its places, the lines in its slots, what was written in
-- its memory
pub record MadeAll {S : Type 0} {M : _} (first : Ledger) (p : Plan S) (run : Run S M) : Type 0 where
  pub calls : run.calls ≡ p.calls
  pub made : run.made ≡ length p.calls.now
  pub lender : run.answers.ghost_name ≡ p.answers.ghost_name
  pub slots : PastKept first (calls_planned p) run.answers.now run.made p.slots (installation_of run).board
  pub memory : Overwritten first (calls_planned p) run.answers.now run.made p.memory (memory_of run)

-- a plan is run, or it cannot be and is handed back as it was
abbrev pub RunOf : {S : Type 0} {M : _} → (S → Meaning) → Ledger → Plan S → Result (Run S M) (Plan S) → Type 0
RunOf meaning first p r =
    MatchResult r
    (λ run. Suits meaning p × MadeAll first p run
    × RunsAll first (meaning p.store).capacity (length p.slots.now) (calls_planned p) run.answers.now (state_of meaning run))
    (λ back. (back ≡ p) × (Suits meaning p → ⊥))

-- two whole runs, over stores of any two makes; where both were run, they show the same if they had the same for each train and were
-- turned alike
pub record BothRuns {S T : Type 0} {M N : _} (meaning_s : S → Meaning) (meaning_t : T → Meaning) (first : Ledger) (p : Plan S) (q : Plan T) (r : Result (Run S M) (Plan S)) (t : Result (Run T N) (Plan T)) : Type 0 where
  pub left : RunOf meaning_s first p r
  pub right : RunOf meaning_t first q t
  pub alike : IfOk r (λ a. IfOk t (λ b. SameLines (ledger_of_all first (calls_planned p) a.answers.now) (ledger_of_all first (calls_planned q) b.answers.now)
      (state_of meaning_s a).lines (state_of meaning_t b).lines))
