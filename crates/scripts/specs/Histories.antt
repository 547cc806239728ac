-- The histories that the lines of a script tell.
use Rattle.std.specs.Prelude.{ℕ, ◌+◌, if◌then◌else◌, List, [], ◌∷◌, ◌++◌, map, Some, None, Option, Ok, Err, Result, ◌==◌}
use Rattle.std.specs.Option.{option_map}
use Rattle.forms.specs.Bytes.{and_then}
use Rattle.controller.specs.Calls.{Call}
use Rattle.scripts.specs.declared.history.History.{History}
use Rattle.scripts.specs.Steps.{call_of}
use Rattle.scripts.specs.Lines.{LineMeaning, Nothing, New, Other, Asks, meaning_in}

-- a history: how many slots and line slots, the calls, and those of the bag's controller where it
-- has its own
pub record ScriptHistory : Type 0 where
  pub capacity : ℕ
  pub slots : ℕ
  pub calls : List Call
  pub other : Option (List Call)

-- the history that a value holds
abbrev pub history_of : History → ScriptHistory
history_of h =
    record {
      capacity = h.capacity;
      slots = h.slots;
      calls = map call_of h.calls.items;
      other = option_map (λ v. map call_of v.items) h.other;
    }

-- a history without calls
abbrev pub new_history : ℕ → ℕ → ScriptHistory
new_history capacity slots = record { capacity = capacity; slots = slots; calls = []; other = None }

-- the calls with one more behind them, unless the bag's controller has its own
abbrev pub calls_with : Call → List Call → Option (List Call) → List Call
calls_with call calls None = calls ++ call ∷ []
calls_with call calls (Some other) = calls

-- a history with one more call, among those of the bag's controller where it has its own
abbrev pub with_call : Call → ScriptHistory → ScriptHistory
with_call call h =
    record h {
      calls = calls_with call h.calls h.other;
      other = option_map (λ other. other ++ call ∷ []) h.other;
    }

-- the bag's controller begins with no calls of its own, once in a history
abbrev pub first_other : Option (List Call) → Option (List Call)
first_other None = Some []
first_other (Some other) = None

-- a history with calls of the bag's controller from here on
abbrev pub with_other : ScriptHistory → Option ScriptHistory
with_other h = option_map (λ other. record h { other = Some other }) (first_other h.other)

-- histories with the last one changed, where there is one and the change may be
abbrev pub on_last :
    (ScriptHistory → Option ScriptHistory) → List ScriptHistory → Option (List ScriptHistory)
on_last change [] = None
on_last change (h ∷ []) = option_map (λ changed. changed ∷ []) (change h)
on_last change (h ∷ next ∷ more) =
    option_map (λ changed. h ∷ changed) (on_last change (next ∷ more))

-- the histories after a line, by those before it and what it means, if it may stand there: a call
-- and `other` stand behind a `new`
abbrev pub histories_after : List ScriptHistory → LineMeaning → Option (List ScriptHistory)
histories_after histories Nothing = Some histories
histories_after histories (New capacity slots) = Some (histories ++ new_history capacity slots ∷ [])
histories_after histories Other = on_last with_other histories
histories_after histories (Asks call) = on_last (λ h. Some (with_call call h)) histories

-- a byte put before the first of some lines
abbrev pub before_first : ℕ → List (List ℕ) → List (List ℕ)
before_first c [] = (c ∷ []) ∷ []
before_first c (line ∷ lines) = (c ∷ line) ∷ lines

-- the lines of a text: a line ends at a line feed, and a last one without it counts
abbrev pub lines_of : List ℕ → List (List ℕ)
lines_of [] = []
lines_of (c ∷ cs) = if c == 10 then [] ∷ lines_of cs else before_first c (lines_of cs)

-- what follows the histories after a line, or the number of a line that may not stand where it does
abbrev pub or_line :
    ℕ → Option (List ScriptHistory) → (List ScriptHistory → Result (List ScriptHistory) ℕ)
    → Result (List ScriptHistory) ℕ
or_line number (Some histories) following = following histories
or_line number None following = Err number

-- the histories after some lines, by those before them, or the number of the first line that is
-- none of a script or stands where it may not
abbrev pub histories_after_all :
    ℕ → List ScriptHistory → List (List ℕ) → Result (List ScriptHistory) ℕ
histories_after_all number histories [] = Ok histories
histories_after_all number histories (line ∷ lines) =
    or_line number (and_then (meaning_in line) (histories_after histories))
    (λ next. histories_after_all (number + 1) next lines)

-- the histories of a script, whose lines are counted from 1, or the number of the first line that
-- is none or stands where it may not
abbrev pub histories_in : List ℕ → Result (List ScriptHistory) ℕ
histories_in script = histories_after_all 1 [] (lines_of script)
