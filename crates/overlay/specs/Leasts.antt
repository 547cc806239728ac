-- The keys of the overlay, by the last transaction on each. It serves the proof of not-before alone: nobody needs it to believe what the
-- overlay is.
use Rattle.std.specs.Prelude.{Bool, true, false, not, ◌&&◌, List, is_some, Some, None, Option}
use Rattle.schedule.specs.declared.key.Key.{Key}
use Rattle.schedule.specs.declared.record.Record.{Record}
use Rattle.schedule.specs.declared.transaction.Change.{Change}
use Rattle.schedule.specs.Keys.{key_before}
use Rattle.timetable.specs.Laws.{has_key}
use Rattle.overlay.specs.Overlays.{leaves, last_on}

-- whether some of the transactions are on a key
abbrev pub is_touched : List Change → Key → Bool
is_touched cs k = is_some (last_on k cs)

-- whether a key of the map is left alone by the transactions
abbrev pub is_untouched : List Record → List Change → Key → Bool
is_untouched m cs k = has_key m k && not (is_touched cs k)

-- whether a last transaction, if there is one, leaves a schedule
abbrev pub leaves_one : Option Change → Bool
leaves_one (Some c) = is_some (leaves c)
leaves_one None = false

-- whether the transactions leave a schedule under a key
abbrev pub is_set : List Change → Key → Bool
is_set cs k = leaves_one (last_on k cs)

-- whether a key is before the best so far, if there is one
abbrev pub is_lower : Key → Option Key → Bool
is_lower k (Some best) = key_before k best
is_lower k None = true

-- whether a key that the transactions set is not before the probe, and before the best so far
abbrev pub takes_place : List Change → Key → Key → Option Key → Bool
takes_place cs probe k best = is_set cs k && (not (key_before k probe) && is_lower k best)
