-- Which lines stand on a board.
use Rattle.std.specs.Prelude.{◌≡◌, ℕ, ◌<◌, Bool, true, false, cond, ◌&&◌, ◌||◌, List, [], Some, None, Option, option_and_then, ◌==◌, nat_lt, slice_get}
use Rattle.cif.specs.declared.content.Location.{Location}
use Rattle.maps.specs.Maps.{ascending, lookup}
use Rattle.schedule.specs.declared.key.Key.{Key}
use Rattle.schedule.specs.declared.record.Record.{Record}
use Rattle.schedule.specs.Records.{is_at, is_cancellation}
use Rattle.timetable.specs.Timetables.{schedule_of}
use Rattle.running.specs.Running.{covering, InForceBy, InForce}
use Rattle.running.specs.Laws.{SameCandidates}
use Rattle.board.specs.declared.display.StationDay.{StationDay}
use Rattle.board.specs.declared.line.LineKey.{LineKey}
use Rattle.board.specs.declared.line.Line.{Line}

-- lines are ordered by minute, UID number and place
abbrev pub line_before : LineKey → LineKey → Bool
line_before a b =
    nat_lt a.minute b.minute
    || (a.minute == b.minute && (nat_lt a.uid b.uid || (a.uid == b.uid && nat_lt a.place b.place)))

-- the key of a line
abbrev pub line_key : Line → LineKey
line_key l = l.key

-- a line of a list of lines
abbrev pub On : List Line → Line → Type 0
On lines l = lookup line_before line_key lines (line_key l) ≡ Some l

-- the line of a call that departs at a minute
abbrev pub departing : Record → ℕ → Location → Option ℕ → Option Line
departing r place call (Some minute) =
    Some (record {
      key = record { minute = minute; uid = r.key.uid; place = place };
      platform = call.platform;
      destination = r.destination;
      train = r.train;
      operator = r.operator;
    })
departing r place call None = None

-- the line of a call: there is one where the call is at the station, suffix disregarded, and has a public departure
abbrev pub line_of : List ℕ → Record → ℕ → Location → Option Line
line_of station r place call = cond (is_at station call) (departing r place call call.departure) None

-- the line of the call at a place counted from 0, if there is such a call and it has one
abbrev pub line_at : List ℕ → Record → ℕ → Option Line
line_at station r place = option_and_then (line_of station r place) (slice_get r.calls place)

-- a line is one of a kept call of the schedule in force of its train, which is no cancellation
pub record IsLineBy (covers : Record → ℕ → Bool) (m : List Record) (station : List ℕ) (day : ℕ) (l : Line) : Type 0 where
  pub schedule : Record
  pub force : InForceBy covers m l.key.uid day schedule
  pub runs : is_cancellation schedule.key.stp ≡ false
  pub kept : l.key.place < schedule.count
  pub line : line_at station schedule l.key.place ≡ Some l

abbrev pub IsLine : List Record → List ℕ → ℕ → Line → Type 0
IsLine m station day l = IsLineBy covering m station day l

-- the lines of a board: in order, only such lines, and every such line
pub record BoardBy (covers : Record → ℕ → Bool) (m : List Record) (station : List ℕ) (day : ℕ) (lines : List Line) : Type 0 where
  pub ordered : ascending line_before line_key lines ≡ true
  pub only : (l : Line) → On lines l → IsLineBy covers m station day l
  pub every : (l : Line) → IsLineBy covers m station day l → On lines l

abbrev pub BoardOf : List Record → List ℕ → ℕ → List Line → Type 0
BoardOf m station day lines = BoardBy covering m station day lines

-- the lines of a board for the station and day that it has, if it has any
abbrev pub LinesBy : (Record → ℕ → Bool) → List Record → Option StationDay → List Line → Type 0
LinesBy covers m (Some s) lines = BoardBy covers m s.station s.day lines
LinesBy covers m None lines = lines ≡ []

abbrev pub LinesFor : List Record → Option StationDay → List Line → Type 0
LinesFor m shown lines = LinesBy covering m shown lines

-- the same candidates, the same board: by any two rules that say which days a schedule covers, and in any two maps
abbrev pub SameCandidatesSameBoard : Type 0
SameCandidatesSameBoard =
    (covers covers' : Record → ℕ → Bool) (m n : List Record) (station : List ℕ) (day : ℕ) → ((uid : ℕ) → SameCandidates covers covers' m n uid day)
    → (lines : List Line) → BoardBy covers m station day lines → BoardBy covers' n station day lines

-- those rules leave no choice of the lines
abbrev pub BoardIsOne : Type 0
BoardIsOne = (m : List Record) (station : List ℕ) (day : ℕ) (xs ys : List Line) → BoardOf m station day xs → BoardOf m station day ys → xs ≡ ys

-- the lines of a train depend on the schedules of that train alone
abbrev pub LinesOfTrainAlone : Type 0
LinesOfTrainAlone =
    (m n : List Record) (station : List ℕ) (day uid : ℕ) → ((k : Key) → k.uid ≡ uid → schedule_of m k ≡ schedule_of n k)
    → (l : Line) → l.key.uid ≡ uid → IsLine m station day l → IsLine n station day l

-- a train whose schedule in force has no line at a station has none there, whatever else it has
abbrev pub InForceHides : Type 0
InForceHides =
    (m : List Record) (station : List ℕ) (day uid : ℕ) (r : Record) → InForce m uid day r → ((place : ℕ) → place < r.count → line_at station r place ≡ None)
    → (l : Line) → l.key.uid ≡ uid → IsLine m station day l → ⊥

-- a train whose schedule in force is a cancellation has no lines
abbrev pub CancelledHides : Type 0
CancelledHides =
    (m : List Record) (station : List ℕ) (day uid : ℕ) (r : Record) → InForce m uid day r → is_cancellation r.key.stp ≡ true
    → (l : Line) → l.key.uid ≡ uid → IsLine m station day l → ⊥
