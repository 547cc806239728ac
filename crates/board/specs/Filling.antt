-- How a board's lines are filled in, call by call and train by train, in any order. It serves the proof of the filling alone: nobody
-- needs it to believe which lines stand on a board.
use Rattle.std.specs.Prelude.{◌≡◌, ℕ, ◌+◌, ◌<◌, ◌≤◌, Bool, true, false, ◌⊎◌, List, length, take, Some, None, Option, ◌≢◌}
use Rattle.cif.specs.declared.content.Location.{Location}
use Rattle.maps.specs.Maps.{has_distinct_keys}
use Rattle.ordered.specs.declared.slots.Slots.{Slots}
use Rattle.ordered.specs.Tables.{RestKept}
use Rattle.schedule.specs.declared.key.Key.{Key}
use Rattle.schedule.specs.declared.record.Record.{Record}
use Rattle.schedule.specs.Records.{is_at, visits}
use Rattle.running.specs.Walking.{IsFirst}
use Rattle.board.specs.declared.line.Line.{Line}
use Rattle.board.specs.Lines.{line_before, line_key, On, line_at, IsLine}

-- whether there is a call and it is at the station
abbrev pub calls_there : List ℕ → Option Location → Bool
calls_there station (Some call) = is_at station call
calls_there station None = false

-- the lines of xs, and those of the first p calls of a schedule, and no other
pub record Added (station : List ℕ) (r : Record) (p : ℕ) (xs ys : List Line) : Type 0 where
  pub only : (l : Line) → On ys l → On xs l ⊎ ((l.key.place < p) × (line_at station r l.key.place ≡ Some l))
  pub kept : (l : Line) → On xs l → On ys l
  pub every : (l : Line) → l.key.place < p → line_at station r l.key.place ≡ Some l → On ys l
  pub few : length ys ≤ length xs + visits station (take p r.calls)
  pub distinct : has_distinct_keys line_before line_key xs ≡ true
      → has_distinct_keys line_before line_key ys ≡ true

-- no line of xs is of a train
abbrev pub Fresh : List Line → ℕ → Type 0
Fresh xs uid = (l : Line) → On xs l → l.key.uid ≢ uid

-- a UID number is that of a train before the next key's, if there is one
abbrev pub Earlier : Option Key → ℕ → Type 0
Earlier (Some next) uid = uid < next.uid
Earlier None uid = Unit {0}

-- the next key, if there is one, is the first one of its train
abbrev pub StartsTrain : List Record → Option Key → Type 0
StartsTrain m (Some next) = IsFirst m next
StartsTrain m None = Unit {0}

-- the lines of the trains before the next key's, and no other
pub record UpTo (m : List Record) (station : List ℕ) (day : ℕ) (next : Option Key) (ys : List Line) : Type 0 where
  pub only : (l : Line) → On ys l → IsLine m station day l × Earlier next l.key.uid
  pub every : (l : Line) → IsLine m station day l → Earlier next l.key.uid → On ys l
  pub distinct : has_distinct_keys line_before line_key ys ≡ true

-- the lines of xs and those of one train, and no other; a train has at most two
pub record Trained (m : List Record) (station : List ℕ) (day uid : ℕ) (xs ys : List Line) : Type 0 where
  pub only : (l : Line) → On ys l → On xs l ⊎ (IsLine m station day l × (l.key.uid ≡ uid))
  pub kept : (l : Line) → On xs l → On ys l
  pub every : (l : Line) → IsLine m station day l → l.key.uid ≡ uid → On ys l
  pub few : length ys ≤ length xs + 2
  pub distinct : has_distinct_keys line_before line_key xs ≡ true
      → has_distinct_keys line_before line_key ys ≡ true

-- all lines, and no other
pub record AllLines (m : List Record) (station : List ℕ) (day : ℕ) (ys : List Line) : Type 0 where
  pub only : (l : Line) → On ys l → IsLine m station day l
  pub every : (l : Line) → IsLine m station day l → On ys l
  pub distinct : has_distinct_keys line_before line_key ys ≡ true

-- lines were added behind those that were there: the slots past them keep what they had
pub record Grown (s t : Slots Line) : Type 0 where
  pub rest : RestKept s t
  pub longer : s.len ≤ t.len
