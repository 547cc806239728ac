-- The stages of an extract: which rows each takes, and the stage after.
use Rattle.std.specs.Prelude.{ℕ, Bool, true, false, cond, Some, None, Option, nat_le, nat_lt}
use Rattle.cif.specs.declared.identity.Identity.{Identity}
use Rattle.cif.specs.declared.identity.Identity.TheVariants.{Header, BasicSchedule, BasicExtra, Origin, Intermediate, Terminus, ChangeEnRoute, TiplocInsert, TiplocAmend, TiplocDelete, Association, Trailer}
use Rattle.extract.specs.declared.stage.Stage.{Stage}
use Rattle.extract.specs.declared.stage.Stage.TheVariants.{Idle, Between, Begun, Extra, Running, Changed, Complete}

-- no extract is open
abbrev pub is_idle : Stage → Bool
is_idle Idle = true
is_idle _ = false

-- ZZ was taken
abbrev pub is_complete : Stage → Bool
is_complete Complete = true
is_complete _ = false

-- an HD
abbrev pub is_header : Identity → Bool
is_header Header = true
is_header _ = false

-- a ZZ
abbrev pub is_trailer : Identity → Bool
is_trailer Trailer = true
is_trailer _ = false

-- the stage after a row, if the stage takes it; after a BS it is between where that deletes or cancels, and begun otherwise
abbrev pub next_stage : Stage → Identity → Bool → Option Stage
next_stage Idle Header brief = Some Between
next_stage Between BasicSchedule brief = Some (cond brief Between Begun)
next_stage Between TiplocInsert brief = Some Between
next_stage Between TiplocAmend brief = Some Between
next_stage Between TiplocDelete brief = Some Between
next_stage Between Association brief = Some Between
next_stage Between Trailer brief = Some Complete
next_stage Begun BasicExtra brief = Some Extra
next_stage Begun Origin brief = Some Running
next_stage Extra Origin brief = Some Running
next_stage Running Intermediate brief = Some Running
next_stage Running ChangeEnRoute brief = Some Changed
next_stage Running Terminus brief = Some Between
next_stage Changed Intermediate brief = Some Running
next_stage _ _ brief = None

-- a schedule is being read
abbrev pub is_reading : Stage → Bool
is_reading Begun = true
is_reading Extra = true
is_reading Running = true
is_reading Changed = true
is_reading _ = false

-- no row is taken when idle, and otherwise at most 9,999, and ZZ after them
abbrev pub most_rows : Stage → ℕ
most_rows Idle = 0
most_rows Complete = 10000
most_rows _ = 9999

-- at most 32 transactions are pending, and fewer while one is being read
abbrev pub has_room : Stage → ℕ → Bool
has_room s pending = cond (is_reading s) (nat_lt pending 32) (nat_le pending 32)
