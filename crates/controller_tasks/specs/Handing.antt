-- Which call a row of a file is handed to.
use Rattle.std.specs.Prelude.{ℕ, Bool, false, ◌&&◌, List, if◌then◌else◌, length, nat_le, slice_index}
use Rattle.std.specs.Option.{option_map_or}
use Rattle.cif.specs.Rows.{identity_of}
use Rattle.extract.specs.Stages.{is_header}
use Rattle.controller.specs.Calls.{Call, Open, Row}

-- whether a row begins with the letters of an HD
abbrev pub begins_as_header : List ℕ → Bool
begins_as_header row =
    nat_le 2 (length row) && option_map_or is_header (identity_of (slice_index row 0) (slice_index row 1)) false

-- an HD row is handed to open, any other to row
abbrev pub handed : List ℕ → Call
handed row = if begins_as_header row then Open row else Row row
