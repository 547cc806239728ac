-- The command line: the tasks, with their options and arguments, as `clap` reads them.
use Rattle.std.specs.Prelude.{◌≡◌, ◌∷◌, [], Some, codes, true, false}
use Rattle.clap.specs.Lexer.{usize_max}
use Rattle.clap.specs.Walk.{Rule, Text}
use Rattle.clap.specs.Simple.{App, app_of, new_app, new_rule, new_shape, with_rule}
use Rattle.clap.specs.Simple.{with_subcommand}
use Rattle.clap.specs.declared.builder.command.Command.{Command}
use Rattle.clap.specs.declared.builder.command.Command.TheViews.{out-Command}
use Rattle.clap.specs.declared.builder.value_parser.ValueParser.TheVariants.{Unsigned}

-- an argument that has to be given, with one value
abbrev pub required_rule : Text → Rule
required_rule id = record (new_rule id) { value_names = 1; required = true }

-- an option with one value, by its name
abbrev pub option_rule : Text → Rule
option_rule id = record (new_rule id) { long = Some id; value_names = 1 }

abbrev pub store_rule : Rule
store_rule = record (option_rule (codes "store")) { defaults = codes "table" ∷ [] }

abbrev pub capacity_rule : Rule
capacity_rule = record (option_rule (codes "capacity")) {
  defaults = codes "2000" ∷ [];
  parser = Some (Unsigned 0 65536);
}

abbrev pub base_rule : Rule
base_rule = option_rule (codes "base")

abbrev pub name_rule : Rule
name_rule = option_rule (codes "name")

abbrev pub at_rule : Rule
at_rule = record (option_rule (codes "at")) { defaults = codes "00:00" ∷ [] }

abbrev pub svg_rule : Rule
svg_rule = option_rule (codes "svg")

abbrev pub count_rule : Rule
count_rule = record (required_rule (codes "count")) {
  parser = Some (Unsigned 0 18446744073709551615);
}

abbrev pub station_rule : Rule
station_rule = required_rule (codes "station")

abbrev pub date_rule : Rule
date_rule = required_rule (codes "date")

-- one file or more
abbrev pub files_rule : Rule
files_rule = record (required_rule (codes "files")) {
  range = Some (record { start_inclusive = 1; end_inclusive = usize_max });
}

-- a command over files alone, by its name
abbrev pub over_files : Text → App
over_files name = with_rule (new_app name) files_rule

-- a command over one store, by its name
abbrev pub over_store : Text → App
over_store name = with_rule (with_rule (new_app name) store_rule) capacity_rule

-- the same with a board's station and date, and files
abbrev pub with_board : App → App
with_board a = with_rule (with_rule (with_rule a station_rule) date_rule) files_rule

abbrev pub run_command : App
run_command = with_board (over_store (codes "run"))

abbrev pub glass_command : App
glass_command = with_board (with_rule (with_rule (with_rule (over_store (codes "glass"))
    name_rule) at_rule) svg_rule)

abbrev pub replay_command : App
replay_command = over_files (codes "replay")

abbrev pub rows_command : App
rows_command = over_files (codes "rows")

abbrev pub stores_command : App
stores_command = with_rule (with_rule (new_app (codes "stores")) capacity_rule) files_rule

abbrev pub board_command : App
board_command = with_board (over_store (codes "board"))

abbrev pub turns_command : App
turns_command = with_board (with_rule (over_store (codes "turns")) count_rule)

abbrev pub pages_command : App
pages_command = with_board (with_rule (over_store (codes "pages")) count_rule)

abbrev pub extract_command : App
extract_command = with_board (with_rule (over_store (codes "extract")) base_rule)

-- the program before it has tasks; the words do not begin with its name
abbrev pub program : App
program = record {
  top = record (new_shape (codes "departures")) {
    no_binary_name = true;
    has_version = true;
    subcommand_required = true;
  };
  subs = [];
}

-- a command with a task that has no tasks of its own
abbrev pub with_task : App → App → App
with_task a task = with_subcommand a task.top

-- the program, of which one task is asked
abbrev pub departures : App
departures =
    with_task (with_task (with_task (with_task (with_task (with_task (with_task (with_task
    (with_task program run_command) glass_command) replay_command) rows_command) stores_command)
    board_command) turns_command) pages_command) extract_command

-- none of the command's arguments is global
abbrev pub IsLocal : Command → Type 0
IsLocal c = (out-Command c).has_globals ≡ false

-- what a parse reads of the command is this
abbrev pub IsCommand : Command → App → Type 0
IsCommand c a = (app_of c ≡ a) × IsLocal c
