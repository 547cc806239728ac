-- What the words of the command line ask for.
use Rattle.std.specs.Prelude.{ℕ, List, [], ◌∷◌, codes, cond, if◌then◌else◌}
use Rattle.std.specs.Prelude.{Option, Some, None, option_map, option_and_then, unwrap_or}
use Rattle.std.specs.Str.{bytes_eq}
use Rattle.std.specs.Str.Parse.{digits_value, without_leading_plus}
use Rattle.clap.specs.ValueTests.{is_unsigned_in}
use Rattle.clap.specs.Walk.{Row, Text, all_of, first_of, texts}
use Rattle.clap.specs.Simple.{subcommand_of}
use Rattle.tasks.specs.declared.store.StoreKind.{StoreKind}
use Rattle.tasks.specs.declared.task.Wanted.{Wanted}
use Rattle.tasks.specs.declared.task.WantedPage.{WantedPage}
use Rattle.tasks.specs.declared.task.Work.{Work}
use Rattle.tasks.specs.declared.task.Work.TheVariants as work
use Rattle.tasks.specs.declared.task.Task.{Task}
use Rattle.tasks.specs.declared.task.Task.TheVariants as task
use Rattle.command_line.specs.Commands.{departures}
use Rattle.tasks.specs.Clocks.{clock_in}
use Rattle.tasks.specs.Stores.{store_named}

-- ---- requests

-- a board over a store of so many slots
pub record BoardRequest : Type 0 where
  pub store : StoreKind
  pub slots : ℕ
  pub station : Text
  pub date : Text

-- a page of a board: its local name, the minute from which on it shows departures, the word for
-- that minute, and the file of its picture
pub record PageRequest : Type 0 where
  pub name : Text
  pub minute : ℕ
  pub at : Text
  pub svg : Option Text

-- a task, with its files
pub data Request : Type 0 where
  rows : List Text → Request
  replay : List Text → Request
  stores : ℕ → List Text → Request
  run : BoardRequest → List Text → Request
  glass : PageRequest → BoardRequest → List Text → Request
  board : BoardRequest → List Text → Request
  turns : ℕ → BoardRequest → List Text → Request
  pages : ℕ → BoardRequest → List Text → Request
  extract : Option Text → BoardRequest → List Text → Request

abbrev pub board_request_of : Wanted → BoardRequest
board_request_of wanted = record {
  store = wanted.store;
  slots = wanted.slots;
  station = wanted.station.now;
  date = wanted.date.now;
}

abbrev pub page_request_of : WantedPage → PageRequest
page_request_of wanted = record {
  name = wanted.name.now;
  minute = wanted.minute;
  at = wanted.at.now;
  svg = option_map (λ name. name.now) wanted.svg;
}

abbrev pub work_request_of : BoardRequest → Work → Request
work_request_of wanted (work.Board files) = board wanted (texts files.items)
work_request_of wanted (work.Turns times files) = turns times wanted (texts files.items)
work_request_of wanted (work.Pages times files) = pages times wanted (texts files.items)
work_request_of wanted (work.Extracts base files) =
    extract (option_map (λ name. name.now) base) wanted (texts files.items)
work_request_of wanted (work.Run files) = run wanted (texts files.items)
work_request_of wanted (work.Glass page files) =
    glass (page_request_of page) wanted (texts files.items)

-- what a task is asked
abbrev pub request_of : Task → Request
request_of (task.Rows files) = rows (texts files.items)
request_of (task.Replay files) = replay (texts files.items)
request_of (task.Stores slots files) = stores slots (texts files.items)
request_of (task.OverStore wanted work) = work_request_of (board_request_of wanted) work

-- ---- what is asked by the name of a task and the values of its options and arguments

-- the number that a word writes, if it is not above a limit
abbrev pub number_up_to : ℕ → Text → Option ℕ
number_up_to most word = if is_unsigned_in 0 most word
    then Some (digits_value 10 (without_leading_plus word)) else None

-- the number of slots, 65,536 at the most
abbrev pub slots_in : List Row → Option ℕ
slots_in given = option_and_then (number_up_to 65536) (first_of (codes "capacity") given)

abbrev pub store_in : List Row → Option StoreKind
store_in given = option_and_then store_named (first_of (codes "store") given)

abbrev pub count_in : List Row → Option ℕ
count_in given = option_and_then (number_up_to 18446744073709551615)
    (first_of (codes "count") given)

abbrev pub files_in : List Row → Option (List Text)
files_in given = all_of (codes "files") given

abbrev pub board_with : StoreKind → ℕ → Text → Text → BoardRequest
board_with store slots station date = record {
  store = store;
  slots = slots;
  station = station;
  date = date;
}

abbrev pub board_in : List Row → Option BoardRequest
board_in given =
    option_and_then (λ store.
    option_and_then (λ slots.
    option_and_then (λ station.
    option_map (λ date. board_with store slots station date)
    (first_of (codes "date") given))
    (first_of (codes "station") given))
    (slots_in given))
    (store_in given)

abbrev pub page_with : Text → ℕ → Text → Option Text → PageRequest
page_with name minute at svg = record {
  name = name;
  minute = minute;
  at = at;
  svg = svg;
}

-- the name has no byte where it is not given
abbrev pub page_in : List Row → Option PageRequest
page_in given =
    option_and_then (λ at.
    option_map (λ minute. page_with (unwrap_or (first_of (codes "name") given) []) minute at
    (first_of (codes "svg") given))
    (clock_in at))
    (first_of (codes "at") given)

-- a task over one store
abbrev pub request_over : Text → List Row → BoardRequest → List Text → Option Request
request_over name given wanted files =
    cond (bytes_eq name (codes "board")) (Some (board wanted files))
    (cond (bytes_eq name (codes "turns"))
    (option_map (λ times. turns times wanted files) (count_in given))
    (cond (bytes_eq name (codes "pages"))
    (option_map (λ times. pages times wanted files) (count_in given))
    (cond (bytes_eq name (codes "extract"))
    (Some (extract (first_of (codes "base") given) wanted files))
    (cond (bytes_eq name (codes "run")) (Some (run wanted files))
    (cond (bytes_eq name (codes "glass"))
    (option_map (λ page. glass page wanted files) (page_in given))
    None)))))

-- a task with its files
abbrev pub request_with : Text → List Row → List Text → Option Request
request_with name given files =
    cond (bytes_eq name (codes "rows")) (Some (rows files))
    (cond (bytes_eq name (codes "replay")) (Some (replay files))
    (cond (bytes_eq name (codes "stores"))
    (option_map (λ slots. stores slots files) (slots_in given))
    (option_and_then (λ wanted. request_over name given wanted files) (board_in given))))

abbrev pub request_by : Text → List Row → Option Request
request_by name given = option_and_then (request_with name given) (files_in given)

-- a task by its name and rows, if there is one
abbrev pub request_of_used : Option (Text × List Row) → Option Request
request_of_used = option_and_then (λ used. request_by used.0 used.1)

-- the task that words ask for
abbrev pub request_in : List Text → Option Request
request_in words = request_of_used (subcommand_of departures words)

-- ---- several tasks

-- one more at the head of the first of some lists
abbrev pub with_first : {A : Type 0} → A → List (List A) → List (List A)
with_first x [] = (x ∷ []) ∷ []
with_first x (first ∷ rest) = (x ∷ first) ∷ rest

-- the words of each task, which the word `--` stands between
abbrev pub parts : List Text → List (List Text)
parts [] = [] ∷ []
parts (word ∷ rest) =
    cond (bytes_eq word (codes "--")) ([] ∷ parts rest) (with_first word (parts rest))

-- the words of each task of those that are left, if any are
abbrev pub parts_left : Option (List Text) → List (List Text)
parts_left None = []
parts_left (Some rest) = parts rest
