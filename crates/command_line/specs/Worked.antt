-- Worked command lines: what they ask for, and which faults wrong ones have.
use Rattle.std.specs.Prelude.{◌≡◌, ◌==◌, List, [], ◌∷◌, codes, cond, Option, Some, None}
use Rattle.clap.specs.Walk.{Text}
use Rattle.clap.specs.declared.error.kind.ErrorKind.TheVariants as kind
use Rattle.tasks.specs.declared.store.StoreKind.TheVariants.{Table, Bag}
use Rattle.command_line.specs.Requests.{BoardRequest, PageRequest, Request, board_with, page_with}
use Rattle.command_line.specs.Requests.{board, extract, glass, pages, replay, rows, run, stores, turns}
use Rattle.command_line.specs.Requests.{parts, request_in, with_first}
use Rattle.command_line.specs.Refusals.{faults_in}

-- the words of a line, with one blank between two
abbrev pub words_of : Text → List Text
words_of [] = [] ∷ []
words_of (c ∷ cs) = cond (c == 32) ([] ∷ words_of cs) (with_first c (words_of cs))

abbrev pub request_by_line : Text → Option Request
request_by_line line = request_in (words_of line)

abbrev pub week : List Text
week = codes "week.cif" ∷ []

-- the board of HALTA where no option is given
abbrev pub usual_board : BoardRequest
usual_board = board_with Table 2000 (codes "HALTA") (codes "240304")

-- the page where no option is given
abbrev pub usual_page : PageRequest
usual_page = page_with [] 0 (codes "00:00") None

-- each task
pub record Tasks : Type 0 where
  pub rows : request_by_line (codes "rows week.cif update.cif")
      ≡ Some (rows (codes "week.cif" ∷ codes "update.cif" ∷ []))
  pub replay : request_by_line (codes "replay week.cif") ≡ Some (replay week)
  pub stores : request_by_line (codes "stores week.cif") ≡ Some (stores 2000 week)
  pub run : request_by_line (codes "run HALTA 240304 week.cif") ≡ Some (run usual_board week)
  pub glass : request_by_line (codes "glass HALTA 240304 week.cif")
      ≡ Some (glass usual_page usual_board week)
  pub board : request_by_line (codes "board HALTA 240304 week.cif") ≡ Some (board usual_board week)
  pub turns : request_by_line (codes "turns 1000 HALTA 240304 week.cif")
      ≡ Some (turns 1000 usual_board week)
  pub pages : request_by_line (codes "pages 1000 HALTA 240304 week.cif")
      ≡ Some (pages 1000 usual_board week)
  pub extract : request_by_line (codes "extract HALTA 240304 week.cif")
      ≡ Some (extract None usual_board week)

-- options, before the other words, among them and behind them
pub record Options : Type 0 where
  pub stores : request_by_line (codes "stores --capacity 65536 week.cif") ≡ Some (stores 65536 week)
  pub run : request_by_line (codes "run HALTA --store bag 240304 week.cif --capacity=7")
      ≡ Some (run (board_with Bag 7 (codes "HALTA") (codes "240304")) week)
  pub extract :
      request_by_line (codes "extract --base=week.cif --store table HALTA 240304 week.cif")
      ≡ Some (extract (Some (codes "week.cif")) usual_board week)
  pub picture :
      request_by_line (codes "glass --name X --at 09:05 --svg f.svg HALTA 240304 week.cif")
      ≡ Some (glass (page_with (codes "X") 545 (codes "09:05") (Some (codes "f.svg"))) usual_board week)
  pub last_time : request_by_line (codes "glass HALTA --at=99:99 240304 week.cif")
      ≡ Some (glass (page_with [] 6039 (codes "99:99") None) usual_board week)
  pub no_byte : request_by_line (codes "glass --name= HALTA 240304 week.cif")
      ≡ Some (glass usual_page usual_board week)
  pub no_byte_behind : request_by_line (codes "glass --name  HALTA 240304 week.cif")
      ≡ Some (glass usual_page usual_board week)
  pub hyphen : request_by_line (codes "glass --name=-x HALTA 240304 week.cif")
      ≡ Some (glass (page_with (codes "-x") 0 (codes "00:00") None) usual_board week)
  pub blank : request_in (codes "glass" ∷ codes "--name" ∷ codes " Halta Road" ∷ codes "HALTA"
      ∷ codes "240304" ∷ codes "week.cif" ∷ [])
      ≡ Some (glass (page_with (codes " Halta Road") 0 (codes "00:00") None) usual_board week)

-- wrong words, and those that ask for help or the version
pub record Faults : Type 0 where
  pub none : faults_in [] ≡ kind.MissingSubcommand ∷ []
  pub no_such_task : faults_in (words_of (codes "rum week.cif"))
      ≡ kind.UnknownArgument ∷ kind.InvalidSubcommand ∷ []
  pub missing : faults_in (words_of (codes "run HALTA 240304")) ≡ kind.MissingRequiredArgument ∷ []
  pub no_such_store : faults_in (words_of (codes "run --store shelf HALTA 240304 week.cif"))
      ≡ kind.InvalidValue ∷ []
  pub one_digit_hour : faults_in (words_of (codes "glass --at 9:05 HALTA 240304 week.cif"))
      ≡ kind.InvalidValue ∷ []
  pub no_colon : faults_in (words_of (codes "glass --at 09.05 HALTA 240304 week.cif"))
      ≡ kind.InvalidValue ∷ []
  pub no_digit : faults_in (words_of (codes "glass --at=09:0x HALTA 240304 week.cif"))
      ≡ kind.InvalidValue ∷ []
  pub no_time : faults_in (words_of (codes "glass --at= HALTA 240304 week.cif"))
      ≡ kind.InvalidValue ∷ []
  pub more_digits : faults_in (words_of (codes "glass --at 09:050 HALTA 240304 week.cif"))
      ≡ kind.InvalidValue ∷ []
  pub no_value : faults_in (words_of (codes "glass --name -x HALTA 240304 week.cif"))
      ≡ kind.UnknownArgument ∷ []
  pub name_not_here : faults_in (words_of (codes "run --name X HALTA 240304 week.cif"))
      ≡ kind.UnknownArgument ∷ []
  pub too_many_slots : faults_in (words_of (codes "stores --capacity 65537 week.cif"))
      ≡ kind.ValueValidation ∷ []
  pub repeated : faults_in (words_of (codes "stores --capacity 1 --capacity 1 week.cif"))
      ≡ kind.ArgumentConflict ∷ []
  pub not_here : faults_in (words_of (codes "rows --store bag week.cif"))
      ≡ kind.UnknownArgument ∷ []
  pub help : faults_in (words_of (codes "--help")) ≡ kind.DisplayHelp ∷ []
  pub help_on_task : faults_in (words_of (codes "run --help")) ≡ kind.DisplayHelp ∷ []
  pub version : faults_in (words_of (codes "--version")) ≡ kind.DisplayVersion ∷ []

pub record Worked : Type 0 where
  pub tasks : Tasks
  pub options : Options
  pub faults : Faults
  pub several : parts (words_of (codes "rows a -- rows b c --"))
      ≡ (codes "rows" ∷ codes "a" ∷ []) ∷ (codes "rows" ∷ codes "b" ∷ codes "c" ∷ []) ∷ [] ∷ []
