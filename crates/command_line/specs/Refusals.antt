-- Why words ask for no task.
use Rattle.std.specs.Prelude.{◌≡◌, ◌≢◌, ◌⊎◌, ⊤, List, [], ◌∷◌, Option, None, is_some, if◌then◌else◌}
use Rattle.clap.specs.Kinds.{IsAmong, Kinds, or_else}
use Rattle.clap.specs.Faults.{fault_of}
use Rattle.clap.specs.Walk.{Text}
use Rattle.clap.specs.declared.error.kind.ErrorKind.{ErrorKind}
use Rattle.clap.specs.declared.error.kind.ErrorKind.TheVariants.{DisplayHelp, DisplayVersion}
use Rattle.clap.specs.declared.error.kind.ErrorKind.TheVariants.{InvalidValue}
use Rattle.clap.specs.declared.error.kind.ErrorKind.TheVariants as of_clap
use Rattle.command_line.specs.declared.refusal.NoTask.{NoTask}
use Rattle.command_line.specs.declared.refusal.NoTask.TheVariants.{Shown, Wrong, OutOfMemory}
use Rattle.command_line.specs.Commands.{departures}
use Rattle.command_line.specs.Requests.{Request, request_in}

-- the kinds of fault that the words of one task have, none where they ask for a task: what `clap`
-- refuses, and a word that names no store or, for a page, no time
abbrev pub faults_in : List Text → Kinds
faults_in words = or_else (fault_of departures words)
    (if is_some (request_in words) then [] else InvalidValue ∷ [])

-- the faults of the first task that has any
abbrev pub first_faults : List (List Text) → Kinds
first_faults [] = []
first_faults (words ∷ rest) = or_else (faults_in words) (first_faults rest)

-- help and the version are shown, and every other kind is an error
abbrev pub SaysKind : ErrorKind → NoTask → Type 0
SaysKind kind (Shown text) = (kind ≡ DisplayHelp) ⊎ (kind ≡ DisplayVersion)
SaysKind kind (Wrong text) =
    (kind ≢ DisplayHelp) × (kind ≢ DisplayVersion) × (kind ≢ of_clap.OutOfMemory)
SaysKind kind OutOfMemory = ⊤

-- what is said is of one of the kinds, or no memory is left
abbrev pub SaysOne : Kinds → NoTask → Type 0
SaysOne kinds OutOfMemory = ⊤
SaysOne kinds said = (kind : ErrorKind) × IsAmong kind kinds × SaysKind kind said

-- a store or a time is not named where no task is asked for, or no memory is left
abbrev pub SaysNoValue : Option Request → NoTask → Type 0
SaysNoValue request OutOfMemory = ⊤
SaysNoValue request said = (request ≡ None) × SaysKind InvalidValue said
