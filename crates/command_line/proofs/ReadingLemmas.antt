-- What one parse of the command line says of the task that is asked for.
use Rattle.std.proofs.Common.{◌≡◌, ◌∙◌, ◌∷◌, [], List, true, refl, ap, sym, subst, inl, inr}
use Rattle.std.specs.Prelude.{Option, Some, Result, Ok, Err, is_some, MatchResult, IfOk, if◌then◌else◌}
use Rattle.clap.specs.Kinds.{FailsBy, HasKind, IsAmong, Kinds, or_else}
use Rattle.clap.specs.Faults.{fault_of, is_simple_and_free}
use Rattle.clap.specs.Simple.{App, HasMatchesOf, is_simple, subcommand_of, subcommand_rows_of}
use Rattle.clap.specs.Values.{kind_of}
use Rattle.clap.specs.Walk.{Text}
use Rattle.clap.specs.declared.error.Error.{Error}
use Rattle.clap.specs.declared.parser.matches.ArgMatches.{ArgMatches}
use Rattle.clap.specs.declared.error.kind.ErrorKind.{ErrorKind}
use Rattle.clap.specs.declared.error.kind.ErrorKind.TheVariants as kind
use Rattle.clap.proofs.OnLiterals.{clap_on_literals}
use Rattle.command_line.specs.declared.refusal.NoTask.{NoTask}
use Rattle.command_line.specs.declared.refusal.NoTask.TheVariants.{Shown, Wrong, OutOfMemory}
use Rattle.tasks.specs.declared.task.Task.{Task}
use Rattle.command_line.specs.Commands.{departures}
use Rattle.command_line.specs.Requests.{Request, request_in, request_of, request_of_used}
use Rattle.command_line.specs.Refusals.{SaysKind, SaysNoValue, SaysOne, faults_in}

-- the command line is one of which `clap` gives the matches and the faults
pub departures_is_simple : is_simple departures ≡ true
unfolding clap_on_literals
departures_is_simple = refl

pub departures_is_free : is_simple_and_free departures ≡ true
unfolding clap_on_literals
departures_is_free = refl

-- what is among the first kinds is among the first and the second
pub among_first : (kind : ErrorKind) (first second : Kinds) → IsAmong kind first → IsAmong kind (or_else first second)
among_first kind [] second among = absurd among
among_first kind (k ∷ ks) second among = among

-- where `clap` finds no fault, the faults are those of the store and the time
faults_of_values : (words : List Text) → fault_of departures words ≡ []
    → faults_in words ≡ (if is_some (request_in words) then [] else kind.InvalidValue ∷ [])
faults_of_values words none = ap (λ (first : Kinds). or_else first (if is_some (request_in words) then [] else kind.InvalidValue ∷ [])) none

-- a task that the matches ask for is asked for by the words
pub matched_asks : (words : List Text) (request : Option Request) (r : Result Task NoTask) → request ≡ request_in words
    → MatchResult r (λ task. request ≡ Some (request_of task)) (SaysNoValue request)
    → IfOk r (λ task. request_in words ≡ Some (request_of task))
matched_asks words request (Ok task) same asked = sym same ∙ asked
matched_asks words request (Err said) same says = tt

-- a task that the matches ask for is asked for without a fault, and where they ask for none it is for the store or the time
pub matched_faults : (words : List Text) (request : Option Request) (r : Result Task NoTask) → fault_of departures words ≡ []
    → request ≡ request_in words → MatchResult r (λ task. request ≡ Some (request_of task)) (SaysNoValue request)
    → MatchResult r (λ _. faults_in words ≡ []) (SaysOne (faults_in words))
matched_faults words request (Ok task) none same asked =
    faults_of_values words none ∙ ap (λ (o : Option Request). if is_some o then [] else kind.InvalidValue ∷ []) (sym same ∙ asked)
matched_faults words request (Err OutOfMemory) none same said = tt
matched_faults words request (Err (Shown text)) none same said =
    let is : faults_in words ≡ kind.InvalidValue ∷ [] = faults_of_values words none
    ∙ ap (λ (o : Option Request). if is_some o then [] else kind.InvalidValue ∷ []) (sym same ∙ said.0) in
    (kind.InvalidValue, subst (λ (ks : Kinds). IsAmong kind.InvalidValue ks) (sym is) (inl refl), said.1)
matched_faults words request (Err (Wrong text)) none same said =
    let is : faults_in words ≡ kind.InvalidValue ∷ [] = faults_of_values words none
    ∙ ap (λ (o : Option Request). if is_some o then [] else kind.InvalidValue ∷ []) (sym same ∙ said.0) in
    (kind.InvalidValue, subst (λ (ks : Kinds). IsAmong kind.InvalidValue ks) (sym is) (inl refl), said.1)

-- an error of `clap` is said as one of the faults
pub refused_faults : (words : List Text) (error : Error) (said : NoTask) → HasKind (fault_of departures words) error
    → SaysKind (kind_of error) said → SaysOne (faults_in words) said
refused_faults words error OutOfMemory (inl memory) says = tt
refused_faults words error OutOfMemory (inr among) says = tt
refused_faults words error (Shown text) (inl memory) (inl help) = let e : kind.OutOfMemory ≡ kind.DisplayHelp = sym memory ∙ help in cc
refused_faults words error (Shown text) (inl memory) (inr version) = let e : kind.OutOfMemory ≡ kind.DisplayVersion = sym memory ∙ version in cc
refused_faults words error (Shown text) (inr among) says = (kind_of error, among_first _ _ _ among, says)
refused_faults words error (Wrong text) (inl memory) says = absurd (says.2 memory)
refused_faults words error (Wrong text) (inr among) says = (kind_of error, among_first _ _ _ among, says)

-- the matches of the command line are those of the words
pub same_request : (a : App) (words : List Text) (m : ArgMatches) → a ≡ departures → HasMatchesOf a words m
    → request_of_used (subcommand_rows_of m) ≡ request_in words
same_request a words m is has =
    ap request_of_used ((has (ap is_simple is ∙ departures_is_simple)).1 ∙ ap (λ (b : App). subcommand_of b words) is)

-- the faults that it has are those of the words
pub same_faults : {T : Type 0} (a : App) (words : List Text) (r : Result T Error) → a ≡ departures
    → (is_simple_and_free a ≡ true → FailsBy (fault_of a words) r) → FailsBy (fault_of departures words) r
same_faults {T} a words r is fails =
    subst (λ (b : App). FailsBy (fault_of b words) r) is (fails (ap is_simple_and_free is ∙ departures_is_free))
