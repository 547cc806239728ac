-- Tasks that are read one after another.
use Rattle.std.proofs.Common.{◌≡◌, ◌++◌, ◌∷◌, [], List, map, ap, sym, subst}
use Rattle.std.specs.Prelude.{Option, Some, Result, Ok, Err, IsErrAnd, MatchResult}
use Rattle.clap.specs.Kinds.{Kinds, or_else}
use Rattle.clap.specs.Walk.{Text}
use Rattle.command_line.specs.declared.refusal.NoTask.{NoTask}
use Rattle.command_line.specs.declared.refusal.NoTask.TheVariants.{Shown, Wrong, OutOfMemory}
use Rattle.tasks.specs.declared.task.Task.{Task}
use Rattle.command_line.specs.Requests.{Request, request_in, request_of}
use Rattle.command_line.specs.Refusals.{SaysOne, faults_in, first_faults}
use Rattle.command_line.proofs.ReadingLemmas.{among_first}

-- one more task is the one that the first of the words that are left ask for
pub one_more : (tasks : List Task) (task : Task) (first : List Text) (others : List (List Text)) → request_in first ≡ Some (request_of task)
    → map (λ t. Some (request_of t)) (tasks ++ task ∷ []) ++ map request_in others
    ≡ map (λ t. Some (request_of t)) tasks ++ map request_in (first ∷ others)
one_more [] task first others asks = ap (λ (o : Option Request). o ∷ map request_in others) (sym asks)
one_more (t ∷ ts) task first others asks = ap (λ (os : List (Option Request)). Some (request_of t) ∷ os) (one_more ts task first others asks)

-- words without a fault are passed over
pub no_fault : (first : List Text) (others : List (List Text)) → faults_in first ≡ [] → first_faults (first ∷ others) ≡ first_faults others
no_fault first others none = ap (λ (ks : Kinds). or_else ks (first_faults others)) none

-- and with one they are told
pub says_first : (first second : Kinds) (said : NoTask) → SaysOne first said → SaysOne (or_else first second) said
says_first first second OutOfMemory says = says
says_first first second (Shown text) says = (says.0, among_first says.0 first second says.1, says.2)
says_first first second (Wrong text) says = (says.0, among_first says.0 first second says.1, says.2)

-- what is said of the first is said of all
pub says_all : {T : Type 0} (A : T → Type 0) (r : Result T NoTask) (kinds : Kinds) (said : NoTask) → IsErrAnd r (λ e. e ≡ said)
    → SaysOne kinds said → MatchResult r A (SaysOne kinds)
says_all {T} A (Ok x) kinds said same says = absurd same
says_all {T} A (Err e) kinds said same says = subst (λ (n : NoTask). SaysOne kinds n) (sym same) says
