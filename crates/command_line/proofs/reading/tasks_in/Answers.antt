use Rattle.std.proofs.Common.{◌≡◌, ◌∙◌, ◌∷◌, [], List, ap, sym, subst, map, string_bytes}
use Rattle.std.specs.Prelude.{option_map}
use Rattle.clap.specs.Kinds.{Kinds}
use Rattle.clap.specs.Walk.{Text}
use Rattle.command_line.specs.declared.refusal.NoTask.{NoTask}
use Rattle.command_line.specs.Requests.{parts, parts_left}
use Rattle.command_line.specs.Refusals.{SaysOne, faults_in, first_faults}
use Rattle.command_line.proofs.TaskLemmas.{says_all, says_first}
use Rattle.command_line.proofs.reading.tasks_in.Goals as goal

pub returns-in_err-task_in-clause-refused : goal.returns-in_err-task_in-clause-refused
returns-in_err-task_in-clause-refused c =
    let first : List Text = map string_bytes c.first_part.result.0.now in
    let others : List (List Text) = parts_left (option_map (λ rest. map string_bytes rest.now) c.first_part.result.1) in
    let whole : List (List Text) = parts (map string_bytes c.args.words.now) in
    let said : NoTask = c.in_err-task_in.field-0.0 in
    let left : first_faults (first ∷ others) ≡ first_faults (parts (map string_bytes c.in-Some.left.now)) = ap first_faults (sym c.first_part.ensures.parts) in
    let all : first_faults (parts (map string_bytes c.in-Some.left.now)) ≡ first_faults whole = rw c.in-Some.is at c.loop-rest.invariant.1 in
    let says : SaysOne (first_faults (first ∷ others)) said = says_first (faults_in first) (first_faults others) said c.in_err-task_in.ensures.refused in
    says_all (λ _. first_faults whole ≡ []) c.from_residual.result (first_faults whole) said c.from_residual.ensures.1
    (subst (λ (ks : Kinds). SaysOne ks said) (left ∙ all) says)
