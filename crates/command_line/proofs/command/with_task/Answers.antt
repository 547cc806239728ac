use Rattle.std.proofs.lemmas.Result.{IfOk-weaker}
use Rattle.command_line.proofs.CommandLemmas.{add_task}
use Rattle.command_line.proofs.command.with_task.Goals as goal

pub returns : goal.returns
returns c a task is_command is_task =
    IfOk-weaker c.subcommand.result _ _ (λ new adds. add_task a task c.in_ok-command.field-0 c.in_ok-task.field-0 new
    (rw c.in_ok-command.was at is_command) (rw c.in_ok-task.was at is_task) adds) c.subcommand.ensures
