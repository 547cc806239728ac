-- A command to which a task is added.
use Rattle.std.proofs.Common.{◌∙◌, ap, ap₂, ◌||◌}
use Rattle.clap.specs.Built.{AddsSubcommand}
use Rattle.clap.specs.Simple.{App, with_subcommand}
use Rattle.clap.specs.declared.builder.command.Command.{Command}
use Rattle.command_line.specs.Commands.{IsCommand, with_task}

-- a task that is added to a command is one of its tasks, and the last
pub add_task : (a task : App) (old sub new : Command) → IsCommand old a → IsCommand sub task
    → AddsSubcommand old sub new → IsCommand new (with_task a task)
add_task a task old sub new old_is sub_is adds = (
  adds.shape sub_is.1 ∙ ap₂ with_subcommand old_is.0 (ap (λ (t : App). t.top) sub_is.0),
  adds.globals ∙ ap₂ ◌||◌ old_is.1 sub_is.1,
)
