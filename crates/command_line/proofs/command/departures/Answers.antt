use Rattle.command_line.specs.Commands.{board_command, extract_command, glass_command, pages_command, program, replay_command, rows_command, run_command, stores_command, turns_command, with_task}
use Rattle.command_line.proofs.command.departures.Goals as goal

pub returns : goal.returns
returns c =
    let one = with_task program run_command in
    let two = with_task one glass_command in
    let three = with_task two replay_command in
    let four = with_task three rows_command in
    let five = with_task four stores_command in
    let six = with_task five board_command in
    let seven = with_task six turns_command in
    let eight = with_task seven pages_command in
    let is_one = c.with_task-command.ensures program run_command c.program.ensures c.run_command.ensures in
    let is_two = c.with_task-command-2.ensures one glass_command is_one c.glass_command.ensures in
    let is_three = c.with_task-command-3.ensures two replay_command is_two c.replay_command.ensures in
    let is_four = c.with_task-command-4.ensures three rows_command is_three c.rows_command.ensures in
    let is_five = c.with_task-command-5.ensures four stores_command is_four c.stores_command.ensures in
    let is_six = c.with_task-command-6.ensures five board_command is_five c.board_command.ensures in
    let is_seven = c.with_task-command-7.ensures six turns_command is_six c.turns_command.ensures in
    let is_eight = c.with_task-command-8.ensures seven pages_command is_seven c.pages_command.ensures in
    c.with_task.ensures eight extract_command is_eight c.extract_command.ensures
