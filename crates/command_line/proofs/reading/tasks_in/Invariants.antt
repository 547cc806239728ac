use Rattle.std.proofs.Common.{◌≡◌, ◌+◌, ◌++◌, map, string_bytes, length}
use Rattle.std.specs.Prelude.{Some, option_map}
use Rattle.std.specs.Option.{option_map_or}
use Rattle.command_line.specs.Requests.{parts, parts_left, request_in, request_of}
use Rattle.command_line.specs.Refusals.{first_faults}
use Rattle.command_line.proofs.reading.tasks_in.Given as goal

-- the tasks so far are those of the words before the ones that are left, which had no fault
abbrev pub invariant-loop-rest : goal.invariant-loop-rest
invariant-loop-rest l =
    let left = parts_left (option_map (λ rest. map string_bytes rest.now) l.rest) in
    (map (λ task. Some (request_of task)) l.tasks.items ++ map request_in left ≡ map request_in (parts (map string_bytes l.words)))
    × (first_faults left ≡ first_faults (parts (map string_bytes l.words)))

abbrev pub decreases-loop-rest : goal.decreases-loop-rest
decreases-loop-rest l = option_map_or (λ rest. length rest.now + 1) l.rest 0
