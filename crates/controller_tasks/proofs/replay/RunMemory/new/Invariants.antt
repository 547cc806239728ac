use Rattle.std.proofs.Common.{◌≡◌, map, take}
use Rattle.runs.specs.Calls.{call_meant}
use Rattle.scripts.specs.Steps.{call_of}
use Rattle.controller_tasks.proofs.replay.RunMemory.new.Given as goal

abbrev pub invariant-loop-step : goal.invariant-loop-step
invariant-loop-step l = map call_meant l.calls.items ≡ map call_of (take l.step-index l.steps)
