use Rattle.std.proofs.Common.{◌≡◌}
use Rattle.controller.specs.Shown.{store_of}
use Rattle.controller_tasks.specs.Taking.{controller_of}
use Rattle.controller_tasks.proofs.extracts.Extracts.take_file.Given as goal

abbrev pub invariant-loop-place : goal.invariant-loop-place
invariant-loop-place g l = store_of (controller_of l.self) ≡ store_of (controller_of l.initial.self)
