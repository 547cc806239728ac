-- Extracts that are taken over a store.
use Rattle.controller.specs.declared.controller.Controller.{Controller}
use Rattle.controller_tasks.specs.declared.extracts.Extracts.{Extracts}

-- their controller
abbrev pub controller_of : {S : Type 0} → Extracts S → Controller S
controller_of e = e.controller
