-- A controller with the parts that it had is the controller that it was.
use Rattle.std.proofs.Common.{◌≡◌, sym, ap, subst}
use denote.Struct.Props.{props}
use Rattle.overlay.specs.declared.overlay.Overlay.{Overlay}
use Rattle.extract.specs.declared.extract.Extract.{Extract}
use Rattle.controller.specs.declared.controller.Controller.{Controller, room-type}

pub same_controller : {S : Type 0} (c : Controller S) (o : Overlay S) (e : Extract) (r : room-type S o e c.reference c.tally) → o ≡ c.overlay → e ≡ c.extract → ◌≡◌ {A = Controller S} (record { overlay = o; extract = e; reference = c.reference; tally = c.tally; room = r }) c
same_controller {S} c o e r p q =
    let R : IsProp (room-type S c.overlay c.extract c.reference c.tally) = hlevel props in
    subst (λ (x : Overlay S). (k : room-type S x e c.reference c.tally) → ◌≡◌ {A = Controller S} (record { overlay = x; extract = e; reference = c.reference; tally = c.tally; room = k }) c) (sym p)
    (subst (λ (y : Extract). (k : room-type S c.overlay y c.reference c.tally) → ◌≡◌ {A = Controller S} (record { overlay = c.overlay; extract = y; reference = c.reference; tally = c.tally; room = k }) c) (sym q)
    (λ k. ap (λ v. record { overlay = c.overlay; extract = c.extract; reference = c.reference; tally = c.tally; room = v }) (R k c.room)))
    r
