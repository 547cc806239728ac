use Rattle.std.proofs.Common.{◌∙◌, ap, refl, length, length-set}
use Rattle.std.proofs.Math.Logic.{∥∥₁_map}
use Rattle.runs.specs.Calls.{stands, room_of, first_ledger}
use Rattle.runs.specs.Runs.{ledger_of}
use Rattle.runs.proofs.Runs.{makes_next, keeps_on, room_stays}
use Rattle.runs.proofs.run.Run.call_next.Goals as goal

pub invariant_of-self-clause-places : goal.invariant_of-self-clause-places
invariant_of-self-clause-places g c = ap length c.make.ensures.answers ∙ (length-set c.args.self.now.answers.now c.args.self.now.made c.make.result ∙ c.args.self.now.places)

pub invariant_of-self-clause-keeps : goal.invariant_of-self-clause-keeps
invariant_of-self-clause-keeps g c =
    let run = c.args.self.now in
    let made = c.make.ensures in
    let at = c.in_ok-call.ensures.lookup in
    ∥∥₁_map run.keeps (λ k.
    keeps_on first_ledger (room_of run.memory) (room_of c.make.new.memory) run.calls.now run.answers.now c.make.new.answers run.made c.make.new.made c.in_ok-call.call.now _ c.make.result run.places at.0 at.1 (room_stays (made.memory.leaves (ledger_of first_ledger run) k.ledger)) made.answers made.made
    (stands g.S.Timetable.meaning run.installation) (stands g.S.Timetable.meaning c.make.new.installation) made.does.obeys k)

pub returns : goal.returns
returns g c =
    let made = c.make.ensures in
    let at = c.in_ok-call.ensures.lookup in
    ∥∥₁_map c.args.self.now.keeps
    (makes_next g.S.Timetable.meaning g.S.Store.becomes first_ledger c.args.self.now _ c.in_ok-call.call.now _ c.make.result
    at.0 at.1 (record { calls = refl; made = made.made; answers = made.answers; lender = refl }) made.does made.memory)
