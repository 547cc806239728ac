use Rattle.std.proofs.Common.{◌≡◌, ℕ, ◌<◌, false, length, subst, rules}
use Rattle.schedule.specs.Records.{is_cancellation}
use Rattle.schedule.proofs.Calls.{call_valid}
use Rattle.schedule.proofs.schedule.Schedule.with_call.Goals as goal

pub invariant_of-result : goal.invariant_of-result
invariant_of-result c =
    let long : length c.args.self.fields.calls ≡ 48 = search rules in
    let runs : is_cancellation c.args.self.fields.key.stp ≡ false = search rules in
    record { valid = call_valid c.args.self.fields c.args.location c.args.self.valid runs long c.if-count-ge-CALLS.false (subst (λ (n : ℕ). n < 2) c.visits_of.ensures c.if-visits_of-ge2.false) }
