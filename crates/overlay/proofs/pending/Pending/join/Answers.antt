use Rattle.std.proofs.Common.{◌≡◌, ◌<◌, length, take, ap, ◌∙◌, arith}
use Rattle.std.proofs.lemmas.List.{take_more_set, length-set, length-take-le}
use Rattle.schedule.specs.Transactions.{every_lawful}
use Rattle.overlay.proofs.Lawful.{lawful_push}
use Rattle.overlay.proofs.pending.Pending.join.Goals as goal

pub invariant_of-self : goal.invariant_of-self
invariant_of-self c =
    let long : length c.args.self.now.slots ≡ 32 = c.args.self.now.long in
    let n = length-take-le c.args.self.now.len c.args.self.now.slots (let few = c.args.self.now.few in omega arith) in
    let room = c.requires in
    let within : c.args.self.now.len < length c.args.self.now.slots = omega arith in
    record {
      long = length-set c.args.self.now.slots c.args.self.now.len c.into.result ∙ long;
      few = omega arith;
      lawful = ap every_lawful (take_more_set c.args.self.now.slots c.args.self.now.len c.into.result within)
          ∙ lawful_push (take c.args.self.now.len c.args.self.now.slots) c.into.result c.args.self.now.lawful c.into.ensures.1;
    }
