use Rattle.std.proofs.Common.{refl, take}
use Rattle.runs.specs.Calls.{first_ledger, entries}
use Rattle.runs.specs.Runs.{state_of, calls_of}
use Rattle.runs.proofs.Ledgers.{same_boards, no_map}
use Rattle.runs.proofs.Pairs.{on_left, on_right, from_three}
use Rattle.runs.proofs.pair.Pair.call_next.Goals as goal

pub returns-in-Left : goal.returns-in-Left
returns-in-Left g c =
    let left = c.call_next.new.self in
    let right = c.args.self.now.right in
    from_three c.call_next.ensures left.keeps right.keeps (λ next k l. record {
      asked = on_left _ c.args.side c.in-Left.is next;
      other = on_left _ c.args.side c.in-Left.is (refl {a = right});
      alike = same_boards (state_of g.S.Timetable.meaning left) (state_of g.T.Timetable.meaning right) first_ledger
          (take left.made (entries (calls_of left) left.answers.now)) (take right.made (entries (calls_of right) right.answers.now)) no_map k.ledger l.ledger;
    })

pub returns-in-Right : goal.returns-in-Right
returns-in-Right g c =
    let left = c.args.self.now.left in
    let right = c.call_next-in-Right.new.self in
    from_three c.call_next-in-Right.ensures left.keeps right.keeps (λ next k l. record {
      asked = on_right _ c.args.side c.in-Right.is next;
      other = on_right _ c.args.side c.in-Right.is (refl {a = left});
      alike = same_boards (state_of g.S.Timetable.meaning left) (state_of g.T.Timetable.meaning right) first_ledger
          (take left.made (entries (calls_of left) left.answers.now)) (take right.made (entries (calls_of right) right.answers.now)) no_map k.ledger l.ledger;
    })
