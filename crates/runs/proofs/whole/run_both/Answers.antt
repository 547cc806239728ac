use Rattle.std.proofs.Math.Logic.{∥∥₁_elim, ∥∥₁_map, ∥∥₁_prop}
use Rattle.runs.specs.Calls.{first_ledger, entries}
use Rattle.runs.specs.Runs.{state_of}
use Rattle.runs.specs.WholeRuns.{calls_planned}
use Rattle.runs.proofs.Ledgers.{same_boards, no_map}
use Rattle.runs.proofs.WholeRuns.{both_ok}
use Rattle.runs.proofs.whole.run_both.Goals as goal

pub returns : goal.returns
returns g c =
    ∥∥₁_elim c.run.ensures ∥∥₁_prop (λ left. ∥∥₁_map c.run-2.ensures (λ right. record {
      left = left;
      right = right;
      alike = both_ok c.run.result c.run-2.result _ _ _ _ _
          (λ a b p q. same_boards (state_of g.S.Timetable.meaning a) (state_of g.T.Timetable.meaning b) first_ledger
          (entries (calls_planned c.args.left) a.answers.now) (entries (calls_planned c.args.right) b.answers.now) no_map p.2.keeps q.2.keeps)
          left right;
    }))
