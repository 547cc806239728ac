use Rattle.std.proofs.Common.{true, is_ok, length, nat_lt, set, ap, ◌∙◌, subst}
use Rattle.std.specs.List.{insert}
use Rattle.std.proofs.lemmas.Result.{on_ok_weaker, on_err_weaker}
use Rattle.ordered.specs.Tables.{items, room, RestKept}
use Rattle.ordered.proofs.Edited.{put_edited}
use Rattle.ordered.proofs.Changes.{put_hit, hit_rises, put_miss, miss_rises}
use Rattle.ordered.proofs.Laws.{lawful}
use Rattle.ordered.proofs.Whole.{same_ordered}
use Rattle.ordered.proofs.table.OrderedMapped.put.Goals as goal

pub invariant_of-self : goal.invariant_of-self
invariant_of-self g c =
    let up = c.args.self.now.rising in
    record { rising = hit_rises (lawful g.met.E.Key.KeyOrder) _ _ _ _ _ c.key.ensures (c.in-Ok.ensures.place up) (c.set.ensures.items ∙ ap (λ s. set (items s) c.in-Ok.place c.args.entry) c.in-Ok.ensures.same) up }

pub invariant_of-self-in-Err : goal.invariant_of-self-in-Err
invariant_of-self-in-Err g c =
    let up = c.args.self.now.rising in
    let same = c.in-Err.ensures.same in
    record {
      rising = miss_rises (lawful g.met.E.Key.KeyOrder) _ _ _ _ _ _ _ up c.key.ensures (c.in-Err.ensures.place up) (c.insert.ensures.done ∙ ap (λ s. nat_lt (length (items s)) (room s)) same)
          (on_ok_weaker c.insert.result (λ e. e ∙ ap (λ s. insert (items s) c.in-Err.place c.args.entry) same) c.insert.ensures.items) (on_err_weaker c.insert.result (λ e. ap items (e ∙ same)) c.insert.ensures.unchanged);
    }

pub returns-in-Ok-clause-put : goal.returns-in-Ok-clause-put
returns-in-Ok-clause-put g c =
    put_hit (lawful g.met.E.Key.KeyOrder) _ _ _ _ _ _ c.key.ensures (c.in-Ok.ensures.place c.args.self.now.rising)
    (c.set.ensures.items ∙ ap (λ s. set (items s) c.in-Ok.place c.args.entry) c.in-Ok.ensures.same)

pub returns-in-Err-clause-put : goal.returns-in-Err-clause-put
returns-in-Err-clause-put g c =
    let up = c.args.self.now.rising in
    let same = c.in-Err.ensures.same in
    put_miss (lawful g.met.E.Key.KeyOrder) _ _ _ _ _ _ _ up c.key.ensures (c.in-Err.ensures.place up) (c.insert.ensures.done ∙ ap (λ s. nat_lt (length (items s)) (room s)) same)
    (on_ok_weaker c.insert.result (λ e. e ∙ ap (λ s. insert (items s) c.in-Err.place c.args.entry) same) c.insert.ensures.items) (on_err_weaker c.insert.result (λ e. ap items (e ∙ same)) c.insert.ensures.unchanged)

pub returns-in-Err-clause-unchanged : goal.returns-in-Err-clause-unchanged
returns-in-Err-clause-unchanged g c = on_err_weaker c.insert.result (λ e. same_ordered _ _ (e ∙ c.in-Err.ensures.same)) c.insert.ensures.unchanged

pub returns-in-Ok-clause-edited : goal.returns-in-Ok-clause-edited
returns-in-Ok-clause-edited g c =
    let put = returns-in-Ok-clause-put g c in
    put_edited _ _ _ _ _ _ (subst (λ s. RestKept s c.set.new.self) c.in-Ok.ensures.same c.set.ensures.rest) c.args.entry true put.done put.gives

pub returns-in-Err-clause-edited : goal.returns-in-Err-clause-edited
returns-in-Err-clause-edited g c =
    let put = returns-in-Err-clause-put g c in
    put_edited _ _ _ _ _ _ (subst (λ s. RestKept s c.insert.new.self) c.in-Err.ensures.same c.insert.ensures.rest) c.args.entry (is_ok c.insert.result) put.done put.gives
