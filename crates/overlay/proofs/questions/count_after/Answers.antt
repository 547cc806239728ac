use Rattle.std.proofs.Common.{◌≡◌, ℕ, ◌+◌, ◌-◌, ◌≤◌, cond, length, get_or, take, is_some, sym, refl, ap, ◌∙◌, arith}
use Rattle.std.proofs.lemmas.List.{take_all}
use Rattle.std.proofs.lemmas.Bool.{cond-true, cond-false}
use Rattle.schedule.specs.Transactions.{changed_key}
use Rattle.timetable.specs.Timetables.{schedule_of}
use Rattle.overlay.specs.Overlays.{done_all, leaves}
use Rattle.overlay.proofs.Lasts.{no_change}
use Rattle.overlay.proofs.Dones.{some_there}
use Rattle.overlay.proofs.Counts.{count_more}
use Rattle.overlay.proofs.questions.count_after.Goals as goal
use Rattle.overlay.proofs.questions.count_after.Goals.{then-sets+then-not-before, then-sets+else-not-before, else-sets+then-before, else-sets+else-before}

pub loop-i-init : goal.loop-i-init
loop-i-init g c =
    let a = c.count.ensures.value in
    let e : length (g.S.Timetable.meaning c.count.new.self).map ≡ length (g.S.Timetable.meaning c.args.store.now).map = ap (λ s. length (g.S.Timetable.meaning s).map) c.count.ensures.same in
    let f : length (g.S.Timetable.meaning c.capacity.new.self).map ≡ length (g.S.Timetable.meaning c.count.new.self).map = ap (λ s. length (g.S.Timetable.meaning s).map) c.capacity.ensures.same in
    let b = c.capacity.ensures.within in
    let d = c.capacity.ensures.bounded in
    let h = c.min-count.ensures in
    (omega arith, refl, omega arith)

pub overflow_add-count : goal.overflow_add-count
overflow_add-count g c = let few = c.args.changes.now.few in let t = c.loop-i-test.true in let i = c.loop-i.invariant.2 in omega arith

pub overflow_sub-count : goal.overflow_sub-count
overflow_sub-count g c =
    let m = (g.S.Timetable.meaning c.loop-i.store).map in
    let there = some_there (done_all m (take c.loop-i.i c.args.changes.now.list.now)) c.key.result (sym (c.has_after-before.ensures.value ∙ ap (λ cs. is_some (schedule_of (done_all m cs) c.key.result)) c.first.ensures) ∙ c.if-before.true) in
    let n : c.loop-i.count ≡ length (done_all m (take c.loop-i.i c.args.changes.now.list.now)) = c.loop-i.invariant.0 ∙ ap (λ s. length (done_all (g.S.Timetable.meaning s).map (take c.loop-i.i c.args.changes.now.list.now))) (sym c.loop-i.invariant.1) in
    more c.loop-i.count (λ z. there (sym n ∙ z))
  where
    more : (n : ℕ) → (n ≡ 0 → ⊥) → 1 ≤ n
    more n h = omega arith

pub loop-i-preserved : goal.loop-i-preserved
loop-i-preserved g c =
    let cs = c.args.changes.now.list.now in
    let i = c.loop-i.i in
    let n = c.loop-i.count in
    let r = c.has_after-before.result in
    let m = (g.S.Timetable.meaning c.capacity.new.self).map in
    let is = g.met.S.Timetable.is_map c.capacity.new.self in
    let there : r ≡ is_some (schedule_of (done_all m (take i cs)) (changed_key (get_or cs i no_change))) =
    c.has_after-before.ensures.value
    ∙ ap (λ cs. is_some (schedule_of (done_all (g.S.Timetable.meaning c.loop-i.store).map cs) c.key.result)) c.first.ensures
    ∙ ap (λ s. is_some (schedule_of (done_all (g.S.Timetable.meaning s).map (take i cs)) c.key.result)) c.loop-i.invariant.1
    ∙ ap (λ k. is_some (schedule_of (done_all m (take i cs)) k)) c.key.ensures in
    let b : c.sets.result ≡ is_some (leaves (get_or cs i no_change)) = c.sets.ensures in
    let e : c.if-sets.count ≡ cond (is_some (leaves (get_or cs i no_change))) (cond r n (n + 1)) (cond r (n - 1) n) =
    elim c.if-sets.branch [
      | then-sets+then-not-before w ↦ w.count-is ∙ sym (cond-true _ _ _ (sym b ∙ w.if-sets.true) ∙ cond-false r _ _ w.if-not-before.true)
      | then-sets+else-not-before w ↦ w.count-is ∙ sym (cond-true _ _ _ (sym b ∙ w.if-sets.true) ∙ cond-true r _ _ w.if-not-before.false)
      | else-sets+then-before w ↦ w.count-is ∙ sym (cond-false _ _ _ (sym b ∙ w.if-sets.false) ∙ cond-true r _ _ w.if-before.true)
      | else-sets+else-before w ↦ w.count-is ∙ sym (cond-false _ _ _ (sym b ∙ w.if-sets.false) ∙ cond-false r _ _ w.if-before.false)
    ] in
    let few : c.if-sets.count ≤ 65535 + (c.loop-i.i + 1) =
    (let i = c.loop-i.invariant.2 in
    elim c.if-sets.branch [
      | then-sets+then-not-before w ↦ omega (arith, w.count-is)
      | then-sets+else-not-before w ↦ omega (arith, w.count-is)
      | else-sets+then-before w ↦ omega (arith, w.count-is)
      | else-sets+else-before w ↦ omega (arith, w.count-is)
    ]) in
    (count_more m cs i n c.if-sets.count r c.loop-i-test.true is c.args.changes.now.lawful there c.loop-i.invariant.0 e, c.has_after-before.ensures.same ∙ c.loop-i.invariant.1, few)

pub returns : goal.returns
returns g c =
    let same = c.capacity.ensures.same ∙ c.count.ensures.same in
    let all = take_all c.loop-i.i c.args.changes.now.list.now c.loop-i-test.false in
    record {
      value =
          c.loop-i.invariant.0
          ∙ ap (λ s. length (done_all (g.S.Timetable.meaning s).map (take c.loop-i.i c.args.changes.now.list.now))) same
          ∙ ap (λ cs. length (done_all (g.S.Timetable.meaning c.args.store.now).map cs)) all;
      same = c.loop-i.invariant.1 ∙ same;
    }
