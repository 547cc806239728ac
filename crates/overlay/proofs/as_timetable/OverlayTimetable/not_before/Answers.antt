use Rattle.std.proofs.Common.{◌||◌, List, ap, subst}
use Rattle.schedule.specs.declared.transaction.Change.{Change}
use Rattle.timetable.specs.Laws.{LeastOf}
use Rattle.overlay.specs.Overlays.{pending_in}
use Rattle.overlay.specs.Leasts.{is_untouched, is_set}
use Rattle.overlay.proofs.Leasts.{overlay_least}
use Rattle.overlay.proofs.as_timetable.OverlayTimetable.not_before.Goals as goal

pub returns : goal.returns
returns g c =
    let m = (g.S.Timetable.meaning c.args.self.now.store).map in
    let cs = pending_in c.args.self.now.pending in
    let is = g.met.S.Timetable.is_map c.args.self.now.store in
    let lawful = c.args.self.now.pending.lawful in
    let kept : LeastOf (is_untouched m cs) c.args.probe c.first_untouched-kept.result =
    subst (λ (xs : List Change). LeastOf (is_untouched m xs) c.args.probe c.first_untouched-kept.result) c.as_slice.ensures c.first_untouched-kept.ensures.least in
    let all : LeastOf (λ k. is_untouched m cs k || is_set cs k) c.args.probe c.least_set.result =
    subst (λ (xs : List Change). LeastOf (λ k. is_untouched m cs k || is_set xs k) c.args.probe c.least_set.result) c.as_slice-2.ensures (c.least_set.ensures (is_untouched m cs) kept) in
    record {
      value = overlay_least m cs c.args.probe c.least_set.result is lawful all;
      same = ap (λ s. record { store = s; pending = c.args.self.now.pending }) c.first_untouched-kept.ensures.same;
    }
