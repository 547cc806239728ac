use Rattle.std.proofs.Common.{◌≡◌, ℕ, ◌<◌, length, sym, refl, ◌∙◌, subst, arith}
use Rattle.ordered.specs.Tables.{items, room}
use Rattle.board.specs.Filling.{Added}
use Rattle.board.proofs.Adds.{added_none, room_for}
use Rattle.board.proofs.Rests.{grown_none, grown_more}
use Rattle.board.proofs.fill.add_calls.Goals as goal

pub loop-place-init : goal.loop-place-init
loop-place-init c = (added_none _ _ _, refl, grown_none _)

pub add_call-requires : goal.add_call-requires
add_call-requires c = record {
  room = λ at. subst (λ (n : ℕ). length (items c.loop-place.lines) < n) (sym c.loop-place.invariant.1)
      (room_for c.args.station.now c.args.fields.now c.loop-place.place (room c.args.lines.now) c.args.fields.now.count (items c.args.lines.now) (items c.loop-place.lines) c.loop-place.invariant.0 (omega arith) c.requires.room at);
}

pub loop-place-preserved : goal.loop-place-preserved
loop-place-preserved c = (
  c.add_call.ensures.added (items c.args.lines.now) c.loop-place.invariant.0 c.requires.fresh,
  c.add_call.ensures.grown.rest.slots ∙ c.loop-place.invariant.1,
  grown_more _ _ _ c.loop-place.invariant.2 c.add_call.ensures.grown,
)

pub returns : goal.returns
returns c = record {
  added = (let e : c.loop-place.place ≡ c.args.fields.now.count = (let k = c.loop-place.auto.place-end in let t = c.loop-place-test.false in omega arith) in
      subst (λ (n : ℕ). Added c.args.station.now c.args.fields.now n (items c.args.lines.now) (items c.loop-place.lines)) e c.loop-place.invariant.0);
  grown = c.loop-place.invariant.2;
}
