use Rattle.std.proofs.Common.{◌≡◌, map, Some, ◌-◌, ◌<◌, length, refl, ap, sym, ◌∙◌, suc, arith}
use Rattle.std.specs.Vec.{vec_len}
use Rattle.scripts.specs.Lines.{meaning_of}
use Rattle.scripts.specs.Histories.{history_of, histories_after, with_other, with_call}
use Rattle.scripts.specs.Steps.{call_of}
use Rattle.scripts.proofs.Taking.{changed_last, no_change, begins_other, other_stands}
use Rattle.scripts.proofs.reading.take.Goals as goal

pub returns-in_default-clause-refused : goal.returns-in_default-clause-refused
returns-in_default-clause-refused c =
    let hs = c.args.histories.now in
    let some : 0 < vec_len hs = c.in-Some.ensures.variant.0 refl in
    let long : vec_len hs ≡ length hs.items = hs.ok.0 in
    let last : length hs.items ≡ suc (vec_len hs - 1) = omega arith in
    ap (λ s. histories_after (map history_of hs.items) (meaning_of s)) c.in-Other.is
    ∙ no_change with_other hs.items (vec_len hs - 1) c.in-Some.history.now last (sym c.in-Some.ensures.value) (other_stands c.in-Some.history.now c.if-is_none.ensures)

pub returns-in-Some-clause-taken : goal.returns-in-Some-clause-taken
returns-in-Some-clause-taken c =
    let hs = c.args.histories.now in
    let some : 0 < vec_len hs = c.in-Some.ensures.variant.0 refl in
    let long : vec_len hs ≡ length hs.items = hs.ok.0 in
    let last : length hs.items ≡ suc (vec_len hs - 1) = omega arith in
    ap (λ s. histories_after (map history_of hs.items) (meaning_of s)) c.in-Other.is
    ∙ changed_last with_other hs.items (vec_len hs - 1) c.in-Some.history.now _ last (sym c.in-Some.ensures.value) (begins_other c.in-Some.history.now c.new-in-Some.result c.if-is_none.ensures c.new-in-Some.ensures.items)

pub returns-in_ok-push-in-Some-last_mut-clause-taken : goal.returns-in_ok-push-in-Some-last_mut-clause-taken
returns-in_ok-push-in-Some-last_mut-clause-taken c =
    let hs = c.args.histories.now in
    let some : 0 < vec_len hs = c.in-Some-last_mut.ensures.variant.0 refl in
    let long : vec_len hs ≡ length hs.items = hs.ok.0 in
    let last : length hs.items ≡ suc (vec_len hs - 1) = omega arith in
    ap (λ s. histories_after (map history_of hs.items) (meaning_of s)) c.in-Step.is
    ∙ changed_last (λ h. Some (with_call (call_of c.in-Step.step) h)) hs.items (vec_len hs - 1) c.in-Some-last_mut.history.now _ last (sym c.in-Some-last_mut.ensures.value) (ap (λ t. Some t) (sym c.in_ok-push-in-Some-last_mut.ensures.history))
