use Rattle.std.proofs.Common.{◌≡◌, ℕ, ◌+◌, map, Err, option_map, ap, sym, ◌∙◌}
use Rattle.std.specs.Iterator.Adapters.{enumerate_source, enumerate_count}
use Rattle.scripts.specs.Lines.{meaning_of}
use Rattle.scripts.specs.Histories.{history_of, lines_of, histories_after_all}
use Rattle.scripts.proofs.Turns.{line_taken, line_refused, line_none}
use Rattle.scripts.proofs.reading.histories_in.Goals as goal
use Rattle.scripts.proofs.reading.histories_in.Goals.{in-Some-2+in_ok-taken-in-Some-2, in-None-2}

pub returns-then-not-taken-clause-unread : goal.returns-then-not-taken-clause-unread
returns-then-not-taken-clause-unread c number e =
    let steps = c.in-Some.ensures.steps in
    let n = enumerate_count c.loop-place.place-iterator + 1 in
    let before = map history_of c.loop-place.histories.items in
    let text = (enumerate_source c.loop-place.place-iterator).rest.now in
    let rest = (enumerate_source c.next.new.self).rest.now in
    let at : n ≡ number = cc in
    elim c.match-branch-2.branch [
      | in-Some-2+in_ok-taken-in-Some-2 w ↦
          let means = sym c.in_ok-read.ensures ∙ ap (option_map meaning_of) w.in-Some-2.is in
          let refused = rw (sym w.taken-is ∙ c.if-not-taken.true) at w.in_ok-taken-in-Some-2.ensures.refused in
          sym c.loop-place.invariant ∙ line_refused n before text c.in-Some.line.now rest _ steps.0.0 steps.0.1 steps.0.2 means refused ∙ ap (λ (k : ℕ). Err k) at
      | in-None-2 w ↦
          let means = sym c.in_ok-read.ensures ∙ ap (option_map meaning_of) w.in-None-2.is in
          sym c.loop-place.invariant ∙ line_none n before text c.in-Some.line.now rest steps.0.0 steps.0.1 steps.0.2 means ∙ ap (λ (k : ℕ). Err k) at
    ]

pub loop-place-preserved : goal.loop-place-preserved
loop-place-preserved c =
    let steps = c.in-Some.ensures.steps in
    let n = enumerate_count c.loop-place.place-iterator + 1 in
    let before = map history_of c.loop-place.histories.items in
    let text = (enumerate_source c.loop-place.place-iterator).rest.now in
    let rest = (enumerate_source c.next.new.self).rest.now in
    elim c.match-branch-2.branch [
      | in-Some-2+in_ok-taken-in-Some-2 w ↦
          let means = sym c.in_ok-read.ensures ∙ ap (option_map meaning_of) w.in-Some-2.is in
          let taken = rw (sym w.taken-is ∙ c.if-not-taken.false) at w.in_ok-taken-in-Some-2.ensures.taken in
          let turn = line_taken n before (map history_of w.take.new.histories.items) text c.in-Some.line.now rest _ steps.0.0 steps.0.1 steps.0.2 means taken in
          ap (λ (k : ℕ). histories_after_all (k + 1) (map history_of c.match-branch-2.histories.items) (lines_of rest)) steps.2
          ∙ ap (λ h. histories_after_all (n + 1) (map history_of h.items) (lines_of rest)) w.histories-is
          ∙ sym turn
          ∙ c.loop-place.invariant
      | in-None-2 w ↦ absurd (cc)
    ]
