use Rattle.std.proofs.Common.{ℕ, List, [], ◌++◌, ◌≡◌, codes, append_assoc, append-nil, refl, true, sym, ap, ◌∙◌, ⊎_elim}
use Rattle.std.proofs.Output.{has_written_of_eq, has_written_append}
use Rattle.cif.specs.declared.content.BasicSchedule.{BasicSchedule}
use Rattle.wording.specs.Rows.{train_text, day_text, kind_text, verb_text, running_text, runs_text, schedule_text}
use Rattle.wording.proofs.rows.ScheduleWordsDisplay.fmt.Goals as goal

in_one : (verb train kind from runs : List ℕ)
    → (verb ++ (codes " schedule: train " ++ (train ++ (codes ", " ++ (kind ++ (codes ", from " ++ from)))))) ++ runs
    ≡ verb ++ codes " schedule: train " ++ train ++ codes ", " ++ kind ++ codes ", from " ++ from ++ runs
in_one verb train kind from runs = simp append_assoc

said : (s : BasicSchedule) (verb kind runs : List ℕ) → verb ≡ verb_text s.action → kind ≡ kind_text s.stp → runs ≡ runs_text s.action
    → (verb ++ (codes " schedule: train " ++ (train_text s.uid ++ (codes ", " ++ (kind ++ (codes ", from " ++ day_text s.from)))))) ++ runs
    ≡ schedule_text s
said s verb kind runs v k r =
    in_one verb (train_text s.uid) kind (day_text s.from) runs
    ∙ (λ i. v i ++ codes " schedule: train " ++ train_text s.uid ++ codes ", " ++ k i ++ codes ", from " ++ day_text s.from ++ r i)

pub returns-in-New-clause-writes : goal.returns-in-New-clause-writes
returns-in-New-clause-writes g c =
    λ plain ok.
    let first = c.in_ok-write.ensures.writes plain (refl {a = true}) in
    let runs = ⊎_elim (λ e. ap runs_text e) (λ e. ap runs_text e) c.in-New.is in
    has_written_of_eq _ _ _ _ _ (said c.args.self.now.0.now _ _ (running_text c.in-New.running) c.verb-verb.ensures c.kind-kind.ensures (sym runs))
    (has_written_append _ _ _ _ _ _ first (c.write_running.ensures first.plain ok))

pub returns-in-Delete-clause-writes : goal.returns-in-Delete-clause-writes
returns-in-Delete-clause-writes g c =
    λ plain ok.
    let first = c.in_ok-write.ensures.writes plain (refl {a = true}) in
    has_written_of_eq _ _ _ _ _
    (sym (append-nil _) ∙ said c.args.self.now.0.now _ _ [] c.verb-verb.ensures c.kind-kind.ensures (sym (ap runs_text c.in-Delete.is)))
    first
