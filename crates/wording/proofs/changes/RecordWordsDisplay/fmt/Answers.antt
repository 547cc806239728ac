use Rattle.std.proofs.Common.{ℕ, List, ◌++◌, ◌≡◌, codes, decimal, append_assoc, refl, true}
use Rattle.std.proofs.Output.{has_written_of_eq, has_written_append}
use Rattle.wording.specs.Texts.{text_of, days_text}
use Rattle.wording.specs.Changes.{key_text, to_text}
use Rattle.wording.proofs.changes.RecordWordsDisplay.fmt.Goals as goal

pub returns-clause-writes : goal.returns-clause-writes
returns-clause-writes g c =
    λ plain ok.
    let r = c.args.self.now.0.now in
    let first = c.in_ok-write.ensures.writes plain (refl {a = true}) in
    has_written_of_eq _ _ _ _ _ (in_one (key_text r.key) (to_text r.to) (days_text r.days) (text_of r.train) (text_of r.operator) (text_of r.destination) (decimal r.count))
    (has_written_append _ _ _ _ _ _ first (c.write-2.ensures.writes first.plain ok))
  where
    in_one : (key to days train operator destination calls : List ℕ)
        → (key ++ (codes " " ++ (to ++ (codes ", runs " ++ (days ++ (codes ", identity \"" ++ (train ++ codes "\"")))))))
        ++ (codes ", operator \"" ++ (operator ++ (codes "\", destination \"" ++ (destination ++ (codes "\", calls " ++ calls)))))
        ≡ key ++ codes " " ++ to ++ codes ", runs " ++ days ++ codes ", identity \"" ++ train
        ++ codes "\", operator \"" ++ operator ++ codes "\", destination \"" ++ destination ++ codes "\", calls " ++ calls
    in_one key to days train operator destination calls = simp append_assoc
