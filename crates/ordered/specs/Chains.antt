-- Slots become themselves by no puts and removals, and by more of them what these make of what they were.
use Rattle.std.proofs.Common.{Bool, List, [], ◌++◌, refl, sym, ap, ◌∙◌, fold}
use Rattle.std.proofs.lemmas.List.Sums.{fold-append}
use Rattle.ordered.specs.declared.slots.Slots.{Slots}
use Rattle.ordered.specs.Edits.{Edit, Contents, contents_of, after_edit, Edited}

module _ {E K : Type 0} (before : K → K → Bool) (key : E → K) (put : List E → E → List E) (removal : List E → K → List E) where
  pub edited_none : (s : Slots E) → Edited before key put removal s [] s
  edited_none s = record { lender = refl; contents = refl }

  pub edited_more : (s t u : Slots E) (cs ds : List (Edit E K)) → Edited before key put removal s cs t → Edited before key put removal t ds u → Edited before key put removal s (cs ++ ds) u
  edited_more s t u cs ds p q = record {
    lender = q.lender ∙ p.lender;
    contents =
        q.contents
        ∙ ap (λ (c : Contents E). fold (after_edit before key put removal) c ds) p.contents
        ∙ sym (fold-append (after_edit before key put removal) (contents_of s) cs ds);
  }
