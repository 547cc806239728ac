-- The last transaction on a key, and what it leaves there.
use Rattle.std.proofs.Common.{◌≡◌, Bool, true, false, cond, List, [], ◌∷◌, Some, None, Option, sym, refl, ap, ◌∙◌}
use mathlib.Core.List.{reverse}
use Rattle.std.specs.List.{find}
use Rattle.std.specs.Option.{option_or}
use Rattle.std.proofs.lemmas.List.{reverse-append}
use Rattle.std.proofs.lemmas.List.Folds.{find-append}
use Rattle.forms.specs.declared.end.End.TheVariants.{Day}
use Rattle.forms.specs.declared.letters.Stp.TheVariants.{Cancellation}
use Rattle.schedule.specs.declared.key.Key.{Key}
use Rattle.schedule.specs.declared.transaction.Change.{Change}
use Rattle.schedule.specs.declared.transaction.Change.TheVariants.{New}
use Rattle.overlay.specs.Overlays.{is_on, last_from, last_on}

-- what a read past the end would give
abbrev pub no_change : Change
no_change =
    New (record {
      key = record { uid = 0; from = 0; stp = Cancellation };
      to = Day 0;
      days = [];
      train = [];
      operator = [];
      destination = [];
      calls = [];
      count = 0;
    })

either : (x : Option Change) (b : Bool) (c : Change) (o : Option Change) → option_or x (cond b (Some c) o) ≡ option_or (option_or x (cond b (Some c) None)) o
either (Some d) b c o = refl
either None true c o = refl
either None false c o = refl

from_end : (k : Key) (o : Option Change) (cs : List Change) → last_from k o cs ≡ option_or (find (is_on k) (reverse cs)) o
from_end k o [] = refl
from_end k o (c ∷ cs) =
    from_end k (cond (is_on k c) (Some c) o) cs
    ∙ either (find (is_on k) (reverse cs)) (is_on k c) c o
    ∙ ap (λ (x : Option Change). option_or x o) (sym (ap (find (is_on k)) (reverse-append (c ∷ []) cs) ∙ find-append (is_on k) (reverse cs) (c ∷ [])))

-- the last on a key is the first from the end
pub last_is : (k : Key) (cs : List Change) → find (is_on k) (reverse cs) ≡ last_on k cs
last_is k cs = sym (from_end k None cs ∙ whole (find (is_on k) (reverse cs)))
  where
    whole : (x : Option Change) → option_or x None ≡ x
    whole (Some c) = refl
    whole None = refl
