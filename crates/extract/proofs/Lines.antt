-- Tables of refusals, one after another.
use Rattle.std.proofs.Common.{◌≡◌, true, false, List, [], ◌∷◌, ◌++◌, Some, None, Option, sym, refl, ap, ◌∙◌}
use Rattle.cif.specs.declared.refusal.ColumnFault.{ColumnFault}
use Rattle.cif.specs.Refusals.{TableLine, uppermost}

-- the first table's fault, or the second's
abbrev pub or_next : Option ColumnFault → Option ColumnFault → Option ColumnFault
or_next (Some f) o = Some f
or_next None o = o

pub uppermost_both : (xs ys : List TableLine) → uppermost (xs ++ ys) ≡ or_next (uppermost xs) (uppermost ys)
uppermost_both [] ys = refl
uppermost_both ((f, true) ∷ xs) ys = refl
uppermost_both ((f, false) ∷ xs) ys = uppermost_both xs ys

pub first_told : (xs ys : List TableLine) (f : ColumnFault) → uppermost xs ≡ Some f → uppermost (xs ++ ys) ≡ Some f
first_told xs ys f h = uppermost_both xs ys ∙ ap (λ o. or_next o (uppermost ys)) h

pub next_told : (xs ys : List TableLine) → uppermost xs ≡ None → uppermost (xs ++ ys) ≡ uppermost ys
next_told xs ys h = uppermost_both xs ys ∙ ap (λ o. or_next o (uppermost ys)) h

-- where no line of two tables holds, none of the first and none of the second does
pub none_first : (xs ys : List TableLine) → uppermost (xs ++ ys) ≡ None → uppermost xs ≡ None
none_first xs ys h = of (uppermost xs) (sym (uppermost_both xs ys) ∙ h)
  where
    of : (o : Option ColumnFault) → or_next o (uppermost ys) ≡ None → o ≡ None
    of None e = refl
    of (Some f) e = e
