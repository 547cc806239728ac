-- The laws, from the definitions.
use Rattle.std.proofs.Common.{◌≡◌, Bool, true, false, cond, List, [], ◌∷◌, ◌++◌, take, Some, None, Option, sym, refl, ap, subst, append-nil, arith, MatchOption}
use Rattle.std.proofs.lemmas.List.{take_more_set}
use Rattle.cif.specs.declared.refusal.ColumnFault.{ColumnFault}
use Rattle.cif.specs.Refusals.{TableLine, uppermost}
use Rattle.schedule.specs.Records.{kept_calls}
use Rattle.schedule.specs.Building.{is_kept, adds_call, with_call}
use Rattle.overlay.specs.Overlays.{with_done}
use Rattle.overlay.specs.Permitted.{EachMayBeDone}
use Rattle.overlay.proofs.Permitted.{each_take, each_within}
use Rattle.extract.specs.Progress.{Progress, transactions_of}
use Rattle.controller.specs.Laws.{OverlayIsOfRows, PendingMayBeDone, PendingFits, none_holds, IsUppermost, UppermostIsTold, CallsInRowOrder}

pub of_rows : OverlayIsOfRows
of_rows store rows p a = ap (λ q. with_done store q.changes) a.progress

pub permitted : PendingMayBeDone
permitted store rows p a = subst (λ (q : Progress). EachMayBeDone store q.changes) a.progress a.pending

pub fitting : PendingFits
fitting store rows p a k = each_within store (take k (transactions_of rows)) a.is_map a.within (each_take store k (transactions_of rows) (permitted store rows p a))

pub told_uppermost : UppermostIsTold
told_uppermost [] = refl
told_uppermost ((f, true) ∷ ls) = record { above = []; below = ls; stands = refl; first = refl }
told_uppermost ((f, false) ∷ ls) = of (uppermost ls) (told_uppermost ls)
  where
    of : (o : Option ColumnFault) → MatchOption o (none_holds ls ≡ true) (λ f. IsUppermost ls f) → MatchOption o (none_holds ((f, false) ∷ ls) ≡ true) (λ g. IsUppermost ((f, false) ∷ ls) g)
    of None h = h
    of (Some g) h = record { above = (f, false) ∷ h.above; below = h.below; stands = ap (λ (xs : List TableLine). (f, false) ∷ xs) h.stands; first = h.first }

pub in_row_order : CallsInRowOrder
in_row_order r l long room runs = of (is_kept l) refl
  where
    of : (kept : Bool) → is_kept l ≡ kept → kept_calls (with_call r l) ≡ kept_calls r ++ cond kept (l ∷ []) []
    of true e = (let adds : adds_call r l ≡ true = rw (runs, e) refl in rw adds (take_more_set r.calls r.count l (omega arith)))
    of false e = (let adds : adds_call r l ≡ false = rw (runs, e) refl in rw adds (sym (append-nil (kept_calls r))))
