-- Lawful transactions: one more at the end, and the last on a key.
use Rattle.std.proofs.Common.{◌≡◌, Bool, true, false, cond, List, [], ◌∷◌, ◌++◌, Some, None, Option, sym, refl, ap, ◌∙◌}
use Rattle.std.proofs.lemmas.Bool.{and_parts, and_from}
use Rattle.maps.specs.Orders.{same}
use Rattle.maps.proofs.Maps.{some_is, some_none}
use Rattle.schedule.specs.declared.key.Key.{Key}
use Rattle.schedule.specs.declared.transaction.Change.{Change}
use Rattle.schedule.specs.Keys.{key_before}
use Rattle.schedule.specs.Transactions.{changed_key, is_lawful, every_lawful}
use Rattle.overlay.specs.Overlays.{last_from, last_on}

-- one more at the end
pub lawful_push : (cs : List Change) (c : Change) → every_lawful cs ≡ true → is_lawful c ≡ true → every_lawful (cs ++ c ∷ []) ≡ true
lawful_push [] c h t = and_from (is_lawful c) true t refl
lawful_push (d ∷ ds) c h t = let p = and_parts (is_lawful d) (every_lawful ds) h in and_from (is_lawful d) _ p.0 (lawful_push ds c p.1 t)

lawful_from : (k : Key) (o : Option Change) (cs : List Change) (c : Change) → every_lawful cs ≡ true → ((d : Change) → o ≡ Some d → is_lawful d ≡ true) → last_from k o cs ≡ Some c → is_lawful c ≡ true
lawful_from k o [] c h t e = t c e
lawful_from k o (x ∷ xs) c h t e =
    let p = and_parts (is_lawful x) (every_lawful xs) h in
    lawful_from k (cond (same key_before (changed_key x) k) (Some x) o) xs c p.1 (either (same key_before (changed_key x) k) p.0) e
  where
    either : (b : Bool) → is_lawful x ≡ true → (d : Change) → cond b (Some x) o ≡ Some d → is_lawful d ≡ true
    either true l d i = ap is_lawful (sym (some_is x d i)) ∙ l
    either false l d i = t d i

-- the last transaction on a key is lawful where all are
pub lawful_last : (k : Key) (cs : List Change) (c : Change) → every_lawful cs ≡ true → last_on k cs ≡ Some c → is_lawful c ≡ true
lawful_last k cs c h e = lawful_from k None cs c h (λ d i. absurd (some_none d (sym i))) e
