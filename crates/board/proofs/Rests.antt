-- Slots past the lines keep what they had.
use Rattle.std.proofs.Common.{◌≡◌, ℕ, ◌+◌, ◌-◌, ◌≤◌, List, drop, sym, refl, ap, ◌∙◌, drop-drop, arith}
use Rattle.ordered.specs.declared.slots.Slots.{Slots}
use Rattle.ordered.specs.Tables.{RestKept}
use Rattle.board.specs.declared.line.Line.{Line}
use Rattle.board.specs.Filling.{Grown}

drop_later : (xs ys : List Line) (n m : ℕ) → n ≤ m → drop n xs ≡ drop n ys → drop m xs ≡ drop m ys
drop_later xs ys n m l e =
    let k : n + (m - n) ≡ m = omega arith in
    sym (drop-drop (m - n) n xs ∙ ap (λ i. drop i xs) k) ∙ (ap (drop (m - n)) e ∙ (drop-drop (m - n) n ys ∙ ap (λ i. drop i ys) k))

-- and more of them
pub rest_more : (s t u : Slots Line) → RestKept s t → Grown t u → RestKept s u
rest_more s t u r g = record { rest = g.rest.rest ∙ drop_later t.slots.now s.slots.now t.len u.len g.longer r.rest; slots = g.rest.slots ∙ r.slots; lender = g.rest.lender ∙ r.lender }

pub grown_none : (s : Slots Line) → Grown s s
grown_none s = record { rest = record { rest = refl; slots = refl; lender = refl }; longer = omega arith }

pub grown_more : (s t u : Slots Line) → Grown s t → Grown t u → Grown s u
grown_more s t u a b = record { rest = rest_more s t u a.rest b; longer = (let x = a.longer in let y = b.longer in omega arith) }
