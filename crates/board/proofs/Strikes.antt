-- What is left of a board when the lines of some trains are struck out.
use Rattle.std.proofs.Common.{◌≡◌, ℕ, Bool, true, false, cond, List, [], ◌∷◌, Some, None, sym, refl, ap, ◌∙◌, ⊎_elim}
use Rattle.std.proofs.lemmas.Bool.{and_parts, and_from, cond_both, cond-true, cond-false, cases_Bool, true≢false, false≢true}
use Rattle.maps.specs.Orders.{same}
use Rattle.maps.specs.Maps.{after, ascending, lookup}
use Rattle.maps.proofs.Maps.{same_maps, same_is}
use Rattle.board.specs.declared.line.LineKey.{LineKey}
use Rattle.board.specs.declared.line.Line.{Line}
use Rattle.board.specs.Lines.{line_before, line_key}
use Rattle.board.specs.Strikes.{lines_without, UnnamedLinesStay}
use Rattle.board.proofs.Boards.{same_look}
use Rattle.board.specs.LineOrders.{line_lawful}
use Rattle.board.proofs.Trains.{train_alone}

module _ (named : ℕ → Bool) where
  struck_after : (k : LineKey) (xs : List Line) → after line_before line_key k xs ≡ true → after line_before line_key k (lines_without named xs) ≡ true
  struck_after k [] h = refl
  struck_after k (x ∷ xs) h =
      let p = and_parts (line_before k (line_key x)) (after line_before line_key k xs) h in
      cond_both (named x.key.uid) (lines_without named xs) (x ∷ lines_without named xs) (λ (ys : List Line). after line_before line_key k ys ≡ true)
      (λ _. struck_after k xs p.1)
      (λ _. and_from (line_before k (line_key x)) _ p.0 (struck_after k xs p.1))

  struck_rises : (xs : List Line) → ascending line_before line_key xs ≡ true → ascending line_before line_key (lines_without named xs) ≡ true
  struck_rises [] h = refl
  struck_rises (x ∷ xs) h =
      let p = and_parts (after line_before line_key (line_key x) xs) (ascending line_before line_key xs) h in
      cond_both (named x.key.uid) (lines_without named xs) (x ∷ lines_without named xs) (λ (ys : List Line). ascending line_before line_key ys ≡ true)
      (λ _. struck_rises xs p.1)
      (λ _. and_from (after line_before line_key (line_key x) (lines_without named xs)) _ (struck_after (line_key x) xs p.0) (struck_rises xs p.1))

  -- a look-up finds what it found before, unless the train is named
  struck_look : (xs : List Line) (q : LineKey) → lookup line_before line_key (lines_without named xs) q ≡ cond (named q.uid) None (lookup line_before line_key xs q)
  struck_look [] q = nothing (named q.uid)
    where
      nothing : (b : Bool) → None ≡ cond b None (lookup line_before line_key [] q)
      nothing true = refl
      nothing false = refl
  struck_look (x ∷ xs) q =
      of (named x.key.uid) (same line_before (line_key x) q) (named q.uid) refl
      (λ t. ap (λ (k : LineKey). named k.uid) (same_is line_before line_key line_lawful (line_key x) q t)) (struck_look xs q)
    where
      of : (n s m : Bool) → s ≡ same line_before (line_key x) q → (s ≡ true → n ≡ m) → lookup line_before line_key (lines_without named xs) q ≡ cond m None (lookup line_before line_key xs q)
          → lookup line_before line_key (cond n (lines_without named xs) (x ∷ lines_without named xs)) q ≡ cond m None (cond s (Some x) (lookup line_before line_key xs q))
      of true true true e f h = h
      of true true false e f h = absurd (true≢false (f refl))
      of true false m e f h = h
      of false true true e f h = absurd (false≢true (f refl))
      of false true false e f h = cond-true (same line_before (line_key x) q) (Some x) (lookup line_before line_key (lines_without named xs) q) (sym e)
      of false false m e f h = cond-false (same line_before (line_key x) q) (Some x) (lookup line_before line_key (lines_without named xs) q) (sym e) ∙ h

pub lines_stay : UnnamedLinesStay
lines_stay m n station day named xs ys alike a b =
    same_maps line_before line_key line_lawful (lines_without named xs) (lines_without named ys) (struck_rises named xs a.ordered) (struck_rises named ys b.ordered)
    (λ q. struck_look named xs q ∙ (⊎_elim
    (λ t. cond-true (named q.uid) None _ t ∙ sym (cond-true (named q.uid) None _ t))
    (λ f. ap (cond (named q.uid) None) (same_look m n station day xs ys a b q
    (λ l e i. train_alone m n station day l.key.uid (λ k u. alike k (ap named (u ∙ ap (λ (j : LineKey). j.uid) e) ∙ f)) l refl i)
    (λ l e i. train_alone n m station day l.key.uid (λ k u. sym (alike k (ap named (u ∙ ap (λ (j : LineKey). j.uid) e) ∙ f))) l refl i)))
    (cases_Bool (named q.uid))
    ∙ sym (struck_look named ys q)))
