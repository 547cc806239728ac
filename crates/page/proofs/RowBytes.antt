-- Rows by their bytes.
use Rattle.std.proofs.Common.{◌≡◌, ℕ, ◌+◌, ◌-◌, ◌/◌, ◌%◌, ◌<◌, min, List, [], ◌∷◌, ◌++◌, length, map, take, drop, get_or, replicate, refl, ap, sym, ◌∙◌, inl, inr, arith}
use Rattle.std.specs.List.{range_with_len}
use Rattle.std.proofs.lemmas.List.{same_lists, get_or_default, length-take, length-drop, length-append, length-replicate, take_min, get_or-take, get_or-drop, get_or-replicate, get_or_append_left, get_or-append_right, get_or_past}
use Rattle.std.proofs.lemmas.Bool.{cases_lt}
use Rattle.std.proofs.lemmas.List.FromFn.{length-map-range_with_len, get_or-map-range_with_len}
use Rattle.page.specs.Rows.{two_digits, hour_minute, columns, row_of, heading_fields}

-- a text of a known length is the list of its bytes
pub text_is : (n : ℕ) (xs : List ℕ) → length xs ≡ n → xs ≡ map (λ k. get_or xs k 32) (range_with_len 0 n)
text_is n xs e =
    same_lists _ _ (e ∙ sym (length-map-range_with_len (λ k. get_or xs k 32) 0 n))
    (λ k d lt.
    get_or_default xs k d 32 lt
    ∙ sym (get_or-map-range_with_len (λ k. get_or xs k 32) 0 n k k d (omega arith) (omega arith)))

-- a row with a text put at a place
abbrev pub with_text : List ℕ → ℕ → List ℕ → List ℕ
with_text row place text = take place row ++ text ++ drop (place + length text) row

-- the texts of a line put into a blank row give its row
pub line_row_is :
    (minute : ℕ) (destination platform operator train : List ℕ) → length destination ≡ 7 → length platform ≡ 3 → length operator ≡ 2 → length train ≡ 4
    → (a b c d e f : List ℕ)
    → a ≡ with_text (replicate 24 32) 0 (two_digits (minute / 60))
    → b ≡ with_text a 2 (two_digits (minute % 60))
    → c ≡ with_text b 5 destination
    → d ≡ with_text c 13 platform
    → e ≡ with_text d 17 operator
    → f ≡ with_text e 20 train
    → f ≡ row_of (columns 1 4 (hour_minute minute) ∷ columns 6 12 destination ∷ columns 14 16 platform ∷ columns 18 19 operator ∷ columns 21 24 train ∷ [])
line_row_is minute destination platform operator train e7 e3 e2 e4 a b c d e f pa pb pc pd pe pf =
    rw (pf, pe, pd, pc, pb, pa, text_is 7 destination e7, text_is 3 platform e3, text_is 2 operator e2, text_is 4 train e4)

-- a text cut at a length, with blanks behind it up to that length
pub padded : (n : ℕ) (text : List ℕ) → take n text ++ drop (length (take n text)) (replicate n 32) ≡ map (λ k. get_or text k 32) (range_with_len 0 n)
padded n text =
    let front : List ℕ = take n text in
    let blanks : List ℕ = replicate n 32 in
    let most = length-take n text in
    let all : length blanks ≡ n = length-replicate n 32 in
    let rest = length-drop (length front) blanks in
    same_lists (front ++ drop (length front) blanks) (map (λ k. get_or text k 32) (range_with_len 0 n))
    (length-append front (drop (length front) blanks) ∙ (let z : length front + length (drop (length front) blanks) ≡ n = omega arith in z) ∙ sym (length-map-range_with_len (λ k. get_or text k 32) 0 n))
    (λ k d lt.
    let within : k < n = omega (arith, length-append front (drop (length front) blanks)) in
    (elim (cases_lt k (length front)) [
      | inl h ↦
          get_or_append_left front (drop (length front) blanks) d k h
          ∙ get_or-take n text k d within
          ∙ get_or_default text k d 32 (omega arith)
      | inr h ↦
          get_or-append_right front (drop (length front) blanks) (length front) k d refl h
          ∙ get_or-drop (length front) blanks (k - length front) d
          ∙ get_or-replicate n (length front + (k - length front)) 32 d (omega arith)
          ∙ sym (get_or_past text k 32 (omega arith))
    ])
    ∙ sym (get_or-map-range_with_len (λ k. get_or text k 32) 0 n k k d within (omega arith)))

-- a heading put into a blank row gives its row
pub heading_row_is : (heading : List ℕ) (k : ℕ) (row : List ℕ) → k ≡ min (length heading) 24 → row ≡ with_text (replicate 24 32) 0 (take k heading) → row ≡ row_of (heading_fields heading)
heading_row_is heading k row e r =
    let least : k ≡ min 24 (length heading) = omega arith in
    let same : take k heading ≡ take 24 heading = ap (λ n. take n heading) least ∙ take_min 24 heading in
    r ∙ ap (with_text (replicate 24 32) 0) same ∙ ap (λ n. take 24 heading ++ drop n (replicate 24 32)) (let z : 0 + length (take 24 heading) ≡ length (take 24 heading) = omega arith in z) ∙ padded 24 heading
