-- The rows and places of a page, one after another.
use Rattle.std.proofs.Common.{◌≡◌, ℕ, List, [], ◌∷◌, ◌++◌, ◌+◌, ◌*◌, ◌/◌, ◌<◌, length, map, min, take, drop, flat_map, sym, ap, ◌∙◌, append-nil, length-drop, arith}
use Rattle.std.proofs.lemmas.List.{drop-drop}
use Rattle.std.proofs.lemmas.Grind.{common_steps, flat_map-append}
use Rattle.std.proofs.lemmas.List.FromFn.{map-range_with_len_more}
use Rattle.std.proofs.lemmas.List.{map-id}
use Rattle.std.specs.List.{range_with_len}

-- one more number
range_more : (k : ℕ) → range_with_len 0 (k + 1) ≡ range_with_len 0 k ++ k ∷ []
range_more k = simp map-id at (map-range_with_len_more (λ n. n) 0 k k (omega arith))

-- the text of one more number
pub text_more : (f : ℕ → List ℕ) (k : ℕ) → flat_map f (range_with_len 0 k) ++ f k ≡ flat_map f (range_with_len 0 (k + 1))
text_more f k = sym (ap (flat_map f) (range_more k) ∙ flat_map-append f (range_with_len 0 k) (k ∷ []) ∙ ap (λ l. flat_map f (range_with_len 0 k) ++ l) (append-nil (f k)))

-- the text of one more row
pub rows_more : (g : List ℕ → List ℕ) (f : ℕ → List ℕ) (k : ℕ) → flat_map g (map f (range_with_len 0 k)) ++ g (f k) ≡ flat_map g (map f (range_with_len 0 (k + 1)))
rows_more g f k =
    sym (ap (flat_map g) (map-range_with_len_more f 0 k k (omega arith)) ∙ flat_map-append g (map f (range_with_len 0 k)) (f k ∷ []) ∙ ap (λ l. flat_map g (map f (range_with_len 0 k)) ++ l) (append-nil (g (f k))))

-- a chunk is what is taken of a list, and what is behind it is the rest
module _ (size : ℕ) (left row rest : List ℕ) where
  pub chunk_is : left ≡ row ++ rest → length row ≡ min size (length left) → row ≡ take size left
  chunk_is e n = grind (arith, common_steps)

  pub rest_is : left ≡ row ++ rest → length row ≡ min size (length left) → rest ≡ drop size left
  rest_is e n = grind (arith, common_steps)

-- what is left behind a row
pub behind_row : (k : ℕ) (page : List ℕ) → drop 24 (drop (24 * k) page) ≡ drop (24 * (k + 1)) page
behind_row k page =
    let places : 24 * k + 24 ≡ 24 * (k + 1) = omega arith in
    drop-drop 24 (24 * k) page ∙ ap (λ n. drop n page) places

-- a row more ends less than 24 places past the page, where something was left
pub within_more : (k : ℕ) (page : List ℕ) → 0 < length (drop (24 * k) page) → 24 * (k + 1) < length page + 24
within_more k page some = omega (arith, length-drop (24 * k) page)

-- how many rows there are, once nothing is left
pub row_count : (k : ℕ) (page : List ℕ) → length (drop (24 * k) page) ≡ 0 → 24 * k < length page + 24 → (length page + 23) / 24 ≡ k
row_count k page none within = omega (arith, length-drop (24 * k) page)
