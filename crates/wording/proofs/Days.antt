-- The days run, name by name.
use Rattle.std.proofs.Common.{Bor, ◌≡◌, ℕ, Bool, true, false, cond, List, [], ◌∷◌, ◌++◌, ◌-◌, length, map, filter, zip, take, codes, refl, sym, ap, ◌∙◌, ◌⊎◌, inl, inr, append_assoc, append-nil, arith}
use Rattle.std.specs.Fmt.{styled_text, padded, format_spec, take_chars, char_count}
use Rattle.std.proofs.lemmas.Bool.{true≢false, false≢true}
use Rattle.std.specs.List.{join_with_byte}
use Rattle.wording.specs.Texts.{weekdays, days_named}

-- what `{:.3}` writes
pub three_letters : (name : List ℕ) → styled_text (format_spec 32 0 0 0 3) name ≡ take_chars 3 name
unfolding padded
three_letters name =
    let none : 0 - char_count (take_chars 3 name) ≡ 0 = omega arith in
    rw none (append-nil (take_chars 3 name))

-- what the program writes of a weekday
abbrev pub short : Bor (List ℕ) → List ℕ
short name = take_chars 3 name.now

-- what f makes of each word whose day is run
abbrev pub named : {X : Type 0} → (X → List ℕ) → List X → List Bool → List (List ℕ)
named f words days = map (λ day. f day.0) (filter (λ day. day.1) (zip words days))

pub named_run : {X : Type 0} (f : X → List ℕ) (w : X) (words : List X) (d : Bool) (days : List Bool) → d ≡ true → named f (w ∷ words) (d ∷ days) ≡ f w ∷ named f words days
named_run f w words d days run = rw run

pub named_not_run : {X : Type 0} (f : X → List ℕ) (w : X) (words : List X) (d : Bool) (days : List Bool) → d ≡ false → named f (w ∷ words) (d ∷ days) ≡ named f words days
named_not_run f w words d days not_run = rw not_run

-- the words may be made first
pub named_map : {X : Type 0} (f : X → List ℕ) (words : List X) (days : List Bool) → named f words days ≡ named (λ n. n) (map f words) days
named_map f [] days = refl
named_map f (w ∷ words) [] = refl
named_map f (w ∷ words) (true ∷ days) = ap (λ l. f w ∷ l) (named_map f words days)
named_map f (w ∷ words) (false ∷ days) = named_map f words days

-- where words or days are at their end, no name is left
pub named_end : {X : Type 0} (f : X → List ℕ) (words : List X) (days : List Bool) → (length words ≡ 0) ⊎ (length days ≡ 0) → named f words days ≡ []
named_end f [] days end = refl
named_end f (w ∷ words) [] end = refl
named_end f (w ∷ words) (d ∷ days) (inl end) = absurd (omega arith)
named_end f (w ∷ words) (d ∷ days) (inr end) = absurd (omega arith)

-- whether no name was written
abbrev pub is_nil : List (List ℕ) → Bool
is_nil [] = true
is_nil (name ∷ names) = false

pub is_nil-push : (names : List (List ℕ)) (name : List ℕ) → false ≡ is_nil (names ++ name ∷ [])
is_nil-push [] name = refl
is_nil-push (n ∷ names) name = refl

-- a name is written after those before it
pub join_more : (names : List (List ℕ)) (name : List ℕ) → join_with_byte 32 names ++ (cond (is_nil names) [] (32 ∷ []) ++ name) ≡ join_with_byte 32 (names ++ name ∷ [])
join_more [] name = refl
join_more (x ∷ []) name = refl
join_more (x ∷ y ∷ names) name =
    append_assoc x (32 ∷ join_with_byte 32 (y ∷ names)) _ ∙ ap (λ l. x ++ 32 ∷ l) (join_more (y ∷ names) name)

-- what was written at the end
pub days_some : (names : List (List ℕ)) → is_nil names ≡ false → join_with_byte 32 names ≡ days_named names
days_some [] some = absurd (true≢false some)
days_some (name ∷ names) some = refl

pub days_none : (names : List (List ℕ)) → is_nil names ≡ true → join_with_byte 32 names ++ codes "on no day" ≡ days_named names
days_none [] none = refl
days_none (name ∷ names) none = absurd (false≢true none)

-- the first three letters are the first three characters
pub short_weekdays : map (take_chars 3) weekdays ≡ map (take 3) weekdays
unfolding take_chars
short_weekdays = refl

-- one turn of the loop, and its end
module _ {X : Type 0} (f : X → List ℕ) (names : List (List ℕ)) (words : List X) (days : List Bool) (all : List (List ℕ)) where
  pub turn_run : (w : X) (ws : List X) (d : Bool) (ds : List Bool) → words ≡ w ∷ ws → days ≡ d ∷ ds → d ≡ true → names ++ named f words days ≡ all → (names ++ f w ∷ []) ++ named f ws ds ≡ all
  turn_run w ws d ds a b run e =
      append_assoc names (f w ∷ []) (named f ws ds)
      ∙ ap (λ l. names ++ l) (sym ((λ i. named f (a i) (b i)) ∙ named_run f w ws d ds run)) ∙ e

  pub turn_not_run : (w : X) (ws : List X) (d : Bool) (ds : List Bool) → words ≡ w ∷ ws → days ≡ d ∷ ds → d ≡ false → names ++ named f words days ≡ all → names ++ named f ws ds ≡ all
  turn_not_run w ws d ds a b not_run e =
      ap (λ l. names ++ l) (sym ((λ i. named f (a i) (b i)) ∙ named_not_run f w ws d ds not_run)) ∙ e

  pub turns_end : (length words ≡ 0) ⊎ (length days ≡ 0) → names ++ named f words days ≡ all → names ≡ all
  turns_end end e = sym (append-nil names) ∙ ap (λ l. names ++ l) (sym (named_end f words days end)) ∙ e
