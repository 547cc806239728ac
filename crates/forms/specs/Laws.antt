-- What the forms come to, in other words, and the worked cases.
use Rattle.std.specs.Prelude.{◌≡◌, ℕ, ◌<◌, ◌≤◌, true, List, [], ◌∷◌, map, length, Some, None, codes, slice_index}
use Rattle.forms.specs.Bytes.{is_name}
use Rattle.forms.specs.declared.end.End.TheVariants.{Day, Never}
use Rattle.forms.specs.Forms.{uid_in, date_in, time_in, is_tiploc}
use Rattle.forms.specs.Ends.{end_in}

-- seven bytes, of which the first n, one to seven, are letters or digits, and all others blanks
pub record HasNamesThenBlanks (cs : List ℕ) (n : ℕ) : Type 0 where
  pub seven : length cs ≡ 7
  pub some : 1 ≤ n
  pub within : n ≤ 7
  pub names : (k : ℕ) → k < n → is_name (slice_index cs k) ≡ true
  pub blanks : (k : ℕ) → n ≤ k → k < 7 → slice_index cs k ≡ 32

-- a TIPLOC is one to seven letters or digits and then blanks
pub record TiplocByPlaces : Type 0 where
  pub has : (cs : List ℕ) → is_tiploc cs ≡ true → (n : ℕ) × HasNamesThenBlanks cs n
  pub suffices : (cs : List ℕ) (n : ℕ) → HasNamesThenBlanks cs n → is_tiploc cs ≡ true

-- the worked cases
pub record Worked : Type 0 where
  pub dates : map date_in (codes "600101" ∷ codes "240229" ∷ codes "591231" ∷ codes "230229" ∷ codes "000229" ∷ codes "999999" ∷ [])
      ≡ (Some (0, 4) ∷ Some (23435, 3) ∷ Some (36524, 2) ∷ None ∷ Some (14669, 1) ∷ None ∷ [])
  pub ends : map end_in (codes "999999" ∷ codes "999998" ∷ codes "591231" ∷ codes "230229" ∷ [])
      ≡ (Some Never ∷ None ∷ Some (Day 36524) ∷ None ∷ [])
  pub uids : map uid_in (codes "C12345" ∷ codes "Z99999" ∷ []) ≡ (Some 212345 ∷ Some 2599999 ∷ [])
  pub times : map time_in (codes "0000" ∷ codes "0001" ∷ codes "2359" ∷ codes "2400" ∷ codes "1260" ∷ [])
      ≡ (Some None ∷ Some (Some 1) ∷ Some (Some 1439) ∷ None ∷ None ∷ [])
