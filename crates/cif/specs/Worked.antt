-- Worked cases of rows: the numbers of the refusals, BS rows by the texts of first day and end, and LO, LI and LT rows by the text of a
-- public time.
use Rattle.std.specs.Prelude.{◌≡◌, ℕ, List, [], ◌∷◌, ◌++◌, map, replicate, Some, None, Option, codes}
use Rattle.std.specs.List.{range_with_len}
use Rattle.std.specs.Option.{option_map}
use Rattle.cif.specs.declared.refusal.TheConstants.Refusal.{NUMBERS as refusal_numbers}
use Rattle.cif.specs.Refusals.{number_of, fault_of}
use Rattle.cif.specs.Reading.{read_in}

-- a BS row of C12345, by its transaction, first day and end, that runs every day as 1A23 with the STP letter P
abbrev pub schedule_row : List ℕ → List ℕ → List ℕ → List ℕ
schedule_row transaction from to =
    codes "BS" ++ transaction ++ codes "C12345" ++ from ++ to ++ codes "1111111    1A23" ++ replicate 43 32 ++ codes "P"

-- an LO or LT row at WATRLMN: its public time begins at column 16
abbrev pub end_row : List ℕ → List ℕ → List ℕ
end_row identity time = identity ++ codes "WATRLMN" ++ replicate 6 32 ++ time ++ replicate 61 32

-- an LI row at WATRLMN: its public arrival begins at column 26, its public departure at column 30
abbrev pub intermediate_row : List ℕ → List ℕ → List ℕ
intermediate_row arrival departure = codes "LI" ++ codes "WATRLMN" ++ replicate 16 32 ++ arrival ++ departure ++ replicate 47 32

-- the number and the column with which a row is refused, if it is
abbrev pub refusal_in : List ℕ → Option (ℕ × ℕ)
refusal_in row = option_map (λ f. (number_of f.fault.refusal, f.fault.column)) (fault_of (read_in row))

-- one time of the day, and two texts that are none
abbrev pub times : List (List ℕ)
times = codes "2359" ∷ codes "2400" ∷ codes "1260" ∷ []

-- the row is read with the first and refused with 5 at a column with the two others
abbrev pub refused_at : ℕ → List (Option (ℕ × ℕ))
refused_at column = None ∷ Some (5, column) ∷ Some (5, column) ∷ []

-- the worked cases; the refusals have the numbers 1 to 18 in turn
pub record Worked : Type 0 where
  pub numbers : map (λ t. t.1) refusal_numbers ≡ range_with_len 1 18
  pub ends : map (λ t. refusal_in (schedule_row (codes "N") (codes "231211") t)) (codes "240531" ∷ codes "231210" ∷ codes "991231" ∷ codes "999999" ∷ codes "999998" ∷ [])
      ≡ (None ∷ Some (6, 16) ∷ Some (6, 16) ∷ None ∷ Some (5, 16) ∷ [])
  pub starts : map (λ t. refusal_in (schedule_row (codes "N") t (codes "999999"))) (codes "591231" ∷ codes "999999" ∷ []) ≡ (None ∷ Some (5, 10) ∷ [])
  pub changes : map (λ t. refusal_in (schedule_row t (codes "231211") (codes "999999"))) (codes "R" ∷ codes "D" ∷ []) ≡ (None ∷ None ∷ [])
  pub unread : map (λ t. refusal_in (schedule_row (codes "D") (codes "231211") t)) (codes "999998" ∷ codes "231210" ∷ []) ≡ (None ∷ None ∷ [])
  pub origins : map (λ t. refusal_in (end_row (codes "LO") t)) times ≡ refused_at 16
  pub arrivals : map (λ t. refusal_in (intermediate_row t (codes "0000"))) times ≡ refused_at 26
  pub departures : map (λ t. refusal_in (intermediate_row (codes "0000") t)) times ≡ refused_at 30
  pub termini : map (λ t. refusal_in (end_row (codes "LT") t)) times ≡ refused_at 16
