-- A station as it is typed.
use Rattle.std.specs.Prelude.{ℕ, ◌-◌, List, [], ◌∷◌, ◌++◌, length, replicate}

-- its name filled up with blanks to seven bytes, where it has one to seven; any other name is left
-- as it is
abbrev pub filled_up : List ℕ → List ℕ
filled_up [] = []
filled_up (c ∷ cs) = (c ∷ cs) ++ replicate (7 - length (c ∷ cs)) 32
