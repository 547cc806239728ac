-- The refusals by number, tables of them, and the levels of a fault.
use denote.Enum.Bare.{sameb}
use Rattle.std.specs.Prelude.{ℕ, Bool, true, false, cond, List, [], ◌∷◌, Some, None, Ok, Err, Option, Result}
use Rattle.forms.specs.Letters.{number_beside}
use Rattle.cif.specs.declared.refusal.Refusal.{Refusal}
use Rattle.cif.specs.declared.refusal.Refusal.TheVariants.{BadForm}
use Rattle.cif.specs.declared.refusal.TheConstants.Refusal.{NUMBERS as refusal_numbers}
use Rattle.cif.specs.contracts.refusal.Refusal.{the_type as refusal_type}
use Rattle.cif.specs.declared.refusal.ColumnFault.{ColumnFault}
use Rattle.cif.specs.declared.refusal.RowFault.{RowFault}

-- the number that the enum gives a refusal
abbrev pub number_of : Refusal → ℕ
number_of r = number_beside (sameb refusal_type) refusal_numbers r

-- a refusal with its column
abbrev pub fault_at : Refusal → ℕ → ColumnFault
fault_at refusal column = record { refusal = refusal; column = column }

-- a column fault, with the identity of its row
abbrev pub in_row : List ℕ → ColumnFault → RowFault
in_row identity fault = record { fault = fault; identity = identity }

-- a line of a table of refusals: what is told, and whether its condition holds
abbrev pub TableLine : Type 0
TableLine = (ColumnFault × Bool)

-- a line, by the refusal and column that it tells
abbrev pub line : Refusal → ℕ → Bool → TableLine
line refusal column holds = (fault_at refusal column, holds)

-- of the lines of a table the uppermost that holds is told
abbrev pub uppermost : List TableLine → Option ColumnFault
uppermost [] = None
uppermost (l ∷ ls) = cond l.1 (Some l.0) (uppermost ls)

-- whether there is no value
abbrev pub is_missing : {X : Type 0} → Option X → Bool
is_missing None = true
is_missing _ = false

-- the line of a field: it lacks its form
abbrev pub form_line : {X : Type 0} → ℕ → Option X → TableLine
form_line column reading = line BadForm column (is_missing reading)

-- a field's reading, or the fault that it lacks its form
abbrev pub field_at : {X : Type 0} → ℕ → Option X → Result X ColumnFault
field_at column (Some x) = Ok x
field_at column None = Err (fault_at BadForm column)

-- what a second step makes of the first one's value; the first fault is told
abbrev pub then : {X Y E : Type 0} → Result X E → (X → Result Y E) → Result Y E
then (Ok x) f = f x
then (Err e) f = Err e

-- a result with its fault carried a level up
abbrev pub map_err : {X E F : Type 0} → (E → F) → Result X E → Result X F
map_err f (Ok x) = Ok x
map_err f (Err e) = Err (f e)

-- the fault of a result, if any
abbrev pub fault_of : {X E : Type 0} → Result X E → Option E
fault_of (Ok x) = None
fault_of (Err e) = Some e
