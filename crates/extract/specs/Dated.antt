-- What rows come to by the rules of reading as they were while every schedule had a last day.
use Rattle.std.specs.Prelude.{ℕ, Bool, not, List, Ok, Err, fold}
use Rattle.std.specs.List.{list_all}
use Rattle.cif.specs.Dated.{dated_read, has_no_end}
use Rattle.schedule.specs.declared.transaction.Change.{Change}
use Rattle.extract.specs.Progress.{Progress, idle, after}

-- after a row as raw bytes
abbrev pub dated_after_row : Progress → List ℕ → Progress
dated_after_row p row = elim (dated_read row) [ Ok c ↦ after p c | Err e ↦ p ]

-- what rows, as raw bytes, come to
abbrev pub dated_progress : List (List ℕ) → Progress
dated_progress rows = fold dated_after_row idle rows

-- the transactions of rows, read afresh from their bytes
abbrev pub dated_transactions : List (List ℕ) → List Change
dated_transactions rows = (dated_progress rows).changes

-- none of the rows is a BS with N or R that has 999999 in columns 16 to 21
abbrev pub none_has_no_end : List (List ℕ) → Bool
none_has_no_end rows = list_all (λ row. not (has_no_end row)) rows
