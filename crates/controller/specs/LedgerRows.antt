-- The rows of a ledger were taken, and what is confirmed are the transactions of their parts.
use Rattle.std.specs.Prelude.{◌≡◌, ℕ, List, [], ◌∷◌, length, None, Ok, ⊤}
use Rattle.cif.specs.declared.content.Header.{Header as Heading}
use Rattle.cif.specs.declared.content.Content.TheVariants.{Header}
use Rattle.cif.specs.Reading.{read_in}
use Rattle.schedule.specs.declared.record.Record.{Record}
use Rattle.extract.specs.Progress.{progress_of, transactions_of}
use Rattle.extract.specs.Judging.{Standing}
use Rattle.controller.specs.declared.answer.Answer.{Answer}
use Rattle.controller.specs.Calls.{Call, Open, Confirm, refusal_of}
use Rattle.controller.specs.Ledger.{Ledger, new_ledger, ledger_after, store_for, standing_of, AnswerOf, is_accepted}
use Rattle.controller.specs.ScheduleRows.{AreTaken, standing_after}
use Rattle.controller.specs.ExtractRows.{ComeTo, EndAtTrailer, idle_over}

-- rows are none, or an HD that open takes and rows that row takes after it
abbrev pub TakenFrom : Standing → List (List ℕ) → Type 0
TakenFrom s [] = ⊤
TakenFrom s (hd ∷ rows) = (refusal_of (Open hd) s 0 ≡ None) × AreTaken (standing_after s hd) rows

-- so are the rows of a ledger, over the confirmed map and the reference
abbrev pub RowsAreTaken : Ledger → ℕ → Type 0
RowsAreTaken ℓ capacity = TakenFrom (idle_over (store_for ℓ capacity) ℓ.reference) ℓ.rows

-- the rows of a ledger are an HD and parts, of which the last is ZZ and no other is, and come to the transactions of the parts
pub record AreWhole (ℓ : Ledger) : Type 0 where
  pub hd : List ℕ
  pub rest : List (List ℕ)
  pub rows : ℓ.rows ≡ hd ∷ rest
  -- the first row is an HD
  pub header : Heading
  pub opens : read_in hd ≡ Ok (Header header)
  -- the reference that a confirmation puts in force is its current reference
  pub reference : (progress_of ℓ.rows).current ≡ header.current
  -- as many rows were taken as the ledger has
  pub taken : (progress_of ℓ.rows).taken ≡ length ℓ.rows
  -- the other rows come to the transactions of their parts
  pub come : ComeTo rest [] (transactions_of ℓ.rows)
  -- ZZ is the last of them, and stands nowhere else
  pub ends : EndAtTrailer come.parts

-- from a new ledger on, whatever calls are answered as the ledger has it, its rows were taken; so where a confirmation is accepted,
-- they are an HD and parts up to ZZ, and what it puts after the confirmed transactions are those of the parts
pub record LedgerRowsAreTaken : Type 0 where
  pub new : (start : List Record) (capacity : ℕ) → RowsAreTaken (new_ledger start) capacity
  pub kept : (ℓ : Ledger) (capacity slots : ℕ) (call : Call) (answer : Answer) → AnswerOf ℓ capacity slots call answer
      → RowsAreTaken ℓ capacity → RowsAreTaken (ledger_after ℓ call (is_accepted answer)) capacity
  pub confirmed : (ℓ : Ledger) (capacity slots : ℕ) → refusal_of Confirm (standing_of ℓ capacity) slots ≡ None
      → RowsAreTaken ℓ capacity → AreWhole ℓ
