-- Transactions, and what each is on.
use Rattle.std.specs.Prelude.{Bool, true, ◌&&◌, List, [], ◌∷◌}
use Rattle.schedule.specs.declared.key.Key.{Key}
use Rattle.schedule.specs.declared.transaction.Change.{Change}
use Rattle.schedule.specs.declared.transaction.Change.TheVariants.{New, Revise, Delete}
use Rattle.schedule.specs.declared.transaction.Transaction.{Transaction}
use Rattle.schedule.specs.declared.transaction.Transaction.TheVariants.{New as IsNew, Revise as IsRevised, Delete as IsDeleted}
use Rattle.schedule.specs.Records.{is_schedule}

-- the key of the schedule that a transaction changes
abbrev pub changed_key : Change → Key
changed_key (New fields) = fields.key
changed_key (Revise fields) = fields.key
changed_key (Delete key) = key

-- a transaction as it lies in memory
abbrev pub change_of : Transaction → Change
change_of (IsNew schedule) = New schedule.fields
change_of (IsRevised schedule) = Revise schedule.fields
change_of (IsDeleted key) = Delete key

-- a record that a transaction brings is a schedule's
abbrev pub is_lawful : Change → Bool
is_lawful (New fields) = is_schedule fields
is_lawful (Revise fields) = is_schedule fields
is_lawful _ = true

-- every transaction of a list is lawful
abbrev pub every_lawful : List Change → Bool
every_lawful [] = true
every_lawful (c ∷ cs) = is_lawful c && every_lawful cs
