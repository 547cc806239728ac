-- Keys, schedules and transactions in plain words.
use Rattle.std.specs.Prelude.{ℕ, List, ◌∷◌, ◌++◌, codes, decimal}
use Rattle.forms.specs.declared.end.End.{End}
use Rattle.forms.specs.declared.end.End.TheVariants.{Day, Never}
use Rattle.forms.specs.Letters.{stp_letter}
use Rattle.schedule.specs.declared.key.Key.{Key}
use Rattle.schedule.specs.declared.record.Record.{Record}
use Rattle.schedule.specs.declared.transaction.Change.{Change}
use Rattle.schedule.specs.declared.transaction.Change.TheVariants.{New, Revise, Delete}
use Rattle.wording.specs.Texts.{text_of, uid_text, no_end_text, days_text}

-- a key is told by its UID, its STP letter and its first day
abbrev pub key_text : Key → List ℕ
key_text k = uid_text k.uid ++ codes " " ++ stp_letter k.stp ∷ codes " day " ++ decimal k.from

-- an end is told as the number of the last day, or that the train runs until further notice
abbrev pub to_text : End → List ℕ
to_text (Day last) = codes "to day " ++ decimal last
to_text Never = no_end_text

-- a schedule is told by its key, its end, the days it runs, its identity, operator and
-- destination, and how many calls it keeps
abbrev pub record_text : Record → List ℕ
record_text r = key_text r.key ++ codes " " ++ to_text r.to
    ++ codes ", runs " ++ days_text r.days ++ codes ", identity \"" ++ text_of r.train
    ++ codes "\", operator \"" ++ text_of r.operator
    ++ codes "\", destination \"" ++ text_of r.destination ++ codes "\", calls " ++ decimal r.count

-- a transaction is told by what it does, and by its schedule or key
abbrev pub change_text : Change → List ℕ
change_text (New fields) = codes "new " ++ record_text fields
change_text (Revise fields) = codes "revised " ++ record_text fields
change_text (Delete key) = codes "deleted " ++ key_text key
