-- The steps of a script.
use Rattle.std.specs.Prelude.{ℕ, List, codes}
use Rattle.controller.specs.Calls.{Call, Open, Row, Confirm, Abandon, Turn, Page, Tell, Tally}
use Rattle.scripts.specs.declared.step.Step.{Step}
use Rattle.scripts.specs.declared.step.Step.TheVariants.{Open as AsksOpen, Row as AsksRow, Confirm as AsksConfirm, Abandon as AsksAbandon, Turn as AsksTurn, Page as AsksPage, Tell as AsksTell, Tally as AsksTally}

-- the call that a step of a script asks for
abbrev pub call_of : Step → Call
call_of (AsksOpen row) = Open row.items
call_of (AsksRow row) = Row row.items
call_of AsksConfirm = Confirm
call_of AsksAbandon = Abandon
call_of (AsksTurn day station) = Turn station.items day
call_of (AsksPage name minute bytes) = Page name.items minute bytes
call_of (AsksTell place) = Tell place
call_of AsksTally = Tally

-- the word that a step of a script begins with
abbrev pub word_of : Step → List ℕ
word_of (AsksOpen row) = codes "open"
word_of (AsksRow row) = codes "row"
word_of AsksConfirm = codes "confirm"
word_of AsksAbandon = codes "abandon"
word_of (AsksTurn day station) = codes "turn"
word_of (AsksPage name minute bytes) = codes "page"
word_of (AsksTell place) = codes "tell"
word_of AsksTally = codes "tally"
