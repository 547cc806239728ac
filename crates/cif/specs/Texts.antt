-- What refusals say in words.
use Rattle.std.specs.Prelude.{ℕ, List, codes}
use Rattle.cif.specs.declared.refusal.Refusal.{Refusal}
use Rattle.cif.specs.declared.refusal.Refusal.TheVariants.{RowLength, BadByte, UnknownIdentity, OutOfPlace, BadForm, EndsBeforeStart, ReferenceMismatch, KeyPresent, KeyAbsent, TooManyCalls, TooManyVisits, TooManyRows, StoreFull, NoSuchBoard, TooFewSlots, PageLength, NoSuchMinute, BadNameByte}

-- the words for each refusal
abbrev pub words_of : Refusal → List ℕ
words_of RowLength = codes "the row is not 80 bytes"
words_of BadByte = codes "a byte is outside 32 to 126"
words_of UnknownIdentity = codes "the identity is not known"
words_of OutOfPlace = codes "the row or call does not fit the stage"
words_of BadForm = codes "a field lacks its form"
words_of EndsBeforeStart = codes "it runs from a later day than it runs to"
words_of ReferenceMismatch = codes "the file references do not fit"
words_of KeyPresent = codes "the schedule is there already"
words_of KeyAbsent = codes "the schedule is not there"
words_of TooManyCalls = codes "a 49th kept call"
words_of TooManyVisits = codes "a third kept call at one TIPLOC"
words_of TooManyRows = codes "too many rows or transactions"
words_of StoreFull = codes "the store is full"
words_of NoSuchBoard = codes "no such station or day"
words_of TooFewSlots = codes "too few line slots"
words_of PageLength = codes "the page is not of 264 bytes"
words_of NoSuchMinute = codes "the minute is above 1439"
words_of BadNameByte = codes "a byte of the name is outside 32 to 126"
