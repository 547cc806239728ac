-- What the lines of a script mean.
use Rattle.std.specs.Prelude.{ℕ, if◌then◌else◌, List, [], ◌∷◌, Some, None, Option, codes, ◌==◌}
use Rattle.std.specs.Option.{option_map}
use Rattle.std.specs.Str.{bytes_eq}
use Rattle.forms.specs.Bytes.{and_then}
use Rattle.controller.specs.Calls.{Call, Open, Row, Confirm, Abandon, Turn, Page, Tell, Tally}
use Rattle.scripts.specs.declared.reading.ScriptLine.{ScriptLine}
use Rattle.scripts.specs.declared.reading.ScriptLine.TheVariants.{Nothing as IsNothing, New as IsNew, Other as IsOther, Step as IsStep}
use Rattle.scripts.specs.Texts.{bytes_of, number_up_to}
use Rattle.scripts.specs.Steps.{call_of}

-- the word that a line begins with: what stands before the first blank
abbrev pub word_in : List ℕ → List ℕ
word_in [] = []
word_in (c ∷ cs) = if c == 32 then [] else c ∷ word_in cs

-- what stands behind the first blank, if there is one
abbrev pub behind_word : List ℕ → Option (List ℕ)
behind_word [] = None
behind_word (c ∷ cs) = if c == 32 then Some cs else behind_word cs

-- what follows a word, or the empty text where nothing does
abbrev pub or_empty : Option (List ℕ) → List ℕ
or_empty (Some rest) = rest
or_empty None = []

-- what a word asks for that may have nothing after it
abbrev pub alone : {X : Type 0} → X → Option (List ℕ) → Option X
alone x None = Some x
alone x (Some rest) = None

-- the call turn that a text asks for: a day, and behind a blank the station, which may be empty and
-- then left out with the blank
abbrev pub turn_in : List ℕ → Option Call
turn_in rest =
    and_then (number_up_to 4294967295 (word_in rest)) (λ day.
    option_map (λ station. Turn station day) (bytes_of (or_empty (behind_word rest))))

-- the call page that a text asks for into so many bytes: a minute, and behind a blank the local name,
-- which may be empty and then left out with the blank
abbrev pub page_into : ℕ → List ℕ → Option Call
page_into bytes rest =
    and_then (number_up_to 4294967295 (word_in rest)) (λ minute.
    option_map (λ name. Page name minute bytes) (bytes_of (or_empty (behind_word rest))))

-- the call page that a text asks for: how many bytes, and behind a blank what else
abbrev pub page_in : List ℕ → Option Call
page_in rest =
    and_then (number_up_to 18446744073709551615 (word_in rest)) (λ bytes.
    and_then (behind_word rest) (page_into bytes))

-- the call tell that a text asks for: a place
abbrev pub tell_in : List ℕ → Option Call
tell_in place = option_map Tell (number_up_to 18446744073709551615 place)

-- the call that a word and what follows it ask for, of those that are told something of a board
abbrev pub board_call_in : List ℕ → Option (List ℕ) → Option Call
board_call_in word rest =
    if bytes_eq word (codes "turn") then and_then rest turn_in
    else (if bytes_eq word (codes "page") then and_then rest page_in
    else (if bytes_eq word (codes "tell") then and_then rest tell_in
    else None))

-- the call that a word and what follows it ask for
abbrev pub call_in : List ℕ → Option (List ℕ) → Option Call
call_in word rest =
    if bytes_eq word (codes "open") then option_map Open (bytes_of (or_empty rest))
    else (if bytes_eq word (codes "row") then option_map Row (bytes_of (or_empty rest))
    else (if bytes_eq word (codes "confirm") then alone Confirm rest
    else (if bytes_eq word (codes "abandon") then alone Abandon rest
    else (if bytes_eq word (codes "tally") then alone Tally rest
    else board_call_in word rest))))

-- what a line means: nothing, that a history begins, that the bag's controller gets the calls that
-- follow, or a call
pub data LineMeaning : Type 0 where
  Nothing : LineMeaning
  New : ℕ → ℕ → LineMeaning
  Other : LineMeaning
  Asks : Call → LineMeaning

-- the history that begins with its slots, 65,536 at most, and behind a blank its line slots,
-- 131,072 at most
abbrev pub new_in : List ℕ → Option LineMeaning
new_in numbers =
    and_then (number_up_to 65536 (word_in numbers)) (λ capacity.
    and_then (behind_word numbers) (λ rest. option_map (New capacity) (number_up_to 131072 rest)))

-- what a word and what follows it mean
abbrev pub meaning_by_word : List ℕ → Option (List ℕ) → Option LineMeaning
meaning_by_word word rest =
    if bytes_eq word (codes "new") then and_then rest new_in
    else (if bytes_eq word (codes "other") then alone Other rest
    else option_map Asks (call_in word rest))

-- what a line means, if it is one of a script: an empty line and one that begins with `#` are passed
-- over
abbrev pub meaning_in : List ℕ → Option LineMeaning
meaning_in [] = Some Nothing
meaning_in (c ∷ cs) =
    if c == 35 then Some Nothing else meaning_by_word (word_in (c ∷ cs)) (behind_word (c ∷ cs))

-- what a line that has been read means
abbrev pub meaning_of : ScriptLine → LineMeaning
meaning_of IsNothing = Nothing
meaning_of (IsNew capacity slots) = New capacity slots
meaning_of IsOther = Other
meaning_of (IsStep step) = Asks (call_of step)
