-- Answers to calls and lines of a board in plain words.
use Rattle.std.specs.Prelude.{ℕ, List, ◌++◌, codes, decimal, Some, None}
use Rattle.board.specs.declared.line.Line.{Line}
use Rattle.cif.specs.Texts.{words_of}
use Rattle.controller.specs.declared.answer.Answer.{Answer}
use Rattle.controller.specs.declared.answer.Answer.TheVariants.{Done, Refused, Told, Tally}
use Rattle.controller.specs.declared.fault.ExtractFault.{ExtractFault}
use Rattle.wording.specs.Texts.{text_of, clock_text, fault_text}

-- a refusal is told by its fault, the number of the row and the words for it
abbrev pub refused_text : ExtractFault → List ℕ
refused_text f = fault_text f.fault ++ codes ", row " ++ decimal f.row
    ++ codes ": " ++ words_of f.fault.fault.refusal

-- a line of a board tells the departure time, the destination, the platform, the operator and the
-- identity
abbrev pub line_text : Line → List ℕ
line_text l = clock_text l.key.minute ++ codes " " ++ text_of l.destination
    ++ codes " platform " ++ text_of l.platform ++ codes " operator " ++ text_of l.operator
    ++ codes " identity " ++ text_of l.train

-- an answer is "done", a refusal, a line of a board or that there is none, or the tally
abbrev pub answer_text : Answer → List ℕ
answer_text Done = codes "done"
answer_text (Refused fault) = refused_text fault
answer_text (Told (Some line)) = line_text line
answer_text (Told None) = codes "none"
answer_text (Tally tally) = decimal tally
