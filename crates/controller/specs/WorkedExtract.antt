-- A worked extract: rows that are taken, and the transactions that they come to.
use Rattle.std.specs.Prelude.{◌≡◌, ℕ, ◌-◌, true, false, List, [], ◌∷◌, ◌++◌, length, replicate, codes, Some, None, Option}
use Rattle.forms.specs.declared.end.End.TheVariants.{Day}
use Rattle.forms.specs.declared.letters.Stp.TheVariants.{Permanent, Cancellation}
use Rattle.cif.specs.declared.content.Location.{Location}
use Rattle.schedule.specs.declared.record.Record.{Record}
use Rattle.schedule.specs.declared.transaction.Change.TheVariants.{New}
use Rattle.schedule.specs.Records.{two_blanks, seven_blanks, filler}
use Rattle.timetable.specs.Timetables.{Meaning}
use Rattle.extract.specs.declared.stage.Stage.TheVariants.{Complete}
use Rattle.extract.specs.Progress.{progress_of, transactions_of}
use Rattle.controller.specs.Calls.{Open, refusal_of}
use Rattle.controller.specs.ScheduleRows.{AreTaken, standing_after}
use Rattle.controller.specs.ExtractRows.{idle_over}

-- a row of 80 bytes: a text, and blanks up to what stands at its end
abbrev pub row_of_text : List ℕ → List ℕ → List ℕ
row_of_text text end = text ++ replicate (80 - length text - length end) 32 ++ end

-- the HD of a full extract with the reference DFABCDE
abbrev pub worked_hd : List ℕ
worked_hd = row_of_text (codes "HD                              DFABCDE       F") []

-- a new permanent schedule of C12345 with operator VT, from EUSTON at 0900 through WATFDJ, where it has no public time, and RUGBY, from
-- 1001 to 1003, to CREWE at 1040; a TI; its cancellation on 240306; and ZZ
abbrev pub worked_rows : List (List ℕ)
worked_rows =
    row_of_text (codes "BSNC123452312112405311111100    1A23") (codes "P")
    ∷ row_of_text (codes "BX         VT") []
    ∷ row_of_text (codes "LOEUSTON       09001") []
    ∷ row_of_text (codes "LIWATFDJ                 000000008") []
    ∷ row_of_text (codes "CR") []
    ∷ row_of_text (codes "LIRUGBY                  100110032") []
    ∷ row_of_text (codes "LTCREWE        10405") []
    ∷ row_of_text (codes "TI") []
    ∷ row_of_text (codes "BSNC123452403062403060010000    1A23") (codes "C")
    ∷ row_of_text (codes "ZZ") []
    ∷ []

-- a call without a suffix
abbrev pub worked_call : List ℕ → Option ℕ → Option ℕ → List ℕ → Location
worked_call tiploc arrival departure platform =
    record { tiploc = tiploc; suffix = 32; arrival = arrival; departure = departure; platform = platform }

-- the schedule, with its three kept calls
abbrev pub worked_schedule : Record
worked_schedule =
    record {
      key = record { uid = 212345; from = 23355; stp = Permanent };
      to = Day 23527;
      days = true ∷ true ∷ true ∷ true ∷ true ∷ false ∷ false ∷ [];
      train = codes "1A23";
      operator = codes "VT";
      destination = codes "CREWE  ";
      calls =
          worked_call (codes "EUSTON ") None (Some 540) (codes "1  ")
          ∷ worked_call (codes "RUGBY  ") (Some 601) (Some 603) (codes "2  ")
          ∷ worked_call (codes "CREWE  ") (Some 640) None (codes "5  ")
          ∷ replicate 45 filler;
      count = 3;
    }

-- the cancellation
abbrev pub worked_cancellation : Record
worked_cancellation =
    record {
      key = record { uid = 212345; from = 23441; stp = Cancellation };
      to = Day 23441;
      days = false ∷ false ∷ true ∷ false ∷ false ∷ false ∷ false ∷ [];
      train = codes "1A23";
      operator = two_blanks;
      destination = seven_blanks;
      calls = replicate 48 filler;
      count = 0;
    }

-- an empty store with room for two schedules, and no reference in force
abbrev pub worked_store : Meaning
worked_store = record { map = []; capacity = 2 }

-- open takes the HD and row the other rows; the extract is then complete, and has just these two transactions
pub record WorkedExtract : Type 0 where
  pub opened : refusal_of (Open worked_hd) (idle_over worked_store seven_blanks) 0 ≡ None
  pub taken : AreTaken (standing_after (idle_over worked_store seven_blanks) worked_hd) worked_rows
  pub complete : (progress_of (worked_hd ∷ worked_rows)).stage ≡ Complete
  pub transactions : transactions_of (worked_hd ∷ worked_rows) ≡ New worked_schedule ∷ New worked_cancellation ∷ []
