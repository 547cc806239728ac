-- What rows hold, in plain words.
use Rattle.std.specs.Prelude.{ℕ, Bool, true, false, List, [], ◌++◌, if◌then◌else◌, get_or, codes, decimal, encode_utf8, Some, None, Option}
use Rattle.calendar.specs.Calendar.{weekday}
use Rattle.forms.specs.declared.end.End.{End}
use Rattle.forms.specs.declared.end.End.TheVariants.{Day, Never}
use Rattle.forms.specs.declared.letters.Stp.{Stp}
use Rattle.forms.specs.declared.letters.Stp.TheVariants.{Cancellation, ShortTerm, Overlay, Permanent}
use Rattle.forms.specs.declared.letters.Coverage.{Coverage}
use Rattle.forms.specs.declared.letters.Coverage.TheVariants.{Full, Update}
use Rattle.cif.specs.Rows.{letters_of}
use Rattle.cif.specs.declared.content.BasicSchedule.{BasicSchedule}
use Rattle.cif.specs.declared.content.Action.{Action}
use Rattle.cif.specs.declared.content.Action.TheVariants.{New, Revise, Delete}
use Rattle.cif.specs.declared.content.Content.{Content}
use Rattle.cif.specs.declared.content.Content.TheVariants.{Header as HeaderRow, Schedule as ScheduleRow, Operator, Origin, Intermediate, Terminus, Unread}
use Rattle.cif.specs.declared.content.Header.{Header}
use Rattle.cif.specs.declared.content.Location.{Location}
use Rattle.cif.specs.declared.content.Running.{Running}
use Rattle.cif.specs.declared.identity.Identity.{Identity}
use Rattle.cif.specs.declared.identity.Identity.TheVariants.{ChangeEnRoute, TiplocInsert, TiplocAmend, TiplocDelete, Association}
use Rattle.wording.specs.Texts.{text_of, uid_text, clock_text, weekdays, no_end_text, days_text}

-- a train is told by its UID and the UID's number
abbrev pub train_text : ℕ → List ℕ
train_text n = uid_text n ++ codes " (number " ++ decimal n ++ codes ")"

-- a day is told by its number and its weekday, which is Monday for 0 and Sunday from 6 on
abbrev pub day_text : ℕ × ℕ → List ℕ
day_text day = codes "day " ++ decimal day.0
    ++ codes " (" ++ get_or weekdays day.1 (codes "Sunday") ++ codes ")"

-- an end is told as the last day, or that the train runs until further notice
abbrev pub end_text : End → List ℕ
end_text (Day last) = codes "to " ++ day_text (last, weekday last)
end_text Never = no_end_text

-- a public time follows its verb, and where there is none its noun says so
abbrev pub time_text : List ℕ → List ℕ → Option ℕ → List ℕ
time_text verb noun (Some minute) = verb ++ codes " " ++ clock_text minute
time_text verb noun None = codes "no public " ++ noun

-- the word for how much an extract covers
abbrev pub coverage_text : Coverage → List ℕ
coverage_text Full = codes "full"
coverage_text Update = codes "update"

-- a header is told by its references and by how much it covers
abbrev pub header_text : Header → List ℕ
header_text h = codes "header: current reference \"" ++ text_of h.current
    ++ codes "\", last reference \"" ++ text_of h.last ++ codes "\", " ++ coverage_text h.coverage

-- the words for each STP letter
abbrev pub kind_text : Stp → List ℕ
kind_text Cancellation = codes "cancellation"
kind_text ShortTerm = codes "new short-term train"
kind_text Overlay = codes "overlay"
kind_text Permanent = codes "permanent"

-- the word for what is done with a schedule
abbrev pub verb_text : Action → List ℕ
verb_text (New running) = codes "new"
verb_text (Revise running) = codes "revised"
verb_text Delete = codes "deleted"

-- how a train runs is told by its end, the days it runs and its identity
abbrev pub running_text : Running → List ℕ
running_text r = codes " " ++ end_text r.to ++ codes ", runs " ++ days_text r.days
    ++ codes ", identity \"" ++ text_of r.train ++ codes "\""

-- how the train of a schedule runs, where it is not deleted
abbrev pub runs_text : Action → List ℕ
runs_text (New running) = running_text running
runs_text (Revise running) = running_text running
runs_text Delete = []

-- a schedule is told by what is done with it, its train, its STP letter, its first day, and how the
-- train runs
abbrev pub schedule_text : BasicSchedule → List ℕ
schedule_text s = verb_text s.action ++ codes " schedule: train " ++ train_text s.uid ++ codes ", "
    ++ kind_text s.stp ++ codes ", from " ++ day_text s.from ++ runs_text s.action

-- a time follows a comma, where there is one to tell
abbrev pub told_text : Bool → List ℕ → List ℕ
told_text told time = if told then codes ", " ++ time else []

-- the words for the public time of arrival
abbrev pub arrival_text : Location → List ℕ
arrival_text at = time_text (codes "arrives") (codes "arrival") at.arrival

-- the words for the public time of departure
abbrev pub departure_text : Location → List ℕ
departure_text at = time_text (codes "departs") (codes "departure") at.departure

-- a place is told by its TIPLOC and suffix, its public times, and its platform
abbrev pub location_text : List ℕ → Location → Bool → Bool → List ℕ
location_text role at arrives departs = role ++ codes " \"" ++ text_of at.tiploc
    ++ codes "\", suffix \"" ++ encode_utf8 at.suffix ++ codes "\""
    ++ told_text arrives (arrival_text at) ++ told_text departs (departure_text at)
    ++ codes ", platform \"" ++ text_of at.platform ++ codes "\""

-- the words for each row of which no field is read, the last those of ZZ
abbrev pub unread_text : Identity → List ℕ
unread_text ChangeEnRoute = codes "change on the way"
unread_text TiplocInsert = codes "location inserted"
unread_text TiplocAmend = codes "location amended"
unread_text TiplocDelete = codes "location deleted"
unread_text Association = codes "association"
unread_text _ = codes "end of the extract"

-- a row is told by its identity and what its fields hold
abbrev pub content_text : Content → List ℕ
content_text (HeaderRow header) = codes "HD " ++ header_text header
content_text (ScheduleRow schedule) = codes "BS " ++ schedule_text schedule
content_text (Operator operator) = codes "BX operator \"" ++ text_of operator ++ codes "\""
content_text (Origin at) = location_text (codes "LO origin") at false true
content_text (Intermediate at) = location_text (codes "LI call at") at true true
content_text (Terminus at) = location_text (codes "LT destination") at true false
content_text (Unread identity) =
    text_of (letters_of identity) ++ codes " " ++ unread_text identity ++ codes ": no field is read"
