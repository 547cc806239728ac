-- What a row holds, seen as a row of one kind.
use Rattle.std.specs.Prelude.{Some, None, Option}
use Rattle.cif.specs.declared.content.Header.{Header as Heading}
use Rattle.cif.specs.declared.content.BasicSchedule.{BasicSchedule}
use Rattle.cif.specs.declared.content.Location.{Location}
use Rattle.cif.specs.declared.content.Content.{Content}
use Rattle.cif.specs.declared.content.Content.TheVariants.{Header, Schedule, Origin, Intermediate, Terminus}

-- the header, of an HD row
abbrev pub header_of : Content → Option Heading
header_of (Header h) = Some h
header_of _ = None

-- the basic schedule, of a BS row
abbrev pub basic_schedule_of : Content → Option BasicSchedule
basic_schedule_of (Schedule b) = Some b
basic_schedule_of _ = None

-- the location, of an LO, LI or LT row
abbrev pub location_of : Content → Option Location
location_of (Origin l) = Some l
location_of (Intermediate l) = Some l
location_of (Terminus l) = Some l
location_of _ = None
