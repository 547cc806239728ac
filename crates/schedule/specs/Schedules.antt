-- A schedule, by the record that holds it.
use Rattle.schedule.specs.declared.record.Record.{Record}
use Rattle.schedule.specs.declared.schedule.Schedule.{Schedule}

-- the record of a schedule
abbrev pub record_of : Schedule → Record
record_of schedule = schedule.fields
