use Rattle.std.proofs.Common.{List, map, string_bytes}
use Rattle.std.specs.Prelude.{Result, Ok, Err}
use Rattle.clap.specs.Walk.{Text}
use Rattle.clap.specs.declared.error.Error.{Error}
use Rattle.clap.specs.declared.parser.matches.ArgMatches.{ArgMatches}
use Rattle.command_line.proofs.ReadingLemmas.{matched_asks, matched_faults, refused_faults, same_faults, same_request}
use Rattle.command_line.proofs.reading.task_in.Goals as goal

pub returns-in-Ok-clause-task : goal.returns-in-Ok-clause-task
returns-in-Ok-clause-task c =
    let words : List Text = map string_bytes c.args.words.now in
    matched_asks words _ c.matched.result
    (same_request _ words c.in-Ok.matches c.in_ok-departures.ensures.0 c.in-Ok.ensures.matches) c.matched.ensures

pub returns-in-Ok-clause-refused : goal.returns-in-Ok-clause-refused
returns-in-Ok-clause-refused c =
    let words : List Text = map string_bytes c.args.words.now in
    let parsed : Result ArgMatches Error = Ok c.in-Ok.matches in
    matched_faults words _ c.matched.result (same_faults _ words parsed c.in_ok-departures.ensures.0 c.in-Ok.ensures.kinds)
    (same_request _ words c.in-Ok.matches c.in_ok-departures.ensures.0 c.in-Ok.ensures.matches) c.matched.ensures

pub returns-in-Err-clause-refused : goal.returns-in-Err-clause-refused
returns-in-Err-clause-refused c =
    let words : List Text = map string_bytes c.args.words.now in
    let parsed : Result ArgMatches Error = Err c.in-Err.error in
    refused_faults words c.in-Err.error c.refused.result
    (same_faults _ words parsed c.in_ok-departures.ensures.0 c.in-Err.ensures.kinds) c.refused.ensures
