use Rattle.std.proofs.Common.{rules, ◌≡◌, ◌∙◌, ap, codes}
use Rattle.std.specs.Prelude.{Some}
use Rattle.clap.specs.Walk.{texts}
use Rattle.clap.specs.Matches.{found_of}
use Rattle.clap.proofs.WalkLemmas.{raw_values-rows}
use Rattle.command_line.proofs.matches.files_in.Goals as goal

pub returns-in_ok-to_vec-in-Some : goal.returns-in_ok-to_vec-in-Some
returns-in_ok-to_vec-in-Some c =
    let same : c.in_ok-to_vec-in-Some.field-0.items ≡ c.in-Some.files.now = search rules in
    ap (λ xs. Some (texts xs)) same ∙ c.in-Some.ensures ∙ raw_values-rows (found_of c.args.matches.now) (codes "files")

pub returns-in-None : goal.returns-in-None
returns-in-None c = c.in-None.ensures ∙ raw_values-rows (found_of c.args.matches.now) (codes "files")
