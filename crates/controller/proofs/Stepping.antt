-- Which rows begin and end a schedule.
use Rattle.std.proofs.Common.{◌≡◌, true, false, unwrap_or, refl, arith}
use Rattle.std.proofs.lemmas.Bool.{true≢false}
use Rattle.std.proofs.lemmas.Bool.Decides.{nat_tests}
use Rattle.cif.specs.declared.identity.Identity.{Identity}
use Rattle.cif.specs.declared.identity.Identity.TheVariants.{BasicSchedule as IsSchedule}
use Rattle.cif.specs.Refusals.{is_missing}
use Rattle.extract.specs.declared.stage.Stage.{Stage}
use Rattle.extract.specs.declared.stage.Stage.TheVariants.{Idle, Between, Begun, Extra, Running, Changed, Complete}
use Rattle.extract.specs.Stages.{next_stage, is_reading}
use Rattle.controller.specs.Laws.{is_passing, ReadFromBsToLt}

-- a row that neither begins nor ends a schedule leaves it as it is
pub reads_on : (st : Stage) (i : Identity) → is_missing (next_stage st i false) ≡ false → is_passing i ≡ true → is_reading (unwrap_or (next_stage st i false) st) ≡ is_reading st
reads_on st i p q = grind (arith, nat_tests)

pub from_bs_to_lt : ReadFromBsToLt
from_bs_to_lt = record {
  begins = λ st next h. (grind (arith, nat_tests), grind (arith, nat_tests));
  brief = λ st next h. (grind (arith, nat_tests), grind (arith, nat_tests));
  ends = λ st next h. (grind (arith, nat_tests), grind (arith, nat_tests));
  passes = λ st next i p h. grind (arith, nat_tests);
}

-- a BS is taken between two schedules only
pub only_between : (st : Stage) → is_missing (next_stage st IsSchedule false) ≡ false → st ≡ Between
only_between Idle h = absurd (true≢false h)
only_between Between h = refl
only_between Begun h = absurd (true≢false h)
only_between Extra h = absurd (true≢false h)
only_between Running h = absurd (true≢false h)
only_between Changed h = absurd (true≢false h)
only_between Complete h = absurd (true≢false h)
