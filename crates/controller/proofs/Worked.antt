-- The worked extract, worked out.
use Rattle.std.proofs.Common.{refl}
use Rattle.controller.specs.WorkedExtract.{WorkedExtract}

pub extract_worked : WorkedExtract
extract_worked = record {
  opened = refl;
  taken = (refl, (refl, (refl, (refl, (refl, (refl, (refl, (refl, (refl, (refl, tt))))))))));
  complete = refl;
  transactions = refl;
}
