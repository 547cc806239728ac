use Rattle.std.proofs.Common.{ap, ◌∙◌}
use Rattle.cif.specs.Refusals.{fault_of}
use Rattle.cif.proofs.Tables.{read_told}
use Rattle.cif.proofs.reading.read.Goals as goal

pub returns : goal.returns
returns c = record { value = c.read_in_order.ensures; told = ap fault_of c.read_in_order.ensures ∙ read_told c.args.bytes.now }
