use Rattle.std.proofs.Common.{◌≡◌, drop}
use Rattle.cif.specs.declared.identity.TheConstants.Identity.{LETTERS}
use Rattle.forms.specs.Letters.{case_of}
use Rattle.cif.proofs.identity.IdentityTryFromArrayU82.try_from.Given as goal

abbrev pub invariant-loop-identity : goal.invariant-loop-identity
invariant-loop-identity l = case_of LETTERS l.number ≡ case_of (drop l.identity-index LETTERS) l.number
