use Rattle.std.proofs.Common.{rules}
use Rattle.std.proofs.lemmas.Str.{encode_ascii}
use Rattle.wording.proofs.Texts.{five_digits}
use Rattle.wording.proofs.words.UidDisplay.fmt.Goals as goal

pub returns-clause-writes : goal.returns-clause-writes
returns-clause-writes g c = search (rules, five_digits, encode_ascii)
