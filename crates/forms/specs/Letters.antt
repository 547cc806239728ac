-- Fields of one letter, and the letter of each case: the number that the enum itself gives the case.
use denote.Enum.Bare.{sameb}
use Rattle.std.specs.Prelude.{ℕ, Bool, cond, List, [], ◌∷◌, Some, None, Option, Result, ◌==◌}
use Rattle.std.specs.Option.{ok_or}
use Rattle.forms.specs.declared.letters.UnknownLetter.{UnknownLetter}
use Rattle.forms.specs.declared.letters.Stp.{Stp}
use Rattle.forms.specs.declared.letters.TransactionType.{TransactionType}
use Rattle.forms.specs.declared.letters.Coverage.{Coverage}
use Rattle.forms.specs.declared.letters.TheConstants.Stp.{LETTERS as stp_letters}
use Rattle.forms.specs.declared.letters.TheConstants.TransactionType.{LETTERS as transaction_letters}
use Rattle.forms.specs.declared.letters.TheConstants.Coverage.{LETTERS as coverage_letters}
use Rattle.forms.specs.contracts.letters.Stp.{the_type as stp_type}
use Rattle.forms.specs.contracts.letters.TransactionType.{the_type as transaction_type}
use Rattle.forms.specs.contracts.letters.Coverage.{the_type as coverage_type}

-- the case beside a number in a table of cases and numbers
abbrev pub case_of : {X : Type 0} → List (X × ℕ) → ℕ → Option X
case_of [] n = None
case_of (t ∷ ts) n = cond (t.1 == n) (Some t.0) (case_of ts n)

-- the number beside a case, or 0 where the case is not in the table; the test tells whether two cases are one
abbrev pub number_beside : {X : Type 0} → (X → X → Bool) → List (X × ℕ) → X → ℕ
number_beside is_one [] x = 0
number_beside is_one (t ∷ ts) x = cond (is_one t.0 x) t.1 (number_beside is_one ts x)

-- the letter of an STP case
abbrev pub stp_letter : Stp → ℕ
stp_letter s = number_beside (sameb stp_type) stp_letters s

-- the letter of a transaction type
abbrev pub transaction_letter : TransactionType → ℕ
transaction_letter t = number_beside (sameb transaction_type) transaction_letters t

-- the letter of a full extract or an update
abbrev pub coverage_letter : Coverage → ℕ
coverage_letter c = number_beside (sameb coverage_type) coverage_letters c

-- the STP letter's case
abbrev pub stp_in : ℕ → Option Stp
stp_in c = case_of stp_letters c

-- the transaction letter's case
abbrev pub transaction_in : ℕ → Option TransactionType
transaction_in c = case_of transaction_letters c

-- the case of the letter of a full extract or an update
abbrev pub coverage_in : ℕ → Option Coverage
coverage_in c = case_of coverage_letters c

-- the case that a letter names, or the letter that names none
abbrev pub case_or_letter : {X : Type 0} → Option X → ℕ → Result X UnknownLetter
case_or_letter found letter = ok_or found (record { 0 = letter })
