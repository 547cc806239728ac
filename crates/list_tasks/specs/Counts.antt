-- Counts of rows and calls.
use Rattle.std.specs.Prelude.{ℕ, ◌+◌, List, min, fold, slice_index, slice_set, Some, None, Option}
use Rattle.cif.specs.Refusals.{number_of}
use Rattle.cif.specs.declared.refusal.Refusal.{Refusal}
use Rattle.controller.specs.declared.answer.Answer.{Answer}
use Rattle.controller.specs.declared.answer.Answer.TheVariants.{Refused}
use Rattle.list_tasks.specs.declared.rows.Counts.{Counts}

-- a count stays at the largest number of 64 bits on reaching it
abbrev pub counted : ℕ → ℕ
counted n = min n 18446744073709551615

-- how many were done
abbrev pub done_count : Counts → ℕ
done_count c = c.done

-- how many were refused with a number
abbrev pub refused_count : Counts → ℕ → ℕ
refused_count c number = slice_index c.refused number

-- how many were refused with any number
abbrev pub refused_total : Counts → ℕ
refused_total c = fold (λ all n. counted (all + n)) 0 c.refused

-- counts with one more that was done
abbrev pub with_done : Counts → Counts
with_done c = record c { done = counted (c.done + 1) }

-- the counts of the numbers with one more for a number
abbrev pub with_number : List ℕ → ℕ → List ℕ
with_number numbers number = slice_set numbers number (counted (slice_index numbers number + 1))

-- counts with one more that was refused
abbrev pub with_refused : Counts → Refusal → Counts
with_refused c r = record c { refused = with_number c.refused (number_of r) }

-- the refusal that an answer tells, if it tells one
abbrev pub refusal_told : Answer → Option Refusal
refusal_told (Refused f) = Some f.fault.fault.refusal
refusal_told _ = None
