-- Counts of calls.
use Rattle.std.proofs.Common.{◌≡◌, ℕ, List, [], None, refl, ap, cond, count_by, add_comm}
use Rattle.std.proofs.lemmas.List.Recursion.{is_count_by}
use Rattle.cif.specs.declared.content.Location.{Location}
use Rattle.schedule.specs.Records.{is_at, visits}

-- what a read past the end would give
abbrev pub nowhere : Location
nowhere = record { tiploc = []; suffix = 0; arrival = None; departure = None; platform = [] }

-- visits are the calls at the TIPLOC, counted
pub visits_counted : (t : List ℕ) (cs : List Location) → visits t cs ≡ count_by (is_at t) cs
visits_counted t cs = is_count_by (visits t) (is_at t) refl (λ c ds. ap (λ (n : ℕ). cond (is_at t c) n (visits t ds)) (add_comm (visits t ds) 1)) cs
