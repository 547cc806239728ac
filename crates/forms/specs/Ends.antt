-- Until when a train runs: what the field's bytes tell, and how long that lasts.
use Rattle.std.specs.Prelude.{ℕ, Bool, true, false, if◌then◌else◌, List, Some, Option, codes, nat_le}
use Rattle.std.specs.Option.{option_map}
use Rattle.std.specs.Str.{bytes_eq}
use Rattle.forms.specs.declared.end.End.{End}
use Rattle.forms.specs.declared.end.End.TheVariants.{Day, Never}
use Rattle.forms.specs.Forms.{date_in}

-- it lasts to a day where its last day is no earlier, or where it has no end
abbrev pub lasts : End → ℕ → Bool
lasts (Day last) day = nat_le day last
lasts Never day = true

-- whether it has a last day
abbrev pub has_last : End → Bool
has_last (Day last) = true
has_last Never = false

-- whether the bytes say that there is no end: 999999
abbrev pub says_no_end : List ℕ → Bool
says_no_end cs = bytes_eq cs (codes "999999")

-- the last day that a date is
abbrev pub last_day_in : List ℕ → Option End
last_day_in cs = option_map (λ d. Day d.0) (date_in cs)

-- an end: 999999, or a date
abbrev pub end_in : List ℕ → Option End
end_in cs = if says_no_end cs then Some Never else last_day_in cs
