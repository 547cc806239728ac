-- What rows ask of a store, where schedules are put together without the rules of extracts.
use Rattle.std.specs.Prelude.{◌≡◌, Bool, true, false, None}
use Rattle.cif.specs.declared.content.Content.{Content}
use Rattle.cif.specs.declared.content.Content.TheVariants.{Schedule, Terminus}
use Rattle.list_tasks.specs.declared.drafts.Draft.{Draft}

-- no schedule is being read
abbrev pub ReadsNothing : Draft → Type 0
ReadsNothing d = d.begun ≡ None

-- only a BS and an LT can ask anything: a BS when it deletes or cancels, an LT for the schedule
-- that it ends
abbrev pub can_ask : Content → Bool
can_ask (Schedule b) = true
can_ask (Terminus l) = true
can_ask _ = false

-- whether a row is an LT
abbrev pub is_terminus : Content → Bool
is_terminus (Terminus l) = true
is_terminus _ = false
