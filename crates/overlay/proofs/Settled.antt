-- Transactions done to a store that has room for them.
use Rattle.std.proofs.Common.{◌≡◌, ℕ, zero, suc, ◌<◌, true, cond, ◌||◌, List, [], ◌∷◌, length, get_or, nat_lt, refl, ap, ◌∙◌, arith}
use Rattle.std.proofs.lemmas.Bool.{and_parts, lt-ltb}
use Rattle.schedule.specs.declared.transaction.Change.{Change}
use Rattle.schedule.specs.declared.transaction.Change.TheVariants.{New, Revise, Delete}
use Rattle.schedule.specs.Transactions.{is_lawful, every_lawful}
use Rattle.timetable.specs.Timetables.{Meaning, with_schedule}
use Rattle.overlay.specs.Overlays.{done_to}
use Rattle.overlay.specs.Permitted.{MayBeDone}
use Rattle.overlay.specs.Settling.{after_try, after_tries, RoomForAll}

-- a transaction that may be done finds room
tries : (t : Meaning) (c : Change) → MayBeDone t c → after_try t c ≡ record t { map = done_to t.map c }
tries t (New r) h = ap (λ b. record t { map = cond b (with_schedule t.map r) t.map }) (ap (λ b. b || nat_lt (length t.map) t.capacity) h.1 ∙ lt-ltb (length t.map) t.capacity h.2)
tries t (Revise r) h = ap (λ b. record t { map = cond (b || nat_lt (length t.map) t.capacity) (with_schedule t.map r) t.map }) h.1
tries t (Delete k) h = refl

pub all_tried : RoomForAll
all_tried t [] h = refl
all_tried t (c ∷ cs) h = ap (λ x. after_tries x cs) (tries t c h.0) ∙ all_tried (record t { map = done_to t.map c }) cs h.1

-- what finds no room changes no capacity either
try_capacity : (t : Meaning) (c : Change) → (after_try t c).capacity ≡ t.capacity
try_capacity t (New r) = refl
try_capacity t (Revise r) = refl
try_capacity t (Delete k) = refl

pub tries_capacity : (t : Meaning) (cs : List Change) → (after_tries t cs).capacity ≡ t.capacity
tries_capacity t [] = refl
tries_capacity t (c ∷ cs) = tries_capacity (after_try t c) cs ∙ try_capacity t c

-- each of lawful transactions is lawful
pub lawful_at : (cs : List Change) (i : ℕ) (d : Change) → every_lawful cs ≡ true → i < length cs → is_lawful (get_or cs i d) ≡ true
lawful_at [] i d h l = absurd (omega arith)
lawful_at (c ∷ cs) zero d h l = (and_parts (is_lawful c) (every_lawful cs) h).0
lawful_at (c ∷ cs) (suc i) d h l = lawful_at cs i d (and_parts (is_lawful c) (every_lawful cs) h).1 (omega arith)
