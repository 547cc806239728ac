-- Keys of schedules, and their order.
use Rattle.std.specs.Prelude.{ℕ, Bool, ◌&&◌, ◌||◌, ◌==◌, nat_lt}
use Rattle.forms.specs.declared.letters.Stp.{Stp}
use Rattle.forms.specs.declared.letters.Stp.TheVariants.{Cancellation, ShortTerm, Overlay, Permanent}
use Rattle.schedule.specs.declared.key.Key.{Key}

-- the STP letters rank in the order C, N, O, P
abbrev pub rank_of : Stp → ℕ
rank_of Cancellation = 0
rank_of ShortTerm = 1
rank_of Overlay = 2
rank_of Permanent = 3

-- keys are ordered by UID number, then day, then rank
abbrev pub key_before : Key → Key → Bool
key_before a b =
    nat_lt a.uid b.uid
    || (a.uid == b.uid && (nat_lt a.from b.from || (a.from == b.from && nat_lt (rank_of a.stp) (rank_of b.stp))))
