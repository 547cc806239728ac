-- What a table of keyed elements does, by the elements that it holds.
use Rattle.std.specs.Prelude.{◌≡◌, ℕ, Bool, if◌then◌else◌, ◌||◌, List, length, take, drop, is_some, nat_lt}
use Rattle.std.specs.Borrow.{MutBor}
use Rattle.maps.specs.Maps.{lookup, with_element, without_element}
use Rattle.ordered.specs.declared.slots.Slots.{Slots}

-- the elements that are held: those in the first slots
abbrev pub items : {E : Type 0} → Slots E → List E
items s = take s.len s.slots.now

-- how many elements the slots can take
abbrev pub room : {E : Type 0} → Slots E → ℕ
room s = length s.slots.now

module _ {E K : Type 0} (before : K → K → Bool) (key : E → K) where
  -- x is put in place of the element of its key, or added where there is room; r tells whether it was
  pub record Put (xs ys : List E) (n : ℕ) (x : E) (r : Bool) : Type 0 where
    pub done : r ≡ (is_some (lookup before key xs (key x)) || nat_lt (length xs) n)
    pub gives : ys ≡ (if r then with_element before key xs x else xs)

  -- the element of the key k is taken out; r tells whether there was one
  pub record Removed (xs ys : List E) (k : K) (r : Bool) : Type 0 where
    pub done : r ≡ is_some (lookup before key xs k)
    pub gives : ys ≡ without_element before key xs k

-- the slots past the elements that are now held keep what they had, none is lost, and they are the same lender's
pub record RestKept {E : Type 0} (s t : Slots E) : Type 0 where
  pub rest : drop t.len t.slots.now ≡ drop t.len s.slots.now
  pub slots : length t.slots.now ≡ length s.slots.now
  pub lender : t.slots.ghost_name ≡ s.slots.ghost_name

-- slots that a caller lends: they are the caller's, and have what they had
pub record IsLent {E : Type 0} (lent : MutBor (List E)) (s : Slots E) : Type 0 where
  pub lender : s.slots.ghost_name ≡ lent.ghost_name
  pub kept : s.slots.now ≡ lent.now
