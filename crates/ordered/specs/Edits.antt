-- What puts and removals make of all that lies in lent slots, those past the elements among them.
use Rattle.std.specs.Prelude.{◌≡◌, Bool, if◌then◌else◌, ◌||◌, List, ◌++◌, length, drop, is_some, nat_lt, fold}
use Rattle.maps.specs.Maps.{lookup}
use Rattle.ordered.specs.declared.slots.Slots.{Slots}
use Rattle.ordered.specs.Tables.{items}

-- what is done to a table: to put an element, or to remove the one of a key
pub data Edit (E K : Type 0) : Type 0 where
  ToPut : E → Edit E K
  ToRemove : K → Edit E K

-- what lies in slots: the elements that are held, in the order of their slots, and what the slots past them have
pub record Contents (E : Type 0) : Type 0 where
  pub held : List E
  pub past : List E

-- the contents of lent slots
abbrev pub contents_of : {E : Type 0} → Slots E → Contents E
contents_of s = record { held = items s; past = drop s.len s.slots.now }

-- the first slots hold other elements, and those past them keep what they had
abbrev pub now_holding : {E : Type 0} → Contents E → List E → Contents E
now_holding c xs = record { held = xs; past = drop (length xs) (c.held ++ c.past) }

-- by what a put and a removal make of the elements in the order of their slots
module _ {E K : Type 0} (before : K → K → Bool) (key : E → K) (put : List E → E → List E) (removal : List E → K → List E) where
  -- an element can be put where its key is held or a slot is free
  abbrev pub has_place : Contents E → E → Bool
  has_place c x = is_some (lookup before key c.held (key x)) || nat_lt 0 (length c.past)

  -- the contents after a put, which changes nothing where there is no place, or after a removal
  abbrev pub after_edit : Contents E → Edit E K → Contents E
  after_edit c (ToPut x) = if has_place c x then now_holding c (put c.held x) else c
  after_edit c (ToRemove k) = now_holding c (removal c.held k)

  -- slots become others by puts and removals in order: they are the same lender's, and have what these make of what they had
  pub record Edited (s : Slots E) (edits : List (Edit E K)) (t : Slots E) : Type 0 where
    pub lender : t.slots.ghost_name ≡ s.slots.ghost_name
    pub contents : contents_of t ≡ fold after_edit (contents_of s) edits
