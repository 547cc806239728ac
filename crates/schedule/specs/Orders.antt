-- The laws of the order of keys.
use Rattle.std.specs.Prelude.{◌≡◌, ℕ, zero, suc, true, false, refl}
use Rattle.std.proofs.Common.{sym, ap, ◌∙◌, arith}
use Rattle.std.proofs.lemmas.Bool.Decides.{nat_tests}
use Rattle.forms.specs.declared.letters.Stp.{Stp}
use Rattle.forms.specs.declared.letters.Stp.TheVariants.{Cancellation, ShortTerm, Overlay, Permanent}
use Rattle.schedule.specs.declared.key.Key.{Key}
use Rattle.schedule.specs.Keys.{rank_of, key_before}

-- no key is before itself
pub key_irreflexive : (x : Key) → key_before x x ≡ false
key_irreflexive x = grind (arith, nat_tests)

-- what is before a key is before all that come after it
pub key_transitive : (x y z : Key) → key_before x y ≡ true → key_before y z ≡ true → key_before x z ≡ true
key_transitive x y z p q = grind (arith, nat_tests)

-- the letter at a rank
abbrev letter_at : ℕ → Stp
letter_at zero = Cancellation
letter_at (suc zero) = ShortTerm
letter_at (suc (suc zero)) = Overlay
letter_at (suc (suc (suc n))) = Permanent

-- it is the letter of that rank
letter_back : (a : Stp) → letter_at (rank_of a) ≡ a
letter_back Cancellation = refl
letter_back ShortTerm = refl
letter_back Overlay = refl
letter_back Permanent = refl

-- letters of one rank are one
pub same_rank : (a b : Stp) → rank_of a ≡ rank_of b → a ≡ b
same_rank a b e = sym (letter_back a) ∙ (ap letter_at e ∙ letter_back b)

-- keys of which none is first agree in each part
parts : (x y : Key) → key_before x y ≡ false → key_before y x ≡ false → (x.uid ≡ y.uid) × (x.from ≡ y.from) × (rank_of x.stp ≡ rank_of y.stp)
parts x y p q = (grind (arith, nat_tests), grind (arith, nat_tests), grind (arith, nat_tests))

-- of two different keys one is before the other
pub key_total : (x y : Key) → key_before x y ≡ false → key_before y x ≡ false → x ≡ y
key_total x y p q =
    let h = parts x y p q in
    let stp : x.stp ≡ y.stp = same_rank x.stp y.stp h.2 in
    same h.0 h.1 stp
  where
    same : {u v f g : ℕ} {s t : Stp} → u ≡ v → f ≡ g → s ≡ t → ◌≡◌ {A = Key} (record { uid = u; from = f; stp = s }) (record { uid = v; from = g; stp = t })
    same a b c = cc
