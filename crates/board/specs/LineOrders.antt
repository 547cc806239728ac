-- The laws of the order of lines.
use Rattle.std.specs.Prelude.{◌≡◌, ℕ, true, false}
use Rattle.std.proofs.Common.{arith}
use Rattle.std.proofs.lemmas.Bool.Decides.{nat_tests}
use Rattle.maps.specs.Orders.{Lawful}
use Rattle.board.specs.declared.line.LineKey.{LineKey}
use Rattle.board.specs.Lines.{line_before}

-- no key is before itself
pub line_irreflexive : (x : LineKey) → line_before x x ≡ false
line_irreflexive x = grind (arith, nat_tests)

-- what is before a key is before all that come after it
pub line_transitive : (x y z : LineKey) → line_before x y ≡ true → line_before y z ≡ true → line_before x z ≡ true
line_transitive x y z p q = grind (arith, nat_tests)

-- keys of which none is first agree in each part
parts : (x y : LineKey) → line_before x y ≡ false → line_before y x ≡ false → (x.minute ≡ y.minute) × (x.uid ≡ y.uid) × (x.place ≡ y.place)
parts x y p q = (grind (arith, nat_tests), grind (arith, nat_tests), grind (arith, nat_tests))

-- of two different keys one is before the other
pub line_total : (x y : LineKey) → line_before x y ≡ false → line_before y x ≡ false → x ≡ y
line_total x y p q = let h = parts x y p q in same h.0 h.1 h.2
  where
    same : {u v f g s t : ℕ} → u ≡ v → f ≡ g → s ≡ t → ◌≡◌ {A = LineKey} (record { minute = u; uid = f; place = s }) (record { minute = v; uid = g; place = t })
    same a b c = cc

-- the three laws together
pub line_lawful : Lawful line_before
line_lawful = record { irreflexive = line_irreflexive; transitive = line_transitive; total = line_total }
