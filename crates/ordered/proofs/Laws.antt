-- The laws that whoever brings an order of keys has shown, as one fact.
use Rattle.maps.specs.Orders.{Lawful}
use Rattle.ordered.specs.contracts.keys.KeyOrder.TheBound.{Met}

pub lawful : {M : _} {𝓤 : _} {𝓛 : _} {𝓜 : _} {𝓡 : _} {env : _} {row : _} {order : _} {dict : _} {clone : _} {clone-dict : _} → Met {M = M} {𝓤 = 𝓤} 𝓛 𝓜 𝓡 env row order dict clone clone-dict → Lawful order.before
lawful m = record { irreflexive = m.irreflexive; transitive = m.transitive; total = m.total }
