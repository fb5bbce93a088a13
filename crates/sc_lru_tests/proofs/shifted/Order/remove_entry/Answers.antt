use Rattle.sc_lru.proofs.Cut.{entry_from_parts}
use Rattle.sc_lru_tests.proofs.shifted.Order.remove_entry.Goals as goal

pub returns-clause-value : goal.returns-clause-value
returns-clause-value g c = rw (← c.self.view_is) (entry_from_parts _ c.self.inside.map.entries _ c.shift_remove_entry.ensures.key c.shift_remove_entry.ensures.value)
