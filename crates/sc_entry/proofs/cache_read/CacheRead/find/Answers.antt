use Rattle.std.proofs.Common.{◌≤◌, ◌+◌, List, ℕ, length, subst, sym}
use Rattle.std.specs.BTreeMap.{get_by_text}
use Rattle.sc_entry.specs.Entries.{find_object, listed, objects}
use Rattle.sc_entry.proofs.Holding.{held_within}
use Rattle.sc_entry.proofs.cache_read.CacheRead.find.Goals as goal

pub part_of-requires : goal.part_of-requires
part_of-requires c =
    subst (λ (bytes : List ℕ). c.in-Some.held.now.start + c.in-Some.held.now.len ≤ length bytes) (sym c.as_slice.ensures)
    (held_within c.self.inside.bytes (find_object c.args.name.now (listed (objects c.self.inside.bytes))) (get_by_text c.self.inside.index c.args.name.now) c.in-Some.held.now
    (c.self.invariant.1 c.args.name.now) c.in-Some.ensures.value)
