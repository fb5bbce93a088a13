use Rattle.std.proofs.Common.{◌≡◌, map}
use Rattle.std.specs.Map.Iter.{deref_pair}
use Rattle.sc_entry.specs.Tally.{add_each}
use Rattle.sc_entry.proofs.counts.Counts.add_all.Given as goal

-- the counts that were given so far are added
abbrev pub invariant-loop-text : goal.invariant-loop-text
invariant-loop-text l = l.self ≡ add_each (map deref_pair l.yielded) l.fn.self
