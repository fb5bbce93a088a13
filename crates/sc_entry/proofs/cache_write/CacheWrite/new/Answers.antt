use Rattle.std.proofs.Common.{ap, ◌∙◌}
use Rattle.sc_entry.specs.Entries.{listed, objects}
use Rattle.sc_entry.proofs.Writes.{written_none, empty_entry}
use Rattle.sc_entry.proofs.cache_write.CacheWrite.new.Goals as goal

pub invariant_of-result : goal.invariant_of-result
invariant_of-result c = written_none c.into_vec.result.items c.new.result (c.into_vec.ensures ∙ c.in_ok-from_slice.ensures) c.new.ensures.empty

pub returns : goal.returns
returns c = ap listed (ap objects (c.into_vec.ensures ∙ c.in_ok-from_slice.ensures) ∙ empty_entry)
