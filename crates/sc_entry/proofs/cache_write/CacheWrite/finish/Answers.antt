use Rattle.std.proofs.Common.{sym, ap, ◌∙◌}
use Rattle.sc_entry.specs.Entries.{entry, objects, listed}
use Rattle.sc_entry.proofs.EntryLaws.{of_entry}
use Rattle.sc_entry.proofs.cache_write.CacheWrite.finish.Goals as goal

pub returns : goal.returns
returns c = record { spelled = sym (of_entry c.self.inside.bytes.items (listed (objects c.self.inside.bytes.items)) c.self.invariant.0).0 ∙ ap entry c.self.view_is }
