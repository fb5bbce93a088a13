use Rattle.std.proofs.Common.{sym, ap, ◌∙◌}
use Rattle.sc_entry.specs.Entries.{entry, objects, listed}
use Rattle.sc_entry.proofs.EntryLaws.{of_entry}
use Rattle.sc_entry.proofs.cache_read.CacheRead.as_slice.Goals as goal

pub returns : goal.returns
returns c = record { spelled = c.as_slice.ensures ∙ sym (of_entry c.self.inside.bytes (listed (objects c.self.inside.bytes)) c.self.invariant.0).0 ∙ ap entry c.self.view_is }
