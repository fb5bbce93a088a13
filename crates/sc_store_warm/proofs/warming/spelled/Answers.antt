use Rattle.std.proofs.Common.{◌∙◌}
use Rattle.sc_entry.proofs.EntryLaws.{of_entry}
use Rattle.sc_store_warm.proofs.warming.spelled.Goals as goal

pub returns-in-Ok : goal.returns-in-Ok
returns-in-Ok c = (c.into_bytes.ensures.spelled ∙ (of_entry c.args.bytes c.in-Ok.entry c.in-Ok.ensures).0, (c.in-Ok.entry, c.in-Ok.ensures))
