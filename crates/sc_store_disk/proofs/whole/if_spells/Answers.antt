use Rattle.sc_store_disk.proofs.Spellings.{spelled_again}
use Rattle.sc_store_disk.proofs.whole.if_spells.Goals as goal

pub returns-in-Ok : goal.returns-in-Ok
returns-in-Ok c = spelled_again c.args.bytes c.into_bytes.result c.in-Ok.entry c.in-Ok.ensures c.into_bytes.ensures.spelled
