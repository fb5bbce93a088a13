use Rattle.sc_disk.proofs.Names.{nul_from_first}
use Rattle.sc_disk.proofs.file_name.has_no_nul.Goals as goal

pub returns : goal.returns
returns c = nul_from_first c.args.part.now c.memchr.result c.is_none.result c.memchr.ensures c.is_none.ensures
