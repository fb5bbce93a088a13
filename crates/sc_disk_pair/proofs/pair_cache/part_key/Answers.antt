use Rattle.sc_disk_pair.proofs.Keys.{good-part}
use Rattle.sc_disk_pair.proofs.pair_cache.part_key.Goals as goal

pub returns-in_err-path-clause-good : goal.returns-in_err-path-clause-good
returns-in_err-path-clause-good c = good-part c.args.part c.args.key.now

pub returns-clause-good : goal.returns-clause-good
returns-clause-good c = good-part c.args.part c.args.key.now
