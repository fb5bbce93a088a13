use Rattle.sc_disk.proofs.Reopening.{refused_listing}
use Rattle.sc_disk_pair.specs.Twos.{joined_state}
use Rattle.sc_disk_pair.proofs.Weaving.{still-none}
use Rattle.sc_disk_pair.proofs.pair_cache.PairCache.open.Goals as goal

pub returns-in_default-clause-err : goal.returns-in_default-clause-err
returns-in_default-clause-err g c = refused_listing c.args.size (joined_state c.args.disks) (joined_state c.args.disks) (still-none c.args.disks)
