use Rattle.sc_disk_pair.proofs.Arms.{on_ok}
use Rattle.sc_disk_pair.proofs.Changes.{dropped}
use Rattle.sc_disk_pair.proofs.pair_cache.PairCache.remove.Goals as goal

pub returns-clause-files : goal.returns-clause-files
returns-clause-files g c = on_ok c.remove.result _ _ (λ h. dropped c.args.part c.args.key.now c.in-Ok.both c.args.self.now.store c.remove.new.self c.in-Ok.ensures.key h) c.remove.ensures.ok
