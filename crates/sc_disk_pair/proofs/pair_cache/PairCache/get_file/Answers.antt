use Rattle.sc_disk_pair.proofs.Changes.{get-cause, if_err, if_ok-on, used}
use Rattle.sc_disk_pair.proofs.pair_cache.PairCache.get_file.Goals as goal

pub returns-clause-files : goal.returns-clause-files
returns-clause-files g c = if_ok-on c.get_file.result _ _ (λ file h. used c.args.part c.args.key.now c.in-Ok.both _ c.args.now c.args.self.now.store c.get_file.new.self c.in-Ok.ensures.key h) c.get_file.ensures.ok

pub returns-clause-cause : goal.returns-clause-cause
returns-clause-cause g c = let old = c.args.self.now.store in let new = c.get_file.new.self in
    if_err c.get_file.result _ _ (λ x h. get-cause c.args.part c.args.key.now c.in-Ok.both x old.disk.faults new.disk.faults old c.in-Ok.ensures.key c.in-Ok.ensures.good h.1.cause) c.get_file.ensures.err
