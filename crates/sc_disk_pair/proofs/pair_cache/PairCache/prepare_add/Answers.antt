use Rattle.std.proofs.Common.{◌≡◌, true, subst}
use Rattle.sc_disk.specs.Disks.{has_place}
use Rattle.sc_disk_pair.specs.Parts.{in_part}
use Rattle.sc_disk_pair.proofs.Changes.{add-cause, evicted-add, if_err}
use Rattle.sc_disk_pair.proofs.Placed.{has-part}
use Rattle.sc_disk_pair.proofs.pair_cache.PairCache.prepare_add.Goals as goal

pub returns-clause-evicts : goal.returns-clause-evicts
returns-clause-evicts g c = evicted-add c.prepare_add.result c.in-Ok.both c.args.size c.args.now c.args.self.now.store c.prepare_add.new.self c.prepare_add.ensures.ok c.prepare_add.ensures.err

pub returns-clause-cause : goal.returns-clause-cause
returns-clause-cause g c = let part = c.args.part in let key = c.args.key.now in let old = c.args.self.now.store in
    if_err c.prepare_add.result _ _ (λ x h. add-cause part key c.in-Ok.both x c.args.size h.0 old c.prepare_add.new.self c.in-Ok.ensures.key c.in-Ok.ensures.good (subst (λ d. has_place d (in_part part key) ≡ true) c.disk-placed.ensures (has-part c.disk-placed.result.now part key)) h.1) c.prepare_add.ensures.err
