use Rattle.std.proofs.Common.{sym, ap, ◌∙◌}
use Rattle.sc_disk_pair.proofs.Changes.{committed-ok, evicted-refused}
use Rattle.sc_disk_pair.proofs.pair_cache.PairCache.commit.Goals as goal

pub returns-clause-files : goal.returns-clause-files
returns-clause-files g c = committed-ok c.commit.result c.args.entry c.args.now c.args.self.now.store c.commit.new.self (c.requires.3 ∙ sym (ap (λ w. w.divided) c.disk-divided.ensures)) c.commit.ensures.ok

pub returns-clause-evicts : goal.returns-clause-evicts
returns-clause-evicts g c = evicted-refused c.commit.result c.args.entry c.args.now c.args.self.now.store c.commit.new.self c.commit.ensures.err
