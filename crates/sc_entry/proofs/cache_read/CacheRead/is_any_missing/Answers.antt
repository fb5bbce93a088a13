use Rattle.std.proofs.Common.{sym, ◌∙◌}
use Rattle.sc_entry.proofs.Placing.{lacks_here, lacks_on}
use Rattle.sc_entry.proofs.cache_read.CacheRead.is_any_missing.Goals as goal

pub returns-then-is_missing : goal.returns-then-is_missing
returns-then-is_missing c =
    sym (lacks_here c.args.self.now c.args.sources.now c.loop-source.source-index c.source-item.result c.loop-source-test.true c.source-item.is
    (sym c.is_missing.ensures ∙ c.if-is_missing.true) c.loop-source.invariant)

pub loop-source-preserved : goal.loop-source-preserved
loop-source-preserved c = lacks_on c.args.self.now c.args.sources.now c.loop-source.source-index c.source-item.result c.loop-source-test.true c.source-item.is (sym c.is_missing.ensures ∙ c.if-is_missing.false) c.loop-source.invariant
