use Rattle.std.proofs.Common.{◌+◌, ◌∙◌}
use Rattle.sc_stats_ledgers.specs.Numbers.{sums}
use Rattle.sc_stats_ledgers.specs.Stakes.{Stake}
use Rattle.sc_stats_ledgers.proofs.shares.Shares.merge.Goals as goal

abbrev both : Stake → Stake → Stake
both a b = record { parts = a.parts + b.parts; amounts = sums a.amounts b.amounts }

pub returns : goal.returns
returns g c =
    (λ i. record { parts = c.merge-15.ensures.parts i; amounts = record { compile_requests = c.merge.ensures.amount i; requests_unsupported_compiler = c.merge-2.ensures.amount i; requests_not_compile = c.merge-3.ensures.amount i; requests_not_cacheable = c.merge-4.ensures.amount i; requests_executed = c.merge-5.ensures.amount i; cache_timeouts = c.merge-6.ensures.amount i; cache_read_errors = c.merge-7.ensures.amount i; non_cacheable_compilations = c.merge-8.ensures.amount i; forced_recaches = c.merge-9.ensures.amount i; cache_write_errors = c.merge-10.ensures.amount i; cache_writes = c.merge-11.ensures.amount i; compilations = c.merge-12.ensures.amount i; compile_fails = c.merge-13.ensures.amount i; dist_errors = c.merge-14.ensures.amount i; zeroings = c.merge-15.ensures.amount i } })
    ∙ (λ i. both (c.self.view_is i) (c.other.view_is i))
