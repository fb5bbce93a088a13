use Rattle.std.proofs.Common.{◌-◌, ap, ◌∙◌}
use Rattle.sc_stats_ledgers.specs.Stakes.{Stake}
use Rattle.sc_stats_ledgers.proofs.Following.{left_over, none_taken}
use Rattle.sc_stats_ledgers.proofs.shares.Shares.split.Goals as goal

pub returns-clause-given : goal.returns-clause-given
returns-clause-given g c = (λ i. record { parts = c.split_off-15.ensures.parts i; amounts = record { compile_requests = c.split_off.ensures.amount i; requests_unsupported_compiler = c.split_off-2.ensures.amount i; requests_not_compile = c.split_off-3.ensures.amount i; requests_not_cacheable = c.split_off-4.ensures.amount i; requests_executed = c.split_off-5.ensures.amount i; cache_timeouts = c.split_off-6.ensures.amount i; cache_read_errors = c.split_off-7.ensures.amount i; non_cacheable_compilations = c.split_off-8.ensures.amount i; forced_recaches = c.split_off-9.ensures.amount i; cache_write_errors = c.split_off-10.ensures.amount i; cache_writes = c.split_off-11.ensures.amount i; compilations = c.split_off-12.ensures.amount i; compile_fails = c.split_off-13.ensures.amount i; dist_errors = c.split_off-14.ensures.amount i; zeroings = c.split_off-15.ensures.amount i } })

pub returns-clause-left : goal.returns-clause-left
returns-clause-left g c =
    (λ i. record { parts = left_over _ c.args.parts c.self.inside.zeroings.parts c.split_off-15.ensures.parts_left i; amounts = record { compile_requests = none_taken _ c.self.inside.compile_requests.amount c.split_off.ensures.amount_left i; requests_unsupported_compiler = none_taken _ c.self.inside.requests_unsupported_compiler.amount c.split_off-2.ensures.amount_left i; requests_not_compile = none_taken _ c.self.inside.requests_not_compile.amount c.split_off-3.ensures.amount_left i; requests_not_cacheable = none_taken _ c.self.inside.requests_not_cacheable.amount c.split_off-4.ensures.amount_left i; requests_executed = none_taken _ c.self.inside.requests_executed.amount c.split_off-5.ensures.amount_left i; cache_timeouts = none_taken _ c.self.inside.cache_timeouts.amount c.split_off-6.ensures.amount_left i; cache_read_errors = none_taken _ c.self.inside.cache_read_errors.amount c.split_off-7.ensures.amount_left i; non_cacheable_compilations = none_taken _ c.self.inside.non_cacheable_compilations.amount c.split_off-8.ensures.amount_left i; forced_recaches = none_taken _ c.self.inside.forced_recaches.amount c.split_off-9.ensures.amount_left i; cache_write_errors = none_taken _ c.self.inside.cache_write_errors.amount c.split_off-10.ensures.amount_left i; cache_writes = none_taken _ c.self.inside.cache_writes.amount c.split_off-11.ensures.amount_left i; compilations = none_taken _ c.self.inside.compilations.amount c.split_off-12.ensures.amount_left i; compile_fails = none_taken _ c.self.inside.compile_fails.amount c.split_off-13.ensures.amount_left i; dist_errors = none_taken _ c.self.inside.dist_errors.amount c.split_off-14.ensures.amount_left i; zeroings = none_taken _ c.self.inside.zeroings.amount c.split_off-15.ensures.amount_left i } })
    ∙ ap (λ (s : Stake). record s { parts = s.parts - c.args.parts }) c.self.view_is
