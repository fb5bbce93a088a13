use Rattle.sc_stats_ledgers.proofs.blanks.Blanks.open.Goals as goal

pub returns-clause-numbers : goal.returns-clause-numbers
returns-clause-numbers g c = (λ i. record { compile_requests = c.open-compile_requests.ensures.number i; requests_unsupported_compiler = c.open-requests_unsupported_compiler.ensures.number i; requests_not_compile = c.open-requests_not_compile.ensures.number i; requests_not_cacheable = c.open-requests_not_cacheable.ensures.number i; requests_executed = c.open-requests_executed.ensures.number i; cache_timeouts = c.open-cache_timeouts.ensures.number i; cache_read_errors = c.open-cache_read_errors.ensures.number i; non_cacheable_compilations = c.open-non_cacheable_compilations.ensures.number i; forced_recaches = c.open-forced_recaches.ensures.number i; cache_write_errors = c.open-cache_write_errors.ensures.number i; cache_writes = c.open-cache_writes.ensures.number i; compilations = c.open-compilations.ensures.number i; compile_fails = c.open-compile_fails.ensures.number i; dist_errors = c.open-dist_errors.ensures.number i; zeroings = c.open-zeroings.ensures.number i })

pub returns-clause-shares : goal.returns-clause-shares
returns-clause-shares g c = (λ i. record { parts = c.open-zeroings.ensures.parts i; amounts = record { compile_requests = c.open-compile_requests.ensures.amount i; requests_unsupported_compiler = c.open-requests_unsupported_compiler.ensures.amount i; requests_not_compile = c.open-requests_not_compile.ensures.amount i; requests_not_cacheable = c.open-requests_not_cacheable.ensures.amount i; requests_executed = c.open-requests_executed.ensures.amount i; cache_timeouts = c.open-cache_timeouts.ensures.amount i; cache_read_errors = c.open-cache_read_errors.ensures.amount i; non_cacheable_compilations = c.open-non_cacheable_compilations.ensures.amount i; forced_recaches = c.open-forced_recaches.ensures.amount i; cache_write_errors = c.open-cache_write_errors.ensures.amount i; cache_writes = c.open-cache_writes.ensures.amount i; compilations = c.open-compilations.ensures.amount i; compile_fails = c.open-compile_fails.ensures.amount i; dist_errors = c.open-dist_errors.ensures.amount i; zeroings = c.open-zeroings.ensures.amount i } })
