use Rattle.std.proofs.Common.{ℕ, ◌<◌, ap, subst, sym, ◌∙◌}
use Rattle.sc_stats_ledgers.specs.Numbers.{capped, sums}
use Rattle.sc_stats_ledgers.specs.Stakes.{Stake}
use Rattle.sc_stats_ledgers.specs.declared.numbers.Numbers.{Numbers}
use Rattle.sc_stats_ledgers.proofs.Following.{follow_added}
use Rattle.sc_stats_ledgers.proofs.tallies.Tallies.add.Goals as goal

pub invariant_of-self : goal.invariant_of-self
invariant_of-self g c = follow_added (record { compile_requests = c.self.inside.compile_requests.number; requests_unsupported_compiler = c.self.inside.requests_unsupported_compiler.number; requests_not_compile = c.self.inside.requests_not_compile.number; requests_not_cacheable = c.self.inside.requests_not_cacheable.number; requests_executed = c.self.inside.requests_executed.number; cache_timeouts = c.self.inside.cache_timeouts.number; cache_read_errors = c.self.inside.cache_read_errors.number; non_cacheable_compilations = c.self.inside.non_cacheable_compilations.number; forced_recaches = c.self.inside.forced_recaches.number; cache_write_errors = c.self.inside.cache_write_errors.number; cache_writes = c.self.inside.cache_writes.number; compilations = c.self.inside.compilations.number; compile_fails = c.self.inside.compile_fails.number; dist_errors = c.self.inside.dist_errors.number; zeroings = c.self.inside.zeroings.number }) (record { compile_requests = c.self.inside.compile_requests.book.total; requests_unsupported_compiler = c.self.inside.requests_unsupported_compiler.book.total; requests_not_compile = c.self.inside.requests_not_compile.book.total; requests_not_cacheable = c.self.inside.requests_not_cacheable.book.total; requests_executed = c.self.inside.requests_executed.book.total; cache_timeouts = c.self.inside.cache_timeouts.book.total; cache_read_errors = c.self.inside.cache_read_errors.book.total; non_cacheable_compilations = c.self.inside.non_cacheable_compilations.book.total; forced_recaches = c.self.inside.forced_recaches.book.total; cache_write_errors = c.self.inside.cache_write_errors.book.total; cache_writes = c.self.inside.cache_writes.book.total; compilations = c.self.inside.compilations.book.total; compile_fails = c.self.inside.compile_fails.book.total; dist_errors = c.self.inside.dist_errors.book.total; zeroings = c.self.inside.zeroings.book.total }) c.args.row.now _ _ c.self.invariant
    (λ i. record { compile_requests = c.add.ensures.number i; requests_unsupported_compiler = c.add-2.ensures.number i; requests_not_compile = c.add-3.ensures.number i; requests_not_cacheable = c.add-4.ensures.number i; requests_executed = c.add-5.ensures.number i; cache_timeouts = c.add-6.ensures.number i; cache_read_errors = c.add-7.ensures.number i; non_cacheable_compilations = c.add-8.ensures.number i; forced_recaches = c.add-9.ensures.number i; cache_write_errors = c.add-10.ensures.number i; cache_writes = c.add-11.ensures.number i; compilations = c.add-12.ensures.number i; compile_fails = c.add-13.ensures.number i; dist_errors = c.add-14.ensures.number i; zeroings = c.add-15.ensures.number i })
    (λ i. record { compile_requests = c.add.ensures.total i; requests_unsupported_compiler = c.add-2.ensures.total i; requests_not_compile = c.add-3.ensures.total i; requests_not_cacheable = c.add-4.ensures.total i; requests_executed = c.add-5.ensures.total i; cache_timeouts = c.add-6.ensures.total i; cache_read_errors = c.add-7.ensures.total i; non_cacheable_compilations = c.add-8.ensures.total i; forced_recaches = c.add-9.ensures.total i; cache_write_errors = c.add-10.ensures.total i; cache_writes = c.add-11.ensures.total i; compilations = c.add-12.ensures.total i; compile_fails = c.add-13.ensures.total i; dist_errors = c.add-14.ensures.total i; zeroings = c.add-15.ensures.total i })

pub invariant_of-shares : goal.invariant_of-shares
invariant_of-shares g c = (c.add.ensures.parts ∙ (c.shares.invariant.0 ∙ sym c.add-15.ensures.parts), c.add-2.ensures.parts ∙ (c.shares.invariant.1 ∙ sym c.add-15.ensures.parts), c.add-3.ensures.parts ∙ (c.shares.invariant.2 ∙ sym c.add-15.ensures.parts), c.add-4.ensures.parts ∙ (c.shares.invariant.3 ∙ sym c.add-15.ensures.parts), c.add-5.ensures.parts ∙ (c.shares.invariant.4 ∙ sym c.add-15.ensures.parts), c.add-6.ensures.parts ∙ (c.shares.invariant.5 ∙ sym c.add-15.ensures.parts), c.add-7.ensures.parts ∙ (c.shares.invariant.6 ∙ sym c.add-15.ensures.parts), c.add-8.ensures.parts ∙ (c.shares.invariant.7 ∙ sym c.add-15.ensures.parts), c.add-9.ensures.parts ∙ (c.shares.invariant.8 ∙ sym c.add-15.ensures.parts), c.add-10.ensures.parts ∙ (c.shares.invariant.9 ∙ sym c.add-15.ensures.parts), c.add-11.ensures.parts ∙ (c.shares.invariant.10 ∙ sym c.add-15.ensures.parts), c.add-12.ensures.parts ∙ (c.shares.invariant.11 ∙ sym c.add-15.ensures.parts), c.add-13.ensures.parts ∙ (c.shares.invariant.12 ∙ sym c.add-15.ensures.parts), c.add-14.ensures.parts ∙ (c.shares.invariant.13 ∙ sym c.add-15.ensures.parts), subst (λ (n : ℕ). 0 < n) (sym c.add-15.ensures.parts) c.shares.invariant.14)

pub returns-clause-numbers : goal.returns-clause-numbers
returns-clause-numbers g c =
    (λ i. record { compile_requests = c.add.ensures.number i; requests_unsupported_compiler = c.add-2.ensures.number i; requests_not_compile = c.add-3.ensures.number i; requests_not_cacheable = c.add-4.ensures.number i; requests_executed = c.add-5.ensures.number i; cache_timeouts = c.add-6.ensures.number i; cache_read_errors = c.add-7.ensures.number i; non_cacheable_compilations = c.add-8.ensures.number i; forced_recaches = c.add-9.ensures.number i; cache_write_errors = c.add-10.ensures.number i; cache_writes = c.add-11.ensures.number i; compilations = c.add-12.ensures.number i; compile_fails = c.add-13.ensures.number i; dist_errors = c.add-14.ensures.number i; zeroings = c.add-15.ensures.number i })
    ∙ ap (λ (n : Numbers). capped (sums n c.args.row.now)) c.self.view_is

pub returns-clause-shares : goal.returns-clause-shares
returns-clause-shares g c =
    (λ i. record { parts = c.add-15.ensures.parts i; amounts = record { compile_requests = c.add.ensures.amount i; requests_unsupported_compiler = c.add-2.ensures.amount i; requests_not_compile = c.add-3.ensures.amount i; requests_not_cacheable = c.add-4.ensures.amount i; requests_executed = c.add-5.ensures.amount i; cache_timeouts = c.add-6.ensures.amount i; cache_read_errors = c.add-7.ensures.amount i; non_cacheable_compilations = c.add-8.ensures.amount i; forced_recaches = c.add-9.ensures.amount i; cache_write_errors = c.add-10.ensures.amount i; cache_writes = c.add-11.ensures.amount i; compilations = c.add-12.ensures.amount i; compile_fails = c.add-13.ensures.amount i; dist_errors = c.add-14.ensures.amount i; zeroings = c.add-15.ensures.amount i } })
    ∙ ap (λ (s : Stake). record s { amounts = sums s.amounts c.args.row.now }) c.shares.view_is
