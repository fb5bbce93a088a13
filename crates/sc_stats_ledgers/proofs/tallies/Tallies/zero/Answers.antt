use Rattle.std.proofs.Common.{ℕ, ◌<◌, ap, subst, sym, ◌∙◌}
use Rattle.sc_stats_ledgers.specs.Numbers.{no_numbers, one_zeroing, sums, zeroed}
use Rattle.sc_stats_ledgers.specs.Stakes.{Stake}
use Rattle.sc_stats_ledgers.proofs.Following.{follow_zeroed, no_more}
use Rattle.sc_stats_ledgers.proofs.tallies.Tallies.zero.Goals as goal

pub invariant_of-self : goal.invariant_of-self
invariant_of-self g c = follow_zeroed (record { compile_requests = c.self.inside.compile_requests.number; requests_unsupported_compiler = c.self.inside.requests_unsupported_compiler.number; requests_not_compile = c.self.inside.requests_not_compile.number; requests_not_cacheable = c.self.inside.requests_not_cacheable.number; requests_executed = c.self.inside.requests_executed.number; cache_timeouts = c.self.inside.cache_timeouts.number; cache_read_errors = c.self.inside.cache_read_errors.number; non_cacheable_compilations = c.self.inside.non_cacheable_compilations.number; forced_recaches = c.self.inside.forced_recaches.number; cache_write_errors = c.self.inside.cache_write_errors.number; cache_writes = c.self.inside.cache_writes.number; compilations = c.self.inside.compilations.number; compile_fails = c.self.inside.compile_fails.number; dist_errors = c.self.inside.dist_errors.number; zeroings = c.self.inside.zeroings.number }) (record { compile_requests = c.self.inside.compile_requests.book.total; requests_unsupported_compiler = c.self.inside.requests_unsupported_compiler.book.total; requests_not_compile = c.self.inside.requests_not_compile.book.total; requests_not_cacheable = c.self.inside.requests_not_cacheable.book.total; requests_executed = c.self.inside.requests_executed.book.total; cache_timeouts = c.self.inside.cache_timeouts.book.total; cache_read_errors = c.self.inside.cache_read_errors.book.total; non_cacheable_compilations = c.self.inside.non_cacheable_compilations.book.total; forced_recaches = c.self.inside.forced_recaches.book.total; cache_write_errors = c.self.inside.cache_write_errors.book.total; cache_writes = c.self.inside.cache_writes.book.total; compilations = c.self.inside.compilations.book.total; compile_fails = c.self.inside.compile_fails.book.total; dist_errors = c.self.inside.dist_errors.book.total; zeroings = c.self.inside.zeroings.book.total }) _ _ c.self.invariant
    (λ i. record no_numbers { zeroings = c.add.ensures.number i })
    c.add.ensures.total

pub invariant_of-shares : goal.invariant_of-shares
invariant_of-shares g c = (c.shares.invariant.0 ∙ sym c.add.ensures.parts, c.shares.invariant.1 ∙ sym c.add.ensures.parts, c.shares.invariant.2 ∙ sym c.add.ensures.parts, c.shares.invariant.3 ∙ sym c.add.ensures.parts, c.shares.invariant.4 ∙ sym c.add.ensures.parts, c.shares.invariant.5 ∙ sym c.add.ensures.parts, c.shares.invariant.6 ∙ sym c.add.ensures.parts, c.shares.invariant.7 ∙ sym c.add.ensures.parts, c.shares.invariant.8 ∙ sym c.add.ensures.parts, c.shares.invariant.9 ∙ sym c.add.ensures.parts, c.shares.invariant.10 ∙ sym c.add.ensures.parts, c.shares.invariant.11 ∙ sym c.add.ensures.parts, c.shares.invariant.12 ∙ sym c.add.ensures.parts, c.shares.invariant.13 ∙ sym c.add.ensures.parts, subst (λ (n : ℕ). 0 < n) (sym c.add.ensures.parts) c.shares.invariant.14)

pub returns-clause-numbers : goal.returns-clause-numbers
returns-clause-numbers g c = (λ i. record no_numbers { zeroings = c.add.ensures.number i }) ∙ ap zeroed c.self.view_is

pub returns-clause-shares : goal.returns-clause-shares
returns-clause-shares g c =
    (λ i. record { parts = c.add.ensures.parts i; amounts = record { compile_requests = no_more c.shares.inside.compile_requests.amount i; requests_unsupported_compiler = no_more c.shares.inside.requests_unsupported_compiler.amount i; requests_not_compile = no_more c.shares.inside.requests_not_compile.amount i; requests_not_cacheable = no_more c.shares.inside.requests_not_cacheable.amount i; requests_executed = no_more c.shares.inside.requests_executed.amount i; cache_timeouts = no_more c.shares.inside.cache_timeouts.amount i; cache_read_errors = no_more c.shares.inside.cache_read_errors.amount i; non_cacheable_compilations = no_more c.shares.inside.non_cacheable_compilations.amount i; forced_recaches = no_more c.shares.inside.forced_recaches.amount i; cache_write_errors = no_more c.shares.inside.cache_write_errors.amount i; cache_writes = no_more c.shares.inside.cache_writes.amount i; compilations = no_more c.shares.inside.compilations.amount i; compile_fails = no_more c.shares.inside.compile_fails.amount i; dist_errors = no_more c.shares.inside.dist_errors.amount i; zeroings = c.add.ensures.amount i } })
    ∙ ap (λ (s : Stake). record s { amounts = sums s.amounts one_zeroing }) c.shares.view_is
