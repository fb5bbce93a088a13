use Rattle.std.proofs.Common.{◌≡◌, ℕ, ◌<◌, ap, subst, sym, ◌∙◌}
use Rattle.sc_stats_ledgers.specs.Numbers.{Follow}
use Rattle.sc_stats_ledgers.specs.Stakes.{Stake, all_parts}
use Rattle.sc_stats_ledgers.specs.declared.numbers.Numbers.{Numbers}
use Rattle.sc_stats_ledgers.proofs.tallies.Tallies.compare.Goals as goal

pub invariant_of-self : goal.invariant_of-self
invariant_of-self g c = subst (λ (t : Numbers). Follow (record { compile_requests = c.self.inside.compile_requests.number; requests_unsupported_compiler = c.self.inside.requests_unsupported_compiler.number; requests_not_compile = c.self.inside.requests_not_compile.number; requests_not_cacheable = c.self.inside.requests_not_cacheable.number; requests_executed = c.self.inside.requests_executed.number; cache_timeouts = c.self.inside.cache_timeouts.number; cache_read_errors = c.self.inside.cache_read_errors.number; non_cacheable_compilations = c.self.inside.non_cacheable_compilations.number; forced_recaches = c.self.inside.forced_recaches.number; cache_write_errors = c.self.inside.cache_write_errors.number; cache_writes = c.self.inside.cache_writes.number; compilations = c.self.inside.compilations.number; compile_fails = c.self.inside.compile_fails.number; dist_errors = c.self.inside.dist_errors.number; zeroings = c.self.inside.zeroings.number }) t)
    (sym (λ i. record { compile_requests = c.audit.ensures.total i; requests_unsupported_compiler = c.audit-2.ensures.total i; requests_not_compile = c.audit-3.ensures.total i; requests_not_cacheable = c.audit-4.ensures.total i; requests_executed = c.audit-5.ensures.total i; cache_timeouts = c.audit-6.ensures.total i; cache_read_errors = c.audit-7.ensures.total i; non_cacheable_compilations = c.audit-8.ensures.total i; forced_recaches = c.audit-9.ensures.total i; cache_write_errors = c.audit-10.ensures.total i; cache_writes = c.audit-11.ensures.total i; compilations = c.audit-12.ensures.total i; compile_fails = c.audit-13.ensures.total i; dist_errors = c.audit-14.ensures.total i; zeroings = c.audit-15.ensures.total i }))
    c.self.invariant

pub invariant_of-all : goal.invariant_of-all
invariant_of-all g c = (c.audit.ensures.parts ∙ (c.all.invariant.0 ∙ sym c.audit-15.ensures.parts), c.audit-2.ensures.parts ∙ (c.all.invariant.1 ∙ sym c.audit-15.ensures.parts), c.audit-3.ensures.parts ∙ (c.all.invariant.2 ∙ sym c.audit-15.ensures.parts), c.audit-4.ensures.parts ∙ (c.all.invariant.3 ∙ sym c.audit-15.ensures.parts), c.audit-5.ensures.parts ∙ (c.all.invariant.4 ∙ sym c.audit-15.ensures.parts), c.audit-6.ensures.parts ∙ (c.all.invariant.5 ∙ sym c.audit-15.ensures.parts), c.audit-7.ensures.parts ∙ (c.all.invariant.6 ∙ sym c.audit-15.ensures.parts), c.audit-8.ensures.parts ∙ (c.all.invariant.7 ∙ sym c.audit-15.ensures.parts), c.audit-9.ensures.parts ∙ (c.all.invariant.8 ∙ sym c.audit-15.ensures.parts), c.audit-10.ensures.parts ∙ (c.all.invariant.9 ∙ sym c.audit-15.ensures.parts), c.audit-11.ensures.parts ∙ (c.all.invariant.10 ∙ sym c.audit-15.ensures.parts), c.audit-12.ensures.parts ∙ (c.all.invariant.11 ∙ sym c.audit-15.ensures.parts), c.audit-13.ensures.parts ∙ (c.all.invariant.12 ∙ sym c.audit-15.ensures.parts), c.audit-14.ensures.parts ∙ (c.all.invariant.13 ∙ sym c.audit-15.ensures.parts), subst (λ (n : ℕ). 0 < n) (sym c.audit-15.ensures.parts) c.all.invariant.14)

pub returns-clause-shares : goal.returns-clause-shares
returns-clause-shares g c =
    (λ i. record { parts = c.audit-15.ensures.parts i; amounts = record { compile_requests = c.audit.ensures.amount i; requests_unsupported_compiler = c.audit-2.ensures.amount i; requests_not_compile = c.audit-3.ensures.amount i; requests_not_cacheable = c.audit-4.ensures.amount i; requests_executed = c.audit-5.ensures.amount i; cache_timeouts = c.audit-6.ensures.amount i; cache_read_errors = c.audit-7.ensures.amount i; non_cacheable_compilations = c.audit-8.ensures.amount i; forced_recaches = c.audit-9.ensures.amount i; cache_write_errors = c.audit-10.ensures.amount i; cache_writes = c.audit-11.ensures.amount i; compilations = c.audit-12.ensures.amount i; compile_fails = c.audit-13.ensures.amount i; dist_errors = c.audit-14.ensures.amount i; zeroings = c.audit-15.ensures.amount i } })
    ∙ c.all.view_is

pub returns-clause-follow : goal.returns-clause-follow
returns-clause-follow g c =
    let whole : c.all.inside.zeroings.parts ≡ all_parts = ap (λ (s : Stake). s.parts) c.all.view_is ∙ c.requires in
    let amounts : record { compile_requests = c.self.inside.compile_requests.book.total; requests_unsupported_compiler = c.self.inside.requests_unsupported_compiler.book.total; requests_not_compile = c.self.inside.requests_not_compile.book.total; requests_not_cacheable = c.self.inside.requests_not_cacheable.book.total; requests_executed = c.self.inside.requests_executed.book.total; cache_timeouts = c.self.inside.cache_timeouts.book.total; cache_read_errors = c.self.inside.cache_read_errors.book.total; non_cacheable_compilations = c.self.inside.non_cacheable_compilations.book.total; forced_recaches = c.self.inside.forced_recaches.book.total; cache_write_errors = c.self.inside.cache_write_errors.book.total; cache_writes = c.self.inside.cache_writes.book.total; compilations = c.self.inside.compilations.book.total; compile_fails = c.self.inside.compile_fails.book.total; dist_errors = c.self.inside.dist_errors.book.total; zeroings = c.self.inside.zeroings.book.total } ≡ c.args.all.now.amounts =
    sym (λ i. record { compile_requests = c.audit.ensures.whole (c.all.invariant.0 ∙ whole) i; requests_unsupported_compiler = c.audit-2.ensures.whole (c.all.invariant.1 ∙ whole) i; requests_not_compile = c.audit-3.ensures.whole (c.all.invariant.2 ∙ whole) i; requests_not_cacheable = c.audit-4.ensures.whole (c.all.invariant.3 ∙ whole) i; requests_executed = c.audit-5.ensures.whole (c.all.invariant.4 ∙ whole) i; cache_timeouts = c.audit-6.ensures.whole (c.all.invariant.5 ∙ whole) i; cache_read_errors = c.audit-7.ensures.whole (c.all.invariant.6 ∙ whole) i; non_cacheable_compilations = c.audit-8.ensures.whole (c.all.invariant.7 ∙ whole) i; forced_recaches = c.audit-9.ensures.whole (c.all.invariant.8 ∙ whole) i; cache_write_errors = c.audit-10.ensures.whole (c.all.invariant.9 ∙ whole) i; cache_writes = c.audit-11.ensures.whole (c.all.invariant.10 ∙ whole) i; compilations = c.audit-12.ensures.whole (c.all.invariant.11 ∙ whole) i; compile_fails = c.audit-13.ensures.whole (c.all.invariant.12 ∙ whole) i; dist_errors = c.audit-14.ensures.whole (c.all.invariant.13 ∙ whole) i; zeroings = c.audit-15.ensures.whole whole i }) ∙ ap (λ (s : Stake). s.amounts) c.all.view_is in
    subst (λ (n : Numbers). Follow n c.args.all.now.amounts) c.self.view_is
    (subst (λ (t : Numbers). Follow (record { compile_requests = c.self.inside.compile_requests.number; requests_unsupported_compiler = c.self.inside.requests_unsupported_compiler.number; requests_not_compile = c.self.inside.requests_not_compile.number; requests_not_cacheable = c.self.inside.requests_not_cacheable.number; requests_executed = c.self.inside.requests_executed.number; cache_timeouts = c.self.inside.cache_timeouts.number; cache_read_errors = c.self.inside.cache_read_errors.number; non_cacheable_compilations = c.self.inside.non_cacheable_compilations.number; forced_recaches = c.self.inside.forced_recaches.number; cache_write_errors = c.self.inside.cache_write_errors.number; cache_writes = c.self.inside.cache_writes.number; compilations = c.self.inside.compilations.number; compile_fails = c.self.inside.compile_fails.number; dist_errors = c.self.inside.dist_errors.number; zeroings = c.self.inside.zeroings.number }) t) amounts c.self.invariant)
