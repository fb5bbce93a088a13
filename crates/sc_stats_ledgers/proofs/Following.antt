-- Counters go on standing as their totals say.
use Rattle.std.proofs.Common.{◌≡◌, ℕ, ◌+◌, ◌-◌, ◌^◌, min, arith, ap, sym, subst, ◌∙◌}
use Rattle.sc_stats_ledgers.specs.Numbers.{capped, Follow, sums, zeroed}
use Rattle.sc_stats_ledgers.specs.declared.numbers.Numbers.{Numbers}

pub no_more : (n : ℕ) → n ≡ n + 0
no_more n = omega arith

pub none_taken : (left all : ℕ) → left + 0 ≡ all → left ≡ all
none_taken left all e = omega (arith, e)

pub left_over : (left taken all : ℕ) → left + taken ≡ all → left ≡ all - taken
left_over left taken all e = omega (arith, e)

-- a number that stopped before an addition stops where one does that didn't
stops : (end a b : ℕ) → min (min a end + b) end ≡ min (a + b) end
stops end a b = omega arith

stops_so : (end n a b : ℕ) → n ≡ min a end → min (n + b) end ≡ min (a + b) end
stops_so end n a b e = ap (λ (k : ℕ). min (k + b) end) e ∙ stops end a b

capped_twice : (a b : Numbers) → capped (sums (capped a) b) ≡ capped (sums a b)
capped_twice a b = λ i. record {
  compile_requests = stops (2 ^ 64 - 1) a.compile_requests b.compile_requests i;
  requests_unsupported_compiler = stops (2 ^ 64 - 1) a.requests_unsupported_compiler b.requests_unsupported_compiler i;
  requests_not_compile = stops (2 ^ 64 - 1) a.requests_not_compile b.requests_not_compile i;
  requests_not_cacheable = stops (2 ^ 64 - 1) a.requests_not_cacheable b.requests_not_cacheable i;
  requests_executed = stops (2 ^ 64 - 1) a.requests_executed b.requests_executed i;
  cache_timeouts = stops (2 ^ 64 - 1) a.cache_timeouts b.cache_timeouts i;
  cache_read_errors = stops (2 ^ 64 - 1) a.cache_read_errors b.cache_read_errors i;
  non_cacheable_compilations = stops (2 ^ 64 - 1) a.non_cacheable_compilations b.non_cacheable_compilations i;
  forced_recaches = stops (2 ^ 64 - 1) a.forced_recaches b.forced_recaches i;
  cache_write_errors = stops (2 ^ 64 - 1) a.cache_write_errors b.cache_write_errors i;
  cache_writes = stops (2 ^ 64 - 1) a.cache_writes b.cache_writes i;
  compilations = stops (2 ^ 64 - 1) a.compilations b.compilations i;
  compile_fails = stops (2 ^ 64 - 1) a.compile_fails b.compile_fails i;
  dist_errors = stops (2 ^ 64 - 1) a.dist_errors b.dist_errors i;
  zeroings = stops (2 ^ 64 - 1) a.zeroings b.zeroings i;
}

none_before : (a b : ℕ) → a + b ≡ 0 → a ≡ 0
none_before a b e = omega (arith, e)

added : (n t r : Numbers) → Follow n t → Follow (capped (sums n r)) (sums t r)
added n t r follow = (
  stops_so (2 ^ 64 - 1) n.zeroings t.zeroings r.zeroings follow.0,
  λ none.
      ap (λ (k : Numbers). capped (sums k r)) (follow.1 (none_before t.zeroings r.zeroings none)) ∙ capped_twice t r,
)

-- a row is added to counters and totals
pub follow_added : (n t r n2 t2 : Numbers) → Follow n t → n2 ≡ capped (sums n r) → t2 ≡ sums t r → Follow n2 t2
follow_added n t r n2 t2 follow p q = subst (λ (k : Numbers). Follow k t2) (sym p) (subst (λ (k : Numbers). Follow (capped (sums n r)) k) (sym q) (added n t r follow))

-- the counters are set to 0, and that is counted
pub follow_zeroed : (n t n2 t2 : Numbers) → Follow n t → n2 ≡ zeroed n → t2.zeroings ≡ t.zeroings + 1 → Follow n2 t2
follow_zeroed n t n2 t2 follow p q = (ap (λ (k : Numbers). k.zeroings) p ∙ (stops_so (2 ^ 64 - 1) n.zeroings t.zeroings 1 follow.0 ∙ ap (λ (k : ℕ). min k (2 ^ 64 - 1)) (sym q)), λ none. absurd (omega (arith, q, none)))
