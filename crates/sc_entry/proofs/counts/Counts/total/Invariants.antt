use Rattle.std.proofs.Common.{◌≡◌, ◌-◌, ◌^◌, map, min, sum}
use Rattle.sc_entry.proofs.counts.Counts.total.Given as goal

-- the counts that were given so far
abbrev pub invariant-loop-n : goal.invariant-loop-n
invariant-loop-n l = l.total ≡ min (sum (map (λ p. p.1.now) l.yielded)) (2 ^ 64 - 1)
