use Rattle.std.proofs.Common.{◌≡◌, map}
use Rattle.sc_entry.proofs.counts.Counts.listed.Given as goal

-- the entries that were given so far
abbrev pub invariant-loop-text : goal.invariant-loop-text
invariant-loop-text l = l.texts.items ≡ map (λ p. record { text = p.0.now; count = p.1.now }) l.yielded
