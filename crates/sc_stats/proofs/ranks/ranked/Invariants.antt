use Rattle.std.proofs.Common.{◌≡◌, [], drop}
use Rattle.sc_stats.specs.Lines.{ranked}
use Rattle.sc_stats.proofs.ranks.ranked.Given as goal

-- with the texts that are left, all ranks
abbrev pub invariant-loop-text : goal.invariant-loop-text
invariant-loop-text l = ranked (drop l.text-index l.texts) l.ranks.entries ≡ ranked l.texts []
