use Rattle.std.proofs.Common.{◌≡◌}
use Rattle.sc_stats.specs.Lines.{rank_lines}
use Rattle.sc_stats.proofs.lines.add_rank_lines.Given as goal

-- with the ranks that are left, all lines
abbrev pub invariant-loop-rank : goal.invariant-loop-rank
invariant-loop-rank l = rank_lines l.front l.names l.values l.rank-iterator l.lines ≡ rank_lines l.front l.names l.values l.ranks.entries l.fn.lines
