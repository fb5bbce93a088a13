use Rattle.std.proofs.Common.{take}
use Rattle.sc_stats.specs.Writers.{WritesEach}
use Rattle.sc_stats.proofs.writer.write_each.Given as goal

-- the lines that were met so far are written
abbrev pub invariant-loop-line : goal.invariant-loop-line
invariant-loop-line g l = WritesEach g.W.ServerStatsWriter.writes l.fn.writer (take l.line-index l.lines) l.writer
