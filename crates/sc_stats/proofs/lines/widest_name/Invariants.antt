use Rattle.std.proofs.Common.{◌≡◌, drop, zero}
use Rattle.sc_stats.specs.Lines.{name_width}
use Rattle.sc_stats.proofs.lines.widest_name.Given as goal

-- with the rows that are left, the widest of all
abbrev pub invariant-loop-row : goal.invariant-loop-row
invariant-loop-row l = name_width (drop l.row-index l.rows) l.width ≡ name_width l.rows zero
