use Rattle.std.proofs.Common.{◌≡◌, drop}
use Rattle.sc_stats.specs.Lines.{row_lines}
use Rattle.sc_stats.proofs.lines.add_row_lines.Given as goal

-- with the rows that are left, all lines
abbrev pub invariant-loop-row : goal.invariant-loop-row
invariant-loop-row l = row_lines l.names l.values (drop l.row-index l.rows) l.lines ≡ row_lines l.names l.values l.rows l.fn.lines
