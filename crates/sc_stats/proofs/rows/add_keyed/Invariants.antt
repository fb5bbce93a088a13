use Rattle.std.proofs.Common.{◌≡◌, drop}
use Rattle.sc_stats.specs.Rows.{keyed_rows}
use Rattle.sc_stats.proofs.rows.add_keyed.Given as goal

-- with the rows that are left to add, all rows
abbrev pub invariant-loop-text : goal.invariant-loop-text
invariant-loop-text l = keyed_rows l.name (drop l.text-index l.texts) l.rows ≡ keyed_rows l.name l.texts l.fn.rows
