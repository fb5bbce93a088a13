use Rattle.std.proofs.Common.{◌≡◌, ◌++◌, string_bytes}
use Rattle.sc_stats.specs.Lines.{spaces}
use Rattle.sc_stats.proofs.lines.push_spaces.Given as goal

abbrev pub invariant-loop-written : goal.invariant-loop-written
invariant-loop-written l = string_bytes l.line ≡ string_bytes l.fn.line ++ spaces l.written
