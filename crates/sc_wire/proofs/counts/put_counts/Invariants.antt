use Rattle.std.proofs.Common.{◌≡◌, ◌++◌}
use Rattle.sc_wire.specs.Lists.{spell_all, FitAll}
use Rattle.sc_wire.specs.Tallies.{pair}
use Rattle.sc_wire.proofs.counts.put_counts.Given as goal

abbrev pub invariant-loop-text : goal.invariant-loop-text
invariant-loop-text l = record {
  spelled : l.out.items ++ spell_all pair l.text-iterator ≡ l.fn.out.items ++ spell_all pair l.fn.by_text.entries;
  fits : FitAll pair l.text-iterator → FitAll pair l.fn.by_text.entries;
}
