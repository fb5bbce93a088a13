use Rattle.std.proofs.Common.{◌≡◌, [], length, false}
use Rattle.sc_compile.specs.Names.{HasNames}
use Rattle.sc_compile.specs.Plain.{outputs_onto}
use Rattle.sc_compile.proofs.arguments.outputs.Given as goal

abbrev pub invariant-loop-word : goal.invariant-loop-word
invariant-loop-word l = record {
  read : outputs_onto l.optional l.outputs l.words ≡ outputs_onto false [] l.fn.words;
  named : HasNames l.outputs l.names;
}

abbrev pub decreases-loop-word : goal.decreases-loop-word
decreases-loop-word l = length l.words
