use Rattle.std.proofs.Common.{◌≡◌, [], replicate}
use Rattle.sc_main_script.proofs.inputs.Inputs.new.Given as goal

abbrev pub invariant-loop : goal.invariant-loop
invariant-loop l = l.texts.items ≡ replicate l.counter []
