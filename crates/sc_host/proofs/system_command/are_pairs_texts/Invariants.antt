use Rattle.std.specs.List.{AllWithin}
use Rattle.sc_host.specs.Programs.{IsTextPair}
use Rattle.sc_host.proofs.system_command.are_pairs_texts.Given as goal

abbrev pub invariant-loop-place : goal.invariant-loop-place
invariant-loop-place l = AllWithin IsTextPair l.variables 0 l.place
