-- Refusals in words.
use Rattle.std.specs.Prelude.{ℕ, List, codes}
use Rattle.sc_command.specs.declared.refusal.CommandRefusal.{CommandRefusal}
use Rattle.sc_command.specs.declared.refusal.CommandRefusal.TheVariants.{Spent, SpawnFault, WaitFault}
use Rattle.sc_command.specs.declared.refusal.NewCommandError.{NewCommandError}
use Rattle.sc_command.specs.declared.refusal.NewCommandError.TheVariants.{NoMemory, NoChild}

abbrev pub refusal_text : CommandRefusal → List ℕ
refusal_text Spent = codes "command was spawned before"
refusal_text SpawnFault = codes "cannot spawn"
refusal_text WaitFault = codes "cannot wait"

abbrev pub new_command_text : NewCommandError → List ℕ
new_command_text NoMemory = codes "out of memory"
new_command_text NoChild = codes "no mock child left"
