use Rattle.std.proofs.Common.{◌≡◌, option_map, length}
use Rattle.sc_command_workshop.specs.Preparing.{with_each}
use Rattle.sc_command_workshop.proofs.preparing.set_variables.Given as goal

abbrev pub invariant-loop-left : goal.invariant-loop-left
invariant-loop-left g l =
    (option_map (with_each l.left) (g.C.RunCommand.setting l.made) ≡ option_map (with_each l.fn.variables) (g.C.RunCommand.setting l.initial.made))
    × (g.C.RunCommand.arguments l.made ≡ g.C.RunCommand.arguments l.initial.made)
    × (g.C.RunCommand.is_spent l.made ≡ g.C.RunCommand.is_spent l.initial.made)
    × (g.C.RunCommand.plan l.made ≡ g.C.RunCommand.plan l.initial.made)

abbrev pub decreases-loop-left : goal.decreases-loop-left
decreases-loop-left g l = length l.left
