use Rattle.std.proofs.Common.{◌≡◌, ℕ, List, drop}
use Rattle.std.specs.Process.{command_var, clears_env, SameProgramAndArgs, SameDir}
use Rattle.sc_host.specs.Programs.{said}
use Rattle.sc_host.proofs.system_command.set_variables.Given as goal

abbrev pub invariant-loop-place : goal.invariant-loop-place
invariant-loop-place l =
    ((name : List ℕ) → said name (command_var l.command name) (drop l.place l.variables) ≡ said name (command_var l.fn.command name) l.variables)
    × SameProgramAndArgs l.fn.command l.command
    × (clears_env l.command ≡ clears_env l.fn.command)
    × SameDir l.fn.command l.command
