use Rattle.std.proofs.Common.{◌≡◌, map}
use Rattle.sc_compile.specs.Plain.{placed_in}
use Rattle.sc_compile.proofs.plain.place_all.Given as goal

abbrev pub invariant-loop-output : goal.invariant-loop-output
invariant-loop-output l = l.placed ≡ map (placed_in l.cwd) l.yielded
