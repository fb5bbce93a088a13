use Rattle.std.proofs.Common.{◌≡◌, ◌≤◌, length}
use Rattle.sc_entry.specs.Causes.{Rose}
use Rattle.sc_entry.specs.Gathering.{Gathered}
use Rattle.sc_command_workshop.proofs.collecting.collect.Given as goal

abbrev pub invariant-loop-output : goal.invariant-loop-output
invariant-loop-output g l = record {
  gathered : Gathered (g.F.Files.held l.fn.files) l.outputs l.output-index l.objects;
  whole : (Rose (g.F.Files.fault_count l.fn.files) (g.F.Files.fault_count l.files) → ⊥) → length l.objects ≡ l.output-index;
  same : g.F.Files.held l.files ≡ g.F.Files.held l.fn.files;
  later : g.F.Files.fault_count l.fn.files ≤ g.F.Files.fault_count l.files;
}
