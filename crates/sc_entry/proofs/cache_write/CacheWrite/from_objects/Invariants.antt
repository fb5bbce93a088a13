use Rattle.std.proofs.Common.{◌≡◌, ◌≤◌, length}
use Rattle.sc_entry.specs.Causes.{Rose}
use Rattle.sc_entry.specs.Gathering.{Gathered}
use Rattle.sc_entry.proofs.cache_write.CacheWrite.from_objects.Given as goal

abbrev pub invariant-loop-source : goal.invariant-loop-source
invariant-loop-source g l = record {
  gathered : Gathered (g.F.Files.held l.fn.files) l.sources l.source-index l.entry;
  whole : (Rose (g.F.Files.fault_count l.fn.files) (g.F.Files.fault_count l.files) → ⊥) → length l.entry ≡ l.source-index;
  same : g.F.Files.held l.files ≡ g.F.Files.held l.fn.files;
  later : g.F.Files.fault_count l.fn.files ≤ g.F.Files.fault_count l.files;
}
