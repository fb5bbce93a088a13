use Rattle.std.proofs.Common.{◌≡◌, take}
use Rattle.sc_entry.specs.Causes.{Told}
use Rattle.sc_entry.specs.Gathering.{place_each}
use Rattle.sc_entry.proofs.cache_read.CacheRead.extract_objects.Given as goal

abbrev pub invariant-loop-source : goal.invariant-loop-source
invariant-loop-source g l = record {
  placed : Told (λ old new. new ≡ place_each l.self (take l.source-index l.sources) old) (g.F.Files.held l.fn.files) (g.F.Files.held l.files);
  faults : g.F.Files.fault_count l.files ≡ g.F.Files.fault_count l.fn.files;
}
