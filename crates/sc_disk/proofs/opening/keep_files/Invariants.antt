use Rattle.std.proofs.Common.{◌≡◌, ◌++◌, ℕ, List}
use Rattle.std.specs.Vec.Iter.{into_iter_items}
use Rattle.sc_disk.specs.Disks.{ArePlaced, Does}
use Rattle.sc_disk.specs.Opening.{dropped_of, kept_of, paths_of}
use Rattle.sc_disk.specs.Store.{gone}
use Rattle.sc_disk.proofs.opening.keep_files.Given as goal

-- what was kept and removed so far, and what is left
abbrev pub invariant-loop-file : goal.invariant-loop-file
invariant-loop-file g l = record {
  kept : l.kept.items ++ kept_of l.capacity (into_iter_items l.file-iterator) ≡ kept_of l.capacity l.fn.all.items;
  removals : (removed : List (List ℕ)) × (removed ++ paths_of (dropped_of l.capacity (into_iter_items l.file-iterator)) ≡ paths_of (dropped_of l.capacity l.fn.all.items)) × Does (gone removed) (g.D.Disk.state l.initial.disk) (g.D.Disk.state l.disk);
  placed : ArePlaced (into_iter_items l.file-iterator) (g.D.Disk.state l.disk);
}
