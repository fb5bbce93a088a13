use Rattle.std.proofs.Common.{◌≡◌, ◌++◌, ℕ, List, true}
use Rattle.std.specs.List.{AllByRecursion}
use Rattle.std.specs.Vec.Iter.{into_iter_items}
use Rattle.sc_disk.specs.Disks.{ArePlaced, Does}
use Rattle.sc_disk.specs.Opening.{HavePlaces, is_kept}
use Rattle.sc_disk.specs.Store.{AreKeys, gone}
use Rattle.sc_disk.proofs.Reopening.{Indexed}
use Rattle.sc_disk.proofs.opening.index_files.Given as goal

-- what is indexed so far, and what is left
abbrev pub invariant-loop-file : goal.invariant-loop-file
invariant-loop-file g l = record {
  removals : (removed : List (List ℕ)) × Does (gone removed) (g.D.Disk.state l.initial.disk) (g.D.Disk.state l.disk) × Indexed l.capacity l.fn.files.items l.yielded l.index.entries removed;
  order : l.yielded ++ into_iter_items l.file-iterator ≡ l.fn.files.items;
  good : AllByRecursion (λ e. is_kept l.capacity e ≡ true) (into_iter_items l.file-iterator);
  keys : AreKeys l.index.entries;
  placed : ArePlaced (into_iter_items l.file-iterator) (g.D.Disk.state l.disk);
  places : HavePlaces l.index.entries (g.D.Disk.state l.disk);
  capacity : l.index.capacity ≡ l.capacity;
}
