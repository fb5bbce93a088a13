use Rattle.std.proofs.Common.{◌≡◌, ◌++◌}
use Rattle.std.specs.Vec.Iter.{into_iter_items}
use Rattle.sc_disk_pair.specs.Parts.{all_in}
use Rattle.sc_disk_pair.proofs.two.add_files.Given as goal

-- what was added so far, and what is left
abbrev pub invariant-loop-file : goal.invariant-loop-file
invariant-loop-file l = l.all.items ++ all_in l.part (into_iter_items l.file-iterator) ≡ l.fn.all.items ++ all_in l.part l.fn.files
