use Rattle.std.proofs.Common.{◌≡◌}
use Rattle.std.specs.Vec.Iter.{into_iter_items}
use Rattle.sc_model.specs.Levels.{no_files}
use Rattle.sc_store.specs.Paths.{put_all}
use Rattle.sc_store.proofs.mem_remote.map_of.Given as goal

-- what is left, put onto what was put, makes the whole map
abbrev pub invariant-loop-path : goal.invariant-loop-path
invariant-loop-path l = put_all l.files (into_iter_items l.path-iterator) ≡ put_all no_files l.fn.held
