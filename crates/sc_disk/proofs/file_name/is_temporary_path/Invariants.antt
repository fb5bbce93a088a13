use Rattle.std.proofs.Common.{◌≡◌, length}
use Rattle.sc_disk.specs.Names.{file_name}
use Rattle.sc_disk.proofs.file_name.is_temporary_path.Given as goal

-- the last part is in the rest
abbrev pub invariant-loop-others : goal.invariant-loop-others
invariant-loop-others l = file_name l.rest ≡ file_name l.path

abbrev pub decreases-loop-others : goal.decreases-loop-others
decreases-loop-others l = length l.rest
