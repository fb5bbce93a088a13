use Rattle.std.proofs.Common.{◌≡◌, length}
use Rattle.sc_entry.specs.Keys.{are_file_parts, is_file_key, parts_of}
use Rattle.sc_disk.proofs.file_name.is_file_key.Given as goal

-- all parts so far are good
abbrev pub invariant-loop-part : goal.invariant-loop-part
invariant-loop-part l = are_file_parts (parts_of l.rest) ≡ is_file_key l.key

abbrev pub decreases-loop-part : goal.decreases-loop-part
decreases-loop-part l = length l.rest
