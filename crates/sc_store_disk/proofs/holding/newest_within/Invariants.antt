use Rattle.std.proofs.Common.{◌≡◌, ◌+◌, length}
use Rattle.sc_store_disk.proofs.Walking.{Walked}
use Rattle.sc_store_disk.proofs.holding.newest_within.Given as goal

-- what is left, and what fits so far
abbrev pub invariant-loop-file : goal.invariant-loop-file
invariant-loop-file l = record {
  walked : Walked l.capacity l.held.bytes l.held.files l.files.items l.fn.files.items;
  all : length l.files.items + l.held.files ≡ length l.fn.files.items;
}

abbrev pub decreases-loop-file : goal.decreases-loop-file
decreases-loop-file l = length l.files.items
