use Rattle.std.proofs.Common.{◌≡◌, length}
use Rattle.sc_entry.specs.Tally.{tally_of}
use Rattle.sc_entry.proofs.Ordered.{put_each}
use Rattle.sc_entry.proofs.counts.Counts.from_entries.Given as goal

abbrev pub invariant-loop-text : goal.invariant-loop-text
invariant-loop-text l = put_each l.left.items (tally_of l.by_text.entries) ≡ tally_of l.fn.entries

abbrev pub decreases-loop-text : goal.decreases-loop-text
decreases-loop-text l = length l.left.items
