use Rattle.std.proofs.Common.{◌≡◌, ℕ, ◌||◌, List, length}
use Rattle.std.specs.BTreeSet.{contains_text}
use Rattle.sc_entry.specs.Entries.{has_name}
use Rattle.sc_model.proofs.collecting.names_of.Given as goal

abbrev pub invariant-loop-left : goal.invariant-loop-left
invariant-loop-left l = (name : List ℕ) → (contains_text l.names name || has_name name l.left) ≡ has_name name l.fn.objects

abbrev pub decreases-loop-left : goal.decreases-loop-left
decreases-loop-left l = length l.left
