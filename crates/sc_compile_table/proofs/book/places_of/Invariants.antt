use Rattle.std.proofs.Common.{◌≡◌, ◌+◌, ◌++◌, ℕ, List, length}
use Rattle.sc_compile_table.specs.Books.{places_at, places_from}
use Rattle.sc_compile_table.proofs.book.places_of.Given as goal

abbrev pub invariant-loop-left : goal.invariant-loop-left
invariant-loop-left g l = record {
  stand : (key : List ℕ) → places_at l.places key ++ places_from g.T.Keyed.key key l.place l.left ≡ places_from g.T.Keyed.key key 0 l.fn.values;
  here : l.place + length l.left ≡ length l.fn.values;
}

abbrev pub decreases-loop-left : goal.decreases-loop-left
decreases-loop-left g l = length l.left
