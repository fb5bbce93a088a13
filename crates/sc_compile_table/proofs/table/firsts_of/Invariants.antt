use Rattle.std.proofs.Common.{◌≡◌, ◌≤◌, ℕ, List, length, drop}
use Rattle.std.specs.BTreeMap.{get}
use Rattle.std.specs.Cmp.Lexicographic.{slice_cmp}
use Rattle.std.specs.Ordering.{nat_cmp}
use Rattle.sc_compile_table.specs.Tables.{place_from}
use Rattle.sc_compile_table.proofs.table.firsts_of.Given as goal

abbrev pub invariant-loop-place : goal.invariant-loop-place
invariant-loop-place g l = record {
  firsts : (key : List ℕ) → get (slice_cmp nat_cmp) l.firsts key ≡ place_from g.T.Keyed.key key l.place (drop l.place l.values);
  high : l.place ≤ length l.values;
}

abbrev pub decreases-loop-place : goal.decreases-loop-place
decreases-loop-place g l = l.place
