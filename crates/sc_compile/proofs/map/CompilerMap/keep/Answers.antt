use Rattle.std.proofs.Common.{◌≡◌, List, ℕ, cond, Some, subst}
use Rattle.std.specs.BTreeMap.{get}
use Rattle.std.specs.Cmp.Lexicographic.{slice_cmp}
use Rattle.std.specs.Ordering.{is_eq, nat_cmp}
use Rattle.sc_compile.proofs.Keeping.{set_at}
use Rattle.sc_compile.proofs.map.CompilerMap.keep.Goals as goal

pub returns-clause-kept : goal.returns-clause-kept
returns-clause-kept c = λ other.
    set_at c.args.path.now other (Some c.args.entry) (get (slice_cmp nat_cmp) c.args.self.now.kept other) (get (slice_cmp nat_cmp) c.insert.new.self other)
    (subst (λ (k : List ℕ). get (slice_cmp nat_cmp) c.insert.new.self other ≡ cond (is_eq (slice_cmp nat_cmp k other)) (Some c.args.entry) (get (slice_cmp nat_cmp) c.args.self.now.kept other))
    c.in_ok-path.ensures (c.in_ok-insert.ensures.updates.0 other))
