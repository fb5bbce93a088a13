use Rattle.std.proofs.Common.{◌≡◌, ◌+◌, ◌-◌, ◌^◌, min, List, ℕ, cond, Some, subst, rules}
use Rattle.std.specs.BTreeMap.{get}
use Rattle.std.specs.Cmp.Lexicographic.{slice_cmp}
use Rattle.std.specs.Ordering.{is_eq, nat_cmp}
use Rattle.sc_compile_table.specs.Books.{taken_at}
use Rattle.sc_compile_table.proofs.Turning.{set_count}
use Rattle.sc_compile_table.proofs.book.count_one.Goals as goal

pub returns-clause-ok : goal.returns-clause-ok
returns-clause-ok c = λ other.
    let more : c.saturating_add-more.result ≡ min (taken_at c.args.taken.now c.args.key.now + 1) (2 ^ 64 - 1) = search rules in
    set_count c.args.key.now other (get (slice_cmp nat_cmp) c.args.taken.now other) (get (slice_cmp nat_cmp) c.insert.new.self other) c.saturating_add-more.result _
    (subst (λ (k : List ℕ). get (slice_cmp nat_cmp) c.insert.new.self other ≡ cond (is_eq (slice_cmp nat_cmp k other)) (Some c.saturating_add-more.result) (get (slice_cmp nat_cmp) c.args.taken.now other))
    c.in_ok-key.ensures (c.in_ok-insert.ensures.updates.0 other)) more
