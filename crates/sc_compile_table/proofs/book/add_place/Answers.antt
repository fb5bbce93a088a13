use Rattle.std.proofs.Common.{◌≡◌, List, ℕ, Some, cond, subst}
use Rattle.std.specs.BTreeMap.{get}
use Rattle.std.specs.Cmp.Lexicographic.{slice_cmp}
use Rattle.std.specs.Ordering.{is_eq, nat_cmp}
use Rattle.sc_compile_table.proofs.Turning.{pushed}
use Rattle.sc_compile_table.proofs.book.add_place.Goals as goal

pub returns : goal.returns
returns c = λ other.
    pushed c.args.key.now other c.args.place c.take_places-list.result.items (get (slice_cmp nat_cmp) c.args.places.now) (get (slice_cmp nat_cmp) c.take_places-list.new.places other) (get (slice_cmp nat_cmp) c.insert.new.self other) c.push.new.self
    (subst (λ (k : List ℕ). get (slice_cmp nat_cmp) c.insert.new.self other ≡ cond (is_eq (slice_cmp nat_cmp k other)) (Some c.push.new.self) (get (slice_cmp nat_cmp) c.take_places-list.new.places other)) c.in_ok-key.ensures (c.in_ok-insert.ensures.updates.0 other))
    (c.take_places-list.ensures.left other) c.in_ok-push.ensures.items c.take_places-list.ensures.taken
