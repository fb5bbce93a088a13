use Rattle.std.proofs.Common.{◌≡◌, ℕ, suc, ◌-◌, ◌<◌, Some, List, cond, length, drop, ◌∙◌, subst, arith}
use Rattle.std.specs.BTreeMap.{get}
use Rattle.std.specs.Cmp.Lexicographic.{slice_cmp}
use Rattle.std.specs.Ordering.{is_eq, nat_cmp}
use Rattle.sc_compile_table.proofs.Places.{drop_at, place_here}
use Rattle.sc_compile_table.proofs.table.firsts_of.Goals as goal

pub loop-place-preserved : goal.loop-place-preserved
loop-place-preserved g c =
    let key_of = g.T.Keyed.key in
    let values = c.args.values.now in
    let at : ℕ = c.loop-place.place - 1 in
    let v = c.index-values-place.result in
    let up : suc at ≡ c.loop-place.place = omega arith in
    let before = c.loop-place.invariant.high in
    let there : at < length values = omega (arith, before) in
    record {
      firsts = λ key.
          rw (drop_at at values v there c.index-values-place.is)
          (place_here key_of key at v (drop (suc at) values) (get (slice_cmp nat_cmp) c.loop-place.firsts key) (get (slice_cmp nat_cmp) c.insert.new.self key)
          (rw up (c.loop-place.invariant.firsts key))
          (subst (λ (k : List ℕ). get (slice_cmp nat_cmp) c.insert.new.self key ≡ cond (is_eq (slice_cmp nat_cmp k key)) (Some at) (get (slice_cmp nat_cmp) c.loop-place.firsts key))
          (c.in_ok-key.ensures ∙ c.key.ensures) (c.in_ok-insert.ensures.updates.0 key)));
      high = omega (arith, before);
    }
