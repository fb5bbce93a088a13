use Rattle.std.proofs.Common.{◌≡◌, ◌+◌, ◌∷◌, ◌∙◌, add-one, ap, arith, drop, drop-cons, length, sym}
use Rattle.std.proofs.lemmas.List.{drop_all}
use Rattle.sc_lru.specs.DryRun.{counted, shown, used}
use Rattle.sc_lru.proofs.DryRuns.{dry, dry-none, hit_most, line, missed_most, over_most, pairs_most}
use Rattle.sc_lru.proofs.Shown.{length-shown}
use Rattle.sc_lru.proofs.capacity_report.line_at.Goals as goal

pub loop-one-init : goal.loop-one-init
loop-one-init g c =
    let eq = g.K.PartialEq.eq in let n = c.args.capacity in let none = c.with_meter-sizes.ensures.empty in
    record {
      counts = ap (λ l. dry eq n (shown l) (line n 0 0 0 0) c.args.uses.now) none ∙ dry-none eq n c.args.uses.now;
      capacity = c.with_meter-sizes.ensures.capacity;
      hits = omega arith;
      misses = omega arith;
      evicted = omega (arith, ap length none);
      too_large = omega arith;
    }

pub count-requires : goal.count-requires
count-requires g c =
    let i = c.loop-one.invariant in let within = c.loop-one-test.true in
    record { hits = omega (arith, i.hits); misses = omega (arith, i.misses); evicted = omega (arith, i.evicted); too_large = omega (arith, i.too_large) }

pub loop-one-preserved : goal.loop-one-preserved
loop-one-preserved g c =
    let eq = g.K.PartialEq.eq in let n = c.args.capacity in let i = c.loop-one.invariant in let us = c.args.uses.now in let at = c.loop-one.one-index in
    let u = c.one-item.result in let es = shown c.loop-one.sizes.entries in let cap = i.capacity in
    let rest : drop at us ≡ u ∷ drop (at + 1) us = drop-cons us at u c.loop-one-test.true ∙ (λ j. sym c.one-item.is j ∷ drop (sym (add-one at) j) us) in
    let to_line = c.in_ok-count.ensures.line in let to_entries = c.in_ok-count.ensures.entries in
    let long = ap length to_entries in
    let h = ap (λ l. l.hits) to_line in let m = ap (λ l. l.misses) to_line in let e = ap (λ l. l.evicted) to_line in let t = ap (λ l. l.too_large) to_line in
    let most = pairs_most eq c.loop-one.sizes.capacity es u in
    record {
      counts = (λ j. dry eq n (to_entries j) (to_line j) (drop (at + 1) us)) ∙ ap (λ m. dry eq n (used eq m es u) (counted eq m es c.loop-one.line u) (drop (at + 1) us)) cap ∙ sym (ap (dry eq n es c.loop-one.line) rest) ∙ i.counts;
      capacity = c.count.ensures.capacity ∙ cap;
      hits = omega (arith, h, hit_most eq c.loop-one.sizes.capacity es u, i.hits);
      misses = omega (arith, m, missed_most eq c.loop-one.sizes.capacity es u, i.misses);
      evicted = omega (arith, e, most, long, length-shown c.count.new.sizes.entries, length-shown c.loop-one.sizes.entries, i.evicted);
      too_large = omega (arith, t, over_most eq c.loop-one.sizes.capacity es u, i.too_large);
    }

pub returns : goal.returns
returns g c =
    let i = c.loop-one.invariant in
    sym (ap (dry g.K.PartialEq.eq c.args.capacity (shown c.loop-one.sizes.entries) c.loop-one.line) (drop_all c.loop-one.one-index c.args.uses.now (omega (arith, c.loop-one-test.false)))) ∙ i.counts
