use Rattle.std.proofs.Common.{◌≡◌, ◌+◌, ◌∙◌, ap, arith, if◌then◌else◌, is_some, sym}
use Rattle.std.specs.Map.{lookup}
use Rattle.sc_lru.specs.DryRun.{counted, hit, missed, shown, used}
use Rattle.sc_lru.specs.declared.capacity_report.Use.TheVariants.{Get, Put}
use Rattle.sc_lru.proofs.DryRuns.{line, pairs_most}
use Rattle.sc_lru.proofs.Shown.{is_some_copied, length-shown, lookup-shown, touched-shown}
use Rattle.sc_lru.proofs.capacity_report.count.Goals as goal

pub returns-then-is_some-clause-entries : goal.returns-then-is_some-clause-entries
returns-then-is_some-clause-entries g c =
    let old = c.args.sizes.now in let eq = g.K.PartialEq.eq in
    ap (λ s. shown s.entries) c.get.follows.holds-at-none ∙ sym (touched-shown (eq c.in-Get.key) old.entries) ∙ sym (ap (used eq old.capacity (shown old.entries)) c.in-Get.is)

pub returns-else-is_some-clause-entries : goal.returns-else-is_some-clause-entries
returns-else-is_some-clause-entries g c =
    let old = c.args.sizes.now in let eq = g.K.PartialEq.eq in
    ap (λ s. shown s.entries) c.get.follows.holds-at-none ∙ sym (touched-shown (eq c.in-Get.key) old.entries) ∙ sym (ap (used eq old.capacity (shown old.entries)) c.in-Get.is)

pub returns-then-is_some-clause-line : goal.returns-then-is_some-clause-line
returns-then-is_some-clause-line g c =
    let old = c.args.sizes.now in let eq = g.K.PartialEq.eq in let es = shown old.entries in let l = c.args.line.now in
    let there : is_some (lookup (eq c.in-Get.key) es) ≡ c.is_some.result = ap is_some (lookup-shown (eq c.in-Get.key) old.entries ∙ sym c.get.ensures.value) ∙ is_some_copied c.get.result ∙ sym c.is_some.ensures in
    let found = there ∙ c.if-is_some.true in
    let h : l.hits + 1 ≡ l.hits + hit eq old.capacity es (Get c.in-Get.key) = ap (λ y. l.hits + (if y then 1 else 0)) (sym found) in
    let m : l.misses ≡ l.misses + missed eq old.capacity es (Get c.in-Get.key) = (let z : l.misses ≡ l.misses + 0 = omega arith in z) ∙ ap (λ y. l.misses + (if y then 0 else 1)) (sym found) in
    let e : l.evicted ≡ l.evicted + 0 = omega arith in let t : l.too_large ≡ l.too_large + 0 = omega arith in
    (λ i. line l.capacity (h i) (m i) (e i) (t i)) ∙ sym (ap (counted eq old.capacity es l) c.in-Get.is)

pub returns-else-is_some-clause-line : goal.returns-else-is_some-clause-line
returns-else-is_some-clause-line g c =
    let old = c.args.sizes.now in let eq = g.K.PartialEq.eq in let es = shown old.entries in let l = c.args.line.now in
    let there : is_some (lookup (eq c.in-Get.key) es) ≡ c.is_some.result = ap is_some (lookup-shown (eq c.in-Get.key) old.entries ∙ sym c.get.ensures.value) ∙ is_some_copied c.get.result ∙ sym c.is_some.ensures in
    let found = there ∙ c.if-is_some.false in
    let h : l.hits ≡ l.hits + hit eq old.capacity es (Get c.in-Get.key) = (let z : l.hits ≡ l.hits + 0 = omega arith in z) ∙ ap (λ y. l.hits + (if y then 1 else 0)) (sym found) in
    let m : l.misses + 1 ≡ l.misses + missed eq old.capacity es (Get c.in-Get.key) = ap (λ y. l.misses + (if y then 0 else 1)) (sym found) in
    let e : l.evicted ≡ l.evicted + 0 = omega arith in let t : l.too_large ≡ l.too_large + 0 = omega arith in
    (λ i. line l.capacity (h i) (m i) (e i) (t i)) ∙ sym (ap (counted eq old.capacity es l) c.in-Get.is)

pub overflow_add-line-in-Put : goal.overflow_add-line-in-Put
overflow_add-line-in-Put g c =
    let old = c.args.sizes.now in let eq = g.K.PartialEq.eq in let es = shown old.entries in
    let most = pairs_most eq old.capacity es (Put c.in-Put.key c.in-Put.bytes) in
    let n = c.in_ok-line-in-Put.ensures.evicted in
    omega (arith, n, most, length-shown old.entries, c.requires.evicted)
