use Rattle.std.proofs.Common.{◌≡◌, ◌-◌, ◌∙◌, ◌∷◌, ◌++◌, [], sym, ap, arith, subst, IfNone}
use Rattle.std.specs.Map.{lookup, remove_entry}
use Rattle.sc_lru.specs.LruCache.{total, suffix_within}
use Rattle.sc_lru.proofs.Measures.{inserted_large, inserted_fits}
use Rattle.sc_lru.proofs.cache.LruCache.insert.Goals as goal

pub returns-then-measure-capacity-clause-entries : goal.returns-then-measure-capacity-clause-entries
returns-then-measure-capacity-clause-entries g c =
    let m = g.M.Meter.measure in let k = c.args.key in let v = c.args.value in
    let met = ap (λ w. w.meter) c.self.view_is ∙ c.reserve.ensures.parts.meter in
    let weight = c.measure-measure.ensures ∙ ap (λ x. m x k v) met in
    let cap = c.capacity-capacity.ensures ∙ c.remove-old.ensures.parts.capacity ∙ c.reserve.ensures.parts.capacity in
    c.clear.ensures.empty ∙ sym (inserted_large (m c.args.self.now.meter) (g.K.PartialEq.eq k) c.args.self.now.capacity (c.args.self.now.entries) k v (omega (arith, weight, cap, c.if-measure-capacity.true)))

pub returns-clause-entries : goal.returns-clause-entries
returns-clause-entries g c =
    let m = g.M.Meter.measure in let k = c.args.key in let v = c.args.value in let test = g.K.PartialEq.eq k in let old = c.args.self.now in
    let met = ap (λ w. w.meter) c.self.view_is ∙ c.reserve.ensures.parts.meter in
    let weight = c.measure-measure.ensures ∙ ap (λ x. m x k v) met in
    let cap = c.capacity-capacity.ensures ∙ c.remove-old.ensures.parts.capacity ∙ c.reserve.ensures.parts.capacity in
    let same = c.remove-old.ensures.parts.meter ∙ c.reserve.ensures.parts.meter in
    let gone = c.remove-old.ensures.entries ∙ ap (remove_entry test) c.reserve.ensures.unchanged.entries in
    let own = c.remove-old.ensures.parts.capacity ∙ c.reserve.ensures.parts.capacity in
    let fitted : suffix_within (m c.remove-old.new.self.meter) (c.remove-old.new.self.capacity - c.measure-measure.result) c.remove-old.new.self.entries ≡ suffix_within (m old.meter) (old.capacity - m old.meter k v) (remove_entry test old.entries) = λ j. suffix_within (m (same j)) (own j - weight j) (gone j) in
    c.push_within.ensures.entries ∙ ap (λ l. l ++ (k, v) ∷ []) fitted
    ∙ sym (inserted_fits (m old.meter) test old.capacity (old.entries) k v (omega (arith, weight, cap, c.if-measure-capacity.false)))

pub returns-then-measure-capacity-clause-slots : goal.returns-then-measure-capacity-clause-slots
returns-then-measure-capacity-clause-slots g c = λ absent fits.
    let m = g.M.Meter.measure in let k = c.args.key in let v = c.args.value in
    let met = ap (λ w. w.meter) c.self.view_is ∙ c.reserve.ensures.parts.meter in
    let weight = c.measure-measure.ensures ∙ ap (λ x. m x k v) met in
    let cap = c.capacity-capacity.ensures ∙ c.remove-old.ensures.parts.capacity ∙ c.reserve.ensures.parts.capacity in
    absurd (omega (arith, weight, cap, fits, c.if-measure-capacity.true))

pub returns-clause-slots : goal.returns-clause-slots
returns-clause-slots g c = λ absent fits.
    let m = g.M.Meter.measure in let k = c.args.key in let v = c.args.value in let test = g.K.PartialEq.eq k in let old = c.args.self.now in
    let met = ap (λ w. w.meter) c.self.view_is ∙ c.reserve.ensures.parts.meter in
    let weight = c.measure-measure.ensures ∙ ap (λ x. m x k v) met in
    let cap = c.capacity-capacity.ensures ∙ c.remove-old.ensures.parts.capacity ∙ c.reserve.ensures.parts.capacity in
    let none = c.remove-old.ensures.value ∙ ap (lookup test) c.reserve.ensures.unchanged.entries ∙ absent in
    let kept = subst (λ o. IfNone o (c.remove-old.new.self ≡ c.reserve.new.self)) none c.remove-old.ensures.missing in
    let sum : total (m c.reserve.new.self.meter) c.reserve.new.self.entries ≡ total (m old.meter) old.entries = λ j. total (m (c.reserve.ensures.parts.meter j)) (c.reserve.ensures.unchanged.entries j) in
    let sum_kept = ap (λ s. total (m s.meter) s.entries) kept ∙ sum in
    c.push_within.ensures.slots (omega (arith, sum_kept, weight, c.remove-old.ensures.parts.capacity, c.reserve.ensures.parts.capacity, fits)) ∙ ap (λ l. l ++ k ∷ []) (ap (λ s. s.slots) kept ∙ c.reserve.ensures.unchanged.slots)
