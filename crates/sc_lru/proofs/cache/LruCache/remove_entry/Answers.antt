use Rattle.std.proofs.Common.{◌∙◌, sym, ap, arith}
use Rattle.sc_lru.specs.LruCache.{total}
use Rattle.sc_lru.proofs.Cut.{removed_none}
use Rattle.sc_lru.proofs.Measures.{total-remove_entry}
use Rattle.sc_lru.proofs.cache.LruCache.remove_entry.Goals as goal

pub invariant_of-self : goal.invariant_of-self
invariant_of-self g c = let r = c.remove_entry.ensures in let i = c.self.invariant in let test = g.K.PartialEq.eq c.args.key.now in
    let same = removed_none test c.self.inside.order.entries (sym r.value ∙ c.in_err-key.was) in
    (i.0 ∙ ap (total (g.M.Meter.measure c.self.inside.meter)) (sym (r.entries ∙ same)), i.1)

pub overflow_sub-self : goal.overflow_sub-self
overflow_sub-self g c = let r = c.remove_entry.ensures in let i = c.self.invariant in let test = g.K.PartialEq.eq c.args.key.now in
    omega (arith, i.0, c.measure-measure.ensures, total-remove_entry (g.M.Meter.measure c.self.inside.meter) test c.self.inside.order.entries (c.in_ok-key.key, c.in_ok-key.value) (sym r.value ∙ c.in_ok-key.was))

pub invariant_of-self-2 : goal.invariant_of-self-2
invariant_of-self-2 g c = let r = c.remove_entry.ensures in let i = c.self.invariant in let test = g.K.PartialEq.eq c.args.key.now in
    let sum = total-remove_entry (g.M.Meter.measure c.self.inside.meter) test c.self.inside.order.entries (c.in_ok-key.key, c.in_ok-key.value) (sym r.value ∙ c.in_ok-key.was) in
    let new = ap (total (g.M.Meter.measure c.self.inside.meter)) r.entries in
    (omega (arith, i.0, c.measure-measure.ensures, sum, new), omega (arith, i.0, i.1))
