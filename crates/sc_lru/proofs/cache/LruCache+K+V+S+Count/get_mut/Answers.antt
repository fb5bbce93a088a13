use Rattle.std.proofs.Common.{◌∙◌, ℕ, refl, sym}
use Rattle.sc_lru.specs.Order.{touched}
use Rattle.sc_lru.proofs.Measures.{total-set_value, total-touched}
use Rattle.sc_lru.proofs.cache.LruCache+K+V+S+Count.get_mut.Goals as goal

pub invariant_of-self-lent : goal.invariant_of-self-lent
invariant_of-self-lent g c =
    let i = c.self.invariant in let es = c.self.inside.order.entries in let test = g.K.PartialEq.eq c.args.key.now in
    let one : g.row.K.Denot → g.row.V.Denot → ℕ = λ _ _. 1 in
    λ _. (λ w. (i.0 ∙ sym (total-set_value one (λ k v u. refl) test (touched test es) w ∙ total-touched one test es), i.1), i)
