use Rattle.std.proofs.Common.{◌∙◌, ℕ, refl, sym}
use Rattle.sc_lru.proofs.Measures.{total-written_at}
use Rattle.sc_lru.proofs.cache.LruCache+K+V+S+Count.pair_mut.Goals as goal

pub invariant_of-self-lent : goal.invariant_of-self-lent
invariant_of-self-lent g c =
    let i = c.self.invariant in let o = c.self.inside.order in
    let one : g.row.K.Denot → g.row.V.Denot → ℕ = λ _ _. 1 in
    λ w. (i.0 ∙ sym (total-written_at one (λ k v u. refl) g.K.PartialEq.eq o.entries o.slots c.args.at w), i.1)
