use Rattle.std.proofs.Common.{◌≡◌, ◌-◌, suc, sym, subst, arith}
use Rattle.std.proofs.Common.{ap, ◌∙◌, option_map}
use Rattle.sc_lru.specs.Linked.{IsWindow}
use Rattle.sc_lru.proofs.Windows.{node_at, take_first}
use Rattle.std.specs.Map.Iter.{deref_pair}
use Rattle.sc_lru.proofs.iter.IterIterator.next.Goals as goal

pub invariant_of-self : goal.invariant_of-self
invariant_of-self g c =
    let s = c.self.inside in let es = s.map.now.entries in
    let more : s.left ≡ suc (s.left - 1) = omega (arith, c.if-self-eq0.false) in
    let t = take_first es s.front s.back (s.left - 1) (subst (IsWindow es s.front s.back) more c.self.invariant) in
    let n = node_at es s.front c.unwrap.result.0.now c.unwrap.result.1.now (sym (ap (option_map deref_pair) c.unwrap.ensures) ∙ c.get_index.ensures.entry) in
    subst (λ i. IsWindow es i s.back (s.left - 1)) n.1 t.rest
