use Rattle.std.proofs.Common.{◌≡◌, ◌-◌, suc, sym, subst, arith, ap, ◌∙◌, option_map}
use Rattle.std.specs.Map.Iter.{deref_pair}
use Rattle.sc_lru.specs.Linked.{before_at, window, IsWindow}
use Rattle.sc_lru.proofs.Windows.{length-window, node_at, take_last}
use Rattle.sc_lru.proofs.iter.IterDoubleEndedIterator.next_back.Goals as goal

pub unwrap-requires : goal.unwrap-requires
unwrap-requires g c =
    let s = c.self.inside in let es = s.map.now.entries in
    let more : s.left ≡ suc (s.left - 1) = omega (arith, c.if-self-eq0.false) in
    let t = take_last es s.front s.back (s.left - 1) (subst (IsWindow es s.front s.back) more c.self.invariant) in
    c.get_index.ensures.found.1 t.within

pub invariant_of-self : goal.invariant_of-self
invariant_of-self g c =
    let s = c.self.inside in let es = s.map.now.entries in
    let more : s.left ≡ suc (s.left - 1) = omega (arith, c.if-self-eq0.false) in
    let t = take_last es s.front s.back (s.left - 1) (subst (IsWindow es s.front s.back) more c.self.invariant) in
    let n = node_at es s.back c.unwrap.result.0.now c.unwrap.result.1.now (sym (ap (option_map deref_pair) c.unwrap.ensures) ∙ c.get_index.ensures.entry) in
    subst (λ i. IsWindow es s.front i (s.left - 1)) n.2 t.rest

pub returns-clause-steps : goal.returns-clause-steps
returns-clause-steps g c =
    let s = c.self.inside in let es = s.map.now.entries in
    let more : s.left ≡ suc (s.left - 1) = omega (arith, c.if-self-eq0.false) in
    let t = take_last es s.front s.back (s.left - 1) (subst (IsWindow es s.front s.back) more c.self.invariant) in
    let n = node_at es s.back c.unwrap.result.0.now c.unwrap.result.1.now (sym (ap (option_map deref_pair) c.unwrap.ensures) ∙ c.get_index.ensures.entry) in
    sym c.self.view_is ∙ ap (window es s.front) more ∙ t.pairs (c.unwrap.result.0.now, c.unwrap.result.1.now.value) n.0

pub returns-clause-goes : goal.returns-clause-goes
returns-clause-goes g c =
    let s = c.self.inside in let es = s.map.now.entries in
    let more : s.left ≡ suc (s.left - 1) = omega (arith, c.if-self-eq0.false) in
    let t = take_last es s.front s.back (s.left - 1) (subst (IsWindow es s.front s.back) more c.self.invariant) in
    let was = length-window es s.front s.back s.left c.self.invariant in
    let is = length-window es s.front (before_at es s.back) (s.left - 1) t.rest in
    rw (← c.self.view_is) (record { on = λ _. (tt, tt, omega (arith, was, is, c.if-self-eq0.false)); keeps = tt; rests = λ _. tt })
