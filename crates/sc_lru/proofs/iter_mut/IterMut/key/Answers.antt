use Rattle.std.proofs.Common.{◌≡◌, ◌∙◌, ◌+◌, ◌<◌, ap, sym, arith, length, slice_get}
use Rattle.std.specs.Map.{keys_of}
use Rattle.sc_lru.specs.IterMut.{rest}
use Rattle.sc_lru.proofs.Rests.{first_place, length_rest, rest_key}
use Rattle.sc_lru.proofs.iter_mut.IterMut.key.Goals as goal

pub returns : goal.returns
returns g c =
    let s = c.args.self.now in let r = c.requires in
    let n = length_rest s.lent s.left s.cache.now.entries r.within in
    let some : 0 < length (rest s) = omega (arith, n, c.if-self-eq0.false) in
    let first : s.lent + 0 ≡ s.lent = omega arith in
    c.key_at.ensures s.lent (first_place g.K.PartialEq.eq s r some) r.front
    ∙ sym (rest_key s.lent s.left s.cache.now.entries 0 (omega (arith, n, some)) ∙ ap (slice_get (keys_of s.cache.now.entries)) first)
