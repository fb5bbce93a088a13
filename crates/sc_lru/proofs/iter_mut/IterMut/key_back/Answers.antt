use Rattle.std.proofs.Common.{◌≡◌, ◌∙◌, ◌+◌, ◌-◌, ◌<◌, ap, sym, arith, length, slice_get}
use Rattle.std.specs.Map.{keys_of}
use Rattle.sc_lru.specs.IterMut.{rest}
use Rattle.sc_lru.proofs.Rests.{last_place, length_rest, rest_key}
use Rattle.sc_lru.proofs.iter_mut.IterMut.key_back.Goals as goal

pub returns : goal.returns
returns g c =
    let s = c.args.self.now in let r = c.requires in
    let n = length_rest s.lent s.left s.cache.now.entries r.within in
    let some : 0 < length (rest s) = omega (arith, n, c.if-self-eq0.false) in
    let last : s.lent + (length (rest s) - 1) ≡ s.lent + s.left - 1 = omega (arith, n, some) in
    c.key_at.ensures (s.lent + s.left - 1) (last_place g.K.PartialEq.eq s r some) r.back
    ∙ sym (rest_key s.lent s.left s.cache.now.entries (length (rest s) - 1) (omega (arith, n, some)) ∙ ap (slice_get (keys_of s.cache.now.entries)) last)
