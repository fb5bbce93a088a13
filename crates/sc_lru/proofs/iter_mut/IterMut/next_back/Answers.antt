use Rattle.std.proofs.Common.{◌≡◌, ◌∙◌, ◌+◌, ◌-◌, ◌<◌, ap, inl, refl, sym, arith, length, slice_get}
use Rattle.std.specs.Option.{option_map}
use Rattle.sc_lru.specs.LruCache.{with_entries}
use Rattle.sc_lru.specs.IterMut.{rest}
use Rattle.sc_lru.proofs.Rests.{get_rest, last_place, last_ready, last_rest, length_rest}
use Rattle.sc_lru.proofs.iter_mut.IterMut.next_back.Goals as goal

pub returns : goal.returns
returns g c =
    let eq = g.K.PartialEq.eq in let s = c.args.self.now in let r = c.requires in let p = c.pair_mut-value in
    let n = length_rest s.lent s.left s.cache.now.entries r.within in
    let some : 0 < length (rest s) = omega (arith, n, c.if-self-eq0.false) in
    let h = last_place eq s r some in let at = s.lent + s.left - 1 in
    let last : s.lent + (length (rest s) - 1) ≡ at = omega (arith, n, some) in
    let pair = get_rest s.lent s.left s.cache.now.entries (length (rest s) - 1) (omega (arith, n, some)) ∙ ap (slice_get s.cache.now.entries) last ∙ p.ensures.pair at h r.back in (
      (λ i. inl (
        p.result.1.ghost_name,
        λ w. record {
          cache = record s.cache { now = with_entries s.cache.now (p.ensures.written at h r.back w i) };
          front = s.front;
          back = c.position_before-self.ensures at h r.back i;
          lent = s.lent;
          left = s.left - 1;
        },
      )),
      record {
        writes_back = tt;
        some = (λ _. some, λ _. refl);
        value = sym (ap (option_map (λ (e : g.row.K.Denot × g.row.V.Denot). e.1)) pair);
        ready = last_ready eq s r some;
        rest = last_rest eq s r some;
      },
    )
