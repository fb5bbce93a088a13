use Rattle.std.proofs.Common.{◌≡◌, ◌∙◌, ◌+◌, ◌-◌, ◌<◌, ap, inl, refl, sym, arith, length, slice_get}
use Rattle.std.specs.Option.{option_map}
use Rattle.sc_lru.specs.LruCache.{with_entries}
use Rattle.sc_lru.specs.IterMut.{rest}
use Rattle.sc_lru.proofs.Rests.{first_place, first_ready, first_rest, get_rest, length_rest}
use Rattle.sc_lru.proofs.iter_mut.IterMut.next.Goals as goal

pub returns : goal.returns
returns g c =
    let eq = g.K.PartialEq.eq in let s = c.args.self.now in let r = c.requires in let p = c.pair_mut-value in
    let n = length_rest s.lent s.left s.cache.now.entries r.within in
    let some : 0 < length (rest s) = omega (arith, n, c.if-self-eq0.false) in
    let h = first_place eq s r some in
    let first : s.lent + 0 ≡ s.lent = omega arith in
    let pair = get_rest s.lent s.left s.cache.now.entries 0 (omega (arith, n, some)) ∙ ap (slice_get s.cache.now.entries) first ∙ p.ensures.pair s.lent h r.front in (
      (λ i. inl (
        p.result.1.ghost_name,
        λ w. record {
          cache = record s.cache { now = with_entries s.cache.now (p.ensures.written s.lent h r.front w i) };
          front = c.position_after-self.ensures s.lent h r.front i;
          back = s.back;
          lent = s.lent + 1;
          left = s.left - 1;
        },
      )),
      record {
        writes_back = tt;
        some = (λ _. some, λ _. refl);
        value = sym (ap (option_map (λ (e : g.row.K.Denot × g.row.V.Denot). e.1)) pair);
        ready = first_ready eq s r some;
        rest = first_rest eq s r some;
      },
    )
