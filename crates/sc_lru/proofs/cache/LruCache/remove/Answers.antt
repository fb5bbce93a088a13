use Rattle.std.proofs.Common.{◌∙◌, ap, option_map}
use Rattle.sc_lru.proofs.Cut.{lookup_from_entry}
use Rattle.sc_lru.proofs.cache.LruCache.remove.Goals as goal

pub returns-in-Some-clause-value : goal.returns-in-Some-clause-value
returns-in-Some-clause-value g c = let e = c.in-Some.ensures.value in ap (option_map (λ p. p.1)) e ∙ lookup_from_entry (g.K.PartialEq.eq c.args.key.now) (c.args.self.now.entries)

pub returns-clause-value : goal.returns-clause-value
returns-clause-value g c = let e = c.in-None.ensures.value in ap (option_map (λ p. p.1)) e ∙ lookup_from_entry (g.K.PartialEq.eq c.args.key.now) (c.args.self.now.entries)
