use Rattle.std.proofs.Common.{ap, ◌∙◌, is_some, bytes_eq}
use Rattle.std.specs.Map.{lookup}
use Rattle.sc_disk_pair.proofs.Shares.{lookup-part}
use Rattle.sc_disk_pair.proofs.pair_cache.PairCache.contains_key.Goals as goal

pub returns : goal.returns
returns g c = let es = c.args.self.now.store.index in
    c.contains_key.ensures ∙ ap (λ k. is_some (lookup (bytes_eq k) es)) c.in_ok-both.ensures.key ∙ ap is_some (lookup-part c.args.part c.args.key.now es)
