use Rattle.std.proofs.Common.{ap, arith}
use Rattle.indexmap.specs.IndexMap.{index_map_len}
use Rattle.sc_lru.proofs.Chains.{length_after_es}
use Rattle.sc_lru.proofs.links.mend.Goals as goal

pub redirect_before-last-requires : goal.redirect_before-last-requires
redirect_before-last-requires g c = λ d. let low = c.requires.after d in
    let long = ap index_map_len c.redirect_after-first.ensures.links in
    let same = length_after_es c.args.map.now.entries c.args.first c.args.was c.links-before.result.0 c.args.to in
    omega (arith, low, long, same, c.links-before.ensures.after)
