use Rattle.std.proofs.Common.{ap, arith}
use Rattle.indexmap.specs.IndexMap.{index_map_len}
use Rattle.sc_lru.specs.Linked.{node}
use Rattle.sc_lru.proofs.Chains.{length-change}
use Rattle.sc_lru.proofs.links.link.Goals as goal

pub set_before-requires : goal.set_before-requires
set_before-requires g c =
    let long = ap index_map_len c.set_after.ensures in
    let same = length-change c.args.map.now.entries c.args.last (λ n. node n.before c.args.at n.value) in
    omega (arith, long, same, c.requires.at)
