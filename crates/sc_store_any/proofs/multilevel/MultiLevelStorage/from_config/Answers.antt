use Rattle.sc_store_config.specs.Configs.{disk_as, remote_as}
use Rattle.sc_store_any.proofs.Chained.{chain_many, some_chain}
use Rattle.sc_store_any.proofs.multilevel.MultiLevelStorage.from_config.Goals as goal

pub of_levels-requires : goal.of_levels-requires
of_levels-requires g c =
    let config = c.args.config in
    let R = g.R.Remote in
    chain_many (remote_as R.names R.held R.fault_count R.loss_count R.calls R.reached config.basedirs config.skip_cache_check) (disk_as g.D.Disk.state config.basedirs) config.chain config c.in_ok-levels.levels (some_chain config.chain c.is_empty.result c.is_empty.ensures c.if-is_empty.false) c.in_ok-levels.ensures.store

pub returns-clause-made : goal.returns-clause-made
returns-clause-made g c = (
  some_chain c.args.config.chain c.is_empty.result c.is_empty.ensures c.if-is_empty.false,
  (c.in_ok-levels.levels, c.in_ok-levels.ensures.store, record { held = c.in_ok-store.ensures.held; counters = c.in_ok-store.ensures.counters; basedirs = c.in_ok-store.ensures.basedirs }),
)
