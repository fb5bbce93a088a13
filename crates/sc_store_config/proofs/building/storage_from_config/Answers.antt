use Rattle.std.proofs.Common.{ℕ, List, Ok, ap, sym, ◌∙◌}
use Rattle.sc_store.specs.Held.{Held}
use Rattle.sc_store_config.specs.Configs.{chosen, disk_as, remote_as}
use Rattle.sc_store_config.proofs.building.storage_from_config.Goals as goal

pub returns-then-is_empty-clause-store : goal.returns-then-is_empty-clause-store
returns-then-is_empty-clause-store g c =
    let remote_level = remote_as g.R.Remote.names g.R.Remote.held g.R.Remote.fault_count g.R.Remote.loss_count g.R.Remote.calls g.R.Remote.reached c.args.config.basedirs c.args.config.skip_cache_check in
    let disk_level = disk_as g.D.Disk.state c.args.config.basedirs in
    ap (λ (ws : List (List ℕ)). chosen remote_level disk_level ws c.args.config) (c.is_empty.ensures.0 c.if-is_empty.true) ∙ ap (λ (h : Held). Ok h) (sym c.in_ok-store.ensures)
