use Rattle.std.proofs.Common.{◌≡◌, length, map}
use Rattle.sc_store.specs.Levels.{held_level}
use Rattle.sc_store_config.specs.Configs.{chain_levels, disk_as, remote_as}
use Rattle.sc_store_config.proofs.Chains.{prepend}
use Rattle.sc_store_config.proofs.building.chain_levels.Given as goal

-- what was made is a front part
abbrev pub invariant-loop-left : goal.invariant-loop-left
invariant-loop-left g l =
    let remote_level = remote_as g.R.Remote.names g.R.Remote.held g.R.Remote.fault_count g.R.Remote.loss_count g.R.Remote.calls g.R.Remote.reached l.fn.basedirs l.fn.skip_cache_check in
    let disk_level = disk_as g.D.Disk.state l.fn.basedirs in
    prepend (map held_level l.levels.items) (chain_levels remote_level disk_level l.left l.unused.disk l.unused.remotes.items) ≡ chain_levels remote_level disk_level l.fn.chain l.fn.unused.disk l.fn.unused.remotes.items

abbrev pub decreases-loop-left : goal.decreases-loop-left
decreases-loop-left g l = length l.left
