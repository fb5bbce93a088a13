use Rattle.std.proofs.Common.{rules, ◌≡◌, None, ap, map, ◌∙◌}
use Rattle.std.specs.Str.{trim}
use Rattle.sc_store.specs.Levels.{held_level}
use Rattle.sc_store_config.specs.Configs.{disk_as, remote_as}
use Rattle.sc_store_config.proofs.Chains.{chain_fault, chain_init, chain_more}
use Rattle.sc_store_config.proofs.building.chain_levels.Goals as goal

pub loop-left-init : goal.loop-left-init
loop-left-init g c = chain_init c.new-levels.result.items _ c.new-levels.ensures.items

pub returns-in_default-2-clause-fault : goal.returns-in_default-2-clause-fault
returns-in_default-2-clause-fault g c =
    let remote_level = remote_as g.R.Remote.names g.R.Remote.held g.R.Remote.fault_count g.R.Remote.loss_count g.R.Remote.calls g.R.Remote.reached c.args.basedirs.now c.args.skip_cache_check in
    let disk_level = disk_as g.D.Disk.state c.args.basedirs.now in
    let none : c.in_ok-level.field-0 ≡ None = search rules in
    chain_fault remote_level disk_level c.loop-left.left.now c.first-item.result c.trim-name.result.now c.in_ok-from_str.field-0 c.loop-left.unused.disk c.loop-left.unused.remotes.items (map held_level c.loop-left.levels.items) c.in_ok-level.field-0 _
    c.in-len1-up.len_at_least c.first-item.is (c.trim-name.ensures.trim ∙ ap trim c.as_str.ensures) c.in_ok-level.ensures.level none c.in_ok-from_str.ensures c.loop-left.invariant

pub loop-left-preserved : goal.loop-left-preserved
loop-left-preserved g c =
    let remote_level = remote_as g.R.Remote.names g.R.Remote.held g.R.Remote.fault_count g.R.Remote.loss_count g.R.Remote.calls g.R.Remote.reached c.args.basedirs.now c.args.skip_cache_check in
    let disk_level = disk_as g.D.Disk.state c.args.basedirs.now in
    chain_more remote_level disk_level c.loop-left.left.now c.first-item.result c.trim-name.result.now c.loop-left.unused.disk c.take_level.new.self.disk c.loop-left.unused.remotes.items c.take_level.new.self.remotes.items c.loop-left.levels.items c.push.new.self.items c.in-Some.level c.in_ok-level.field-0 _
    c.in-len1-up.len_at_least c.first-item.is (c.trim-name.ensures.trim ∙ ap trim c.as_str.ensures) c.in_ok-level.ensures.level c.in-Some.is c.in_ok-level.ensures.disk c.in_ok-level.ensures.remotes c.in_ok-push.ensures.items c.loop-left.invariant
