use Rattle.std.proofs.Common.{rules, ◌≡◌, Ok, length, map, ap, ◌∙◌}
use Rattle.sc_model.specs.declared.level.Policy.TheVariants.{Levels}
use Rattle.sc_store.specs.Levels.{held_level, held_levels}
use Rattle.sc_store_config.proofs.Chains.{chain_held}
use Rattle.sc_store_config.specs.Configs.{chain_levels, disk_as, remote_as}
use Rattle.sc_store_config.specs.Policies.{chain_policies}
use Rattle.sc_store_config.proofs.building.chain_store.Goals as goal

pub returns-clause-store : goal.returns-clause-store
returns-clause-store g c =
    let config = c.args.config in
    let r = g.R.Remote in
    let levels = c.in_ok-levels.levels.items in
    let policies = c.in_ok-policies.policies in
    let by : policies ≡ chain_policies config.level_policies config.write_error_policy (length config.chain) = c.in_ok-policies.ensures ∙ ap (λ n. chain_policies config.level_policies config.write_error_policy n) c.len.ensures in
    let is : chain_levels (remote_as r.names r.held r.fault_count r.loss_count r.calls r.reached config.basedirs config.skip_cache_check) (disk_as g.D.Disk.state config.basedirs) config.chain config.disk config.remotes ≡ Ok (map held_level levels) = rw (← c.as_slice.ensures, ← c.as_slice-2.ensures, ← c.into_vec.ensures) c.in_ok-levels.ensures.levels in
    let kept : c.new.result ≡ held_levels levels (Levels policies) = search rules in
    chain_held policies _ _ levels c.new.result by is kept
