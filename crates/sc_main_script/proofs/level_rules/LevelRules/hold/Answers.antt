use Rattle.sc_main_script.proofs.Changing.{set_held}
use Rattle.sc_main_script.proofs.level_rules.LevelRules.hold.Goals as goal

pub returns : goal.returns
returns c = set_held _ _ _ c.index_mut-rule.result.now _ _ _ c.self.view_is c.requires c.index_mut-rule.ensures.value c.in_ok-push.ensures.ok
