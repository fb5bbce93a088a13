use Rattle.sc_main_script.proofs.Changing.{set_failing}
use Rattle.sc_main_script.proofs.level_rules.LevelRules.fail.Goals as goal

pub returns : goal.returns
returns c = set_failing _ _ _ c.index_mut-rule.result.now _ _ c.self.view_is c.requires c.index_mut-rule.ensures.value c.in_ok-push.ensures.ok
