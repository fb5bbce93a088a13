use Rattle.sc_main_script.proofs.Appending.{set_appended}
use Rattle.sc_main_script.proofs.inputs.Inputs.append.Goals as goal

pub returns : goal.returns
returns c = set_appended _ _ _ _ _ _ c.self.view_is c.requires c.index_mut.ensures.value c.in_ok-append.ensures.ok
