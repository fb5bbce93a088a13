use Rattle.sc_main_script.proofs.GoodScripts.{good_script}
use Rattle.sc_main_script.proofs.good_laws.read_scripts_are_good.Goals as goal

pub returns : goal.returns
returns c = good_script
