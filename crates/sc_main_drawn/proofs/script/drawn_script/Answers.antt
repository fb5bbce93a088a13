use Rattle.std.proofs.Common.{sym, subst}
use Rattle.sc_main_script.specs.Goods.{IsGood}
use Rattle.sc_main_drawn.proofs.script.drawn_script.Goals as goal

pub returns-clause-good : goal.returns-clause-good
returns-clause-good c = subst IsGood (sym c.in_ok-script.ensures) (c.drawn_scripts_are_good.ensures.good c.args.number)
