use Rattle.sc_main_drawn.proofs.Goodness as goodness
use Rattle.sc_main_drawn.proofs.laws.drawn_scripts_are_good.Goals as goal

pub returns : goal.returns
returns c = record { good = goodness.good; few = goodness.few }
