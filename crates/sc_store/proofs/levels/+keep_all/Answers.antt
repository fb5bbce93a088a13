use Rattle.sc_store.proofs.Behind.{all_within, none_within}
use Rattle.sc_store.proofs.levels.+keep_all.Goals as goal

pub returns-in-len1-up : goal.returns-in-len1-up
returns-in-len1-up g t c = all_within c.args.levels.now c.first-item.result c.in-len1-up.len_at_least c.first-item.is c.keeps.ensures c.keep_all.ensures

pub returns-in_default : goal.returns-in_default
returns-in_default g t c = none_within c.args.levels.now c.in_default.len_below
