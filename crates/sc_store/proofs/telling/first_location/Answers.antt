use Rattle.std.proofs.Common.{sym, ◌∙◌}
use Rattle.sc_store.proofs.Behind.{first_located}
use Rattle.sc_store.proofs.telling.first_location.Goals as goal

pub returns-in_ok-text-in-len1-up : goal.returns-in_ok-text-in-len1-up
returns-in_ok-text-in-len1-up g c =
    c.in_ok-text-in-len1-up.ensures ∙ sym (first_located c.args.levels.now c.first-item.result c.in-len1-up.len_at_least c.first-item.is)
