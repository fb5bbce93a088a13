use Rattle.std.proofs.Common.{sym, ◌∙◌}
use Rattle.sc_store.proofs.Behind.{first_given}
use Rattle.sc_store.proofs.basedirs.first_basedirs.Goals as goal

pub returns-in_ok-basedirs-in-len1-up : goal.returns-in_ok-basedirs-in-len1-up
returns-in_ok-basedirs-in-len1-up g c =
    c.in_ok-basedirs-in-len1-up.ensures ∙ c.basedirs.ensures ∙ sym (first_given c.args.levels.now c.first-item.result c.in-len1-up.len_at_least c.first-item.is)
