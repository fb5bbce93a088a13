use Rattle.std.proofs.Common.{sym, ◌∙◌}
use Rattle.sc_daemon_owned.proofs.Making.{made}
use Rattle.sc_daemon_owned.proofs.owned.Owned.new.Goals as goal

pub invariant_of-result : goal.invariant_of-result
invariant_of-result g c =
    let e = c.len-count.ensures in
    (made c.args.levels.policy c.args.levels.facts c.args.levels.titles c.args.tokens c.args.limit c.requires.levels c.requires.tokens.0 c.requires.tokens.1 c.requires.limit.0 c.requires.limit.1 (sym e.titles ∙ e.facts), tt)
