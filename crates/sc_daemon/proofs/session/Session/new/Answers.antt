use Rattle.std.proofs.Common.{ℕ, ap, ◌∙◌, sym, subst}
use Rattle.sc_daemon.specs.Daemons.{Kept, anew}
use Rattle.sc_daemon.specs.Lines.{Line, new_line}
use Rattle.sc_daemon.specs.Sessions.{IsServing}
use Rattle.sc_daemon.proofs.Sessions.{begins_serving}
use Rattle.sc_daemon.proofs.session.Session.new.Goals as goal

pub invariant_of-result : goal.invariant_of-result
invariant_of-result g c = λ fine.
    subst (λ (k : Kept). IsServing k c.new-conn.result) (sym c.number_anew.ensures)
    (subst (λ (l : Line). IsServing (anew c.args.daemon) l) (sym (c.new-conn.ensures ∙ ap (λ (n : ℕ). new_line n) (c.limit.ensures ∙ ap (λ (k : Kept). k.state.config.limit) c.number_anew.ensures)))
    (begins_serving c.args.daemon c.requires))
