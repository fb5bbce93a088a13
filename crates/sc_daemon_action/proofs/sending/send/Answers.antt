use Rattle.std.proofs.Common.{ℕ, List, subst, sym}
use Rattle.sc_daemon_action.specs.Sends.{Sends}
use Rattle.sc_model.specs.declared.message.Response.{Response}
use Rattle.sc_wire.specs.Responses.{payload}
use Rattle.sc_daemon_action.proofs.sending.send.Goals as goal

pub returns : goal.returns
returns g c =
    let k = g.H.Hold.config c.args.hold.now in
    subst (λ (p : Response → List ℕ). Sends p k.limit c.args.reply.now c.args.out.now.items c.add_frame.new.out.items c.in_ok-size.size) (sym (g.met.H.Hold.spells c.args.hold.now))
    (subst (λ (n : ℕ). Sends payload n c.args.reply.now c.args.out.now.items c.add_frame.new.out.items c.in_ok-size.size) c.limit.ensures c.in_ok-size.ensures)
