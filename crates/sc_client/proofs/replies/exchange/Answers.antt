use Rattle.std.proofs.lemmas.Result.{err_from_is_err_and}
use Rattle.sc_client.proofs.Replying.{sends_refused}
use Rattle.sc_client.proofs.replies.exchange.Goals as goal

pub returns-in_err-send_all-clause-sent : goal.returns-in_err-send_all-clause-sent
returns-in_err-send_all-clause-sent g c =
    let p = err_from_is_err_and c.from_residual.result c.from_residual.ensures.1 in
    sends_refused c.in_err-send_all.field-0.0 c.args.frame.now p.0 c.from_residual.result (g.K.Link.written c.args.link.now) (g.K.Link.written c.send_all.new.link) p.1 p.2 c.in_err-send_all.ensures.refused
