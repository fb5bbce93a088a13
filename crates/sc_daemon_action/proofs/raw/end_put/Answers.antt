use Rattle.std.proofs.Common.{ap}
use Rattle.sc_model.proofs.There.{put_there}
use Rattle.sc_model.specs.declared.phase.Phase.TheVariants.{AtSend}
use Rattle.sc_model.specs.declared.message.Response.TheVariants.{StoragePutRaw as PutReply}
use Rattle.sc_daemon_action.proofs.raw.end_put.Goals as goal

pub returns-clause-acts : goal.returns-clause-acts
returns-clause-acts g c =
    let k = g.H.Hold.config c.args.hold.now in
    let end = c.in_ok-end in
    record {
      fits = (end.ensures.answer, end.ensures.handed);
      then = ap (λ r. AtSend (PutReply r)) c.in_ok-told.ensures;
      stands = tt;
      still = tt;
      there = put_there k.policy k.levels c.args.bytes c.args.refusal end.end.handed end.ensures.handed;
    }
