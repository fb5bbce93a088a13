use Rattle.std.proofs.Common.{refl}
use Rattle.sc_model.proofs.There.{put_there}
use Rattle.sc_daemon_action.proofs.storing.end_write.Goals as goal

pub returns-clause-acts : goal.returns-clause-acts
returns-clause-acts g c =
    let k = g.H.Hold.config c.args.hold.now in
    let end = c.in_ok-end in
    record {
      fits = (end.ensures.answer, end.ensures.handed);
      then = refl;
      stands = tt;
      still = tt;
      there = put_there k.policy k.levels c.args.bytes c.args.refusal end.end.handed end.ensures.handed;
    }
