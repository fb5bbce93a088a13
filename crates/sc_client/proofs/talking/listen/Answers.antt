use Rattle.std.proofs.Common.{arith, ◌∙◌}
use Rattle.sc_client.proofs.Noting.{hears_then, told_then}
use Rattle.sc_client.proofs.talking.listen.Goals as goal

pub loop-round-preserved : goal.loop-round-preserved
loop-round-preserved g c =
    let before = c.loop-round in
    let w = g.E.Sink.written in
    record {
      heard = hears_then c.args.connection.now before.notes c.push.new.self before.connection c.in-Note.note c.hear.new.connection before.invariant.heard c.in-Note.ensures.heard c.in_ok-push-in-Note.ensures.ok;
      told = told_then before.notes c.push.new.self c.in-Note.note (w c.args.err.now) (w before.err) (w c.show_note.new.err) before.invariant.told c.in_ok-show_note-in-Note.ensures.told c.in_ok-push-in-Note.ensures.ok;
      later = omega (arith, before.invariant.later, c.in-Note.ensures.later);
      faults = c.in_ok-show_note-in-Note.ensures.cause ∙ before.invariant.faults;
    }
