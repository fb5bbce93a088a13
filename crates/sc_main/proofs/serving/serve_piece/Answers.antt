use Rattle.sc_main.proofs.Going.{poll_on}
use Rattle.sc_main.proofs.serving.serve_piece.Goals as goal

pub returns-clause-serves : goal.returns-clause-serves
returns-clause-serves g c first ahead read f =
    let moments = g.C.Clock.moments in
    let taken = c.take_piece.new in
    poll_on c.in_ok-refused.refused first taken.session taken.messages c.poll.new.messages c.args.wait.now c.poll.new.self (moments taken.clock) (moments c.now-now.new.self) _ c.now-now.result
    (c.in_ok-refused.ensures.serves first c.args.wait.now ahead c.requires.uncaused read f)
    (c.now-now.ensures.moment, c.now-now.ensures.left) c.poll.ensures.taken c.poll.ensures.idle_time c.poll.ensures.active_at c.poll.ensures.cause
