use Rattle.sc_main.proofs.Starting.{is_first}
use Rattle.sc_main.proofs.serve_command.serve_by.Goals as goal

pub returns-clause-ends : goal.returns-clause-ends
returns-clause-ends g c =
    let made = c.new-session.ensures in
    let first = is_first c.new-session.result c.args.daemon made.daemon made.line made.lost in
    record { last = c.serve_session-ended.new.session; serves = rw (← first) c.serve_session-ended.ensures.ends }
