use Rattle.sc_daemon.proofs.Sessions.{fed}
use Rattle.sc_daemon.proofs.conn.Conn.feed.Goals as goal

pub returns : goal.returns
returns c = fed c.take_piece.result c.args.piece.now c.args.self.now c.take_piece.new.self (c.is_done.ensures.no c.if-is_done.false) c.take_piece.ensures
