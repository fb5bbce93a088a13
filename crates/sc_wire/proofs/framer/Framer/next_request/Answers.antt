use Rattle.sc_wire.proofs.Requested.{gives_request}
use Rattle.sc_wire.proofs.framer.Framer.next_request.Goals as goal

pub returns : goal.returns
returns c = gives_request c.args.self.now.limit c.args.self.now.rest c.next_message.result c.args.self.now c.next_message.new.self c.next_message.ensures
