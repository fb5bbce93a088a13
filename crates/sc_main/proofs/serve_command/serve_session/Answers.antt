use Rattle.std.proofs.Common.{Ok}
use Rattle.sc_main.proofs.serve_command.serve_session.Goals as goal

pub returns-in-Ok-clause-ends : goal.returns-in-Ok-clause-ends
returns-in-Ok-clause-ends g c = record { parts = Ok (c.in-Ok.clock, c.in-Ok.maker); cause = c.in-Ok.ensures.cause; after = record { clock = c.listen.new.clock; listens = c.listen.ensures } }
