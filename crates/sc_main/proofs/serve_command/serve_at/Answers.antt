use Rattle.std.proofs.Common.{refl}
use Rattle.sc_main.proofs.Starting.{serves_at, serves_not}
use Rattle.sc_main.proofs.serve_command.serve_at.Goals as goal

pub returns-in-Status : goal.returns-in-Status
returns-in-Status g c = serves_at _ _ _ _ _ c.serve_links.new.acceptor c.local_addr.result.now c.local_addr.ensures c.print_listening.result _ c.print_listening.ensures c.in-Status.field-0 c.serve_links.result c.in-Status.is c.serve_links.ensures.serves c.served_end.ensures

pub returns-in_default : goal.returns-in_default
returns-in_default g c = serves_not _ _ _ _ _ c.args.acceptor.now c.local_addr.result.now c.local_addr.ensures c.print_listening.result _ c.print_listening.ensures c.in_default.not-Status refl refl refl
