use Rattle.std.proofs.Common.{Ok, Err, arith, refl}
use Rattle.sc_main.proofs.serve_command.run_serve.Goals as goal

pub returns-in-Ok-clause-ends : goal.returns-in-Ok-clause-ends
returns-in-Ok-clause-ends g c = record {
  made = Ok c.in-Ok.daemon;
  between = g.X.Outside.fault_count c.daemon.new.outside;
  cause = c.in-Ok.ensures.cause;
  later = c.serve_by.ensures.later;
  daemon = c.in-Ok.ensures.made;
  after = c.serve_by.ensures.ends;
}

pub returns-in-Err-clause-ends : goal.returns-in-Err-clause-ends
returns-in-Err-clause-ends g c = record {
  made = Err c.in-Err.error;
  between = g.X.Outside.fault_count c.daemon.new.outside;
  cause = c.in-Err.ensures.cause;
  later = omega arith;
  daemon = tt;
  after = (c.unmade_end.ensures, refl);
}
