use Rattle.std.proofs.Common.{◌≡◌, map}
use Rattle.sc_wire_conn.specs.Ends.{end_of}
use Rattle.sc_daemon.specs.Drives.{line_end}
use Rattle.sc_daemon.specs.Lines.{Line}
use Rattle.sc_daemon.specs.declared.driven.DrivenConn.{DrivenConn}
use Rattle.sc_daemon.proofs.drives.driven_conns.Given as goal

abbrev pub invariant-loop-conn : goal.invariant-loop-conn
invariant-loop-conn l = (map (λ (c : DrivenConn). end_of c.end) l.driven ≡ map line_end l.yielded) × (map (λ (c : DrivenConn). c.sent) l.driven ≡ map (λ (k : Line). k.out) l.yielded)
