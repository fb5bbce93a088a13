use Rattle.std.proofs.Common.{◌≡◌, ◌-◌, ◌≤◌}
use Rattle.sc_client.specs.Connecting.{Gains, RoseBy}
use Rattle.sc_client.proofs.connecting.connect_with_retry.Given as goal

-- each connect before was refused, and a pause came after it
abbrev pub invariant-loop-pauses : goal.invariant-loop-pauses
invariant-loop-pauses g l = record {
  few : l.pauses ≤ 10;
  asked : Gains l.pauses l.fn.addr (g.C.Connector.asked l.fn.connector) (g.C.Connector.asked l.connector);
  paused : Gains l.pauses 500000000 (g.L.Clock.pauses l.fn.clock) (g.L.Clock.pauses l.clock);
  links : g.C.Connector.links l.connector ≡ g.C.Connector.links l.fn.connector;
  later : g.C.Connector.fault_count l.fn.connector ≤ g.C.Connector.fault_count l.connector;
  counted : RoseBy l.pauses (g.C.Connector.fault_count l.fn.connector) (g.C.Connector.fault_count l.connector);
}

abbrev pub decreases-loop-pauses : goal.decreases-loop-pauses
decreases-loop-pauses g l = 10 - l.pauses
