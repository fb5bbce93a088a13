use Rattle.std.proofs.Common.{◌≡◌, ◌<◌, ◌≤◌, ◌-◌, length}
use Rattle.sc_main_drawn.specs.Drawn.{asks}
use Rattle.sc_main_generate.specs.Generated.{after}
use Rattle.sc_main_drawn.proofs.asks.asks.Given as goal

abbrev pub invariant-loop-number : goal.invariant-loop-number
invariant-loop-number l = record {
  same : asks (l.fn.count - l.number) l.number l.state l.inputs ≡ asks l.fn.count 0 l.fn.state l.fn.inputs;
  after : after (l.fn.count - l.number) l.state ≡ after l.fn.count l.fn.state;
  few : l.number ≤ l.fn.count;
  four : length l.inputs ≡ 4;
  small : l.state < 2147483648;
}

abbrev pub decreases-loop-number : goal.decreases-loop-number
decreases-loop-number l = l.fn.count - l.number
