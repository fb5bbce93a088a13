use Rattle.std.proofs.Common.{◌≡◌, ◌<◌, ◌≤◌, ◌-◌, ◌++◌}
use Rattle.sc_main_generate.specs.Generated.{after, asks}
use Rattle.sc_main_generate.proofs.script.put_asks.Given as goal

abbrev pub invariant-loop-ask : goal.invariant-loop-ask
invariant-loop-ask l =
    (l.text ++ asks (l.fn.count - l.ask) l.ask l.state ≡ l.fn.text ++ asks l.fn.count 0 l.fn.state)
    × (after (l.fn.count - l.ask) l.state ≡ after l.fn.count l.fn.state) × (l.ask ≤ l.fn.count) × (l.state < 2147483648)

abbrev pub decreases-loop-ask : goal.decreases-loop-ask
decreases-loop-ask l = l.fn.count - l.ask
