use Rattle.std.proofs.Common.{◌≡◌, ◌++◌, drop, length, map}
use Rattle.sc_daemon.specs.Backlogs.{Write}
use Rattle.sc_daemon.proofs.drives.writes_left.Given as goal

abbrev pub invariant-loop-place : goal.invariant-loop-place
invariant-loop-place l = record {
  end : l.place-end ≡ length l.fn.background;
  same : l.left ++ map (λ (w : Write). w.pending.handed) (drop l.place l.fn.background) ≡ map (λ (w : Write). w.pending.handed) l.fn.background;
}
