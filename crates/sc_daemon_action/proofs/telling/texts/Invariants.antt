use Rattle.std.proofs.Common.{◌≡◌, ◌++◌, drop, map}
use Rattle.std.specs.Str.Lossy.{utf8_lossy}
use Rattle.sc_daemon_action.proofs.telling.texts.Given as goal

-- with the paths that are left, all texts
abbrev pub invariant-loop-path : goal.invariant-loop-path
invariant-loop-path l = l.texts.items ++ map utf8_lossy (drop l.path-index l.paths) ≡ map utf8_lossy l.paths
