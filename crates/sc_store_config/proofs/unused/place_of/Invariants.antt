use Rattle.std.proofs.Common.{◌≡◌, drop}
use Rattle.sc_store_config.specs.Configs.{place_of}
use Rattle.sc_store_config.proofs.Named.{after}
use Rattle.sc_store_config.proofs.unused.place_of.Given as goal

abbrev pub invariant-loop-place : goal.invariant-loop-place
invariant-loop-place g l = after l.place (place_of l.fn.name (drop l.place l.fn.remotes)) ≡ place_of l.fn.name l.fn.remotes
