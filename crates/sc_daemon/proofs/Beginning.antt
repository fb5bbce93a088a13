-- Connections that nothing came over.
use Rattle.std.proofs.Common.{◌≡◌, ℕ, zero, suc, ◌+◌, List, [], ◌∷◌, ◌++◌, refl, sym, ap, ◌∙◌, add-one}
use Rattle.sc_daemon.specs.Daemons.{IsIdleDaemon, new_daemon}
use Rattle.sc_daemon.specs.Drives.{lines_of}
use Rattle.sc_daemon_owned.specs.Laws.{counters_of}
use Rattle.sc_daemon_owned.specs.State.{State, reserved_in}
use Rattle.sc_daemon.specs.Lines.{Line, new_line}

lines_suc : (limit n : ℕ) → lines_of limit n ++ new_line limit ∷ [] ≡ lines_of limit (suc n)
lines_suc limit zero = refl
lines_suc limit (suc n) = ap (λ (ls : List Line). new_line limit ∷ ls) (lines_suc limit n)

-- one connection more
pub lines_more : (limit n : ℕ) → lines_of limit n ++ new_line limit ∷ [] ≡ lines_of limit (n + 1)
lines_more limit n = lines_suc limit n ∙ ap (lines_of limit) (sym (add-one n))

-- a daemon as it is made is idle, where nothing is reserved at its levels
pub new_idle : (o : State) → ((l : ℕ) → reserved_in o l ≡ 0) → IsIdleDaemon (new_daemon o)
new_idle o none = record { free = refl; levels = counters_of o; background = refl; reserved = none }
