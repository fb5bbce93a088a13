-- A daemon and the one connection that it serves.
use Rattle.std.specs.Prelude.{◌≡◌, ◌⊎◌, ℕ, Bool, List, [], ◌∷◌, refl}
use Rattle.std.specs.Coded.{Coded, code_by, coded×, coded_bool}
use Rattle.sc_daemon.specs.Daemons.{Kept, kept_code}
use Rattle.sc_daemon.specs.Drives.{Tied}
use Rattle.sc_daemon.specs.Lines.{IsDone, Line, line_code}
use Rattle.sc_daemon.specs.Turns.{TakesMore}
use Rattle.sc_model.specs.Trace.{Open}

pub record Session : Type 0 where
  pub daemon : Kept
  pub line : Line
  -- memory ran out within an action: nothing more is done
  pub lost : Bool

abbrev pub session_code : Coded Session
session_code = code_by (Kept × (Line × Bool)) (coded× kept_code (coded× line_code coded_bool))
    (λ s. (s.daemon, (s.line, s.lost)))
    (λ p. record { daemon = p.0; line = p.1.0; lost = p.1.1 })
    (λ _. refl)

-- The first request and the handed writes can be gone on with, and no two of them hold one open entry of a disk level.
pub record IsServing (d : Kept) (l : Line) : Type 0 where
  pub opens : List Open
  pub tied : Tied d (l ∷ []) opens

-- more bytes came, which are read where the connection isn't over
abbrev pub Feeds : List ℕ → Line → Line → Type 0
Feeds bytes old new = (IsDone old × (new ≡ old)) ⊎ ((IsDone old → ⊥) × TakesMore bytes old new)
