-- The miss that a level's answer makes.
use Rattle.std.proofs.Common.{◌≡◌, ℕ, Bool, List, Option, refl}
use Rattle.sc_daemon_action.specs.Misses.{refused_miss}
use Rattle.sc_model.specs.Job.{by_answer}
use Rattle.sc_model.specs.Script.{is_single}
use Rattle.sc_model.specs.declared.event.Answer.TheVariants.{Found, Miss, Refused, Size}
use Rattle.sc_model.specs.declared.event.MissType.TheVariants.{Normal}
use Rattle.sc_model.specs.declared.level.Cause.{Cause}
use Rattle.sc_model.specs.declared.level.Policy.{Policy}
use Rattle.sc_model.specs.declared.level.Policy.TheVariants.{Levels, Single}
use Rattle.sc_stats.specs.declared.counters.LevelStats.{LevelStats}

refused_by : (p : Policy) (c : Cause) → by_answer p (Refused c) ≡ refused_miss (is_single p)
refused_by Single c = refl
refused_by (Levels ps) c = refl

pub by_refusal : (p : Policy) (single : Bool) (c : Cause) → is_single p ≡ single → by_answer p (Refused c) ≡ refused_miss single
by_refusal p single c is = rw (← is) (refused_by p c)

pub by_miss : (p : Policy) → by_answer p Miss ≡ Normal
by_miss Single = refl
by_miss (Levels ps) = refl

pub by_path : (p : Policy) (path : List ℕ) → by_answer p (Found path) ≡ Normal
by_path Single path = refl
by_path (Levels ps) path = refl

pub by_size : (p : Policy) (size : Option ℕ) (counters : Option LevelStats) → by_answer p (Size size counters) ≡ Normal
by_size Single size counters = refl
by_size (Levels ps) size counters = refl
