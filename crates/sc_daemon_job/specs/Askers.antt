-- What an event takes from its owner.
use Rattle.std.specs.Prelude.{ℕ, Bool, true, false}
use Rattle.sc_daemon_job.specs.LevelRows.{origin_of}
use Rattle.sc_daemon_job.specs.declared.since.Since.{Since}
use Rattle.sc_model.specs.Rows.{Origin_of_put}
use Rattle.sc_model.specs.World.{Need}
use Rattle.sc_model.specs.declared.message.Request.{Request}
use Rattle.sc_model.specs.declared.message.Request.TheVariants.{Compile}

-- What an event needs of the parts, the request that it counts for, whose a write is, and the moments of its owner's last event, of
-- its outcome and of its last reservation.
pub record Asker : Type 0 where
  pub need : Need
  pub request : Request
  pub origin : Origin_of_put
  pub last : ℕ
  pub outcome : ℕ
  pub reserved : ℕ

abbrev pub asker : Since → Need → Request → Asker
asker since n r = record { need = n; request = r; origin = origin_of since.origin; last = since.last; outcome = since.outcome; reserved = since.reserved }

abbrev pub is_compile : Request → Bool
is_compile (Compile c) = true
is_compile _ = false
