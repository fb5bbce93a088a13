-- What is true of every connection.
use Rattle.std.specs.Prelude.{◌≡◌, ◌<◌, ◌≤◌, ℕ, Option}
use Rattle.sc_client.specs.Conversations.{IsCounted}
use Rattle.sc_client.specs.declared.request_error.Refusal.{Refusal}

pub record IsConnected (limit room before now : ℕ) (refusal : Option Refusal) : Type 0 where
  -- a reply's payload has at most 16,777,216 bytes
  pub limit_is : limit ≡ 16777216
  -- its buffer has room
  pub has_room : 0 < room
  -- its link's count has not fallen since, and rose where a refusal is kept
  pub later : before ≤ now
  pub counted : IsCounted refusal before now
