-- What a client makes of the reply to a request that has one kind of reply.
use Rattle.std.specs.Prelude.{◌≡◌, Result, Ok, Err}
use Rattle.sc_entry.specs.declared.cache_mode.CacheMode.{CacheMode}
use Rattle.sc_model.specs.declared.message.Request.{Request}
use Rattle.sc_model.specs.declared.message.Request.TheVariants as requests
use Rattle.sc_model.specs.declared.message.Response.{Response}
use Rattle.sc_model.specs.declared.message.Response.TheVariants as replies
use Rattle.sc_stats.specs.declared.counters.DistInfo.{DistInfo}
use Rattle.sc_stats.specs.declared.counters.ServerInfo.{ServerInfo}
use Rattle.sc_client.specs.Conversations.{Asks, Conversation}
use Rattle.sc_client.specs.Refusals.{of_request}
use Rattle.sc_client.specs.declared.client_error.ClientError.{ClientError}
use Rattle.sc_client.specs.declared.client_error.ClientError.TheVariants as client_errors
use Rattle.sc_client.specs.declared.asking.Statistics.{Statistics}
use Rattle.sc_client.specs.declared.request_error.RequestError.{RequestError}

-- A request was sent, and what it came to is read so.
abbrev pub Asked : {A : Type 0} → Request → (Result Response RequestError → Result A ClientError) → Conversation → Result A ClientError → Conversation → Type 0
Asked request reading old result new = (came : Result Response RequestError) × Asks request old came new × (result ≡ reading came)

-- its own kind of reply, else the reply that came
abbrev pub zeroed_of : Response → Result (Unit {0}) ClientError
zeroed_of replies.ZeroStats = Ok tt
zeroed_of reply = Err (client_errors.Unexpected reply)

abbrev pub dist_status_of : Response → Result DistInfo ClientError
dist_status_of (replies.DistStatus info) = Ok info
dist_status_of reply = Err (client_errors.Unexpected reply)

abbrev pub shutting_down_of : Response → Result ServerInfo ClientError
shutting_down_of (replies.ShuttingDown info) = Ok info
shutting_down_of reply = Err (client_errors.Unexpected reply)

abbrev pub stats_of : Response → Result ServerInfo ClientError
stats_of (replies.Stats info) = Ok info
stats_of reply = Err (client_errors.Unexpected reply)

abbrev pub mode_of : Response → Result CacheMode ClientError
mode_of (replies.StorageHandshake info) = Ok info.cache_mode
mode_of reply = Err (client_errors.Unexpected reply)

-- what came, by what a reply is read as; a refusal is answered
abbrev pub read_as : {A : Type 0} → (Response → Result A ClientError) → Result Response RequestError → Result A ClientError
read_as reading (Ok reply) = reading reply
read_as reading (Err refused) = Err (of_request refused)

-- statistics with a mode
abbrev pub with_mode : ServerInfo → Result CacheMode ClientError → Result Statistics ClientError
with_mode info (Ok mode) = Ok (record { info = info; mode = mode })
with_mode info (Err error) = Err error

-- the handshake is asked for where the statistics came, and not else
abbrev pub ThenMode : Result ServerInfo ClientError → Conversation → Result Statistics ClientError → Conversation → Type 0
ThenMode (Ok info) old result new = (mode : Result CacheMode ClientError) × Asked requests.StorageHandshake (read_as mode_of) old mode new × (result ≡ with_mode info mode)
ThenMode (Err error) old result new = (result ≡ Err error) × (new ≡ old)

-- The statistics, then the handshake's mode.
abbrev pub AsksStatistics : Conversation → Result Statistics ClientError → Conversation → Type 0
AsksStatistics old result new = (stats : Result ServerInfo ClientError) × ((between : Conversation) × Asked requests.GetStats (read_as stats_of) old stats between × ThenMode stats between result new)
