-- What a client's command asks, and shows of the answer.
use Rattle.std.specs.Prelude.{◌≡◌, ℕ, List, Result, Ok, Err}
use Rattle.sc_client.specs.Conversations.{Conversation}
use Rattle.sc_client.specs.declared.client_error.ClientError.{ClientError}
use Rattle.sc_main_client.specs.Ending.{TextEnds, ended_of}
use Rattle.sc_main_report.specs.declared.ended.Ended.{Ended}
use Rattle.sc_main_report.specs.declared.ended.Ended.TheVariants as ended

-- an answer is shown by its text; of a call without one nothing is
abbrev pub Shows : {A : Type 0} → (A → List ℕ) → (wrote : List ℕ → Type 0) → (write_rose same : Type 0) → Result A ClientError → Ended → Type 0
Shows text wrote write_rose same (Ok a) e = TextEnds (wrote (text a)) write_rose e
Shows text wrote write_rose same (Err error) e = (e ≡ ended_of error) × same

-- over a connection that began so, a request was asked, and its answer shown
pub record AsksAndShows {A : Type 0} (asks : Conversation → Result A ClientError → Conversation → Type 0) (text : A → List ℕ) (wrote : List ℕ → Type 0) (write_rose same : Type 0) (begun : Conversation) (e : Ended) : Type 0 where
  pub came : Result A ClientError
  pub left : Conversation
  pub asked : asks begun came left
  pub shown : Shows text wrote write_rose same came e

abbrev pub OverBegun : (Conversation → Ended → Type 0) → Type 0 → Result Conversation ClientError → Ended → Type 0
OverBegun does same (Ok begun) e = does begun e
OverBegun does same (Err error) e = (e ≡ ended_of error) × same

-- Over the connection that was made, this was done; where none was, nothing was shown.
pub record Over (connects : Result Conversation ClientError → Type 0) (does : Conversation → Ended → Type 0) (same : Type 0) (e : Ended) : Type 0 where
  pub begun : Result Conversation ClientError
  pub connected : connects begun
  pub done : OverBegun does same begun e

-- what is done only where the first text was written
abbrev pub AfterFirst : Ended → (then : Ended → Type 0) → (same : Type 0) → Ended → Type 0
AfterFirst (ended.Status n) then same e = then e
AfterFirst first then same e = (e ≡ first) × same
