-- What holds of one connection by its own events alone, whatever others do.
use Rattle.std.specs.Prelude.{◌≡◌, ℕ, ◌<◌, List, [], ◌∷◌, ◌++◌, length}
use Rattle.sc_model.specs.Dues.{Over}
use Rattle.sc_model.specs.Follows.{Fits}
use Rattle.sc_model.specs.Headline.{Carries, IsPrefixOf, Stores, frames_upto}
use Rattle.sc_model.specs.Finishing.{finish}
use Rattle.sc_model.specs.Job.{hit_of, job_of}
use Rattle.sc_model.specs.Next.{due_of}
use Rattle.sc_model.specs.Script.{End, Reader, Setup}
use Rattle.sc_model.specs.Trace.{Came, Did, Mine, Shut, if_too_long, is_closed, owned, request, sent, taken, too_long}
use Rattle.sc_model.specs.World.{Place, placed_of}
use Rattle.sc_model.specs.declared.event.Placing.TheVariants.{Done as PlaceDone}
use Rattle.sc_model.specs.declared.event.RunAnswer.{RunAnswer}
use Rattle.sc_model.specs.declared.event.What.{What}
use Rattle.sc_model.specs.declared.event.What.TheVariants.{Placed, Ran, Sent}
use Rattle.sc_model.specs.declared.message.Request.{Request}
use Rattle.sc_model.specs.declared.message.Response.TheVariants.{ArtifactNotification as Note, CompileFinished as Finished}

-- the requests that its bytes spell, and its end
abbrev pub asked_for : Reader → List Mine → List Request
asked_for reader t = reader.requests (taken t)

abbrev pub link_end : Reader → List Mine → End
link_end reader t = if_too_long (too_long t) (reader.ends (taken t) (is_closed t))

-- each event of its requests and those before it
abbrev pub EachOwn : (List Mine → ℕ → What → Type 0) → List Mine → Type 0
EachOwn P [] = Unit {0}
EachOwn P (Came bytes ∷ t) = EachOwn P t
EachOwn P (Shut ∷ t) = EachOwn P t
EachOwn P (Did n m x ∷ t) = P t n x × EachOwn P t

-- an event of a request is one that is due, and all requests before it are over
abbrev pub FitsLink : Setup → List Request → List Mine → ℕ → What → Type 0
FitsLink s rs t n x = Fits s (request rs n) (due_of s rs n t) x × ((k : ℕ) → k < n → due_of s rs k t ≡ Over)

-- what a finished compile carries, and that a storable run was handed to the store before
abbrev pub FinishesLink : Setup → List Request → List Mine → ℕ → What → Type 0
FinishesLink s rs t n (Sent (Finished f)) = (f ≡ finish s (request rs n) (owned n t)) × Carries s (request rs n) f (owned n t) × Stores s (request rs n) (owned n t)
FinishesLink s rs t n (Sent (Note line)) = Stores s (request rs n) (owned n t)
FinishesLink s rs t n x = Unit {0}

-- Of the requests that its bytes spell, or will spell: rs.
pub record LinkHolds (s : Setup) (reader : Reader) (rs : List Request) (t : List Mine) : Type 0 where
  pub comes : IsPrefixOf (asked_for reader t) rs
  pub follows : EachOwn (FitsLink s rs) t
  pub sends : IsPrefixOf (sent t) (frames_upto s rs (length (asked_for reader t)) t)
  pub finished : EachOwn (FinishesLink s rs) t

-- the runs and placings that its requests made, in order
abbrev pub run_by : List Mine → ℕ → What → List (List ℕ × RunAnswer)
run_by t n (Ran a) = ((job_of (owned n t)).found.key, a) ∷ []
run_by t n x = []

abbrev pub link_runs : List Mine → List (List ℕ × RunAnswer)
link_runs [] = []
link_runs (Came bytes ∷ t) = link_runs t
link_runs (Shut ∷ t) = link_runs t
link_runs (Did n m x ∷ t) = link_runs t ++ run_by t n x

abbrev pub place_by : List Mine → ℕ → What → List Place
place_by t n (Placed PlaceDone) = (record { outputs = placed_of (job_of (owned n t)).found.locally_preprocessed (job_of (owned n t)).found.outputs; bytes = hit_of (owned n t) }) ∷ []
place_by t n x = []

abbrev pub link_placings : List Mine → List Place
link_placings [] = []
link_placings (Came bytes ∷ t) = link_placings t
link_placings (Shut ∷ t) = link_placings t
link_placings (Did n m x ∷ t) = link_placings t ++ place_by t n x
