-- Which event may come next, and runs of steps.
use Rattle.std.specs.Prelude.{◌≡◌, ℕ, zero, suc, ◌<◌, ◌≤◌, true, false, List, [], ◌∷◌, length, take, drop, Option, Some, None, ◌⊎◌}
use Rattle.sc_model.specs.Dues.{Due, Over, Stopped, ToTake, left}
use Rattle.sc_model.specs.Follows.{Fits, due, due_back}
use Rattle.sc_model.specs.Rows.{counters_of, total}
use Rattle.sc_model.specs.Script.{BadFrame, HasConn, Script, Setup, input}
use Rattle.sc_model.specs.Trace.{Given, Mine, about, all, is_closed, left_writes, no_request, open_runs, own_of, owned, request, request_of, reservations, reserved_at, taken, written}
use Rattle.sc_model.specs.World.{IsWithinBytes, Moves, World, need_of}
use Rattle.sc_model.specs.declared.event.Answer.TheVariants.{Size as SizeIs}
use Rattle.sc_model.specs.declared.event.Event.{Event}
use Rattle.sc_model.specs.declared.event.Mode.TheVariants.{Size as Sizes}
use Rattle.sc_model.specs.declared.event.Owner.{Owner}
use Rattle.sc_model.specs.declared.event.Owner.TheVariants.{Nobody, Request as OfRequest, Write as OfWrite}
use Rattle.sc_model.specs.declared.event.Step.{Step}
use Rattle.sc_model.specs.declared.event.Step.TheVariants.{Back, Pass, Read, Serve}
use Rattle.sc_model.specs.declared.event.Told.TheVariants.{Stats as TellsStats}
use Rattle.sc_model.specs.declared.event.What.{What}
use Rattle.sc_model.specs.declared.event.What.TheVariants.{Asked, Began, Closed, Idle, Passed, Taken}
use Rattle.sc_model.specs.declared.message.Request.{Request}
use Rattle.sc_stats.specs.Sums.{sat}

abbrev pub due_of : Setup → List Request → ℕ → List Mine → Due
due_of s rs n t = due s (request rs n) (owned n t)

-- n is the first request of a connection that isn't finished
pub record IsFirst (s : Script) (rs : List Request) (t : List Mine) (n : ℕ) : Type 0 where
  pub came : n < length (s.reader.requests (taken t))
  pub unfinished : due_of s.setup rs n t ≡ Over → ⊥
  pub before : (m : ℕ) → m < n → due_of s.setup rs m t ≡ Over

-- the connection ended by a reply that was too long
abbrev pub Ended : Due → Type 0
Ended (Stopped left) = Unit {0}
Ended _ = ⊥

abbrev pub HasEnded : Script → List Event → ℕ → Type 0
HasEnded s t c = (n : ℕ) × IsFirst s (all s c) (about c t) n × Ended (due_of s.setup (all s c) n (about c t))

-- nothing more is read: it is closed, its bytes spell no request, or a reply was too long
abbrev pub IsDone : Script → List Event → ℕ → Type 0
IsDone s t c = ((is_closed (about c t) ≡ true) ⊎ (s.reader.ends (taken (about c t)) false ≡ BadFrame)) ⊎ HasEnded s t c

-- the first request waits for a token
abbrev pub Waits : Script → List Event → ℕ → Type 0
Waits s t c = (n : ℕ) × IsFirst s (all s c) (about c t) n × (due_of s.setup (all s c) n (about c t) ≡ ToTake) × (s.setup.tokens ≤ length (open_runs t))

-- what an event tells of the others' events
abbrev pub Tells : Script → List Event → What → Type 0
Tells s t (Began q (TellsStats stats)) = stats ≡ total s t
Tells s t (Asked l k Sizes (SizeIs n c) hs) = c ≡ counters_of s t l
Tells s t _ = Unit {0}

-- the event of a request that is served
abbrev pub NextServe : Script → List Event → ℕ → Owner → What → Type 0
NextServe s t c Nobody Idle = (((n : ℕ) → IsFirst s (all s c) (about c t) n → ⊥) ⊎ HasEnded s t c) ⊎ Waits s t c
NextServe s t c (OfRequest d n) x =
    (d ≡ c) × IsFirst s (all s c) (about c t) n × Fits s.setup (request (all s c) n) (due_of s.setup (all s c) n (about c t)) x
    × (Waits s t c → ⊥) × Tells s t x
NextServe s t c _ x = ⊥

abbrev pub NextRead : Script → List Event → ℕ → ℕ → Owner → What → Type 0
NextRead s t c n Nobody Idle = ((n ≡ 0) ⊎ (length s.inputs ≤ c)) ⊎ IsDone s t c
NextRead s t c n Nobody (Taken d bytes) = (d ≡ c) × HasConn s c × (IsDone s t c → ⊥) × (bytes ≡ take n (drop (length (taken (about c t))) (input s c))) × (0 < length bytes)
NextRead s t c n Nobody (Closed d) = (d ≡ c) × HasConn s c × (IsDone s t c → ⊥) × (0 < n) × (length (input s c) ≤ length (taken (about c t)))
NextRead s t c n _ x = ⊥

abbrev pub nth : ℕ → List Given → Option Given
nth i [] = None
nth zero (g ∷ gs) = Some g
nth (suc i) (g ∷ gs) = nth i gs

-- the event of the ith handed write that is left
abbrev pub NextBack : Setup → List Event → ℕ → Owner → What → Type 0
NextBack s t i Nobody Idle = length (left_writes t) ≤ i
NextBack s t i (OfWrite n) x = (g : Given) × (nth i (left_writes t) ≡ Some g) × (n ≡ g.number) × Fits s no_request (due_back s.levels g.handed (written n t)) x
NextBack s t i _ x = ⊥

abbrev pub NextPass : ℕ → Owner → What → Type 0
NextPass n Nobody (Passed k) = k ≡ n
NextPass n _ x = ⊥

abbrev pub NextStep : Script → List Event → Step → Owner → What → Type 0
NextStep s t (Read c n) o x = NextRead s t c n o x
NextStep s t (Serve c) o x = NextServe s t c o x
NextStep s t (Back i) o x = NextBack s.setup t i o x
NextStep s t (Pass n) o x = NextPass n o x

abbrev pub Next : Script → List Event → Step → Event → Type 0
Next s t p e = NextStep s t p e.owner e.what

-- The steps as they were taken: a read that found fewer bytes counts as one of so many.
abbrev pub step_taken : Step → What → Step
step_taken (Read c n) (Taken d bytes) = Read c (length bytes)
step_taken p x = p

abbrev pub as_taken : List Step → List Event → List Step
as_taken [] t = []
as_taken (p ∷ ps) [] = p ∷ ps
as_taken (p ∷ ps) (e ∷ t) = step_taken p e.what ∷ as_taken ps t

-- time passes by Pass alone
abbrev pub ticked : ℕ → What → ℕ
ticked now (Passed n) = sat now n
ticked now _ = now

abbrev pub at_moment : World → ℕ → World
at_moment w m = record w { moment = m }

-- an event's moment is the world's after it; the rest is moved by the parts
abbrev pub MovesBy : Script → World → List Event → Event → World → Type 0
MovesBy s w t e w2 =
    (e.moment ≡ ticked w.moment e.what) × Moves s.setup (need_of s.setup (request_of s e.owner) (own_of e.owner t)) (λ l. reserved_at l (reservations t)) e.what (at_moment w (ticked w.moment e.what)) w2
    × IsWithinBytes s.setup (reservations (e ∷ t)) w2

-- these steps gave these events, from the one world to the other; the newest step and event stand first
abbrev pub Leads : Script → World → List Step → List Event → World → Type 0
Leads s start [] [] end = end ≡ start
Leads s start (p ∷ ps) (e ∷ t) end = (mid : World) × Leads s start ps t mid × Next s t p e × MovesBy s mid t e end
Leads s start [] (e ∷ t) end = ⊥
Leads s start (p ∷ ps) [] end = ⊥
