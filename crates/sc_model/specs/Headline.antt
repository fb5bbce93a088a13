-- The headline, of a whole run.
use Rattle.std.specs.Prelude.{if◌then◌else◌, ◌≡◌, ℕ, zero, suc, ◌+◌, ◌*◌, ◌<◌, ◌≤◌, ◌==◌, ◌&&◌, Bool, true, false, List, [], ◌∷◌, ◌++◌, length, map, slice_index_or, ◌⊎◌}
use Rattle.sc_model.specs.Dues.{Over, left}
use Rattle.sc_model.specs.Frames.{frames}
use Rattle.sc_model.specs.Finishing.{finish, finish_fatal, finish_hit, finish_http, finish_output}
use Rattle.sc_model.specs.Job.{At, Own, job_of}
use Rattle.sc_model.specs.Next.{HasEnded, Leads, due_of}
use Rattle.sc_model.specs.Origin.{IsCollected, Origin}
use Rattle.sc_model.specs.Rows.{level_total, total}
use Rattle.sc_model.specs.Script.{Control, End, ForceNoCache, IsOpen, Script, Setup, control, input, is_single}
use Rattle.sc_model.specs.Trace.{Came, Did, Shut, frame_bytes, Mine, about, all, came, end_of, left_writes, open_runs, owned, request, reservations, sent, taken}
use Rattle.sc_model.specs.World.{IsWithinBytes, World}
use Rattle.sc_model.specs.declared.event.Answer.TheVariants.{Hit}
use Rattle.sc_model.specs.declared.event.DistAnswer.TheVariants.{Done as DistDone, Http as DistHttp, TooLarge as DistTooLarge}
use Rattle.sc_model.specs.declared.event.Event.{Event}
use Rattle.sc_model.specs.declared.event.KeyStep.TheVariants.{Fault as KeyFault, ProcessError as KeyError}
use Rattle.sc_model.specs.declared.event.Mode.TheVariants.{Raw, Whole}
use Rattle.sc_model.specs.declared.event.Objects.TheVariants.{Broken}
use Rattle.sc_model.specs.declared.event.Owner.{Owner}
use Rattle.sc_model.specs.declared.event.Owner.TheVariants.{Request as OfRequest}
use Rattle.sc_model.specs.declared.event.Placing.TheVariants.{Fault as PlaceFault}
use Rattle.sc_model.specs.declared.event.RunAnswer.TheVariants.{Fault as RanFault, Output as RanOutput, ProcessError as RanError}
use Rattle.sc_model.specs.declared.event.Step.{Step}
use Rattle.sc_model.specs.declared.event.Step.TheVariants.{Serve}
use Rattle.sc_model.specs.declared.event.RunOutput.{RunOutput}
use Rattle.sc_model.specs.declared.event.Status.TheVariants.{Code}
use Rattle.sc_model.specs.declared.event.What.{What}
use Rattle.sc_model.specs.declared.event.What.TheVariants.{Asked, Dist, Keyed, Placed, Ran, Sent, WriteEnded}
use Rattle.sc_model.specs.declared.level.Handed.{Handed}
use Rattle.sc_model.specs.declared.phase.Job.{Job}
use Rattle.sc_model.specs.declared.message.CompileFinished.{CompileFinished}
use Rattle.sc_model.specs.declared.message.Request.{Request}
use Rattle.sc_model.specs.declared.message.Response.{Response}
use Rattle.sc_model.specs.declared.message.Response.TheVariants.{ArtifactNotification as Note, CompileFinished as Finished}
use Rattle.sc_stats.specs.declared.counters.LevelStats.{LevelStats}
use Rattle.sc_stats.specs.declared.counters.ServerStats.{ServerStats}
use Rattle.sc_stats.specs.Sums.{no_level_stats}

abbrev pub IsPrefixOf : {A : Type 0} → List A → List A → Type 0
IsPrefixOf {A} xs ys = (rest : List A) × (xs ++ rest ≡ ys)

-- the frames of the first n requests of a connection
abbrev pub frames_upto : Setup → List Request → ℕ → List Mine → List Response
frames_upto s rs zero t = []
frames_upto s rs (suc n) t = frames_upto s rs n t ++ frames s (request rs n) (owned n t)

-- the property holds of each event and those before it
abbrev pub Each : (List Event → Event → Type 0) → List Event → Type 0
Each P [] = Unit {0}
Each P (e ∷ t) = P t e × Each P t

-- an event of a request, where it is one
abbrev pub OfARequest : Script → List Event → Owner → (ℕ → Request → List Own → Type 0) → Type 0
OfARequest s t (OfRequest c n) P = P c (request (all s c) n) (owned n (about c t))
OfARequest s t _ P = Unit {0}

-- a reply is begun only where all requests before it are over
abbrev pub Begins_in_order : Script → List Event → Owner → What → Type 0
Begins_in_order s t (OfRequest c n) (Sent g) = (m : ℕ) → m < n → due_of s.setup (all s c) m (about c t) ≡ Over
Begins_in_order s t o x = Unit {0}

abbrev pub IsInOrder : Script → List Event → Event → Type 0
IsInOrder s t e = Begins_in_order s t e.owner e.what

-- What a finished compile carries: an answer of its own run, its own hit, or a fault's text. Of its lookups the last alone counts.
abbrev pub HasHit : List ℕ → List ℕ → List Own → Type 0
HasHit k b [] = ⊥
HasHit k b (At m (Asked l i Whole (Hit d mark) hs) ∷ own) = (i ≡ k) × (d ≡ b)
HasHit k b (At m (Asked l i mode a hs) ∷ own) = ⊥
HasHit k b (_ ∷ own) = HasHit k b own

-- the same, and what it hit lay at that level rightfully before
abbrev pub is_of : ℕ → ℕ → Owner → Bool
is_of c n (OfRequest d k) = (d == c) && (k == n)
is_of c n _ = false

abbrev pub LastHitBy : Script → World → List ℕ → List ℕ → List Event → Bool → What → Type 0 → Type 0
LastHitBy s start k b t true (Asked l i Whole (Hit d mark) hs) rest = (i ≡ k) × (d ≡ b) × Origin s start t l k b
LastHitBy s start k b t true (Asked l i mode a hs) rest = ⊥
LastHitBy s start k b t own x rest = rest

abbrev pub LastHit : Script → World → ℕ → ℕ → List ℕ → List ℕ → List Event → Type 0
LastHit s start c n k b [] = ⊥
LastHit s start c n k b (e ∷ t) = LastHitBy s start k b t (is_of c n e.owner) e.what (LastHit s start c n k b t)

abbrev pub HasOutput : Setup → Request → CompileFinished → List Own → Type 0
HasOutput s r f [] = ⊥
HasOutput s r f (At m (Ran (RanOutput out)) ∷ own) = (f ≡ finish_output s r out.output) ⊎ HasOutput s r f own
HasOutput s r f (At m (Ran (RanError out)) ∷ own) = (f ≡ finish_output s r out) ⊎ HasOutput s r f own
HasOutput s r f (At m (Dist (DistDone server out)) ∷ own) = (f ≡ finish_output s r out.output) ⊎ HasOutput s r f own
HasOutput s r f (At m (Keyed first client (KeyError out)) ∷ own) = (f ≡ finish_output s r out) ⊎ HasOutput s r f own
HasOutput s r f (_ ∷ own) = HasOutput s r f own

abbrev pub HasFault : Setup → Request → CompileFinished → List Own → Type 0
HasFault s r f [] = ⊥
HasFault s r f (At m (Ran (RanFault chain)) ∷ own) = (f ≡ finish_fatal s r chain) ⊎ HasFault s r f own
HasFault s r f (At m (Ran (RanOutput out)) ∷ own) = ((chain : List (List ℕ)) × (out.objects ≡ Broken chain) × (f ≡ finish_fatal s r chain)) ⊎ HasFault s r f own
HasFault s r f (At m (Dist (DistDone server out)) ∷ own) = ((chain : List (List ℕ)) × (out.objects ≡ Broken chain) × (f ≡ finish_fatal s r chain)) ⊎ HasFault s r f own
HasFault s r f (At m (Dist (DistHttp text)) ∷ own) = (f ≡ finish_http s r text) ⊎ HasFault s r f own
HasFault s r f (At m (Dist (DistTooLarge text)) ∷ own) = (f ≡ finish_fatal s r (text ∷ [])) ⊎ HasFault s r f own
HasFault s r f (At m (Placed (PlaceFault chain)) ∷ own) = (f ≡ finish_fatal s r chain) ⊎ HasFault s r f own
HasFault s r f (At m (Keyed first client (KeyFault chain)) ∷ own) = (f ≡ finish_fatal s r chain) ⊎ HasFault s r f own
HasFault s r f (_ ∷ own) = HasFault s r f own

-- where a hit of these bytes is one by this
abbrev pub CarriesBy : (List ℕ → Type 0) → Setup → Request → CompileFinished → List Own → Type 0
CarriesBy hits s r f own = (HasOutput s r f own ⊎ ((b : List ℕ) × hits b × (f ≡ finish_hit s r b))) ⊎ HasFault s r f own

abbrev pub Carries : Setup → Request → CompileFinished → List Own → Type 0
Carries s r f own = CarriesBy (λ b. HasHit (job_of own).found.key b own) s r f own

abbrev pub Finishes : Script → World → List Event → Owner → What → Type 0
Finishes s start t (OfRequest c n) (Sent (Finished f)) =
    (f ≡ finish s.setup (request (all s c) n) (owned n (about c t)))
    × CarriesBy (λ b. LastHit s start c n (job_of (owned n (about c t))).found.key b t) s.setup (request (all s c) n) f (owned n (about c t))
Finishes s start t o x = Unit {0}

abbrev pub IsFinished : Script → World → List Event → Event → Type 0
IsFinished s start t e = Finishes s start t e.owner e.what

-- what a lookup hits lies there rightfully
abbrev pub Hits : Script → World → List Event → What → Type 0
Hits s start t (Asked l k Whole (Hit b mark) hs) = Origin s start t l k b
Hits s start t (Asked l k Raw (Hit b mark) hs) = Origin s start t l k b
Hits s start t x = Unit {0}

abbrev pub IsRightful : Script → World → List Event → Event → Type 0
IsRightful s start t e = Hits s start t e.what

-- Its run is to be stored: its status is 0, the compile's last key is cacheable, its objects were collected, and the compile asked for
-- the store.
abbrev pub asks_store : Control → Bool
asks_store ForceNoCache = false
asks_store _ = true

abbrev pub IsKept : Request → Job → RunOutput → Type 0
IsKept r job out = (out.output.status ≡ Code 0) × (job.found.cacheable ≡ true) × IsCollected out.objects × (asks_store (control r job.first) ≡ true)

abbrev pub IsStorable : Request → List Own → Type 0
IsStorable r [] = ⊥
IsStorable r (At m (Ran (RanOutput out)) ∷ own) = IsKept r (job_of own) out
IsStorable r (At m (Ran _) ∷ own) = ⊥
IsStorable r (At m (Dist (DistDone server out)) ∷ own) = IsKept r (job_of own) out
IsStorable r (At m (Dist _) ∷ own) = ⊥
IsStorable r (At m (Placed p) ∷ own) = ⊥
IsStorable r (At m (Keyed first client step) ∷ own) = ⊥
IsStorable r (_ ∷ own) = IsStorable r own

-- the write part is over
abbrev pub HasStored : List Own → Type 0
HasStored [] = ⊥
HasStored (At m (WriteEnded put hs) ∷ own) = Unit {0}
HasStored (_ ∷ own) = HasStored own

abbrev pub Stores : Setup → Request → List Own → Type 0
Stores s r own = IsStorable r own → HasStored own × (left s own ≡ [])

-- a storable run is handed to the store before its first notification and its last reply
abbrev pub StoresBefore : Script → List Event → Owner → What → Type 0
StoresBefore s t (OfRequest c n) (Sent (Finished f)) = Stores s.setup (request (all s c) n) (owned n (about c t))
StoresBefore s t (OfRequest c n) (Sent (Note line)) = Stores s.setup (request (all s c) n) (owned n (about c t))
StoresBefore s t o x = Unit {0}

abbrev pub IsStoredFirst : Script → List Event → Event → Type 0
IsStoredFirst s t e = StoresBefore s t e.owner e.what

-- after every event the open runs are within the tokens
abbrev pub RunsWithin : Setup → List Event → Event → Type 0
RunsWithin s t e = length (open_runs (e ∷ t)) ≤ s.tokens

-- after every event each disk level is within its capacity, in the very world that the event led to
abbrev pub BytesWithin : (s : Script) (start : World) (steps : List Step) (t : List Event) (end : World) → Leads s start steps t end → Type 0
BytesWithin s start [] [] end leads = Unit {0}
BytesWithin s start (p ∷ ps) (e ∷ t) end leads = IsWithinBytes s.setup (reservations (e ∷ t)) end × BytesWithin s start ps t leads.0 leads.1
BytesWithin s start [] (e ∷ t) end leads = absurd leads
BytesWithin s start (p ∷ ps) [] end leads = absurd leads

-- how many notifications a request was sent
abbrev pub notes_sent : List Own → ℕ
notes_sent [] = 0
notes_sent (At m (Sent (Note line)) ∷ own) = suc (notes_sent own)
notes_sent (_ ∷ own) = notes_sent own

-- no request has more events than eleven, four for each level, and one for each notification
abbrev pub AreFew : Setup → List Own → Type 0
AreFew s own = length own ≤ 11 + 4 * length s.levels + notes_sent own

-- how many events the requests of a connection had: the steps that served it and weren't idle
abbrev pub own_count : List Mine → ℕ
own_count [] = 0
own_count (Came bytes ∷ t) = own_count t
own_count (Shut ∷ t) = own_count t
own_count (Did n m x ∷ t) = suc (own_count t)

-- how many its first n requests may have
abbrev pub allowed : Setup → ℕ → List Mine → ℕ
allowed s zero t = 0
allowed s (suc n) t = allowed s n t + (11 + 4 * length s.levels + notes_sent (owned n t))

-- all requests of a connection that came are over
abbrev pub AreOver : Script → List Event → ℕ → Type 0
AreOver s t c = (n : ℕ) → n < length (came s c t) → due_of s.setup (all s c) n (about c t) ≡ Over

-- how many steps served a connection and weren't idle
abbrev pub is_served : ℕ → Step → Owner → Bool
is_served c (Serve d) (OfRequest e n) = d == c
is_served c p o = false

abbrev pub serves : ℕ → List Step → List Event → ℕ
serves c [] t = 0
serves c (p ∷ ps) [] = 0
serves c (p ∷ ps) (e ∷ t) = if is_served c p e.owner then suc (serves c ps t) else serves c ps t

-- what the daemon counted and has left, its free tokens, and what each connection came to
pub record Result_of_run : Type 0 where
  pub stats : ServerStats
  pub level_stats : List LevelStats
  pub background : List Handed
  pub free : ℕ
  pub ends : List End
  -- the bytes that each connection was sent
  pub out : List (List ℕ)

-- how many levels have counters: a single store has none
abbrev pub counted_levels : Setup → ℕ
counted_levels s = if is_single s.policy then 0 else length s.levels

pub record Headline (s : Script) (start : World) (steps : List Step) (t : List Event) (end : World) (last : Result_of_run) : Type 0 where
  -- one event for each step, each one that may come next, and the worlds moved by them
  pub leads : Leads s start steps t end
  -- each connection's taken bytes are a prefix of its input, and its end is theirs
  pub taken_bytes : (c : ℕ) → IsPrefixOf (taken (about c t)) (input s c)
  pub ends : (c : ℕ) → c < length s.inputs → slice_index_or last.ends c IsOpen ≡ end_of s (about c t)
  pub each_connection : (length last.ends ≡ length s.inputs) × (length last.out ≡ length s.inputs)
  -- each connection was sent a prefix of what its requests are owed, one request after the other
  pub replies : (c : ℕ) → c < length s.inputs → slice_index_or last.out c [] ≡ frame_bytes s.setup (sent (about c t))
  pub sends : (c : ℕ) → IsPrefixOf (sent (about c t)) (frames_upto s.setup (all s c) (length (came s c t)) (about c t))
  pub in_order : Each (IsInOrder s) t
  -- and all of it once they are over
  pub answered : (c : ℕ) → AreOver s t c → sent (about c t) ≡ frames_upto s.setup (all s c) (length (came s c t)) (about c t)
  -- which they are after so many steps that served it, unless a reply was too long
  pub finishes : (c : ℕ) → allowed s.setup (length (came s c t)) (about c t) ≤ serves c steps t → HasEnded s t c ⊎ AreOver s t c
  -- each finished compile carries its own run's output, its hit's under its key, or a fault's text; each hit is rightful
  pub finished : Each (IsFinished s start) t
  pub rightful : Each (IsRightful s start) t
  pub stored_first : Each (IsStoredFirst s) t
  pub bytes_within : BytesWithin s start steps t end leads
  pub runs_within : Each (RunsWithin s.setup) t
  -- every token is free or an open run's
  pub tokens : last.free + length (open_runs t) ≡ s.setup.tokens
  -- so no request can be put off
  pub own_events : (c n : ℕ) → AreFew s.setup (owned n (about c t))
  -- the counters are the sums of the rows
  pub counted : last.stats ≡ total s t
  pub levels_counted : is_single s.setup.policy ≡ false → (l : ℕ) → l < length s.setup.levels → slice_index_or last.level_stats l no_level_stats ≡ level_total s t l
  pub each_level : length last.level_stats ≡ counted_levels s.setup
  -- the writes handed and not done, in order
  pub background : last.background ≡ map (λ g. g.handed) (left_writes t)
