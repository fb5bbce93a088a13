-- What happened, the newest event first, and what is read off it by filters and sums.
use Rattle.std.specs.Prelude.{ℕ, suc, ◌+◌, Bool, true, false, ◌==◌, ◌&&◌, if◌then◌else◌, List, [], ◌∷◌, ◌++◌, length, Option, Some, None, slice_index_or}
use Rattle.std.specs.Int.{to_be_bytes, w32}
use Rattle.sc_model.specs.Job.{At, Own}
use Rattle.sc_model.specs.Script.{End, ReplyTooLong, Script, Setup, input}
use Rattle.sc_model.specs.declared.event.Event.{Event}
use Rattle.sc_model.specs.declared.event.Owner.{Owner}
use Rattle.sc_model.specs.declared.event.Owner.TheVariants.{Nobody, Request as OfRequest, Write as OfWrite}
use Rattle.sc_model.specs.declared.event.What.{What}
use Rattle.sc_model.specs.declared.event.What.TheVariants.{Asked, Closed, Committed, Filled, Ran, Reserved, Sent, Taken, TokenTaken, TooLong, WriteEnded, Wrote}
use Rattle.sc_model.specs.declared.event.Written.TheVariants.{Done as WriteDone, Refused as WriteRefused}
use Rattle.sc_model.specs.declared.level.Handed.{Handed}
use Rattle.sc_model.specs.declared.message.Request.{Request}
use Rattle.sc_model.specs.declared.message.Request.TheVariants.{StorageGetRaw as GetRaw}
use Rattle.sc_model.specs.declared.message.Response.{Response}

-- an event of one connection: bytes that came, its end, or an event of its request of that number
pub data Mine : Type 0 where
  Came : (bytes : List ℕ) → Mine
  Shut : Mine
  Did : (number moment : ℕ) (what : What) → Mine

-- what an event is to connection c
abbrev pub mine : ℕ → Owner → ℕ → What → List Mine → List Mine
mine c (OfRequest d n) m x t = if d == c then Did n m x ∷ t else t
mine c Nobody m (Taken d bytes) t = if d == c then Came bytes ∷ t else t
mine c Nobody m (Closed d) t = if d == c then Shut ∷ t else t
mine c _ m x t = t

-- the events of one connection
abbrev pub about : ℕ → List Event → List Mine
about c [] = []
about c (e ∷ t) = mine c e.owner e.moment e.what (about c t)

-- the events of one request of it
abbrev pub owned : ℕ → List Mine → List Own
owned n [] = []
owned n (Came bytes ∷ t) = owned n t
owned n (Shut ∷ t) = owned n t
owned n (Did k m x ∷ t) = if k == n then At m x ∷ owned n t else owned n t

-- the bytes that it took
abbrev pub taken : List Mine → List ℕ
taken [] = []
taken (Came bytes ∷ t) = taken t ++ bytes
taken (Shut ∷ t) = taken t
taken (Did n m x ∷ t) = taken t

-- whether its input's end was met
abbrev pub is_closed : List Mine → Bool
is_closed [] = false
is_closed (Came bytes ∷ t) = is_closed t
is_closed (Shut ∷ t) = true
is_closed (Did n m x ∷ t) = is_closed t

-- the too long reply that ended it
abbrev pub too_long : List Mine → Option ℕ
too_long [] = None
too_long (Did k m (TooLong n) ∷ t) = Some n
too_long (_ ∷ t) = too_long t

-- the frame that an event sends
abbrev pub sent_by : What → List Response
sent_by (Sent reply) = reply ∷ []
sent_by _ = []

-- a frame: its payload's length in four bytes, the greatest first, and the payload
abbrev pub frame_of : List ℕ → List ℕ
frame_of payload = to_be_bytes w32 (length payload) ++ payload

-- the bytes of frames, one after the other
abbrev pub frame_bytes : Setup → List Response → List ℕ
frame_bytes s [] = []
frame_bytes s (g ∷ gs) = frame_of (s.codec.payload g) ++ frame_bytes s gs

-- the frames that one request's events sent, in order
abbrev pub sent_of : List Own → List Response
sent_of [] = []
sent_of (At m x ∷ own) = sent_of own ++ sent_by x

-- the frames that a connection was sent, in order
abbrev pub sent : List Mine → List Response
sent [] = []
sent (Came bytes ∷ t) = sent t
sent (Shut ∷ t) = sent t
sent (Did n m x ∷ t) = sent t ++ sent_by x

-- the owners with an open run: a TokenTaken without its Ran
abbrev pub without : ℕ → ℕ → List (ℕ × ℕ) → List (ℕ × ℕ)
without c n [] = []
without c n (o ∷ os) = if (o.0 == c) && (o.1 == n) then os else o ∷ without c n os

abbrev pub opened : Owner → What → List (ℕ × ℕ) → List (ℕ × ℕ)
opened (OfRequest c n) TokenTaken os = (c, n) ∷ os
opened (OfRequest c n) (Ran a) os = without c n os
opened _ x os = os

abbrev pub open_runs : List Event → List (ℕ × ℕ)
open_runs [] = []
open_runs (e ∷ t) = opened e.owner e.what (open_runs t)

-- a write that was handed on, with its number
pub record Given : Type 0 where
  pub number : ℕ
  pub handed : Handed
  pub at : ℕ
  pub backfill : Bool

abbrev pub numbered : ℕ → ℕ → Bool → List Handed → List Given
numbered n m b [] = []
numbered n m b (h ∷ hs) = record { number = n; handed = h; at = m; backfill = b } ∷ numbered (suc n) m b hs

-- the writes that an event hands
abbrev pub hands : ℕ → ℕ → What → List Given
hands n m (Asked l k mode a hs) = numbered n m true hs
hands n m (WriteEnded put hs) = numbered n m false hs
hands n m _ = []

-- all that were ever handed, in order
abbrev pub given : List Event → List Given
given [] = []
given (e ∷ t) = given t ++ hands (length (given t)) e.moment e.what

abbrev pub drop_given : ℕ → List Given → List Given
drop_given i [] = []
drop_given i (g ∷ gs) = if g.number == i then gs else g ∷ drop_given i gs

-- an event that ends a handed write
abbrev pub ends_write : What → Bool
ends_write (Reserved l k n (WriteRefused c)) = true
ends_write (Filled l k b mark (WriteRefused c)) = true
ends_write (Committed l k b w) = true
ends_write (Wrote l k b mode mark w) = true
ends_write _ = false

abbrev pub drop_done : Owner → Bool → List Given → List Given
drop_done (OfWrite i) true gs = drop_given i gs
drop_done (OfWrite i) false gs = gs
drop_done o b gs = gs

-- those that are not done, in order
abbrev pub left_writes : List Event → List Given
left_writes [] = []
left_writes (e ∷ t) = drop_done e.owner (ends_write e.what) (left_writes t) ++ hands (length (given t)) e.moment e.what

-- the events of a handed write
abbrev pub written_by : ℕ → Owner → ℕ → What → List Own → List Own
written_by i (OfWrite j) m x own = if j == i then At m x ∷ own else own
written_by i _ m x own = own

abbrev pub written : ℕ → List Event → List Own
written i [] = []
written i (e ∷ t) = written_by i e.owner e.moment e.what (written i t)

-- an open reservation: done, and neither committed nor refused since by the same owner at the same level
pub record Open : Type 0 where
  pub owner : Owner
  pub level : ℕ
  pub size : ℕ

abbrev pub same_owner : Owner → Owner → Bool
same_owner (OfRequest c n) (OfRequest d k) = (c == d) && (n == k)
same_owner (OfWrite i) (OfWrite j) = i == j
same_owner Nobody Nobody = true
same_owner _ _ = false

abbrev pub release : Owner → ℕ → List Open → List Open
release o l [] = []
release o l (r ∷ rs) = if same_owner r.owner o && (r.level == l) then rs else r ∷ release o l rs

abbrev pub reserved_by : Owner → What → List Open → List Open
reserved_by o (Reserved l k n WriteDone) rs = record { owner = o; level = l; size = n } ∷ rs
reserved_by o (Filled l k b mark (WriteRefused c)) rs = release o l rs
reserved_by o (Committed l k b w) rs = release o l rs
reserved_by o _ rs = rs

abbrev pub reservations : List Event → List Open
reservations [] = []
reservations (e ∷ t) = reserved_by e.owner e.what (reservations t)

abbrev pub reserved_at : ℕ → List Open → ℕ
reserved_at l [] = 0
reserved_at l (r ∷ rs) = if r.level == l then r.size + reserved_at l rs else reserved_at l rs

abbrev pub no_request : Request
no_request = GetRaw []

abbrev pub request : List Request → ℕ → Request
request rs n = slice_index_or rs n no_request

-- the requests of a connection: all that its input will spell, so far as it is taken
abbrev pub came : Script → ℕ → List Event → List Request
came s c t = s.reader.requests (taken (about c t))

abbrev pub all : Script → ℕ → List Request
all s c = s.reader.requests (input s c)

-- its end so far
abbrev pub if_too_long : Option ℕ → End → End
if_too_long (Some n) end = ReplyTooLong n
if_too_long None end = end

abbrev pub end_of : Script → List Mine → End
end_of s t = if_too_long (too_long t) (s.reader.ends (taken t) (is_closed t))

-- the events of an event's owner before it
abbrev pub own_of : Owner → List Event → List Own
own_of (OfRequest c n) t = owned n (about c t)
own_of (OfWrite i) t = written i t
own_of Nobody t = []

abbrev pub request_of : Script → Owner → Request
request_of s (OfRequest c n) = request (all s c) n
request_of s _ = no_request
