-- What an inbox takes, request by request, and what that is to the daemon's machine.
use Rattle.std.proofs.Common.{◌≡◌, ℕ, ◌+◌, ◌≤◌, Bool, List, [], ◌∷◌, ◌++◌, length, sym, ap, ◌∙◌, subst, append_assoc, arith, length-append}
use Rattle.sc_model.specs.Conns.{Conn, more}
use Rattle.sc_model.specs.Machine.{end_at}
use Rattle.sc_model.specs.Script.{Reader, Script}
use Rattle.sc_model.specs.Stream.{Frame}
use Rattle.sc_model.specs.Trace.{if_too_long}
use Rattle.sc_model.specs.declared.message.Request.{Request}
use Rattle.sc_wire.specs.Frames.{Framing}
use Rattle.sc_wire.specs.Streams.{request_front, request_reader}
use Rattle.sc_wire_conn.specs.Incoming.{Incoming}
use Rattle.sc_wire_conn.proofs.Fronts.{frame_requests, frame_rest, frame_shorter}

-- Of what was held at first some requests are in the queue by now.
pub record Takes (waiting0 : List Request) (held0 : Framing) (waiting : List Request) (held : Framing) : Type 0 where
  pub requests : waiting ++ (request_reader held0.limit).requests held.rest ≡ waiting0 ++ (request_reader held0.limit).requests held0.rest
  pub rest : (request_reader held0.limit).rest held.rest ≡ (request_reader held0.limit).rest held0.rest
  pub room : length waiting + length held.rest ≤ length waiting0 + length held0.rest
  pub limit : held.limit ≡ held0.limit

-- one request more
pub takes_more : (waiting0 : List Request) (held0 : Framing) (waiting : List Request) (held : Framing) → Takes waiting0 held0 waiting held
    → (request : Request) (waiting' : List Request) (held' : Framing) → (request_front held.limit held.rest ≡ Frame request held'.rest) × (held'.limit ≡ held.limit) → waiting' ≡ waiting ++ request ∷ [] → Takes waiting0 held0 waiting' held'
takes_more waiting0 held0 waiting held takes request waiting' held' gives pushed =
    let at : request_front held0.limit held.rest ≡ Frame request held'.rest =
    subst (λ (n : ℕ). request_front n held.rest ≡ Frame request held'.rest) takes.limit gives.0 in
    let shorter = frame_shorter held0.limit held.rest request held'.rest at in
    let longer : length waiting' ≡ length waiting + 1 = ap length pushed ∙ length-append waiting (request ∷ []) in
    record {
      requests = ap (λ (w : List Request). w ++ (request_reader held0.limit).requests held'.rest) pushed
          ∙ append_assoc waiting (request ∷ []) ((request_reader held0.limit).requests held'.rest)
          ∙ ap (λ (rs : List Request). waiting ++ rs) (sym (frame_requests held0.limit held.rest request held'.rest at))
          ∙ takes.requests;
      rest = sym (frame_rest held0.limit held.rest request held'.rest at) ∙ takes.rest;
      room = let before = takes.room in omega (arith, shorter, longer, before);
      limit = gives.1 ∙ takes.limit;
    }

-- a daemon that reads by these frames, and one of its connections
module _ (s : Script) (limit : ℕ) (reads : s.reader ≡ request_reader limit) where
  pub more_is : (k : Conn) (piece : List ℕ) → more s k piece ≡ record k { queue = k.queue ++ (request_reader limit).requests (k.rest ++ piece); rest = (request_reader limit).rest (k.rest ++ piece); got = k.got + length piece }
  more_is k piece = ap (λ (r : Reader). record k { queue = k.queue ++ r.requests (k.rest ++ piece); rest = r.rest (k.rest ++ piece); got = k.got + length piece }) reads

  -- A connection whose requests wait in the queue and whose bytes an inbox holds is after a piece what both then hold.
  pub more_taken : (k : Conn) (piece : List ℕ) (waiting waiting' : List Request) (held held' : Incoming) → held.limit ≡ limit → k.queue ≡ waiting → k.rest ≡ held.rest → k.got ≡ held.got
      → waiting' ≡ waiting ++ (request_reader held.limit).requests (held.rest ++ piece)
      → held'.rest ≡ (request_reader held.limit).rest (held.rest ++ piece)
      → held'.got ≡ held.got + length piece
      → more s k piece ≡ record k { queue = waiting'; rest = held'.rest; got = held'.got }
  more_taken k piece waiting waiting' held held' same queue rest got requests' rest' got' =
      more_is k piece
      ∙ ap (λ (q : List Request). record k { queue = q; rest = (request_reader limit).rest (k.rest ++ piece); got = k.got + length piece }) queued
      ∙ ap (λ (b : List ℕ). record k { queue = waiting'; rest = b; got = k.got + length piece }) left
      ∙ ap (λ (n : ℕ). record k { queue = waiting'; rest = held'.rest; got = n }) came
    where
      queued : k.queue ++ (request_reader limit).requests (k.rest ++ piece) ≡ waiting'
      queued = rw (queue, rest, ← same) (sym requests')

      left : (request_reader limit).rest (k.rest ++ piece) ≡ held'.rest
      left = rw (rest, ← same) (sym rest')

      came : k.got + length piece ≡ held'.got
      came = rw got (sym got')

  -- how it ends, of any bytes
  pub ends_are : (bytes : List ℕ) (closed : Bool) → s.reader.ends bytes closed ≡ (request_reader limit).ends bytes closed
  ends_are bytes closed = ap (λ (r : Reader). r.ends bytes closed) reads

  pub end_at_is : (k : Conn) → end_at s k ≡ if_too_long k.long ((request_reader limit).ends k.rest k.closed)
  end_at_is k = ap (if_too_long k.long) (ends_are k.rest k.closed)
