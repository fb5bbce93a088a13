-- What one action leaves of a daemon and its connection.
use Rattle.std.proofs.Common.{◌≡◌, ◌⊎◌, inl, inr, ℕ, suc, ◌+◌, ◌<◌, List, [], ◌∷◌, ◌++◌, length, drop, refl, sym, ap, ◌∙◌, subst, arith, append_assoc, append-nil, length-append}
use Rattle.sc_daemon.specs.Daemons.{BacksEvent, Kept, ServesAt, ServesWhat}
use Rattle.sc_daemon.specs.Lines.{Line, conn_of}
use Rattle.sc_daemon.specs.Sessions.{Session}
use Rattle.sc_daemon.specs.Turns.{TakesMore}
use Rattle.sc_daemon_job.specs.Setups.{setup}
use Rattle.sc_daemon_owned.specs.Facts.{DaemonFacts, config_of}
use Rattle.sc_main.proofs.Settling.{Same, settle_queue, settle_same, settle_token}
use Rattle.sc_main.proofs.Tokens.{token_step}
use Rattle.sc_main.specs.Deeds.{Acts, raised}
use Rattle.sc_main.specs.Progress.{KeepsTokens, held_token}
use Rattle.sc_main.specs.Serving.{Stands}
use Rattle.sc_model.proofs.Streams.{reads_on}
use Rattle.sc_model.specs.Conns.{Conn, current, free_after, settle, told_by}
use Rattle.sc_model.specs.Phases.{after}
use Rattle.sc_model.specs.Trace.{frame_bytes, sent_by}
use Rattle.sc_model.specs.declared.event.Event.{Event}
use Rattle.sc_model.specs.declared.event.Owner.{Owner}
use Rattle.sc_model.specs.declared.event.Owner.TheVariants.{Nobody, Request as OfRequest, Write as OfWrite}
use Rattle.sc_model.specs.declared.event.What.{What}
use Rattle.sc_model.specs.declared.event.What.TheVariants.{Idle}
use Rattle.sc_model.specs.declared.message.Request.{Request}
use Rattle.sc_wire.specs.Requests.{read_request}
use Rattle.sc_wire.specs.Streams.{request_reader}

-- nothing was due, or an action was done
serves_cases : (c : ℕ) (o : Owner) (x : What) (d d2 : Kept) (old new : Line) → ServesWhat c o x d d2 old new → ((x ≡ Idle) × (d2 ≡ d) × (new ≡ old)) ⊎ ((j : ℕ) × ServesAt c j x d d2 old new)
serves_cases c (OfRequest e j) x d d2 old new (same, at) = inr (j, at)
serves_cases c Nobody Idle d d2 old new (idle, kept, stays) = inl (refl, kept, stays)
serves_cases c Nobody _ d d2 old new serves = absurd serves
serves_cases c (OfWrite n) x d d2 old new serves = absurd serves

-- the first request stays, or is over and makes way
abbrev pub Settles : Line → Line → Type 0
Settles old new = ((new.waiting ≡ old.waiting) × (new.at ≡ old.at) × ((0 < length old.waiting) ⊎ (held_token new.phase ≡ held_token old.phase))) ⊎ ((new.waiting ≡ drop 1 old.waiting) × (new.at ≡ suc old.at) × (0 < length old.waiting) × (held_token new.phase ≡ 0))

-- what an event of this kind leaves
pub record Stays (d d2 : Kept) (old new : Line) (x : What) : Type 0 where
  pub config : d2.state.config ≡ d.state.config
  pub limit : new.limit ≡ old.limit
  pub rest : new.rest ≡ old.rest
  pub got : new.got ≡ old.got
  pub closed : new.closed ≡ old.closed
  pub out : new.out ≡ old.out ++ frame_bytes (setup (config_of d.state.config)) (sent_by x)
  pub queue : Settles old new
  pub tokens : KeepsTokens d old → KeepsTokens d2 new

idle_stays : (d : Kept) (l : Line) → Stays d d l l Idle
idle_stays d l = record {
  config = refl;
  limit = refl;
  rest = refl;
  got = refl;
  closed = refl;
  out = sym (append-nil l.out);
  queue = inl (refl, refl, inr refl);
  tokens = λ kept. kept;
}

settled : (old new : Line) (k : Conn) → conn_of new ≡ k → 0 < length old.waiting
    → ((k.queue ≡ old.waiting) × (k.at ≡ old.at)) ⊎ ((k.queue ≡ drop 1 old.waiting) × (k.at ≡ suc old.at) × (held_token k.phase ≡ 0)) → Settles old new
settled old new k is some (inl (queue, at)) = inl (ap (λ (c : Conn). c.queue) is ∙ queue, ap (λ (c : Conn). c.at) is ∙ at, inl some)
settled old new k is some (inr (queue, at, none)) = inr (ap (λ (c : Conn). c.queue) is ∙ queue, ap (λ (c : Conn). c.at) is ∙ at, some, ap (λ (c : Conn). held_token c.phase) is ∙ none)

at_stays : (c j : ℕ) (x : What) (d d2 : Kept) (old new : Line) → ServesAt c j x d d2 old new → Stays d d2 old new x
at_stays c j x d d2 old new at =
    let s = setup (config_of d.state.config) in
    let k = conn_of old in
    let m = d.state.world.moment in
    let told = told_by s k m x in
    let q = after s (current k) old.phase m x in
    let then : conn_of new ≡ settle told q = at.one.then in
    let stay : Same told (settle told q) = settle_same told q in
    let tokens : d2.state.config.tokens ≡ d.state.config.tokens = ap (λ (f : DaemonFacts). f.tokens) at.config in
    record {
      config = at.config;
      limit = at.one.limit;
      rest = ap (λ (n : Conn). n.rest) then ∙ stay.rest;
      got = ap (λ (n : Conn). n.got) then ∙ stay.got;
      closed = ap (λ (n : Conn). n.closed) then ∙ stay.closed;
      out = ap (λ (n : Conn). n.out) then ∙ stay.out;
      queue = settled old new (settle told q) then at.one.some (settle_queue told q);
      tokens = λ kept. (
        subst (λ (n : ℕ). 0 < n) (sym tokens) kept.0,
        ap (λ (n : ℕ). n + held_token new.phase) at.free
            ∙ ap (λ (n : ℕ). free_after d.free x + n) (ap (λ (n : Conn). held_token n.phase) then ∙ settle_token told q)
            ∙ token_step s (current k) old.phase m x d.free d.state.config.tokens at.one.fits at.one.token kept.1 ∙ sym tokens,
      );
    }

event_stays : (c : ℕ) (o : Owner) (x : What) (d d2 : Kept) (old new : Line) → ServesWhat c o x d d2 old new → Stays d d2 old new x
event_stays c o x d d2 old new serves = by_cases (serves_cases c o x d d2 old new serves)
  where
    by_cases : ((x ≡ Idle) × (d2 ≡ d) × (new ≡ old)) ⊎ ((j : ℕ) × ServesAt c j x d d2 old new) → Stays d d2 old new x
    by_cases (inl (idle, kept, same)) =
        subst (λ (y : What). Stays d d2 old new y) (sym idle)
        (subst (λ (k : Kept). Stays d k old new Idle) (sym kept)
        (subst (λ (l : Line). Stays d d old l Idle) (sym same) (idle_stays d old)))
    by_cases (inr (j, at)) = at_stays c j x d d2 old new at

-- the same of a session whose moment was raised before
pub acts_stay : (now : ℕ) (e : Event) (s s2 : Session) (a : Acts now e s s2) → Stays s.daemon s2.daemon s.line a.line e.what
acts_stay now e s s2 a =
    let y = event_stays 0 e.owner e.what (raised now s).daemon s2.daemon s.line a.line a.serves.serves in
    record { config = y.config; limit = y.limit; rest = y.rest; got = y.got; closed = y.closed; out = y.out; queue = y.queue; tokens = y.tokens }

-- a handed write takes no token
pub backs_config : (d d2 : Kept) (e : Event) → BacksEvent 0 e d d2 → (d2.state.config ≡ d.state.config) × (d2.free ≡ d.free)
backs_config d d2 e (inl (past, idle, same)) = (ap (λ (k : Kept). k.state.config) same, ap (λ (k : Kept). k.free) same)
backs_config d d2 e (inr (w, at, backs)) = (backs.config, ap (λ (k : Kept). k.free) backs.same)

-- ---- the requests of the bytes that were read

over_more : (w over : List Request) → 0 < length w → (more : List Request) × (length more ≡ suc (length over)) × (more ++ drop 1 w ≡ over ++ w)
over_more [] over some = absurd (omega arith)
over_more (r ∷ w) over some = (over ++ r ∷ [], omega (arith, length-append over (r ∷ [])), append_assoc over (r ∷ []) w)

pub stands_on : (limit : ℕ) (bytes : List ℕ) (old new : Line) → Stands limit bytes old → new.limit ≡ old.limit → new.got ≡ old.got → new.rest ≡ old.rest → Settles old new → new.out ≡ [] → Stands limit bytes new
stands_on limit bytes old new s lim got rest (inl (waiting, at, held)) none = record {
  limited = lim ∙ s.limited;
  got = got ∙ s.got;
  rest = rest ∙ s.rest;
  over = s.over;
  count = s.count ∙ sym at;
  requests = ap (λ (w : List Request). s.over ++ w) waiting ∙ s.requests;
  emptied = none;
}
stands_on limit bytes old new s lim got rest (inr (waiting, at, some, held)) none =
    let m = over_more old.waiting s.over some in
    record {
      limited = lim ∙ s.limited;
      got = got ∙ s.got;
      rest = rest ∙ s.rest;
      over = m.0;
      count = m.1 ∙ ap suc s.count ∙ sym at;
      requests = ap (λ (w : List Request). m.0 ++ w) waiting ∙ m.2 ∙ s.requests;
      emptied = none;
    }

pub stands_more : (limit : ℕ) (bytes piece : List ℕ) (old new : Line) → Stands limit bytes old → TakesMore piece old new → Stands limit (bytes ++ piece) new
stands_more limit bytes piece old new s t =
    let r = request_reader limit in
    let on = reads_on limit read_request in
    let same = t.same in
    let here : request_reader old.limit ≡ r = ap request_reader s.limited in
    let joined : old.rest ++ piece ≡ r.rest bytes ++ piece = ap (λ (b : List ℕ). b ++ piece) s.rest in
    record {
      limited = ap (λ (l : Line). l.limit) same ∙ s.limited;
      got = t.got ∙ ap (λ (n : ℕ). n + length piece) s.got ∙ sym (length-append bytes piece);
      rest = t.rest ∙ (λ i. (here i).rest (joined i)) ∙ sym (on.rest bytes piece);
      over = s.over;
      count = s.count ∙ sym (ap (λ (l : Line). l.at) same);
      requests = ap (λ (w : List Request). s.over ++ w) (t.requests ∙ (λ i. old.waiting ++ (here i).requests (joined i)))
          ∙ sym (append_assoc s.over old.waiting (r.requests (r.rest bytes ++ piece)))
          ∙ ap (λ (w : List Request). w ++ r.requests (r.rest bytes ++ piece)) s.requests ∙ sym (on.requests bytes piece);
      emptied = ap (λ (l : Line). l.out) same ∙ s.emptied;
    }
