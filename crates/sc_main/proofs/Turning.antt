-- The turns of a server, one more at a time.
use Rattle.std.proofs.Common.{◌≡◌, ℕ, suc, ◌+◌, Bool, true, false, List, [], ◌∷◌, ◌++◌, length, Option, None, Result, Ok, Err, option_map, refl, sym, ap, ◌∙◌, subst, arith, append_assoc, length-append}
use Rattle.std.specs.Option.{option_or}
use Rattle.std.specs.Prelude.{IsErrAnd, if◌then◌else◌}
use Rattle.sc_clock.specs.Moments.{with_pause}
use Rattle.sc_daemon.specs.Lines.{new_line}
use Rattle.sc_daemon.specs.Sessions.{Session}
use Rattle.sc_entry.proofs.Telling.{told_same, told_then, told_weaker}
use Rattle.sc_entry.specs.Causes.{Rose, Told}
use Rattle.sc_link.specs.Accepting.{AcceptsOnce, IfLink, given_after}
use Rattle.sc_link.specs.declared.acceptor.Accepted.{Accepted}
use Rattle.sc_link.specs.declared.acceptor.Accepted.TheVariants.{Closed, Link as Gives, NotYet}
use Rattle.sc_link.specs.declared.link_error.AcceptFault.{AcceptFault as Fault}
use Rattle.sc_main.proofs.Going.{polled_is}
use Rattle.sc_main.specs.Accepting.{AcceptsLink, AcceptsNext, AcceptsNone, AreFrom, Desk, Door, EndsServing, IfServed, Link, Pause, Poll, Polls, ServesAll, ServesFrom, Turns, desk, links_of}
use Rattle.sc_main.specs.Deeds.{Heard, Ticks_once, renewed}
use Rattle.sc_main.specs.Serving.{ServesLink, Wire}
use Rattle.sc_main.specs.declared.after_accept.AfterAccept.{AfterAccept}
use Rattle.sc_main.specs.declared.after_accept.AfterAccept.TheVariants.{Later, Never, Now}
use Rattle.sc_main.specs.declared.link_end.LinkEnd.{LinkEnd}
use Rattle.sc_main.specs.declared.serve_error.ServeError.{ServeError}
use Rattle.sc_main.specs.declared.serve_error.ServeError.TheVariants.{AcceptFault, NoMemory}
use Rattle.sc_server_activity.specs.Waits.{cause_of, has_passed, has_request, has_shutdown}
use Rattle.sc_server_activity.specs.declared.messages.Messages.{Messages}
use Rattle.sc_server_activity.specs.declared.stop_cause.StopCause.{StopCause}
use Rattle.sc_server_activity.specs.declared.shutdown_or_inactive.ShutdownOrInactive.{ShutdownOrInactive}

pub renewed_is : (s s2 : Session) → s2.daemon ≡ s.daemon → s2.line ≡ new_line s.daemon.state.config.limit → s2.lost ≡ s.lost → s2 ≡ renewed s
renewed_is s s2 d line lost = λ i. record { daemon = d i; line = line i; lost = lost i }

numbers_more : {K : Type 0} (number : K → ℕ) (from : ℕ) (links : List K) (link : K) → AreFrom number from links → number link ≡ from + length links → AreFrom number from (links ++ link ∷ [])
numbers_more number from [] link are is = (omega (arith, is), tt)
numbers_more number from (x ∷ links) link are is = (are.0, numbers_more number (suc from) links link are.1 (omega (arith, is)))

-- ---- as the code does it

pub polls_by : (s : Session) (m m2 : Messages) (w w2 : ShutdownOrInactive) (before : Bool) (c c2 p p2 : Option (List ℕ)) (now : ℕ) → Ticks_once now c c2 → m2 ≡ record m { standing = [] } → w2.idle_time ≡ w.idle_time
    → w2.active_at ≡ (if has_request m.standing then now else w.active_at) → w2.cause ≡ option_or w.cause (cause_of (has_shutdown m.standing) m.is_closed (has_passed w.idle_time w2.active_at now)) → p2 ≡ p
    → Polls (desk s (record { messages = m; wait = w; is_polled = before }) c p) (desk s (record { messages = m2; wait = w2; is_polled = true }) c2 p2)
polls_by s m m2 w w2 before c c2 p p2 now t taken idle active caused paused = record {
  now = now;
  ticks = t;
  heard = sym (polled_is now m m2 w w2 before taken idle active caused);
  same = ap (λ (x : Option (List ℕ)). desk s (record { messages = m2; wait = w2; is_polled = true }) c2 x) paused;
}

pub paused_by : (s : Session) (h : Heard) (c c2 p p2 : Option (List ℕ)) → c2 ≡ c → p2 ≡ option_map (with_pause 10000000) p → desk s h c2 p2 ≡ record (desk s h c p) { pauses = option_map (with_pause 10000000) (desk s h c p).pauses }
paused_by s h c c2 p p2 same paused = λ i. desk s h (same i) (paused i)

module _ {K : Type 0} where
  pub asks_none : (a a2 : Door K) (d : Desk) → a2.ready ≡ a.ready → a2.given ≡ a.given → AcceptsNone a a2 d d
  asks_none a a2 d ready given = record { same = refl; ready = subst (λ (x : Option (List K)). Told (λ before after. before ≡ after) a.ready x) (sym ready) (told_same (λ (before after : List K). before ≡ after) (λ x. refl) a.ready); given = given }

  pub asks_not_yet : (a a2 : Door K) (d : Desk) → Told (AcceptsOnce (Ok NotYet)) a.ready a2.ready → a2.given ≡ a.given → AcceptsNone a a2 d d
  asks_not_yet a a2 d told given = record { same = refl; ready = told_weaker (AcceptsOnce (Ok NotYet)) (λ (before after : List K). before ≡ after) (λ x y w. w.0 ∙ sym w.1) a.ready a2.ready told; given = given }

  pub asks_closed : (a a2 : Door K) (d : Desk) → Told (AcceptsOnce (Ok Closed)) a.ready a2.ready → a2.given ≡ a.given → AcceptsNone a a2 d d
  asks_closed a a2 d told given = record { same = refl; ready = told_weaker (AcceptsOnce (Ok Closed)) (λ (before after : List K). before ≡ after) (λ x y w. sym w) a.ready a2.ready told; given = given }

  pub asks_refused : (a a2 : Door K) (d : Desk) (fault : Fault) → Told (AcceptsOnce (Err fault)) a.ready a2.ready → a2.given ≡ a.given → AcceptsNone a a2 d d
  asks_refused a a2 d fault told given = record { same = refl; ready = told_weaker (AcceptsOnce (Err fault)) (λ (before after : List K). before ≡ after) (λ x y w. sym w) a.ready a2.ready told; given = given }

module _ {K : Type 0} (known : K → Wire) (number : K → ℕ) where
  pub all_start : (a : Door K) (d : Desk) → ServesAll known number a a d d
  all_start a d = record {
    turns = [];
    taken = refl;
    links = told_same (λ (before after : List K). before ≡ [] ++ after) (λ x. refl) a.ready;
    given = omega arith;
    numbers = tt;
  }

  pub all_link : (a a1 a2 : Door K) (first d new : Desk) → ServesAll known number a a1 first d → d.heard.is_polled ≡ true → d.heard.wait.cause ≡ None → AcceptsLink known number a1 a2 d new → ServesAll known number a a2 first new
  all_link a a1 a2 first d new all polled uncaused x = record {
    turns = Link x.link x.left x.end ∷ all.turns;
    taken = (d, all.taken, (polled, uncaused, x.visits));
    links = told_then (λ (p q : List K). p ≡ links_of all.turns ++ q) (λ (p q : List K). p ≡ x.link ∷ q) (λ (p q : List K). p ≡ (links_of all.turns ++ x.link ∷ []) ++ q)
        (λ p q r v w. v ∙ ap (λ (z : List K). links_of all.turns ++ z) w ∙ sym (append_assoc (links_of all.turns) (x.link ∷ []) r)) a.ready a1.ready a2.ready all.links x.first;
    given = let one = x.given in let before = all.given in omega (arith, one, before, length-append (links_of all.turns) (x.link ∷ []));
    numbers = numbers_more number a.given (links_of all.turns) x.link all.numbers (x.numbered ∙ all.given);
  }

  pub all_none : (a a1 a2 : Door K) (first d new : Desk) → ServesAll known number a a1 first d → AcceptsNone a1 a2 d new → ServesAll known number a a2 first new
  all_none a a1 a2 first d new all x = record {
    turns = all.turns;
    taken = subst (λ (n : Desk). Turns known all.turns first n) (sym x.same) all.taken;
    links = told_then (λ (p q : List K). p ≡ links_of all.turns ++ q) (λ (p q : List K). p ≡ q) (λ (p q : List K). p ≡ links_of all.turns ++ q)
        (λ p q r v w. v ∙ ap (λ (z : List K). links_of all.turns ++ z) w) a.ready a1.ready a2.ready all.links x.ready;
    given = x.given ∙ all.given;
    numbers = all.numbers;
  }

  pub all_poll : (a a1 : Door K) (first d new : Desk) → ServesAll known number a a1 first d → Polls d new → ServesAll known number a a1 first new
  all_poll a a1 first d new all x = record { turns = Poll ∷ all.turns; taken = (d, all.taken, x); links = all.links; given = all.given; numbers = all.numbers }

  pub all_pause : (a a1 : Door K) (first d new : Desk) → ServesAll known number a a1 first d → d.heard.is_polled ≡ true → d.heard.wait.cause ≡ None → new ≡ record d { pauses = option_map (with_pause 10000000) d.pauses } → ServesAll known number a a1 first new
  all_pause a a1 first d new all polled uncaused x = record { turns = Pause ∷ all.turns; taken = (d, all.taken, (polled, uncaused, x)); links = all.links; given = all.given; numbers = all.numbers }

  -- what came of asking the acceptor is a turn more, or none
  pub all_next : (a a1 a2 : Door K) (before now : ℕ) (first d new : Desk) (next : AfterAccept) → ServesAll known number a a1 first d → d.heard.is_polled ≡ true → d.heard.wait.cause ≡ None → AcceptsNext known number a1 a2 before now d new (Ok next) → ServesAll known number a a2 first new × (now ≡ before)
  all_next a a1 a2 before now first d new Now all polled uncaused x = (all_link a a1 a2 first d new all polled uncaused x.0, x.1)
  all_next a a1 a2 before now first d new Later all polled uncaused x = (all_none a a1 a2 first d new all x.0, x.1)
  all_next a a1 a2 before now first d new Never all polled uncaused x = (all_none a a1 a2 first d new all x.0, x.1)

  -- or the server ends
  pub all_refused : (a a1 a2 : Door K) (start before now : ℕ) (first d new : Desk) (error : ServeError) → ServesAll known number a a1 first d → d.heard.wait.cause ≡ None → before ≡ start → AcceptsNext known number a1 a2 before now d new (Err error) → EndsServing known number a a2 start now first new (Err error)
  all_refused a a1 a2 start before now first d new AcceptFault all uncaused same x =
      (all_none a a1 a2 first d new all x.0, ap (λ (n : Desk). n.heard.wait.cause) x.0.same ∙ uncaused, subst (λ (n : ℕ). Rose n now) same x.1)
  all_refused a a1 a2 start before now first d new NoMemory all uncaused same x = tt

  -- a link was accepted, served, and left
  pub link_served : (a a2 : Door K) (link left : K) (end : LinkEnd) (s s2 s3 : Session) (h h2 : Heard) (c c2 p p2 : Option (List ℕ)) → Told (AcceptsOnce (Ok (Gives link))) a.ready a2.ready → a2.given ≡ a.given + 1 → number link ≡ a.given
      → ServesLink end (known link) (known left) c c2 h (record h2 { is_polled = true }) s s2 → p2 ≡ p → s3.daemon ≡ s2.daemon → s3.line ≡ new_line s2.daemon.state.config.limit → s3.lost ≡ s2.lost
      → AcceptsLink known number a a2 (desk s h c p) (desk s3 (record h2 { is_polled = false }) c2 p2)
  link_served a a2 link left end s s2 s3 h h2 c c2 p p2 told given numbered serves paused daemon line lost = record {
    link = link;
    left = left;
    end = end;
    visits = record { session = s2; serves = serves; unpolled = refl; renews = renewed_is s2 s3 daemon line lost; pauses = paused };
    first = told;
    given = given;
    numbered = numbered;
  }

  pub link_by : (a a2 : Door K) (answer : Accepted K) (link left : K) (end : LinkEnd) (s s2 s3 : Session) (h h2 : Heard) (c c2 p p2 : Option (List ℕ)) (before now : ℕ) → answer ≡ Gives link → Told (AcceptsOnce (Ok answer)) a.ready a2.ready
      → a2.given ≡ given_after {K = K} (Ok answer) a.given → IfLink (Ok answer) (λ l. number l ≡ a.given) → now ≡ before
      → ServesLink end (known link) (known left) c c2 h (record h2 { is_polled = true }) s s2 → p2 ≡ p → s3.daemon ≡ s2.daemon → s3.line ≡ new_line s2.daemon.state.config.limit → s3.lost ≡ s2.lost
      → AcceptsLink known number a a2 (desk s h c p) (desk s3 (record h2 { is_polled = false }) c2 p2) × (now ≡ before)
  link_by a a2 answer link left end s s2 s3 h h2 c c2 p p2 before now is told given numbered faults serves paused daemon line lost = (
    link_served a a2 link left end s s2 s3 h h2 c c2 p p2 (subst (λ (x : Accepted K). Told (AcceptsOnce (Ok x)) a.ready a2.ready) is told) (subst (λ (x : Accepted K). a2.given ≡ given_after {K = K} (Ok x) a.given) is given)
        (subst (λ (x : Accepted K). IfLink (Ok x) (λ l. number l ≡ a.given)) is numbered) serves paused daemon line lost,
    faults,
  )

  if_served : (result : Result StopCause ServeError) (P : Type 0) → P → IfServed result P
  if_served (Ok cause) P p = p
  if_served (Err AcceptFault) P p = p
  if_served (Err NoMemory) P p = tt

  -- a server that began with nothing told
  pub serves_from : (a a2 : Door K) (before now idle_time : ℕ) (s s2 : Session) (c left c2 p p1 p2 : Option (List ℕ)) (result : Result StopCause ServeError) (start : ℕ) (first last : Heard) → Ticks_once start c left
      → first.messages.standing ≡ [] → first.messages.is_closed ≡ false → first.wait.idle_time ≡ idle_time → first.wait.active_at ≡ start → first.wait.cause ≡ None → first.is_polled ≡ true → p1 ≡ p
      → EndsServing known number a a2 before now (desk s first left p1) (desk s2 last c2 p2) result → IfServed result (ServesFrom known number a a2 before now idle_time s s2 c c2 p p2 result)
  serves_from a a2 before now idle_time s s2 c left c2 p p1 p2 result start first last t standing unclosed idle active uncaused polled paused ended =
      if_served result (ServesFrom known number a a2 before now idle_time s s2 c c2 p p2 result) (record {
        start = start;
        left = left;
        ticks = t;
        first = first;
        standing = standing;
        unclosed = unclosed;
        idle = idle;
        active = active;
        uncaused = uncaused;
        caught_up = polled;
        last = last;
        ends = subst (λ (x : Option (List ℕ)). EndsServing known number a a2 before now (desk s first left x) (desk s2 last c2 p2) result) paused ended;
      })

  -- an error that is passed on ends the server as it is
  pub ends_err : (a a2 : Door K) (before now : ℕ) (old new : Desk) (result : Result StopCause ServeError) (error : ServeError) → IsErrAnd result (λ e. e ≡ error) → EndsServing known number a a2 before now old new (Err error) → EndsServing known number a a2 before now old new result
  ends_err a a2 before now old new (Err e) error is ended = subst (λ (x : ServeError). EndsServing known number a a2 before now old new (Err x)) (sym is) ended
  ends_err a a2 before now old new (Ok cause) error is ended = absurd is
