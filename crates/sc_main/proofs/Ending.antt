-- A link that was left, once the writes that were handed on are done.
use Rattle.std.proofs.Common.{◌≡◌, ℕ, true, List, [], Option, sym, ap, ◌∙◌, subst, arith}
use Rattle.sc_daemon.specs.Lines.{Line}
use Rattle.sc_daemon.specs.Sessions.{Session}
use Rattle.sc_daemon.specs.Turns.{IsIdleLine}
use Rattle.sc_daemon_job.specs.Setups.{setup}
use Rattle.sc_daemon_owned.specs.Facts.{config_of}
use Rattle.sc_entry.proofs.Telling.{told_weaker}
use Rattle.sc_entry.specs.Causes.{IfTold}
use Rattle.sc_main.proofs.Reading.{idle_answered, idle_none}
use Rattle.sc_main.specs.Deeds.{Heard, TellsAll, due_by, read_by}
use Rattle.sc_main.specs.Progress.{CauseSoFar, IfKeptSoFar, Leaves, LeftSo, Scene, SoFar, WritesSoFar, held_token, scene}
use Rattle.sc_main.specs.Serving.{IfKept, IsAnswered, IsOver, IsStopped, LinkCause, ServesLink, Stands, Wire, Writes, refused_in}
use Rattle.sc_main.specs.declared.link_end.LinkEnd.{LinkEnd}
use Rattle.sc_main.specs.declared.link_end.LinkEnd.TheVariants as ends
use Rattle.sc_model.proofs.Streams.{reads_on}
use Rattle.sc_model.specs.Script.{End}
use Rattle.sc_model.specs.Trace.{if_too_long}
use Rattle.sc_server_activity.specs.declared.shutdown_or_inactive.ShutdownOrInactive.{ShutdownOrInactive}
use Rattle.sc_wire.specs.Requests.{read_request}
use Rattle.sc_wire.specs.Streams.{request_reader}

kept_end : (P : Type 0) (end : LinkEnd) → IfKeptSoFar (refused_in end) P → IfKept end P
kept_end P (ends.Over e) p = p
kept_end P ends.Stopped p = p
kept_end P ends.NoMemory p = p
kept_end P ends.ReadFault p = p
kept_end P ends.WriteFault p = p

writes_end : (end : LinkEnd) (due a b : List ℕ) → WritesSoFar (refused_in end) due a b → Writes end due a b
writes_end (ends.Over e) due a b w = w
writes_end ends.Stopped due a b w = w
writes_end ends.NoMemory due a b w = w
writes_end ends.ReadFault due a b w = w
writes_end ends.WriteFault due a b w = w

cause_end : (end : LinkEnd) (before now : ℕ) → CauseSoFar (refused_in end) before now → LinkCause end before now
cause_end (ends.Over e) before now x = x
cause_end ends.Stopped before now x = x
cause_end ends.NoMemory before now x = x
cause_end ends.ReadFault before now x = x
cause_end ends.WriteFault before now x = x

over_end : (end : LinkEnd) (limit : ℕ) (bytes : List ℕ) (l : Line) (w : ShutdownOrInactive) (ahead : Option (List ℕ)) → IfKept end (Stands limit bytes l) → LeftSo end l w
    → (l.closed ≡ true → IfTold ahead (λ left. left ≡ [])) → IsOver end limit bytes l ahead
over_end (ends.Over end) limit bytes l w ahead x left ended =
    let here : request_reader l.limit ≡ request_reader limit = ap request_reader x.limited in (
      left.1 ∙ ap (λ (e : End). if_too_long l.long e) ((λ i. (here i).ends (x.rest i) l.closed) ∙ sym ((reads_on limit read_request).ends bytes l.closed)),
      left.0,
      ended,
    )
over_end ends.Stopped limit bytes l w ahead x left ended = tt
over_end ends.NoMemory limit bytes l w ahead x left ended = tt
over_end ends.ReadFault limit bytes l w ahead x left ended = tt
over_end ends.WriteFault limit bytes l w ahead x left ended = tt

stopped_end : (end : LinkEnd) (h : Heard) (l : Line) → LeftSo end l h.wait → IsStopped end h l
stopped_end (ends.Over e) h l left = tt
stopped_end ends.Stopped h l left = (left.1, left.0)
stopped_end ends.NoMemory h l left = tt
stopped_end ends.ReadFault h l left = tt
stopped_end ends.WriteFault h l left = tt

pub serves_link : (end : LinkEnd) (first : Scene) (s s2 : Session) (h : Heard) (c c2 : Option (List ℕ)) (k : Wire)
    → Leaves end first (scene s h c k) → IsIdleLine s.daemon.free s.line → SoFar (refused_in end) first (scene s2 h c2 k) → s2.line ≡ s.line → s2.daemon.background ≡ []
    → ServesLink end first.link k first.moments c2 first.heard h first.session s2
serves_link end first s s2 h c c2 k leaves idle f line done =
    let u = setup (config_of first.session.daemon.state.config) in
    let limit = first.session.daemon.state.config.limit in
    let before = leaves.so_far in
    let left : LeftSo end s2.line h.wait = subst (λ (l : Line). LeftSo end l h.wait) (sym line) leaves.left in
    let stands : IfKept end (Stands limit (read_by f.deeds) s2.line) = kept_end (Stands limit (read_by f.deeds) s2.line) end f.stands in
    record {
      deeds = f.deeds;
      leads = f.leads;
      ticks = f.ticks;
      heard = f.heard;
      told = kept_end (TellsAll f.deeds) end f.told;
      marked = f.marked;
      reading = f.reading;
      reads = f.reads;
      stands = stands;
      over = over_end end limit (read_by f.deeds) s2.line h.wait k.ahead stands left f.ended;
      stopped = stopped_end end h s2.line left;
      writes = told_weaker (WritesSoFar (refused_in end) (due_by u f.deeds)) (Writes end (due_by u f.deeds)) (λ x y w. writes_end end (due_by u f.deeds) x y w) first.link.written k.written f.writes;
      cause = cause_end end first.link.faults k.faults f.cause;
      later = f.later;
      answered = λ has. subst IsAnswered (sym line) (idle_answered s.daemon s.line before.unheld idle (before.tokens has));
      tokens = λ has.
          let held : held_token s2.line.phase ≡ 0 = ap (λ (l : Line). held_token l.phase) line ∙ idle_none s.daemon.free s.line before.unheld idle in
          let x = f.tokens has in
          let free = x.1 in
          (x.0, omega (arith, held, free));
      background = done;
    }
