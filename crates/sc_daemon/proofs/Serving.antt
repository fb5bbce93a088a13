-- A served request goes on.
use Rattle.std.proofs.Common.{◌≡◌, ℕ, ◌<◌, List, [], ◌∷◌, ◌++◌, length, drop, Option, None, arith, refl, sym, ap, ◌∙◌, subst}
use Rattle.sc_daemon_action.specs.Hands.{ServesWith, StandsWith, hand_of}
use Rattle.sc_daemon_action.specs.declared.acted.Action.{Action}
use Rattle.sc_daemon.specs.Lines.{Line, conn_of, line_hand}
use Rattle.sc_daemon.specs.Standings.{Rests, RestsAt, standing_of}
use Rattle.sc_daemon.specs.Turns.{ActsFirst, Serves_one}
use Rattle.sc_daemon.specs.declared.standing.Standing.TheVariants.{Ended, Takes}
use Rattle.sc_daemon.proofs.Firsts.{current_is}
use Rattle.sc_disk.specs.Store.{AddEntry}
use Rattle.sc_daemon_hold.specs.Holding.{Hand, HandsIn, Rooms}
use Rattle.sc_daemon_job.specs.Setups.{Config, setup}
use Rattle.sc_model.specs.Follows.{Fits}
use Rattle.sc_model.specs.Conns.{Conn, current, long_after, outcome_after, reserved_after, settle, told_by}
use Rattle.sc_model.specs.DueAt.{due_at}
use Rattle.sc_model.specs.Phases.{after}
use Rattle.sc_model.specs.Trace.{request}
use Rattle.sc_model.specs.declared.event.What.{What}
use Rattle.sc_model.specs.declared.message.Request.{Request}
use Rattle.sc_model.specs.declared.phase.Phase.{Phase}
use Rattle.sc_model.specs.declared.phase.Phase.TheVariants.{AtAsk, AtBegin, AtCommit, AtDist, AtEnd, AtEnded, AtFill, AtFinish, AtKey, AtOver, AtPlace, AtRun, AtSend, AtStarted, AtStore, AtTake, AtWrite, PathAsk, PreAsk, PrePut, RawAsk, SizeAsk}

-- a phase where no reply was too long is one that is served
pub goes_serves : (k : Config) (d : Option Rooms) (p : Phase) (entry : Option AddEntry) (r : Request) → RestsAt k d p entry r → (standing_of p ≡ Ended → ⊥) → ServesWith k d p entry r
goes_serves k d AtBegin entry r rests goes = rests
goes_serves k d (AtSend a) entry r rests goes = rests
goes_serves k d (AtStarted a) entry r rests goes = rests
goes_serves k d (AtKey a b) entry r rests goes = rests
goes_serves k d (AtAsk a b) entry r rests goes = rests
goes_serves k d (AtPlace a b f) entry r rests goes = rests
goes_serves k d (AtDist a) entry r rests goes = rests
goes_serves k d (AtTake a) entry r rests goes = rests
goes_serves k d (AtRun a) entry r rests goes = rests
goes_serves k d (AtEnd a b f) entry r rests goes = rests
goes_serves k d (AtStore a b f g) entry r rests goes = rests
goes_serves k d (AtWrite a b f g) entry r rests goes = rests
goes_serves k d (AtFill a b f g h) entry r rests goes = rests
goes_serves k d (AtCommit a b f g h) entry r rests goes = rests
goes_serves k d (AtFinish a b) entry r rests goes = rests
goes_serves k d (RawAsk a b) entry r rests goes = rests
goes_serves k d (PathAsk a) entry r rests goes = rests
goes_serves k d (PreAsk a b) entry r rests goes = rests
goes_serves k d (PrePut a b f) entry r rests goes = rests
goes_serves k d (SizeAsk a b f) entry r rests goes = rests
goes_serves k d (AtEnded a) entry r rests goes = absurd (goes refl)
goes_serves k d AtOver entry r rests goes = rests

-- the first that waits is served, where no reply was too long
pub first_serves : (k : Config) (d : Option Rooms) (l : Line) → Rests k d l.phase l.entry l.waiting → 0 < length l.waiting → (standing_of l.phase ≡ Ended → ⊥) → ServesWith k d l.phase l.entry (current (conn_of l))
first_serves k d l rests some goes = goes_serves k d l.phase l.entry (current (conn_of l)) (first_at l.phase l.entry l.waiting rests some) goes
  where
    first_at : (p : Phase) (entry : Option AddEntry) (w : List Request) → Rests k d p entry w → 0 < length w → RestsAt k d p entry (request w 0)
    first_at p entry [] rests some = absurd (omega arith)
    first_at p entry (r ∷ w) rests some = rests

pub begin_rests : (k : Config) (d : Option Rooms) (w : List Request) → Rests k d AtBegin None w
begin_rests k d [] = (refl, refl)
begin_rests k d (r ∷ w) = (tt, refl)

rests_with : (k : Config) (d : Option Rooms) (p : Phase) (entry : Option AddEntry) (r : Request) (rest w : List Request) → w ≡ r ∷ rest → RestsAt k d p entry r → Rests k d p entry w
rests_with k d p entry r rest w e at = subst (Rests k d p entry) (sym e) at

-- where the first stands after a phase of its, and the next behind one that is over
settle_rests : (k : Config) (d : Option Rooms) (c : Conn) (p : Phase) (entry : Option AddEntry) (r : Request) (rest : List Request) → c.queue ≡ r ∷ rest → StandsWith k d p entry r → Rests k d (settle c p).phase entry (settle c p).queue
settle_rests k d c AtBegin entry r rest is stands = rests_with k d AtBegin entry r rest c.queue is stands
settle_rests k d c (AtSend a) entry r rest is stands = rests_with k d (AtSend a) entry r rest c.queue is stands
settle_rests k d c (AtStarted a) entry r rest is stands = rests_with k d (AtStarted a) entry r rest c.queue is stands
settle_rests k d c (AtKey a b) entry r rest is stands = rests_with k d (AtKey a b) entry r rest c.queue is stands
settle_rests k d c (AtAsk a b) entry r rest is stands = rests_with k d (AtAsk a b) entry r rest c.queue is stands
settle_rests k d c (AtPlace a b f) entry r rest is stands = rests_with k d (AtPlace a b f) entry r rest c.queue is stands
settle_rests k d c (AtDist a) entry r rest is stands = rests_with k d (AtDist a) entry r rest c.queue is stands
settle_rests k d c (AtTake a) entry r rest is stands = rests_with k d (AtTake a) entry r rest c.queue is stands
settle_rests k d c (AtRun a) entry r rest is stands = rests_with k d (AtRun a) entry r rest c.queue is stands
settle_rests k d c (AtEnd a b f) entry r rest is stands = rests_with k d (AtEnd a b f) entry r rest c.queue is stands
settle_rests k d c (AtStore a b f g) entry r rest is stands = rests_with k d (AtStore a b f g) entry r rest c.queue is stands
settle_rests k d c (AtWrite a b f g) entry r rest is stands = rests_with k d (AtWrite a b f g) entry r rest c.queue is stands
settle_rests k d c (AtFill a b f g h) entry r rest is stands = rests_with k d (AtFill a b f g h) entry r rest c.queue is stands
settle_rests k d c (AtCommit a b f g h) entry r rest is stands = rests_with k d (AtCommit a b f g h) entry r rest c.queue is stands
settle_rests k d c (AtFinish a b) entry r rest is stands = rests_with k d (AtFinish a b) entry r rest c.queue is stands
settle_rests k d c (RawAsk a b) entry r rest is stands = rests_with k d (RawAsk a b) entry r rest c.queue is stands
settle_rests k d c (PathAsk a) entry r rest is stands = rests_with k d (PathAsk a) entry r rest c.queue is stands
settle_rests k d c (PreAsk a b) entry r rest is stands = rests_with k d (PreAsk a b) entry r rest c.queue is stands
settle_rests k d c (PrePut a b f) entry r rest is stands = rests_with k d (PrePut a b f) entry r rest c.queue is stands
settle_rests k d c (SizeAsk a b f) entry r rest is stands = rests_with k d (SizeAsk a b f) entry r rest c.queue is stands
settle_rests k d c (AtEnded a) entry r rest is stands = rests_with k d (AtEnded a) entry r rest c.queue is stands.1
settle_rests k d c AtOver entry r rest is stands = subst (λ (e : Option AddEntry). Rests k d AtBegin e (drop 1 c.queue)) (sym stands.1) (begin_rests k d (drop 1 c.queue))

-- more came behind
pub more_rests : (k : Config) (d : Option Rooms) (p : Phase) (entry : Option AddEntry) (w more new : List Request) → Rests k d p entry w → new ≡ w ++ more → Rests k d p entry new
more_rests k d p entry [] more new rests e =
    subst (λ (q : Phase). Rests k d q entry new) (sym rests.0) (subst (λ (x : Option AddEntry). Rests k d AtBegin x new) (sym rests.1) (begin_rests k d new))
more_rests k d p entry (r ∷ w) more new rests e = rests_with k d p entry r (w ++ more) new e rests

-- what is kept of an event of this moment, before the connection goes on to the next phase
abbrev pub noted : ℕ → What → Line → Line
noted m x l = record l { last = m; outcome = outcome_after l.outcome m x; reserved = reserved_after l.reserved m x; long = long_after l.long x }

pub serves_rests : (k : Config) (d d2 : Option Rooms) (m : ℕ) (acted : Action) (old mid note new : Line) → Rests k d old.phase old.entry old.waiting → ActsFirst k d d2 m acted old mid
    → note ≡ noted m acted.what mid → conn_of new ≡ settle (conn_of note) acted.phase → new.entry ≡ acted.entry → Rests k d2 new.phase new.entry new.waiting
serves_rests k d d2 m acted old mid note new rests acts is_note moved entry =
    let same : note.waiting ≡ old.waiting = ap (λ (l : Line). l.waiting) is_note ∙ ap (λ (l : Line). l.waiting) acts.same in
    subst (λ (e : Option AddEntry). Rests k d2 (conn_of new).phase e (conn_of new).queue) (sym entry)
    (subst (λ (c : Conn). Rests k d2 c.phase acted.entry c.queue) (sym moved)
    (settle_rests k d2 (conn_of note) acted.phase acted.entry acts.request acts.rest (same ∙ acts.first) acts.acts.stands))

-- the entry that is held at a phase is held where its connection then stands
settle_hand : (k : Config) (d : Option Rooms) (c : Conn) (p : Phase) (entry : Option AddEntry) (r : Request) → StandsWith k d p entry r → hand_of entry (settle c p).phase ≡ hand_of entry p
settle_hand k d c AtBegin entry r stands = refl
settle_hand k d c (AtSend a) entry r stands = refl
settle_hand k d c (AtStarted a) entry r stands = refl
settle_hand k d c (AtKey a b) entry r stands = refl
settle_hand k d c (AtAsk a b) entry r stands = refl
settle_hand k d c (AtPlace a b f) entry r stands = refl
settle_hand k d c (AtDist a) entry r stands = refl
settle_hand k d c (AtTake a) entry r stands = refl
settle_hand k d c (AtRun a) entry r stands = refl
settle_hand k d c (AtEnd a b f) entry r stands = refl
settle_hand k d c (AtStore a b f g) entry r stands = refl
settle_hand k d c (AtWrite a b f g) entry r stands = refl
settle_hand k d c (AtFill a b f g h) entry r stands = refl
settle_hand k d c (AtCommit a b f g h) entry r stands = refl
settle_hand k d c (AtFinish a b) entry r stands = refl
settle_hand k d c (RawAsk a b) entry r stands = refl
settle_hand k d c (PathAsk a) entry r stands = refl
settle_hand k d c (PreAsk a b) entry r stands = refl
settle_hand k d c (PrePut a b f) entry r stands = refl
settle_hand k d c (SizeAsk a b f) entry r stands = refl
settle_hand k d c (AtEnded a) entry r stands = refl
settle_hand k d c AtOver entry r stands = ap (λ (e : Option AddEntry). hand_of e AtBegin) stands.1 ∙ sym (ap (λ (e : Option AddEntry). hand_of e AtOver) stands.1)

-- where it stood before is of no matter
settle_phase : (c : Conn) (q p : Phase) → settle (record c { phase = q }) p ≡ settle c p
settle_phase c q AtBegin = refl
settle_phase c q (AtSend a) = refl
settle_phase c q (AtStarted a) = refl
settle_phase c q (AtKey a b) = refl
settle_phase c q (AtAsk a b) = refl
settle_phase c q (AtPlace a b d) = refl
settle_phase c q (AtDist a) = refl
settle_phase c q (AtTake a) = refl
settle_phase c q (AtRun a) = refl
settle_phase c q (AtEnd a b d) = refl
settle_phase c q (AtStore a b d e) = refl
settle_phase c q (AtWrite a b d e) = refl
settle_phase c q (AtFill a b d e f) = refl
settle_phase c q (AtCommit a b d e f) = refl
settle_phase c q (AtFinish a b) = refl
settle_phase c q (RawAsk a b) = refl
settle_phase c q (PathAsk a) = refl
settle_phase c q (PreAsk a b) = refl
settle_phase c q (PrePut a b d) = refl
settle_phase c q (SizeAsk a b d) = refl
settle_phase c q (AtEnded a) = refl
settle_phase c q AtOver = refl

-- what is kept of an event, but where the request stands
noted_is : (k : Config) (d d2 : Option Rooms) (m : ℕ) (acted : Action) (old mid : Line) → ActsFirst k d d2 m acted old mid → conn_of (noted m acted.what mid) ≡ record (told_by (setup k) (conn_of old) m acted.what) { phase = AtOver }
noted_is k d d2 m acted old mid acts =
    let x = acted.what in
    ap (λ (l : Line). conn_of (noted m x l)) acts.same
    ∙ ap (λ (out : List ℕ). record (conn_of old) { phase = AtOver; last = m; outcome = outcome_after old.outcome m x; reserved = reserved_after old.reserved m x; long = long_after old.long x; out = out }) acts.out

pub serves_one : (k : Config) (d d2 : Option Rooms) (m free : ℕ) (acted : Action) (old mid note new : Line) → 0 < length old.waiting → (standing_of old.phase ≡ Takes → 0 < free) → ActsFirst k d d2 m acted old mid
    → note ≡ noted m acted.what mid → conn_of new ≡ settle (conn_of note) acted.phase → new.entry ≡ acted.entry → new.limit ≡ note.limit → Serves_one k d d2 m free acted.what old new
serves_one k d d2 m free acted old mid note new some token acts is_note moved entry limit =
    let x = acted.what in
    let here : current (conn_of old) ≡ acts.request = current_is old acts.request acts.rest acts.first in
    let hand : line_hand new ≡ hand_of acted.entry acted.phase =
    ap (λ (e : Option AddEntry). hand_of e new.phase) entry
    ∙ ap (λ (c : Conn). hand_of acted.entry c.phase) moved
    ∙ settle_hand k d2 (conn_of note) acted.phase acted.entry acts.request acts.acts.stands in
    record {
      some = some;
      fits = subst (λ (r : Request). Fits (setup k) r (due_at (setup k) r old.phase) x) (sym here) acts.acts.fits;
      token = token;
      then = moved
          ∙ ap (λ (l : Line). settle (conn_of l) acted.phase) is_note
          ∙ ap (λ (c : Conn). settle c acted.phase) (noted_is k d d2 m acted old mid acts)
          ∙ settle_phase (told_by (setup k) (conn_of old) m x) AtOver acted.phase
          ∙ ap (λ (p : Phase). settle (told_by (setup k) (conn_of old) m x) p) acts.acts.then
          ∙ ap (λ (r : Request). settle (told_by (setup k) (conn_of old) m x) (after (setup k) r old.phase m x)) (sym here);
      own = acts.acts.own;
      hands = subst (λ (h : Option Hand). HandsIn d x (line_hand old) h) (sym hand) acts.hands;
      others = acts.others;
      there = acts.acts.there;
      limit = limit ∙ ap (λ (l : Line). l.limit) is_note ∙ ap (λ (l : Line). l.limit) acts.same;
    }
