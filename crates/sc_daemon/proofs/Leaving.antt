-- What holds of the connections and writes of a daemon after a step.
use Rattle.std.proofs.Common.{◌≡◌, ◌≢◌, ℕ, zero, suc, ◌+◌, ◌<◌, ◌≤◌, inl, inr, ◌⊎◌, Bool, true, false, List, [], ◌∷◌, ◌++◌, length, set, get_or, Option, Some, None, refl, sym, ap, ◌∙◌, subst, arith}
use Rattle.sc_daemon_action.specs.Hands.{hand_of}
use Rattle.sc_daemon.specs.Backlogs.{AreNumbered, ArePending, IsAtStage, IsPending, Write, fresh_writes, hand_in, put_write, with_write, write_at}
use Rattle.sc_daemon.specs.Drives.{TiesWrites}
use Rattle.sc_daemon.specs.Lines.{Line, conn_of, line_hand}
use Rattle.sc_daemon.specs.Standings.{Rests, RestsAt}
use Rattle.sc_daemon.specs.Ties.{IsThere, Owners, TiesHand}
use Rattle.sc_daemon.proofs.Staying.{held_there}
use Rattle.sc_disk.specs.Store.{AddEntry}
use Rattle.sc_daemon_hold.specs.Holding.{Rooms, hand_at}
use Rattle.sc_daemon_job.specs.Setups.{Config}
use Rattle.sc_model.specs.Follows.{bytes_in}
use Rattle.sc_model.specs.Conns.{Conn, advanced, current, settle, told_by}
use Rattle.sc_model.specs.Pendings.{pend}
use Rattle.sc_model.specs.Phases.{after}
use Rattle.sc_model.specs.Script.{Setup}
use Rattle.sc_model.specs.There.{AreHanded, handed_in}
use Rattle.sc_model.specs.Trace.{Open, hands, numbered}
use Rattle.sc_model.specs.declared.event.Owner.TheVariants.{Request as OfRequest, Write as OfWrite}
use Rattle.sc_model.specs.declared.event.What.{What}
use Rattle.sc_model.specs.declared.event.What.TheVariants.{Asked, Began, Closed, Committed, Dist, Filled, Idle, Keyed, Outcome, Passed, Placed, Ran, Reserved, Sent, Taken, TokenTaken, TooLong, WriteEnded, Wrote}
use Rattle.sc_model.specs.declared.level.Handed.{Handed}
use Rattle.sc_model.specs.declared.message.Request.{Request}
use Rattle.sc_model.specs.declared.phase.Bytes.{Bytes}
use Rattle.sc_model.specs.declared.phase.Pending.{Pending}
use Rattle.sc_model.specs.declared.phase.Phase.{Phase}
use Rattle.sc_model.specs.declared.phase.Phase.TheVariants.{AtAsk, AtBegin, AtCommit, AtDist, AtEnd, AtEnded, AtFill, AtFinish, AtKey, AtOver, AtPlace, AtRun, AtSend, AtStarted, AtStore, AtTake, AtWrite, PathAsk, PreAsk, PrePut, RawAsk, SizeAsk}
use Rattle.sc_model.specs.declared.phase.Stage.{Stage}
use Rattle.sc_model.specs.declared.phase.Stage.TheVariants.{Filled as IsFilled, Fresh, Reserved as IsReserved}

-- of a list in which one was changed
pub lines_set : (P : ℕ → Line → Type 0) (z : Line) (lines : List Line) (c : ℕ) (new : Line) → c < length lines → P c new → ((i : ℕ) → i ≢ c → P i (get_or lines i z)) → (i : ℕ) → P i (get_or (set lines c new) i z)
lines_set P z [] c new lt here others i = absurd (omega (arith, lt))
lines_set P z (x ∷ xs) zero new lt here others zero = here
lines_set P z (x ∷ xs) zero new lt here others (suc i) = others (suc i) (λ e. absurd (omega (arith, e)))
lines_set P z (x ∷ xs) (suc c) new lt here others zero = others zero (λ e. absurd (omega (arith, e)))
lines_set P z (x ∷ xs) (suc c) new lt here others (suc i) = lines_set (λ j. P (suc j)) z xs c new (omega (arith, lt)) here (λ j apart. others (suc j) (λ e. apart (omega (arith, e)))) i

none_there : (d : Rooms) (p : Phase) (entry : Option AddEntry) → entry ≡ None → IsThere d (hand_of entry p)
none_there d p entry is = subst (λ (e : Option AddEntry). IsThere d (hand_of e p)) (sym is) tt

at_there : (k : Config) (d : Rooms) (p : Phase) (entry : Option AddEntry) (r : Request) → RestsAt k (Some d) p entry r → IsThere d (hand_of entry p)
at_there k d AtBegin entry r rests = none_there d AtBegin entry rests.1
at_there k d (AtSend a) entry r rests = none_there d (AtSend a) entry rests.1
at_there k d (AtStarted a) entry r rests = none_there d (AtStarted a) entry rests.1
at_there k d (AtKey a b) entry r rests = none_there d (AtKey a b) entry rests.1
at_there k d (AtAsk a b) entry r rests = none_there d (AtAsk a b) entry rests.1
at_there k d (AtPlace a b f) entry r rests = none_there d (AtPlace a b f) entry rests.1
at_there k d (AtDist a) entry r rests = none_there d (AtDist a) entry rests.1
at_there k d (AtTake a) entry r rests = none_there d (AtTake a) entry rests.1
at_there k d (AtRun a) entry r rests = none_there d (AtRun a) entry rests.1
at_there k d (AtEnd a b f) entry r rests = none_there d (AtEnd a b f) entry rests.1
at_there k d (AtStore a b f g) entry r rests = none_there d (AtStore a b f g) entry rests.1
at_there k d (AtWrite a b f g) entry r rests = none_there d (AtWrite a b f g) entry rests.1
at_there k d (AtFill b l ls f e) None r rests = absurd rests.1
at_there k d (AtFill b l ls f e) (Some x) r rests = held_there d l (Some x) b [] None rests.1
at_there k d (AtCommit b l ls f e) None r rests = absurd rests.1
at_there k d (AtCommit b l ls f e) (Some x) r rests = held_there d l (Some x) b b.bytes (Some b.run) rests.1
at_there k d (AtFinish a b) entry r rests = none_there d (AtFinish a b) entry rests.1
at_there k d (RawAsk a b) entry r rests = none_there d (RawAsk a b) entry rests.1
at_there k d (PathAsk a) entry r rests = none_there d (PathAsk a) entry rests.1
at_there k d (PreAsk a b) entry r rests = none_there d (PreAsk a b) entry rests.1
at_there k d (PrePut a b f) entry r rests = none_there d (PrePut a b f) entry rests.1
at_there k d (SizeAsk a b f) entry r rests = none_there d (SizeAsk a b f) entry rests.1
at_there k d (AtEnded a) entry r rests = none_there d (AtEnded a) entry rests
at_there k d AtOver entry r rests = none_there d AtOver entry rests.1

-- an entry that is held is open
pub rests_there : (k : Config) (d : Rooms) (p : Phase) (entry : Option AddEntry) (w : List Request) → Rests k (Some d) p entry w → IsThere d (hand_of entry p)
rests_there k d p entry [] rests = none_there d p entry rests.1
rests_there k d p entry (r ∷ w) rests = at_there k d p entry r rests

stage_there : (k : Config) (d : Rooms) (stage : Stage) (entry : Option AddEntry) (l : ℕ) (b : Bytes) → IsAtStage k (Some d) stage entry l b → IsThere d (hand_at entry l (length b.bytes))
stage_there k d Fresh entry l b at = subst (λ (e : Option AddEntry). IsThere d (hand_at e l (length b.bytes))) (sym at) tt
stage_there k d IsReserved entry l b at = held_there d l entry b [] None at.1
stage_there k d IsFilled entry l b at = held_there d l entry b b.bytes (Some b.run) at.1

pub pending_there : (k : Config) (d : Rooms) (w : Write) → IsPending k (Some d) w → IsThere d (hand_in w)
pending_there k d w at = stage_there k d w.pending.stage w.entry w.pending.handed.level (bytes_in w.pending.handed) at.1

-- a request keeps its number until it is over
settle_at : (c : Conn) (p : Phase) → ((settle c p).at ≡ c.at) ⊎ ((settle c p).phase ≡ AtBegin)
settle_at c AtBegin = inl refl
settle_at c (AtSend a) = inl refl
settle_at c (AtStarted a) = inl refl
settle_at c (AtKey a b) = inl refl
settle_at c (AtAsk a b) = inl refl
settle_at c (AtPlace a b f) = inl refl
settle_at c (AtDist a) = inl refl
settle_at c (AtTake a) = inl refl
settle_at c (AtRun a) = inl refl
settle_at c (AtEnd a b f) = inl refl
settle_at c (AtStore a b f g) = inl refl
settle_at c (AtWrite a b f g) = inl refl
settle_at c (AtFill a b f g h) = inl refl
settle_at c (AtCommit a b f g h) = inl refl
settle_at c (AtFinish a b) = inl refl
settle_at c (RawAsk a b) = inl refl
settle_at c (PathAsk a) = inl refl
settle_at c (PreAsk a b) = inl refl
settle_at c (PrePut a b f) = inl refl
settle_at c (SizeAsk a b f) = inl refl
settle_at c (AtEnded a) = inl refl
settle_at c AtOver = inr refl

number_stays : (s : Setup) (c : Conn) (z : ℕ) (x : What) (new : Line) → conn_of new ≡ advanced s c z x → (new.at ≡ c.at) ⊎ (new.phase ≡ AtBegin)
number_stays s c z x new is = subst (λ (n : Conn). (n.at ≡ c.at) ⊎ (n.phase ≡ AtBegin)) (sym is) (settle_at (told_by s c z x) (after s (current c) c.phase z x))

begin_hand : (entry : Option AddEntry) → hand_of entry AtBegin ≡ None
begin_hand None = refl
begin_hand (Some e) = refl

-- what holds of a hand under the number before holds of it under the one after
pub hand_number : (P : ℕ → Line → Type 0) (s : Setup) (c : Conn) (z : ℕ) (x : What) (new : Line) → conn_of new ≡ advanced s c z x → ((n : ℕ) → line_hand new ≡ None → P n new) → P c.at new → P new.at new
hand_number P s c z x new is none here = by_cases (number_stays s c z x new is)
  where
    by_cases : (new.at ≡ c.at) ⊎ (new.phase ≡ AtBegin) → P new.at new
    by_cases (inl same) = subst (λ (n : ℕ). P n new) (sym same) here
    by_cases (inr begin) = none new.at (ap (λ (p : Phase). hand_of new.entry p) begin ∙ begin_hand new.entry)

pub none_ties : (owns : Owners) (opens : List Open) (d : Rooms) (c n : ℕ) (l : Line) → line_hand l ≡ None → TiesHand owns opens d (OfRequest c n) (line_hand l)
none_ties owns opens d c n l none = subst (TiesHand owns opens d (OfRequest c n)) (sym none) tt

-- Writes that are handed on.
pub append_pending : (k : Config) (d : Option Rooms) (ws vs : List Write) → ArePending k d ws → ArePending k d vs → ArePending k d (ws ++ vs)
append_pending k d [] vs are more = more
append_pending k d (w ∷ ws) vs are more = (are.0, append_pending k d ws vs are.1 more)

pub append_ties : (owns : Owners) (opens : List Open) (d : Rooms) (ws vs : List Write) → TiesWrites owns opens d ws → TiesWrites owns opens d vs → TiesWrites owns opens d (ws ++ vs)
append_ties owns opens d [] vs are more = more
append_ties owns opens d (w ∷ ws) vs are more = (are.0, append_ties owns opens d ws vs are.1 more)

numbered_are : (k : Config) (d : Option Rooms) (j m : ℕ) (b : Bool) (hs : List Handed) → AreHanded (length k.levels) hs → ArePending k d (fresh_writes (pend (numbered j m b hs)))
numbered_are k d j m b [] there = tt
numbered_are k d j m b (h ∷ hs) there = ((there.0, refl), numbered_are k d (suc j) m b hs there.1)

pub hands_are : (k : Config) (d : Option Rooms) (j m : ℕ) (x : What) → AreHanded (length k.levels) (handed_in x) → ArePending k d (fresh_writes (pend (hands j m x)))
hands_are k d j m (Asked l key mode a hs) there = numbered_are k d j m true hs there
hands_are k d j m (WriteEnded put hs) there = numbered_are k d j m false hs there
hands_are k d j m Idle there = tt
hands_are k d j m (Passed a) there = tt
hands_are k d j m (Taken a b) there = tt
hands_are k d j m (Closed a) there = tt
hands_are k d j m (Began a b) there = tt
hands_are k d j m (Keyed a b f) there = tt
hands_are k d j m (Placed a) there = tt
hands_are k d j m TokenTaken there = tt
hands_are k d j m (Ran a) there = tt
hands_are k d j m (Dist a) there = tt
hands_are k d j m (Outcome a b) there = tt
hands_are k d j m (Reserved a b f g) there = tt
hands_are k d j m (Filled a b f g h) there = tt
hands_are k d j m (Committed a b f g) there = tt
hands_are k d j m (Wrote a b f g h i) there = tt
hands_are k d j m (Sent a) there = tt
hands_are k d j m (TooLong a) there = tt

pub fresh_tie : (owns : Owners) (opens : List Open) (d : Rooms) (j m : ℕ) (x : What) → TiesWrites owns opens d (fresh_writes (pend (hands j m x)))
fresh_tie owns opens d j m x = each (pend (hands j m x))
  where
    each : (ps : List Pending) → TiesWrites owns opens d (fresh_writes ps)
    each [] = tt
    each (p ∷ ps) = (tt, each ps)

from_less : (from mid below : ℕ) (ws : List Write) → from ≤ mid → AreNumbered mid below ws → AreNumbered from below ws
from_less from mid below [] le are = tt
from_less from mid below (w ∷ ws) le are = let first : mid ≤ w.pending.number = are.0 in (omega (arith, le, first), are.1, are.2)

append_numbers : (from mid below : ℕ) (ws vs : List Write) → from ≤ mid → mid ≤ below → AreNumbered from mid ws → AreNumbered mid below vs → AreNumbered from below (ws ++ vs)
append_numbers from mid below [] vs le lt are more = from_less from mid below vs le more
append_numbers from mid below (w ∷ ws) vs le lt are more =
    let less : w.pending.number < mid = are.1 in
    (are.0, omega (arith, less, lt), append_numbers (suc w.pending.number) mid below ws vs (omega (arith, less)) lt are.2 more)

numbered_rise : (j m : ℕ) (b : Bool) (hs : List Handed) (below : ℕ) → j + length (numbered j m b hs) ≡ below → AreNumbered j below (fresh_writes (pend (numbered j m b hs)))
numbered_rise j m b [] below e = tt
numbered_rise j m b (h ∷ hs) below e = (omega arith, omega (arith, e), numbered_rise (suc j) m b hs below (omega (arith, e)))

hands_rise : (j m : ℕ) (x : What) → AreNumbered j (j + length (hands j m x)) (fresh_writes (pend (hands j m x)))
hands_rise j m (Asked l key mode a hs) = numbered_rise j m true hs (j + length (numbered j m true hs)) refl
hands_rise j m (WriteEnded put hs) = numbered_rise j m false hs (j + length (numbered j m false hs)) refl
hands_rise j m Idle = tt
hands_rise j m (Passed a) = tt
hands_rise j m (Taken a b) = tt
hands_rise j m (Closed a) = tt
hands_rise j m (Began a b) = tt
hands_rise j m (Keyed a b f) = tt
hands_rise j m (Placed a) = tt
hands_rise j m TokenTaken = tt
hands_rise j m (Ran a) = tt
hands_rise j m (Dist a) = tt
hands_rise j m (Outcome a b) = tt
hands_rise j m (Reserved a b f g) = tt
hands_rise j m (Filled a b f g h) = tt
hands_rise j m (Committed a b f g) = tt
hands_rise j m (Wrote a b f g h i) = tt
hands_rise j m (Sent a) = tt
hands_rise j m (TooLong a) = tt

-- the numbers rise on
pub more_numbers : (j m : ℕ) (x : What) (ws : List Write) → AreNumbered 0 j ws → AreNumbered 0 (j + length (hands j m x)) (ws ++ fresh_writes (pend (hands j m x)))
more_numbers j m x ws are = append_numbers 0 j (j + length (hands j m x)) ws (fresh_writes (pend (hands j m x))) (omega arith) (omega arith) are (hands_rise j m x)

put_numbers : (from below : ℕ) (done : Bool) (now v : Write) (ws : List Write) → now.pending.number ≡ v.pending.number → AreNumbered from below (v ∷ ws) → AreNumbered from below (put_write done now ws)
put_numbers from below true now v ws same are = let first : from ≤ v.pending.number = are.0 in from_less from (suc v.pending.number) below ws (omega (arith, first)) are.2
put_numbers from below false now v ws same are = subst (λ (n : ℕ). (from ≤ n) × (n < below) × AreNumbered (suc n) below ws) (sym same) are

-- and do where a write went on
pub with_numbers : (from below i : ℕ) (done : Bool) (w now : Write) (ws : List Write) → write_at i ws ≡ Some w → now.pending.number ≡ w.pending.number → AreNumbered from below ws → AreNumbered from below (with_write i done now ws)
with_numbers from below i done w now [] at same are = tt
with_numbers from below zero done w now (v ∷ ws) at same are = let is : v ≡ w = cc in put_numbers from below done now v ws (same ∙ ap (λ (y : Write). y.pending.number) (sym is)) are
with_numbers from below (suc i) done w now (v ∷ ws) at same are = (are.0, are.1, with_numbers (suc v.pending.number) below i done w now ws at same are.2)

-- the ties of one of them
pub write_ties : (owns : Owners) (opens : List Open) (d : Rooms) (i : ℕ) (ws : List Write) (w : Write) → write_at i ws ≡ Some w → TiesWrites owns opens d ws → TiesHand owns opens d (OfWrite w.pending.number) (hand_in w)
write_ties owns opens d i [] w at are = absurd (cc)
write_ties owns opens d zero (v ∷ ws) w at are = let same : v ≡ w = cc in subst (λ (y : Write). TiesHand owns opens d (OfWrite y.pending.number) (hand_in y)) same are.0
write_ties owns opens d (suc i) (v ∷ ws) w at are = write_ties owns opens d i ws w at are.1

-- a write at a place can be gone on with
pub pending_at_place : (k : Config) (d : Option Rooms) (i : ℕ) (ws : List Write) (w : Write) → write_at i ws ≡ Some w → ArePending k d ws → IsPending k d w
pending_at_place k d i [] w at are = absurd (cc)
pending_at_place k d zero (v ∷ ws) w at are = let same : v ≡ w = cc in subst (IsPending k d) same are.0
pending_at_place k d (suc i) (v ∷ ws) w at are = pending_at_place k d i ws w at are.1
