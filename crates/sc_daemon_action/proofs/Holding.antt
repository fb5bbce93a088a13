-- Entries that are held, before and after an action.
use Rattle.std.proofs.Common.{◌≡◌, ◌≢◌, ◌==◌, ℕ, ◌++◌, Bool, true, false, List, [], length, Option, Some, None, refl, ap, sym, subst, ◌∙◌, eqb-true, eq-eqb}
use Rattle.sc_daemon_action.specs.Hands.{ActsWith, IsOwn, ServesWith, StandsWith, writes}
use Rattle.sc_daemon_action.specs.Serves.{Serves, Stands}
use Rattle.sc_daemon_action.specs.Acts.{Acts, IsStill}
use Rattle.sc_daemon_action.specs.declared.acted.Acted.{Acted}
use Rattle.sc_disk.specs.Store.{AddEntry}
use Rattle.sc_store_disk.specs.DiskStores.{DiskStore, OpenEntry, entry_at, entry_path}
use Rattle.sc_store_disk.specs.Entries.{ClosesEntry, FillsBy}
use Rattle.sc_store_disk.specs.Marks.{filled_by}
use Rattle.sc_store_disk.specs.Moving.{OpensBy}
use Rattle.sc_store_disk.specs.declared.filling.Filling.{Filling}
use Rattle.sc_store_disk.specs.declared.filling.Filling.TheVariants.{Filled as StillOpen, Refused as NotFilled}
use Rattle.sc_store_disk.specs.declared.reserving.Reservation.{Reservation}
use Rattle.sc_store_disk.specs.declared.reserving.Reservation.TheVariants.{Open, Refused as NotReserved}
use Rattle.sc_entry.specs.Causes.{IfTold, Told}
use Rattle.sc_daemon_hold.specs.Holding.{AtLevel, Elsewhere, Hand, HandsBy, HandsIn, Holds, IsFor, IsHand, IsOpenFor, KeepsHands, KeepsIn, OpensNone, Rooms, SameRoom, hand_at}
use Rattle.sc_daemon_job.specs.Setups.{Config}
use Rattle.sc_model.specs.World.{Need}
use Rattle.sc_model.specs.declared.level.Cause.{Cause}
use Rattle.sc_model.specs.declared.event.What.{What}
use Rattle.sc_model.specs.declared.event.What.TheVariants.{Asked, Began, Closed, Committed, Dist, Filled, Idle, Keyed, Outcome, Passed, Placed, Ran, Reserved, Sent, Taken, TokenTaken, TooLong, WriteEnded, Wrote}
use Rattle.sc_model.specs.declared.event.Written.{Written}
use Rattle.sc_model.specs.declared.event.Written.TheVariants.{Done, Refused}
use Rattle.sc_model.specs.declared.message.Request.{Request}
use Rattle.sc_model.specs.declared.phase.Bytes.{Bytes}
use Rattle.sc_model.specs.declared.phase.Phase.{Phase}
use Rattle.sc_model.specs.declared.phase.Phase.TheVariants.{AtAsk, AtBegin, AtCommit, AtDist, AtEnd, AtEnded, AtFill, AtFinish, AtKey, AtOver, AtPlace, AtRun, AtSend, AtStarted, AtStore, AtTake, AtWrite, PathAsk, PreAsk, PrePut, RawAsk, SizeAsk}

never : false ≡ true → ⊥
never e = absurd (cc)

not_none : {A : Type 0} (a : A) → Some a ≡ None → ⊥
not_none a e = absurd (cc)

by_number : {P : Type 0} (m l : ℕ) → (m ≡ l → P) → (m ≢ l → P) → P
by_number {P} m l same apart = (elim (m == l) as (λ t. (m == l) ≡ t → P) [
  | true ↦ λ e. same (eqb-true m l e)
  | false ↦ λ e. apart (λ is. never (sym e ∙ eq-eqb m l is))
]) refl

-- needs nothing
pub no_need : Need
no_need = record { keys = λ first. None; key = []; wanted = []; outputs = []; hit = []; mark = false }

module _ (l : ℕ) (old new : Rooms) (away : Elsewhere l old new) where
  -- what is open at one level stays by a call there, and at all others
  keeps_at : (held : Option Hand) → ((n : ℕ) (o : OpenEntry) → (IsHand held l n → ⊥) → entry_at (old l).entries n ≡ Some o → entry_at (new l).entries n ≡ Some o) → KeepsHands held old new
  keeps_at held here m n o other at = by_number m l
      (λ same. subst (λ (k : ℕ). entry_at (new k).entries n ≡ Some o) (sym same)
      (here n o (λ is. other (subst (λ (k : ℕ). IsHand held k n) (sym same) is)) (subst (λ (k : ℕ). entry_at (old k).entries n ≡ Some o) same at)))
      (λ apart. (away m apart).1 n ∙ at)

  opens_here : (path : List ℕ) (size : ℕ) (how : Reservation) → OpensBy path size how (old l) (new l) → (n : ℕ) (o : OpenEntry) → entry_at (old l).entries n ≡ Some o → entry_at (new l).entries n ≡ Some o
  opens_here path size (Open e) h n o at = by_number n e.number
      (λ same. absurd (not_none o (sym at ∙ ap (λ k. entry_at (old l).entries k) same ∙ h.free)))
      (λ apart. h.others n apart ∙ at)
  opens_here path size (NotReserved c) h n o at = h.entries n ∙ at

  opens_keep : (path : List ℕ) (size : ℕ) (how : Reservation) → OpensBy path size how (old l) (new l) → KeepsHands None old new
  opens_keep path size how h = keeps_at None (λ n o other at. opens_here path size how h n o at)

  fills_here : (e : AddEntry) (more : List ℕ) (fills : Option Bool → Option Bool) (how : Filling) → FillsBy e more fills how (old l) (new l) → (n : ℕ) (o : OpenEntry) → n ≢ e.number → entry_at (old l).entries n ≡ Some o → entry_at (new l).entries n ≡ Some o
  fills_here e more fills (StillOpen same) h n o apart at = h.1.others n apart ∙ at
  fills_here e more fills (NotFilled c) h n o apart at = h.1.others n apart ∙ at

  fills_keep : (e : AddEntry) (more : List ℕ) (fills : Option Bool → Option Bool) (size : ℕ) (how : Filling) → FillsBy e more fills how (old l) (new l) → KeepsHands (hand_at (Some e) l size) old new
  fills_keep e more fills size how h = keeps_at (hand_at (Some e) l size) (λ n o other at. fills_here e more fills how h n o (λ is. other (refl, is)) at)

  closes_keep : (e : AddEntry) (size : ℕ) → ClosesEntry e.number (old l) (new l) → KeepsHands (hand_at (Some e) l size) old new
  closes_keep e size h = keeps_at (hand_at (Some e) l size) (λ n o other at. h.others n (λ is. other (refl, is)) ∙ at)

-- What a call at one level does to the entries that are held, where nobody else moves the levels.
pub open_keeps : (l : ℕ) (path : List ℕ) (size : ℕ) (how : Reservation) (old new : Option Rooms) → Told (AtLevel l (OpensBy path size how)) old new → KeepsIn None old new
open_keeps l path size how None None h = tt
open_keeps l path size how None (Some e) h = absurd h
open_keeps l path size how (Some d) None h = absurd h
open_keeps l path size how (Some d) (Some e) h = opens_keep l d e h.1 path size how h.0

pub fill_keeps : (l : ℕ) (e : AddEntry) (more : List ℕ) (fills : Option Bool → Option Bool) (size : ℕ) (how : Filling) (old new : Option Rooms) → Told (AtLevel l (FillsBy e more fills how)) old new → KeepsIn (hand_at (Some e) l size) old new
fill_keeps l e more fills size how None None h = tt
fill_keeps l e more fills size how None (Some n) h = absurd h
fill_keeps l e more fills size how (Some d) None h = absurd h
fill_keeps l e more fills size how (Some d) (Some n) h = fills_keep l d n h.1 e more fills size how h.0

pub close_keeps : (l : ℕ) (e : AddEntry) (size : ℕ) (old new : Option Rooms) → Told (AtLevel l (ClosesEntry e.number)) old new → KeepsIn (hand_at (Some e) l size) old new
close_keeps l e size None None h = tt
close_keeps l e size None (Some n) h = absurd h
close_keeps l e size (Some d) None h = absurd h
close_keeps l e size (Some d) (Some n) h = closes_keep l d n h.1 e size h.0

-- what holds at each level holds where they are told
if_any : {P : Rooms → Type 0} (d : Option Rooms) → ((a : Rooms) → P a) → IfTold d P
if_any None all = tt
if_any (Some a) all = all a

pub open_hands : (l : ℕ) (key : List ℕ) (path : List ℕ) (size : ℕ) (e : AddEntry) (old new : Option Rooms) → Told (AtLevel l (OpensBy path size (Open e))) old new → HandsIn old (Reserved l key size Done) None (hand_at (Some e) l size)
open_hands l key path size e None None h = tt
open_hands l key path size e None (Some n) h = absurd h
open_hands l key path size e (Some d) None h = absurd h
open_hands l key path size e (Some d) (Some n) h = (refl, (e.number, refl, h.0.free))

pub refused_hands : (l : ℕ) (key : List ℕ) (size : ℕ) (c : Cause) (d : Option Rooms) → HandsIn d (Reserved l key size (Refused c)) None None
refused_hands l key size c d = if_any d (λ a. (refl, refl))

pub fill_hands : (l : ℕ) (key bytes : List ℕ) (mark : Bool) (e f : AddEntry) (d : Option Rooms) → f ≡ e → HandsIn d (Filled l key bytes mark Done) (hand_at (Some e) l (length bytes)) (hand_at (Some f) l (length bytes))
fill_hands l key bytes mark e f d same = if_any d (λ a. (e.number, refl, ap (λ (x : AddEntry). hand_at (Some x) l (length bytes)) same))

pub unfilled_hands : (l : ℕ) (key bytes : List ℕ) (mark : Bool) (c : Cause) (e : AddEntry) (d : Option Rooms) → HandsIn d (Filled l key bytes mark (Refused c)) (hand_at (Some e) l (length bytes)) None
unfilled_hands l key bytes mark c e d = if_any d (λ a. (e.number, refl, refl))

pub close_hands : (l : ℕ) (key bytes : List ℕ) (how : Written) (e : AddEntry) (d : Option Rooms) → HandsIn d (Committed l key bytes how) (hand_at (Some e) l (length bytes)) None
close_hands l key bytes how e d = if_any d (λ a. (e.number, refl, refl))

-- an entry that was opened is held, and is empty
pub opened_holds : (l : ℕ) (old new : Option Rooms) (e : AddEntry) (b : Bytes) → IsFor e b.key → Told (AtLevel l (OpensBy (entry_path b.key) (length b.bytes) (Open e))) old new → Holds new l e b [] None
opened_holds l None None e b is h = (is, tt)
opened_holds l None (Some n) e b is h = absurd h
opened_holds l (Some d) None e b is h = absurd h
opened_holds l (Some d) (Some n) e b is h = (is, record { bytes = []; entry = h.0.opened; told = λ told. refl })

filled_open : (s t : DiskStore) (e : AddEntry) (b : Bytes) → t.told ≡ s.told → IsOpenFor s e b [] None → FillsBy e b.bytes (filled_by b.run) (StillOpen e) s t → IsOpenFor t e b b.bytes (Some b.run)
filled_open s t e b same held h =
    let now = h.1.entry (record { path = entry_path b.key; size = length b.bytes; bytes = held.bytes; fills = None }) held.entry in
    record { bytes = now.0; entry = now.1; told = λ told. now.2 (sym same ∙ told) ∙ ap (λ f. f ++ b.bytes) (held.told (sym same ∙ told)) }

filled_holds : (l : ℕ) (old new : Option Rooms) (e : AddEntry) (b : Bytes) → Told (λ d n. (m : ℕ) → (n m).told ≡ (d m).told) old new → Holds old l e b [] None → Told (AtLevel l (FillsBy e b.bytes (filled_by b.run) (StillOpen e))) old new → Holds new l e b b.bytes (Some b.run)
filled_holds l None None e b same held h = (held.0, tt)
filled_holds l None (Some n) e b same held h = absurd h
filled_holds l (Some d) None e b same held h = absurd h
filled_holds l (Some d) (Some n) e b same held h = (held.0, filled_open (d l) (n l) e b (same l) held.1 h.0)

-- an entry that was filled is held, with its bytes
pub fills_hold : (l : ℕ) (old new : Option Rooms) (e f : AddEntry) (b : Bytes) → Told (λ d n. (m : ℕ) → (n m).told ≡ (d m).told) old new → Holds old l e b [] None → f ≡ e → Told (AtLevel l (FillsBy e b.bytes (filled_by b.run) (StillOpen f))) old new
    → Holds new l f b b.bytes (Some b.run)
fills_hold l old new e f b told held same h = subst (λ (x : AddEntry). Holds new l x b b.bytes (Some b.run)) (sym same)
    (filled_holds l old new e b told held (subst (λ (x : AddEntry). Told (AtLevel l (FillsBy e b.bytes (filled_by b.run) (StillOpen x))) old new) same h))

-- an event that opens, fills and closes no entry keeps each
pub still_keeps : (held : Option Hand) (old new : Option Rooms) → Told (λ d n. (l : ℕ) → SameRoom (d l) (n l)) old new → KeepsIn held old new
still_keeps held None None same = tt
still_keeps held None (Some n) same = absurd same
still_keeps held (Some d) None same = absurd same
still_keeps held (Some d) (Some n) same = λ l m o other at. (same l).1 m ∙ at

pub still_none : (x : What) → IsStill x → OpensNone x
still_none Idle still = tt
still_none (Passed a) still = absurd still
still_none (Taken a b) still = tt
still_none (Closed a) still = tt
still_none (Began a b) still = tt
still_none (Keyed a b d) still = tt
still_none (Asked a b d f g) still = tt
still_none (Placed a) still = tt
still_none TokenTaken still = tt
still_none (Ran a) still = tt
still_none (Dist a) still = tt
still_none (Outcome a b) still = tt
still_none (Reserved a b d f) still = absurd still
still_none (Filled a b d f g) still = absurd still
still_none (Committed a b d f) still = absurd still
still_none (Wrote a b d f g h) still = tt
still_none (WriteEnded a b) still = tt
still_none (Sent a) still = tt
still_none (TooLong a) still = tt

pub still_own : (x : What) → IsStill x → IsOwn x
still_own Idle still = tt
still_own (Passed a) still = absurd still
still_own (Taken a b) still = tt
still_own (Closed a) still = tt
still_own (Began a b) still = tt
still_own (Keyed a b d) still = tt
still_own (Asked a b d f g) still = tt
still_own (Placed a) still = tt
still_own TokenTaken still = tt
still_own (Ran a) still = tt
still_own (Dist a) still = tt
still_own (Outcome a b) still = tt
still_own (Reserved a b d f) still = absurd still
still_own (Filled a b d f g) still = absurd still
still_own (Committed a b d f) still = absurd still
still_own (Wrote a b d f g h) still = tt
still_own (WriteEnded a b) still = tt
still_own (Sent a) still = tt
still_own (TooLong a) still = tt

-- and none is held for it
still_by : (d : Rooms) (x : What) → IsStill x → HandsBy d x None None
still_by d Idle still = (refl, refl)
still_by d (Passed a) still = absurd still
still_by d (Taken a b) still = (refl, refl)
still_by d (Closed a) still = (refl, refl)
still_by d (Began a b) still = (refl, refl)
still_by d (Keyed a b f) still = (refl, refl)
still_by d (Asked a b f g h) still = (refl, refl)
still_by d (Placed a) still = (refl, refl)
still_by d TokenTaken still = (refl, refl)
still_by d (Ran a) still = (refl, refl)
still_by d (Dist a) still = (refl, refl)
still_by d (Outcome a b) still = (refl, refl)
still_by d (Reserved a b f g) still = absurd still
still_by d (Filled a b f g h) still = absurd still
still_by d (Committed a b f g) still = absurd still
still_by d (Wrote a b f g h i) still = (refl, refl)
still_by d (WriteEnded a b) still = (refl, refl)
still_by d (Sent a) still = (refl, refl)
still_by d (TooLong a) still = (refl, refl)

pub still_hands : (d : Option Rooms) (x : What) → IsStill x → HandsIn d x None None
still_hands d x still = if_any d (λ a. still_by a x still)

-- where no write goes on none is held
pub plain_serves : (k : Config) (d : Option Rooms) (p : Phase) (entry : Option AddEntry) (r : Request) → writes p ≡ false → ServesWith k d p entry r → Serves k p r × (entry ≡ None)
plain_serves k d AtBegin entry r plain serves = serves
plain_serves k d (AtSend a) entry r plain serves = serves
plain_serves k d (AtStarted a) entry r plain serves = serves
plain_serves k d (AtKey a b) entry r plain serves = serves
plain_serves k d (AtAsk a b) entry r plain serves = serves
plain_serves k d (AtPlace a b f) entry r plain serves = serves
plain_serves k d (AtDist a) entry r plain serves = serves
plain_serves k d (AtTake a) entry r plain serves = serves
plain_serves k d (AtRun a) entry r plain serves = serves
plain_serves k d (AtEnd a b f) entry r plain serves = serves
plain_serves k d (AtStore a b f g) entry r plain serves = serves
plain_serves k d (AtWrite a b f g) entry r plain serves = absurd (cc)
plain_serves k d (AtFill a b f g h) entry r plain serves = absurd (cc)
plain_serves k d (AtCommit a b f g h) entry r plain serves = absurd (cc)
plain_serves k d (AtFinish a b) entry r plain serves = serves
plain_serves k d (RawAsk a b) entry r plain serves = serves
plain_serves k d (PathAsk a) entry r plain serves = serves
plain_serves k d (PreAsk a b) entry r plain serves = serves
plain_serves k d (PrePut a b f) entry r plain serves = serves
plain_serves k d (SizeAsk a b f) entry r plain serves = serves
plain_serves k d (AtEnded a) entry r plain serves = serves
plain_serves k d AtOver entry r plain serves = serves

-- and where none is held a request stands so
pub stands_none : (k : Config) (d : Option Rooms) (p : Phase) (r : Request) → Stands k p r → StandsWith k d p None r
stands_none k d AtBegin r stands = (stands, refl)
stands_none k d (AtSend a) r stands = (stands, refl)
stands_none k d (AtStarted a) r stands = (stands, refl)
stands_none k d (AtKey a b) r stands = (stands, refl)
stands_none k d (AtAsk a b) r stands = (stands, refl)
stands_none k d (AtPlace a b f) r stands = (stands, refl)
stands_none k d (AtDist a) r stands = (stands, refl)
stands_none k d (AtTake a) r stands = (stands, refl)
stands_none k d (AtRun a) r stands = (stands, refl)
stands_none k d (AtEnd a b f) r stands = (stands, refl)
stands_none k d (AtStore a b f g) r stands = (stands, refl)
stands_none k d (AtWrite a b f g) r stands = (stands, refl)
stands_none k d (AtFill a b f g h) r stands = absurd stands
stands_none k d (AtCommit a b f g h) r stands = absurd stands
stands_none k d (AtFinish a b) r stands = (stands, refl)
stands_none k d (RawAsk a b) r stands = (stands, refl)
stands_none k d (PathAsk a) r stands = (stands, refl)
stands_none k d (PreAsk a b) r stands = (stands, refl)
stands_none k d (PrePut a b f) r stands = (stands, refl)
stands_none k d (SizeAsk a b f) r stands = (stands, refl)
stands_none k d (AtEnded a) r stands = (stands, refl)
stands_none k d AtOver r stands = (stands, refl)

pub acts_none : (k : Config) (d : Option Rooms) (r : Request) (p : Phase) (m : ℕ) (a : Acted) → Acts k r p m a → ActsWith k d r p m (record { what = a.what; phase = a.phase; entry = None })
acts_none k d r p m a acts = record { fits = acts.fits; then = acts.then; stands = stands_none k d a.phase r acts.stands; own = still_own a.what acts.still; there = acts.there }
