-- What stays of others where one owner's event moved the levels.
use Rattle.std.proofs.Common.{◌≡◌, ◌==◌, ℕ, zero, suc, ◌<◌, ◌≤◌, Bool, true, false, List, [], ◌∷◌, length, Option, Some, None, refl, ap, sym, subst, ◌∙◌, arith, eqb-true}
use Rattle.sc_daemon_action.specs.Hands.{hand_of}
use Rattle.sc_daemon.specs.Backlogs.{ArePending, AreNumbered, IsAtStage, IsPending, Write, hand_in, with_write, put_write, write_at}
use Rattle.sc_daemon.specs.Drives.{TiesWrites}
use Rattle.sc_daemon.specs.Standings.{Rests, RestsAt}
use Rattle.sc_daemon.specs.Ties.{IsThere, Owners, TiesHand, with_owner}
use Rattle.sc_daemon.proofs.Tying.{others_open, others_tie}
use Rattle.sc_disk.specs.Store.{AddEntry}
use Rattle.sc_store_disk.specs.DiskStores.{DiskStore, entry_at, entry_path}
use Rattle.sc_daemon_hold.specs.Holding.{Hand, HandsBy, IsHeld, IsOpenFor, KeepsHands, Rooms, hand_at}
use Rattle.sc_daemon_job.specs.Setups.{Config}
use Rattle.sc_model.specs.Follows.{bytes_in}
use Rattle.sc_model.specs.Trace.{Open, reserved_by, same_owner}
use Rattle.sc_model.specs.declared.event.Owner.{Owner}
use Rattle.sc_model.specs.declared.event.Owner.TheVariants.{Write as OfWrite}
use Rattle.sc_model.specs.declared.event.What.{What}
use Rattle.sc_model.specs.declared.message.Request.{Request}
use Rattle.sc_model.specs.declared.phase.Bytes.{Bytes}
use Rattle.sc_model.specs.declared.phase.Phase.{Phase}
use Rattle.sc_model.specs.declared.phase.Phase.TheVariants.{AtAsk, AtBegin, AtCommit, AtDist, AtEnd, AtEnded, AtFill, AtFinish, AtKey, AtOver, AtPlace, AtRun, AtSend, AtStarted, AtStore, AtTake, AtWrite, PathAsk, PreAsk, PrePut, RawAsk, SizeAsk}
use Rattle.sc_model.specs.declared.phase.Stage.{Stage}
use Rattle.sc_model.specs.declared.phase.Stage.TheVariants.{Filled as IsFilled, Fresh, Reserved as IsReserved}

holds_stays : (s t : DiskStore) (e : AddEntry) (b : Bytes) (f : List ℕ) (fills : Option Bool) (h : IsOpenFor s e b f fills) → t.told ≡ s.told → entry_at t.entries e.number ≡ Some (record { path = entry_path b.key; size = length b.bytes; bytes = h.bytes; fills = fills }) → IsOpenFor t e b f fills
holds_stays s t e b f fills h told there = record { bytes = h.bytes; entry = there; told = λ is. h.told (sym told ∙ is) }

-- a held entry is there
pub held_there : (d : Rooms) (l : ℕ) (entry : Option AddEntry) (b : Bytes) (f : List ℕ) (fills : Option Bool) → IsHeld (Some d) l entry b f fills → IsThere d (hand_at entry l (length b.bytes))
held_there d l None b f fills held = absurd held
held_there d l (Some e) b f fills held = (record { path = entry_path b.key; size = length b.bytes; bytes = held.1.bytes; fills = fills }, held.1.entry)

-- of two writes one has a lesser number than the other
different : (m n : ℕ) → m < n → (n == m) ≡ false
different m n lt = (elim (n == m) as (λ t. (n == m) ≡ t → t ≡ false) [
  | true ↦ λ e. let same : n ≡ m = eqb-true n m e in absurd (omega (arith, lt, same))
  | false ↦ λ e. refl
]) refl

differs : (m n : ℕ) → n < m → (n == m) ≡ false
differs m n lt = (elim (n == m) as (λ t. (n == m) ≡ t → t ≡ false) [
  | true ↦ λ e. let same : n ≡ m = eqb-true n m e in absurd (omega (arith, lt, same))
  | false ↦ λ e. refl
]) refl

pub later_number : (from below i : ℕ) (ws : List Write) (w : Write) → AreNumbered from below ws → write_at i ws ≡ Some w → from ≤ w.pending.number
later_number from below i [] w are at = absurd (cc)
later_number from below zero (v ∷ ws) w are at = let same : v ≡ w = cc in subst (λ (x : Write). from ≤ x.pending.number) same are.0
later_number from below (suc i) (v ∷ ws) w are at =
    let there : suc v.pending.number ≤ w.pending.number = later_number (suc v.pending.number) below i ws w are.2 at in
    let first : from ≤ v.pending.number = are.0 in
    omega (arith, there, first)

module _ (owns : Owners) (opens : List Open) (d d2 : Rooms) (o : Owner) (x : What) (h h2 : Option Hand) (by : HandsBy d x h h2) (keeps : KeepsHands h d d2) (ties : TiesHand owns opens d o h) (told : (l : ℕ) → (d2 l).told ≡ (d l).told) where
  pub tie : (p : Owner) (q : Option Hand) → same_owner o p ≡ false → TiesHand owns opens d p q → TiesHand (with_owner owns o h2) (reserved_by o x opens) d2 p q
  tie p q apart theirs = others_tie owns opens d d2 o p x h h2 q apart by keeps ties theirs

  held_stays : (p : Owner) (l : ℕ) (entry : Option AddEntry) (b : Bytes) (f : List ℕ) (fills : Option Bool) → same_owner o p ≡ false → TiesHand owns opens d p (hand_at entry l (length b.bytes)) → IsHeld (Some d) l entry b f fills → IsHeld (Some d2) l entry b f fills
  held_stays p l None b f fills apart theirs held = held
  held_stays p l (Some e) b f fills apart theirs held = (
    held.0,
    holds_stays (d l) (d2 l) e b f fills held.1 (told l)
        (others_open owns opens d d2 o p h (record { level = l; number = e.number; size = length b.bytes }) (record { path = entry_path b.key; size = length b.bytes; bytes = held.1.bytes; fills = fills }) apart keeps ties theirs held.1.entry),
  )

  rests_at : (k : Config) (p : Owner) (phase : Phase) (entry : Option AddEntry) (r : Request) → same_owner o p ≡ false → TiesHand owns opens d p (hand_of entry phase) → RestsAt k (Some d) phase entry r → RestsAt k (Some d2) phase entry r
  rests_at k p AtBegin entry r apart theirs rests = rests
  rests_at k p (AtSend a) entry r apart theirs rests = rests
  rests_at k p (AtStarted a) entry r apart theirs rests = rests
  rests_at k p (AtKey a b) entry r apart theirs rests = rests
  rests_at k p (AtAsk a b) entry r apart theirs rests = rests
  rests_at k p (AtPlace a b f) entry r apart theirs rests = rests
  rests_at k p (AtDist a) entry r apart theirs rests = rests
  rests_at k p (AtTake a) entry r apart theirs rests = rests
  rests_at k p (AtRun a) entry r apart theirs rests = rests
  rests_at k p (AtEnd a b f) entry r apart theirs rests = rests
  rests_at k p (AtStore a b f g) entry r apart theirs rests = rests
  rests_at k p (AtWrite a b f g) entry r apart theirs rests = rests
  rests_at k p (AtFill b l ls f e) None r apart theirs rests = absurd rests.1
  rests_at k p (AtFill b l ls f e) (Some entry) r apart theirs rests = (rests.0, held_stays p l (Some entry) b [] None apart theirs rests.1)
  rests_at k p (AtCommit b l ls f e) None r apart theirs rests = absurd rests.1
  rests_at k p (AtCommit b l ls f e) (Some entry) r apart theirs rests = (rests.0, held_stays p l (Some entry) b b.bytes (Some b.run) apart theirs rests.1)
  rests_at k p (AtFinish a b) entry r apart theirs rests = rests
  rests_at k p (RawAsk a b) entry r apart theirs rests = rests
  rests_at k p (PathAsk a) entry r apart theirs rests = rests
  rests_at k p (PreAsk a b) entry r apart theirs rests = rests
  rests_at k p (PrePut a b f) entry r apart theirs rests = rests
  rests_at k p (SizeAsk a b f) entry r apart theirs rests = rests
  rests_at k p (AtEnded a) entry r apart theirs rests = rests
  rests_at k p AtOver entry r apart theirs rests = rests

  -- where another connection's first request stands it can be gone on with still
  pub rests_stays : (k : Config) (p : Owner) (phase : Phase) (entry : Option AddEntry) (w : List Request) → same_owner o p ≡ false → TiesHand owns opens d p (hand_of entry phase) → Rests k (Some d) phase entry w → Rests k (Some d2) phase entry w
  rests_stays k p phase entry [] apart theirs rests = rests
  rests_stays k p phase entry (r ∷ w) apart theirs rests = rests_at k p phase entry r apart theirs rests

  stage_stays : (k : Config) (p : Owner) (stage : Stage) (entry : Option AddEntry) (l : ℕ) (b : Bytes) → same_owner o p ≡ false → TiesHand owns opens d p (hand_at entry l (length b.bytes)) → IsAtStage k (Some d) stage entry l b → IsAtStage k (Some d2) stage entry l b
  stage_stays k p Fresh entry l b apart theirs at = at
  stage_stays k p IsReserved entry l b apart theirs at = (at.0, held_stays p l entry b [] None apart theirs at.1)
  stage_stays k p IsFilled entry l b apart theirs at = (at.0, held_stays p l entry b b.bytes (Some b.run) apart theirs at.1)

  -- and so can another handed write
  pending_stays : (k : Config) (w : Write) → same_owner o (OfWrite w.pending.number) ≡ false → TiesHand owns opens d (OfWrite w.pending.number) (hand_in w) → IsPending k (Some d) w → IsPending k (Some d2) w
  pending_stays k w apart theirs at = (at.0, stage_stays k (OfWrite w.pending.number) w.pending.stage w.entry w.pending.handed.level (bytes_in w.pending.handed) apart theirs at.1)

  pub all_pending : (k : Config) (ws : List Write) → ((n : ℕ) → same_owner o (OfWrite n) ≡ false) → TiesWrites owns opens d ws → ArePending k (Some d) ws → ArePending k (Some d2) ws
  all_pending k [] apart theirs are = tt
  all_pending k (w ∷ ws) apart theirs are = (pending_stays k w (apart w.pending.number) theirs.0 are.0, all_pending k ws apart theirs.1 are.1)

  pub all_writes : (ws : List Write) → ((n : ℕ) → same_owner o (OfWrite n) ≡ false) → TiesWrites owns opens d ws → TiesWrites (with_owner owns o h2) (reserved_by o x opens) d2 ws
  all_writes [] apart theirs = tt
  all_writes (w ∷ ws) apart theirs = (tie (OfWrite w.pending.number) (hand_in w) (apart w.pending.number) theirs.0, all_writes ws apart theirs.1)

  -- The same where the owner is a handed write itself.
  module _ (n : ℕ) (mine : o ≡ OfWrite n) where
    apart_by : (m : ℕ) → (n == m) ≡ false → same_owner o (OfWrite m) ≡ false
    apart_by m e = ap (λ (p : Owner). same_owner p (OfWrite m)) mine ∙ e

    behind_pending : (k : Config) (from below : ℕ) (ws : List Write) → n < from → AreNumbered from below ws → TiesWrites owns opens d ws → ArePending k (Some d) ws → ArePending k (Some d2) ws
    behind_pending k from below [] lt numbers theirs are = tt
    behind_pending k from below (w ∷ ws) lt numbers theirs are =
        let first : from ≤ w.pending.number = numbers.0 in
        (pending_stays k w (apart_by w.pending.number (differs w.pending.number n (omega (arith, lt, first)))) theirs.0 are.0, behind_pending k (suc w.pending.number) below ws (omega (arith, lt, first)) numbers.2 theirs.1 are.1)

    behind_writes : (from below : ℕ) (ws : List Write) → n < from → AreNumbered from below ws → TiesWrites owns opens d ws → TiesWrites (with_owner owns o h2) (reserved_by o x opens) d2 ws
    behind_writes from below [] lt numbers theirs = tt
    behind_writes from below (w ∷ ws) lt numbers theirs =
        let first : from ≤ w.pending.number = numbers.0 in
        (tie (OfWrite w.pending.number) (hand_in w) (apart_by w.pending.number (differs w.pending.number n (omega (arith, lt, first)))) theirs.0, behind_writes (suc w.pending.number) below ws (omega (arith, lt, first)) numbers.2 theirs.1)

    put_pending : (k : Config) (done : Bool) (now : Write) (ws : List Write) → (done ≡ false → IsPending k (Some d2) now) → ArePending k (Some d2) ws → ArePending k (Some d2) (put_write done now ws)
    put_pending k true now ws stands are = are
    put_pending k false now ws stands are = (stands refl, are)

    put_writes : (done : Bool) (now : Write) (ws : List Write) → (done ≡ false → TiesHand (with_owner owns o h2) (reserved_by o x opens) d2 (OfWrite now.pending.number) (hand_in now)) → TiesWrites (with_owner owns o h2) (reserved_by o x opens) d2 ws
        → TiesWrites (with_owner owns o h2) (reserved_by o x opens) d2 (put_write done now ws)
    put_writes true now ws own are = are
    put_writes false now ws own are = (own refl, are)

    pub back_pending : (k : Config) (from below i : ℕ) (done : Bool) (w now : Write) (ws : List Write) → write_at i ws ≡ Some w → w.pending.number ≡ n → (done ≡ false → IsPending k (Some d2) now) → AreNumbered from below ws → TiesWrites owns opens d ws → ArePending k (Some d) ws
        → ArePending k (Some d2) (with_write i done now ws)
    back_pending k from below i done w now [] at is stands numbers theirs are = tt
    back_pending k from below zero done w now (v ∷ ws) at is stands numbers theirs are =
        let same : v ≡ w = cc in
        let number : v.pending.number ≡ n = ap (λ (y : Write). y.pending.number) same ∙ is in
        put_pending k done now ws stands (behind_pending k (suc v.pending.number) below ws (omega (arith, number)) numbers.2 theirs.1 are.1)
    back_pending k from below (suc i) done w now (v ∷ ws) at is stands numbers theirs are =
        let later : suc v.pending.number ≤ w.pending.number = later_number (suc v.pending.number) below i ws w numbers.2 at in (
          pending_stays k v (apart_by v.pending.number (different v.pending.number n (omega (arith, later, is)))) theirs.0 are.0,
          back_pending k (suc v.pending.number) below i done w now ws at is stands numbers.2 theirs.1 are.1,
        )

    pub back_writes : (from below i : ℕ) (done : Bool) (w now : Write) (ws : List Write) → write_at i ws ≡ Some w → w.pending.number ≡ n → (done ≡ false → TiesHand (with_owner owns o h2) (reserved_by o x opens) d2 (OfWrite now.pending.number) (hand_in now)) → AreNumbered from below ws → TiesWrites owns opens d ws
        → TiesWrites (with_owner owns o h2) (reserved_by o x opens) d2 (with_write i done now ws)
    back_writes from below i done w now [] at is own numbers theirs = tt
    back_writes from below zero done w now (v ∷ ws) at is own numbers theirs =
        let same : v ≡ w = cc in
        let number : v.pending.number ≡ n = ap (λ (y : Write). y.pending.number) same ∙ is in
        put_writes done now ws own (behind_writes (suc v.pending.number) below ws (omega (arith, number)) numbers.2 theirs.1)
    back_writes from below (suc i) done w now (v ∷ ws) at is own numbers theirs =
        let later : suc v.pending.number ≤ w.pending.number = later_number (suc v.pending.number) below i ws w numbers.2 at in (
          tie (OfWrite v.pending.number) (hand_in v) (apart_by v.pending.number (different v.pending.number n (omega (arith, later, is)))) theirs.0,
          back_writes (suc v.pending.number) below i done w now ws at is own numbers.2 theirs.1,
        )
