-- One event of a handed write.
use Rattle.std.proofs.Common.{◌≡◌, ℕ, ◌<◌, true, false, [], length, Option, Some, None, refl, ap, sym, subst, ◌∙◌}
use Rattle.sc_daemon_action.proofs.Holding.{still_keeps}
use Rattle.sc_daemon_action.specs.Hands.{IsOwn}
use Rattle.sc_daemon.specs.Backlogs.{Advances, Goes, IsAtStage, IsPending, Write, hand_in, stepped}
use Rattle.sc_disk.specs.Store.{AddEntry}
use Rattle.sc_entry.specs.Causes.{IfTold, Told}
use Rattle.sc_daemon_hold.specs.Holding.{Hand, HandsIn, HeldBy, Holds, IsHeld, KeepsIn, Rooms, SameRoom, hand_at}
use Rattle.sc_daemon_job.specs.Setups.{Config, setup}
use Rattle.sc_model.specs.Dues.{ToCommit, ToFill, ToReserve, ToWrite, kind_at}
use Rattle.sc_model.specs.Follows.{Fits, bytes_in}
use Rattle.sc_model.specs.Conns.{reserved_after}
use Rattle.sc_model.specs.Pendings.{due_pending, due_stage, stage_after}
use Rattle.sc_model.specs.Trace.{ends_write, no_request}
use Rattle.sc_model.specs.declared.event.Mode.TheVariants.{Whole}
use Rattle.sc_model.specs.declared.event.What.{What}
use Rattle.sc_model.specs.declared.event.What.TheVariants.{Committed, Filled, Reserved, Wrote}
use Rattle.sc_model.specs.declared.event.Written.{Written}
use Rattle.sc_model.specs.declared.event.Written.TheVariants.{Done, Refused}
use Rattle.sc_model.specs.declared.level.LevelKind.{LevelKind}
use Rattle.sc_model.specs.declared.level.LevelKind.TheVariants.{Disk, Remote}
use Rattle.sc_model.specs.declared.phase.Bytes.{Bytes}
use Rattle.sc_model.specs.declared.phase.Pending.{Pending}
use Rattle.sc_model.specs.declared.phase.Stage.{Stage}
use Rattle.sc_model.specs.declared.phase.Stage.TheVariants.{Filled as IsFilled, Fresh, Reserved as IsReserved}

not_false : true ≡ false → ⊥
not_false e = absurd (cc)

-- what holds at each level holds where they are told
if_any : {P : Rooms → Type 0} (d : Option Rooms) → ((a : Rooms) → P a) → IfTold d P
if_any None all = tt
if_any (Some a) all = all a

opened_stage : (k : Config) (d : Option Rooms) (st : Stage) (l : ℕ) (b : Bytes) (e : Option AddEntry) (w : Written) → kind_at k.levels l ≡ Disk → HeldBy w d l e b [] None → ends_write (Reserved l b.key (length b.bytes) w) ≡ false
    → IsAtStage k d (stage_after st (Reserved l b.key (length b.bytes) w)) e l b
opened_stage k d st l b e Done disk held goes = (disk, held)
opened_stage k d st l b e (Refused c) disk held goes = absurd (cc)

filled_stage : (k : Config) (d : Option Rooms) (st : Stage) (l : ℕ) (b : Bytes) (e : Option AddEntry) (w : Written) → kind_at k.levels l ≡ Disk → HeldBy w d l e b b.bytes (Some b.run) → ends_write (Filled l b.key b.bytes b.run w) ≡ false
    → IsAtStage k d (stage_after st (Filled l b.key b.bytes b.run w)) e l b
filled_stage k d st l b e Done disk held goes = (disk, held)
filled_stage k d st l b e (Refused c) disk held goes = absurd (cc)

fits_at : (k : Config) (was : Write) (x : What) (st : Stage) (kind : LevelKind) → was.pending.stage ≡ st → kind_at k.levels was.pending.handed.level ≡ kind
    → Fits (setup k) no_request (due_stage st kind was.pending.handed.level (bytes_in was.pending.handed)) x → Fits (setup k) no_request (due_pending k.levels was.pending) x
fits_at k was x st kind at is fits =
    let l = was.pending.handed.level in
    let b = bytes_in was.pending.handed in
    subst (λ (s : Stage). Fits (setup k) no_request (due_stage s (kind_at k.levels l) l b) x) (sym at)
    (subst (λ (c : LevelKind). Fits (setup k) no_request (due_stage st c l b) x) (sym is) fits)

-- an event with the entry that is held before it, and the one that is held after it
goes_with : (k : Config) (d d2 : Option Rooms) (was old new : Write) (x : What) (e : Option AddEntry) (h : Option Hand) → was ≡ old → new.pending ≡ was.pending → new.entry ≡ e → hand_in was ≡ h
    → Fits (setup k) no_request (due_pending k.levels was.pending) x → IsOwn x → (ends_write x ≡ false → IsAtStage k d2 (stage_after was.pending.stage x) e was.pending.handed.level (bytes_in was.pending.handed))
    → HandsIn d x h (hand_at e was.pending.handed.level (length was.pending.handed.bytes)) → KeepsIn h d d2 → Goes k d d2 x old new
goes_with k d d2 was old new x e h is same entry held fits own stands hands others = subst (λ (w : Write). Goes k d d2 x w new) is record {
  fits = fits;
  pending = same;
  own = own;
  stands = λ goes. subst (λ (o : Option AddEntry). IsAtStage k d2 (stage_after was.pending.stage x) o was.pending.handed.level (bytes_in was.pending.handed)) (sym entry) (stands goes);
  hands =
      let now : hand_in new ≡ hand_at e was.pending.handed.level (length was.pending.handed.bytes) = λ i. hand_at (entry i) (same i).handed.level (length (same i).handed.bytes) in
      subst (λ (o : Option Hand). HandsIn d x o (hand_in new)) (sym held) (subst (λ (o : Option Hand). HandsIn d x h o) (sym now) hands);
  others = subst (λ (o : Option Hand). KeepsIn o d d2) (sym held) others;
}

-- a fresh write holds no entry
fresh_hand : (k : Config) (d : Option Rooms) (w : Write) → IsPending k d w → w.pending.stage ≡ Fresh → hand_in w ≡ None
fresh_hand k d w pending fresh =
    let l = w.pending.handed.level in
    let none : w.entry ≡ None = subst (λ (s : Stage). IsAtStage k d s w.entry l (bytes_in w.pending.handed)) fresh pending.1 in
    ap (λ (o : Option AddEntry). hand_at o l (length w.pending.handed.bytes)) none

some_hand : (w : Write) (e : AddEntry) → w.entry ≡ Some e → hand_in w ≡ hand_at (Some e) w.pending.handed.level (length w.pending.handed.bytes)
some_hand w e is = ap (λ (o : Option AddEntry). hand_at o w.pending.handed.level (length w.pending.handed.bytes)) is

-- an entry was opened, or not
pub opens : (k : Config) (d d2 : Option Rooms) (was old new : Write) (x : What) (e : Option AddEntry) (w : Written) → was ≡ old → IsPending k d old → old.pending.stage ≡ Fresh → kind_at k.levels old.pending.handed.level ≡ Disk
    → x ≡ Reserved was.pending.handed.level was.pending.handed.key (length was.pending.handed.bytes) w → HeldBy w d2 was.pending.handed.level e (bytes_in was.pending.handed) [] None
    → HandsIn d x None (hand_at e was.pending.handed.level (length was.pending.handed.bytes)) → KeepsIn None d d2 → new.pending ≡ was.pending → new.entry ≡ e → Goes k d d2 x old new
opens k d d2 was old new x e w is pending fresh disk event held hands others same entry =
    let l = was.pending.handed.level in
    let b = bytes_in was.pending.handed in
    let at : was.pending.stage ≡ Fresh = subst (λ (v : Write). v.pending.stage ≡ Fresh) (sym is) fresh in
    let kind : kind_at k.levels l ≡ Disk = subst (λ (v : Write). kind_at k.levels v.pending.handed.level ≡ Disk) (sym is) disk in
    goes_with k d d2 was old new x e None is same entry (fresh_hand k d was (subst (IsPending k d) (sym is) pending) at)
    (fits_at k was x Fresh Disk at kind (subst (λ (y : What). Fits (setup k) no_request (ToReserve l b) y) (sym event) (refl, refl, refl)))
    (subst IsOwn (sym event) tt)
    (subst (λ (y : What). ends_write y ≡ false → IsAtStage k d2 (stage_after was.pending.stage y) e l b) (sym event) (opened_stage k d2 was.pending.stage l b e w kind held))
    hands others

-- the entry that it holds is open at its level, a disk one
pub disk_of_stage : (k : Config) (d : Option Rooms) (w : Write) → IsPending k d w → w.pending.stage ≡ IsReserved → kind_at k.levels w.pending.handed.level ≡ Disk
disk_of_stage k d w pending at = (subst (λ (s : Stage). IsAtStage k d s w.entry w.pending.handed.level (bytes_in w.pending.handed)) at pending.1).0

pub disk_of_filled : (k : Config) (d : Option Rooms) (w : Write) → IsPending k d w → w.pending.stage ≡ IsFilled → kind_at k.levels w.pending.handed.level ≡ Disk
disk_of_filled k d w pending at = (subst (λ (s : Stage). IsAtStage k d s w.entry w.pending.handed.level (bytes_in w.pending.handed)) at pending.1).0

-- the entry that it holds, as it was opened
pub reserved_holds : (k : Config) (d : Option Rooms) (was old : Write) (h : AddEntry) → was ≡ old → IsPending k d old → old.pending.stage ≡ IsReserved → was.entry ≡ Some h → Holds d was.pending.handed.level h (bytes_in was.pending.handed) [] None
reserved_holds k d was old h is pending stage some =
    let l = was.pending.handed.level in
    let b = bytes_in was.pending.handed in
    let at : was.pending.stage ≡ IsReserved = subst (λ (v : Write). v.pending.stage ≡ IsReserved) (sym is) stage in
    let here = subst (IsPending k d) (sym is) pending in
    subst (λ (e : Option AddEntry). IsHeld d l e b [] None) some (subst (λ (s : Stage). IsAtStage k d s was.entry l b) at here.1).1

-- and as it was filled
pub filled_holds : (k : Config) (d : Option Rooms) (was old : Write) (h : AddEntry) → was ≡ old → IsPending k d old → old.pending.stage ≡ IsFilled → was.entry ≡ Some h
    → Holds d was.pending.handed.level h (bytes_in was.pending.handed) was.pending.handed.bytes (Some was.pending.handed.marked)
filled_holds k d was old h is pending stage some =
    let l = was.pending.handed.level in
    let b = bytes_in was.pending.handed in
    let at : was.pending.stage ≡ IsFilled = subst (λ (v : Write). v.pending.stage ≡ IsFilled) (sym is) stage in
    let here = subst (IsPending k d) (sym is) pending in
    subst (λ (e : Option AddEntry). IsHeld d l e b b.bytes (Some b.run)) some (subst (λ (s : Stage). IsAtStage k d s was.entry l b) at here.1).1

-- an entry was filled, or not
pub fills : (k : Config) (d d2 : Option Rooms) (was old new : Write) (x : What) (e : Option AddEntry) (h : AddEntry) (w : Written) → was ≡ old → IsPending k d old → old.pending.stage ≡ IsReserved → was.entry ≡ Some h
    → x ≡ Filled was.pending.handed.level was.pending.handed.key was.pending.handed.bytes was.pending.handed.marked w → HeldBy w d2 was.pending.handed.level e (bytes_in was.pending.handed) was.pending.handed.bytes (Some was.pending.handed.marked)
    → HandsIn d x (hand_at (Some h) was.pending.handed.level (length was.pending.handed.bytes)) (hand_at e was.pending.handed.level (length was.pending.handed.bytes))
    → KeepsIn (hand_at (Some h) was.pending.handed.level (length was.pending.handed.bytes)) d d2 → new.pending ≡ was.pending → new.entry ≡ e → Goes k d d2 x old new
fills k d d2 was old new x e h w is pending reserved some event held hands others same entry =
    let l = was.pending.handed.level in
    let b = bytes_in was.pending.handed in
    let at : was.pending.stage ≡ IsReserved = subst (λ (v : Write). v.pending.stage ≡ IsReserved) (sym is) reserved in
    let kind : kind_at k.levels l ≡ Disk = disk_of_stage k d was (subst (IsPending k d) (sym is) pending) at in
    goes_with k d d2 was old new x e (hand_at (Some h) l (length b.bytes)) is same entry (some_hand was h some)
    (fits_at k was x IsReserved Disk at kind (subst (λ (y : What). Fits (setup k) no_request (ToFill l b) y) (sym event) (refl, refl, refl, refl)))
    (subst IsOwn (sym event) tt)
    (subst (λ (y : What). ends_write y ≡ false → IsAtStage k d2 (stage_after was.pending.stage y) e l b) (sym event) (filled_stage k d2 was.pending.stage l b e w kind held))
    hands others

-- an entry was committed, or not
pub commits : (k : Config) (d d2 : Option Rooms) (was old new : Write) (x : What) (h : AddEntry) (w : Written) → was ≡ old → IsPending k d old → old.pending.stage ≡ IsFilled → was.entry ≡ Some h
    → x ≡ Committed was.pending.handed.level was.pending.handed.key was.pending.handed.bytes w → HandsIn d x (hand_at (Some h) was.pending.handed.level (length was.pending.handed.bytes)) None
    → KeepsIn (hand_at (Some h) was.pending.handed.level (length was.pending.handed.bytes)) d d2 → new.pending ≡ was.pending → new.entry ≡ None → Goes k d d2 x old new
commits k d d2 was old new x h w is pending filled some event hands others same entry =
    let l = was.pending.handed.level in
    let b = bytes_in was.pending.handed in
    let at : was.pending.stage ≡ IsFilled = subst (λ (v : Write). v.pending.stage ≡ IsFilled) (sym is) filled in
    let kind : kind_at k.levels l ≡ Disk = disk_of_filled k d was (subst (IsPending k d) (sym is) pending) at in
    goes_with k d d2 was old new x None (hand_at (Some h) l (length b.bytes)) is same entry (some_hand was h some)
    (fits_at k was x IsFilled Disk at kind (subst (λ (y : What). Fits (setup k) no_request (ToCommit l b) y) (sym event) (refl, refl, refl)))
    (subst IsOwn (sym event) tt)
    (subst (λ (y : What). ends_write y ≡ false → IsAtStage k d2 (stage_after was.pending.stage y) None l b) (sym event) (λ goes. absurd (not_false goes)))
    hands others

-- it was written at a remote level
pub puts : (k : Config) (d d2 : Option Rooms) (was old new : Write) (x : What) (w : Written) → was ≡ old → IsPending k d old → old.pending.stage ≡ Fresh → kind_at k.levels old.pending.handed.level ≡ Remote
    → x ≡ Wrote was.pending.handed.level was.pending.handed.key was.pending.handed.bytes Whole was.pending.handed.marked w → Told (λ a b. (l : ℕ) → SameRoom (a l) (b l)) d d2 → new ≡ old → Goes k d d2 x old new
puts k d d2 was old new x w is pending fresh remote event rooms same =
    let l = was.pending.handed.level in
    let b = bytes_in was.pending.handed in
    let at : was.pending.stage ≡ Fresh = subst (λ (v : Write). v.pending.stage ≡ Fresh) (sym is) fresh in
    let kind : kind_at k.levels l ≡ Remote = subst (λ (v : Write). kind_at k.levels v.pending.handed.level ≡ Remote) (sym is) remote in
    let was_pending = subst (IsPending k d) (sym is) pending in
    let none : was.entry ≡ None = subst (λ (s : Stage). IsAtStage k d s was.entry l b) at was_pending.1 in
    let back : new ≡ was = same ∙ sym is in
    goes_with k d d2 was old new x None None is (ap (λ (v : Write). v.pending) back) (ap (λ (v : Write). v.entry) back ∙ none) (fresh_hand k d was was_pending at)
    (fits_at k was x Fresh Remote at kind (subst (λ (y : What). Fits (setup k) no_request (ToWrite Whole l b) y) (sym event) (refl, refl, refl, refl, refl)))
    (subst IsOwn (sym event) tt)
    (subst (λ (y : What). ends_write y ≡ false → IsAtStage k d2 (stage_after was.pending.stage y) None l b) (sym event) (λ goes. absurd (not_false goes)))
    (subst (λ (y : What). HandsIn d y None None) (sym event) (if_any d (λ a. (refl, refl))))
    (still_keeps None d d2 rooms)

-- what is kept of it
stepped_by : (p : Pending) (m now : ℕ) (x : What) (st : Stage) (since : ℕ) → now ≡ m → st ≡ stage_after p.stage x → since ≡ reserved_after p.since now x → ◌≡◌ {A = Pending} (record p { stage = st; since = since }) (stepped m x p)
stepped_by p m now x st since is at moment =
    let then : since ≡ reserved_after p.since m x = moment ∙ ap (λ n. reserved_after p.since n x) is in
    λ i. record p { stage = at i; since = then i }

pub stepped_view : (was mid : Write) (m now : ℕ) (x : What) (st : Stage) (since : ℕ) → was ≡ mid → now ≡ m → st ≡ stage_after was.pending.stage x → since ≡ reserved_after was.pending.since now x → ◌≡◌ {A = Pending} (record was.pending { stage = st; since = since }) (stepped m x mid.pending)
stepped_view was mid m now x st since same is at moment = stepped_by was.pending m now x st since is at moment ∙ ap (λ (w : Write). stepped m x w.pending) same

pub advanced_by : (k : Config) (m : ℕ) (d d2 : Option Rooms) (x : What) (old mid new : Write) → IsPending k d old → Goes k d d2 x old mid → new.pending ≡ stepped m x mid.pending → new.entry ≡ mid.entry → Advances k m d d2 x old new
advanced_by k m d d2 x old mid new pending goes is entry =
    let then : new.pending ≡ stepped m x old.pending = is ∙ ap (stepped m x) goes.pending in
    record {
      fits = goes.fits;
      pending = then;
      own = goes.own;
      stands = λ left.
          subst (λ (p : Pending). (p.handed.level < length k.levels) × IsAtStage k d2 p.stage new.entry p.handed.level (bytes_in p.handed)) (sym then)
          (pending.0, subst (λ (o : Option AddEntry). IsAtStage k d2 (stage_after old.pending.stage x) o old.pending.handed.level (bytes_in old.pending.handed)) (sym entry) (goes.stands left));
      hands =
          let now : hand_in new ≡ hand_in mid = λ i. hand_at (entry i) (is i).handed.level (length (is i).handed.bytes) in
          subst (λ (h : Option Hand). HandsIn d x (hand_in old) h) (sym now) goes.hands;
      others = goes.others;
    }
