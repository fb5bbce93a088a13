-- Commits of entries that were filled with no more than they declared.
use Rattle.std.proofs.Common.{◌≡◌, inl, inr, ℕ, zero, suc, ◌+◌, ◌-◌, ◌^◌, ◌<◌, ◌≤◌, max, Bool, true, false, cond, is_some, ◌&&◌, bytes_eq, option_map, List, [], ◌∷◌, ◌++◌, drop, length, Option, Some, None, refl, sym, ap, ◌∙◌, subst, arith}
use Rattle.std.specs.List.{IsDistinct}
use Rattle.std.specs.Map.{keys_of}
use Rattle.std.specs.Option.{option_map_or}
use Rattle.slab.specs.Slab.{get}
use Rattle.sc_entry.specs.Causes.{IfTold, Rose}
use Rattle.sc_entry.specs.declared.cache_mode.CacheMode.{CacheMode}
use Rattle.sc_lru.specs.LruCache.{total}
use Rattle.sc_disk.proofs.Temporaries.{apart-back, temporary_is}
use mathlib.Core.Bool.{beq}
use Rattle.sc_disk.proofs.Files.{self_path}
use Rattle.sc_disk.specs.Calls.{CommitCause, Commits, NeededFor, RefusesCommit, removed_by, touched_by}
use Rattle.sc_disk.specs.Disks.{DiskFiles, DiskRecord, Does, IsSize, did_all, disk_file_at, files_now, replay}
use Rattle.sc_disk.specs.Names.{is_temporary_path, temporary}
use Rattle.sc_disk.specs.Sound.{IsSound}
use Rattle.sc_disk.specs.Store.{AddEntry, AreKeys, Closed, HasFiles, IsOpen, Needed, is_open, is_open_slot, Store, declared_at, filed, firsts, gone, indexed, others, reserved, size_of as measure, temporary_of}
use Rattle.sc_disk.specs.declared.change.Change.{Change}
use Rattle.sc_disk.specs.declared.change.Change.TheVariants.{Touched, Moved}
use Rattle.sc_disk.specs.declared.disk_file.DiskFile.{DiskFile}
use Rattle.sc_disk.specs.declared.error.Error.{Error}
use Rattle.sc_disk.specs.declared.error.Error.TheVariants.{FileTooLarge, Io, Reserved}
use Rattle.sc_disk.specs.declared.pending.Pending.{Pending}
use Rattle.sc_model.specs.Asking.{same_maps}
use Rattle.sc_model.specs.Levels.{put_file}
use Rattle.sc_model.specs.declared.event.Written.TheVariants.{Done as WriteDone, Refused as WriteRefused}
use Rattle.sc_model.specs.declared.level.Cause.TheVariants.{FileTooLarge as ForSize, Io as ForIo, Reserved as ForRoom}
use Rattle.sc_disk_pair.specs.Parts.{in_part}
use Rattle.sc_disk_pair.specs.Twos.{TwoState}
use Rattle.sc_disk_pair.specs.declared.pair_cache.PairCache.{PairCache}
use Rattle.sc_disk_pair.specs.declared.part.Part.TheVariants.{Main, Pre}
use Rattle.sc_store_disk.specs.DiskStores.{OpenEntry, bytes_or, entries_of, entry_at, level_of, open_entry, opened_store, store_of, told_files}
use Rattle.sc_store_disk.specs.Entries.{ClosesEntry, CommitCause as RefusedCommit, CommitsEntry, CommitsNothing, IsMeasured, IsOpenAt}
use Rattle.sc_store_disk.specs.Marks.{mark_of}
use Rattle.sc_store_disk.specs.Shown.{Index, bytes_at, files_of, shown}
use Rattle.sc_store_disk.proofs.Closings.{AtOnly, apart-from, closes, entry-is, hidden-maps, lookup-filed, none-gone, only-away, only-hidden, shown-committed, temporary-stands}
use Rattle.sc_store_disk.proofs.Finding.{find-files, find-put, same_map_files}
use Rattle.sc_store_disk.proofs.Rooms.{entry-of}
use Rattle.sc_store_disk.proofs.Steadying.{files-did}

-- At every path what was shown is shown, but at the key's.
pub shown_at : (f g : DiskFiles) (es : Index) (t k b : List ℕ) (r now : ℕ) (q : List ℕ) → g ≡ replay f (Moved t k ∷ Touched t now ∷ []) → IsDistinct bytes_eq (keys_of es) → AreKeys es → is_temporary_path t ≡ true → is_temporary_path k ≡ false → bytes_at f t ≡ Some b
    → (s : Bool) → is_temporary_path q ≡ s → shown (filed k r es) g q ≡ cond (bytes_eq q k) (Some b) (shown es f q)
shown_at f g es t k b r now q e d keys temporary_t plain_k is true hidden =
    let off = apart-back q k hidden plain_k in
    ap (λ o. cond (is_some o) (bytes_at g q) None) (lookup-filed q k r es d false off ∙ keys q hidden)
    ∙ sym (ap (λ s. cond s (Some b) (shown es f q)) off ∙ ap (λ o. cond (is_some o) (bytes_at f q) None) (keys q hidden))
shown_at f g es t k b r now q e d keys temporary_t plain_k is false plain = shown-committed f g es t k b r now q e d keys temporary_t plain_k is plain

pub main_put : (f g : DiskFiles) (es : Index) (t p b : List ℕ) (r now : ℕ) → g ≡ replay f (Moved t (in_part Main p) ∷ Touched t now ∷ []) → IsDistinct bytes_eq (keys_of es) → AreKeys es → is_temporary_path t ≡ true → is_temporary_path (in_part Main p) ≡ false
    → bytes_at f t ≡ Some b → files_of Main (filed (in_part Main p) r es) g ≡ put_file (files_of Main es f) p b
main_put f g es t p b r now e d keys hidden plain is = same_map_files (files_of Main (filed (in_part Main p) r es) g) (put_file (files_of Main es f) p b) (λ q.
    find-files Main (filed (in_part Main p) r es) g q ∙ shown_at f g es t (in_part Main p) b r now (in_part Main q) e d keys hidden plain is (is_temporary_path (in_part Main q)) refl
    ∙ sym (find-put (files_of Main es f) p b q ∙ ap (cond (bytes_eq q p) (Some b)) (find-files Main es f q)))

pub pre_stays : (f g : DiskFiles) (es : Index) (t p b : List ℕ) (r now : ℕ) → g ≡ replay f (Moved t (in_part Main p) ∷ Touched t now ∷ []) → IsDistinct bytes_eq (keys_of es) → AreKeys es → is_temporary_path t ≡ true → is_temporary_path (in_part Main p) ≡ false
    → bytes_at f t ≡ Some b → files_of Pre (filed (in_part Main p) r es) g ≡ files_of Pre es f
pre_stays f g es t p b r now e d keys hidden plain is = same_map_files (files_of Pre (filed (in_part Main p) r es) g) (files_of Pre es f) (λ q.
    find-files Pre (filed (in_part Main p) r es) g q ∙ shown_at f g es t (in_part Main p) b r now (in_part Pre q) e d keys hidden plain is (is_temporary_path (in_part Pre q)) refl ∙ sym (find-files Pre es f q))

-- what an open entry keeps
pub plain-key : (s : Store) (e : AddEntry) → IsSound s → IsOpen s e → is_temporary_path e.key ≡ false
plain-key s e sound o = ap is_temporary_path (sym o.2) ∙ sound.opened e.number o.0 o.1

pub declared-is : (s : Store) (e : AddEntry) (o : IsOpen s e) → declared_at s e.number ≡ o.0.size
declared-is s e o = ap (λ x. option_map_or (λ (y : Pending). y.size) x 0) o.1

measured : (x : Option DiskFile) (r : ℕ) (b : List ℕ) → option_map (λ (file : DiskFile). length file.bytes) x ≡ Some r → option_map (λ (file : DiskFile). file.bytes) x ≡ Some b → r ≡ length b
measured None r b h k = cc
measured (Some x) r b h k = let size : length x.bytes ≡ r = same_number (length x.bytes) r h in sym size ∙ ap length (same_bytes x.bytes b k)
  where
    same_number : (m n : ℕ) → Some m ≡ Some n → m ≡ n
    same_number m n e = cc

    same_bytes : (a c : List ℕ) → Some a ≡ Some c → a ≡ c
    same_bytes a c e = cc

pub measured_told : (s : Store) (o : Option DiskRecord) (r : DiskRecord) (t b : List ℕ) (n : ℕ) → o ≡ Some r → IfTold o (λ x. option_map (λ (file : DiskFile). length file.bytes) (disk_file_at (files_now x) t) ≡ Some n) → bytes_at (files_now r) t ≡ Some b → n ≡ length b
measured_told s o r t b n told h is = measured (disk_file_at (files_now r) t) n b (subst (λ (x : Option DiskRecord). IfTold x (λ y. option_map (λ (file : DiskFile). length file.bytes) (disk_file_at (files_now y) t) ≡ Some n)) told h) is

-- what an entry was filled with, where the disk tells
pub filled : (s : Store) (r : DiskRecord) (e : AddEntry) (o : IsOpen s e) → s.disk.told ≡ Some r → IsSound s → (b : List ℕ) × (bytes_at (files_now r) (temporary_of e) ≡ Some b)
filled s r e o told sound = temporary-stands s r e o (subst (λ (x : Option DiskRecord). IfTold x (λ y. HasFiles s.disk.divided s.index s.pending.slots (files_now y))) told sound.files)

pub entry-bytes : (s : Store) (r : DiskRecord) (e : AddEntry) (o : IsOpen s e) (b : List ℕ) (x : OpenEntry) → s.disk.told ≡ Some r → bytes_at (files_now r) (temporary_of e) ≡ Some b → entry_at (entries_of s) e.number ≡ Some x → (x.path ≡ e.key) × (x.size ≡ o.0.size) × (x.bytes ≡ b) × (x.fills ≡ None)
entry-bytes s r e o b x told is h =
    let was = same_entry (record { path = e.key; size = o.0.size; bytes = bytes_or (bytes_at (told_files s.disk.told) (temporary_of e)); fills = None }) x (sym (entry-is s e o) ∙ h) in
    (ap (λ (y : OpenEntry). y.path) (sym was), ap (λ (y : OpenEntry). y.size) (sym was), ap (λ (y : OpenEntry). y.bytes) (sym was) ∙ ap (λ u. bytes_or (bytes_at (told_files u) (temporary_of e))) told ∙ ap bytes_or is, ap (λ (y : OpenEntry). y.fills) (sym was))
  where
    same_entry : (y z : OpenEntry) → Some y ≡ Some z → y ≡ z
    same_entry y z k = cc

none_dropped : (es : Index) → drop 0 es ≡ es
none_dropped [] = refl
none_dropped (e ∷ es) = refl

-- the maps of a store whose entry was committed
pub commit-puts : (old new : Store) (r : DiskRecord) (e : AddEntry) (p : List ℕ) (x : OpenEntry) (size now n : ℕ) (o : IsOpen old e) → old.disk.told ≡ Some r → IsSound old → IsDistinct bytes_eq (keys_of old.index) → entry_at (entries_of old) e.number ≡ Some x
    → length x.bytes ≤ x.size → x.path ≡ in_part Main p → Commits e size now n old new
    → ((level_of true new.index new.disk).main ≡ put_file (level_of true old.index old.disk).main p x.bytes) × ((level_of true new.index new.disk).pre ≡ (level_of true old.index old.disk).pre)
commit-puts old new r e p x size now n o told sound d h small path c =
    let t = temporary_of e in
    let hidden = temporary_is e.divided e.key e.number in
    let b = filled old r e o told sound in
    let own = entry-bytes old r e o b.0 x told b.1 h in
    let long : size ≡ length b.0 = measured_told old old.disk.told r t b.0 size told c.size b.1 in
    let few : size ≤ declared_at old e.number = subst (λ (z : ℕ). size ≤ z) (own.1 ∙ sym (declared-is old e o)) (subst (λ (z : ℕ). z ≤ x.size) (ap length own.2 ∙ sym long) small) in
    let none : n ≡ 0 = c.none few in
    let key : e.key ≡ in_part Main p = sym own.0 ∙ path in
    let index : new.index ≡ filed (in_part Main p) size old.index = c.index ∙ (λ i. filed (key i) size (drop (none i) old.index)) ∙ ap (filed (in_part Main p) size) (none_dropped old.index) in
    let did : Does (Moved t (in_part Main p) ∷ Touched t now ∷ []) old.disk new.disk =
    subst (λ l. Does l old.disk new.disk) (sym (none-gone (Moved t (in_part Main p) ∷ Touched t now ∷ []) old.index)) (subst (λ (m : ℕ). Does (Moved t (in_part Main p) ∷ Touched t now ∷ gone (firsts m old.index)) old.disk new.disk) none
    (subst (λ (k : List ℕ). Does (Moved t k ∷ Touched t now ∷ gone (firsts n old.index)) old.disk new.disk) key c.disk)) in
    let f = files_now r in
    let g = files_now (did_all (Moved t (in_part Main p) ∷ Touched t now ∷ []) r) in
    let later : new.disk.told ≡ Some (did_all (Moved t (in_part Main p) ∷ Touched t now ∷ []) r) = did.told ∙ ap (option_map (did_all (Moved t (in_part Main p) ∷ Touched t now ∷ []))) told in
    let plain : is_temporary_path (in_part Main p) ≡ false = ap is_temporary_path (sym key) ∙ plain-key old e sound o in
    let made = files-did r (Moved t (in_part Main p) ∷ Touched t now ∷ []) in (
      (λ i. files_of Main (index i) (told_files (later i))) ∙ main_put f g old.index t p b.0 size now made d sound.keys hidden plain b.1 ∙ (λ i. put_file (files_of Main old.index (told_files (sym told i))) p (sym own.2 i)),
      (λ i. files_of Pre (index i) (told_files (later i))) ∙ pre_stays f g old.index t p b.0 size now made d sound.keys hidden plain b.1 ∙ (λ i. files_of Pre old.index (told_files (sym told i))),
    )

pub commit-closes : (mode : CacheMode) (capacity : ℕ) (old new : Store) (e : AddEntry) (size now n : ℕ) → IsOpen old e → IsSound old → length old.pending.slots < 2 ^ 64 → Commits e size now n old new → Closed e.number old new
    → ClosesEntry e.number (opened_store mode capacity old) (opened_store mode capacity new)
commit-closes mode capacity old new e size now n o sound few c closed =
    closes mode capacity old new e (Moved (temporary_of e) e.key ∷ Touched (temporary_of e) now ∷ []) n o sound c.disk closed
    (λ m p apart h. ((apart-from old e m p few o apart h, apart-back (temporary old.disk.divided p.key m) e.key (temporary_is old.disk.divided p.key m) (plain-key old e sound o)), (tt, tt)))

-- A refused commit.
pub once : (removes touches : Bool) (t : List ℕ) (now : ℕ) → List Change
once removes touches t now = removed_by removes t ++ touched_by touches t now

pub once_only : (removes touches : Bool) (t : List ℕ) (now : ℕ) → AtOnly t (once removes touches t now)
unfolding once
once_only true true t now = (refl, (refl, tt))
once_only true false t now = (refl, tt)
once_only false true t now = (refl, tt)
once_only false false t now = tt

pub once_then : (removes touches : Bool) (t : List ℕ) (now : ℕ) (xs : List Change) → removed_by removes t ++ (touched_by touches t now ++ xs) ≡ once removes touches t now ++ xs
unfolding once
once_then true true t now xs = refl
once_then true false t now xs = refl
once_then false true t now xs = refl
once_then false false t now xs = refl

pub refused-closes : (mode : CacheMode) (capacity : ℕ) (old new : Store) (e : AddEntry) (refused : Error) (now n : ℕ) (touches removes : Bool) → IsOpen old e → IsSound old → length old.pending.slots < 2 ^ 64 → RefusesCommit refused e now n touches removes old new
    → Closed e.number old new → ClosesEntry e.number (opened_store mode capacity old) (opened_store mode capacity new)
refused-closes mode capacity old new e refused now n touches removes o sound few c closed =
    let t = temporary_of e in
    let xs = once removes touches t now in
    closes mode capacity old new e xs n o sound (subst (λ l. Does l old.disk new.disk) (once_then removes touches t now (gone (firsts n old.index))) c.disk) closed
    (λ m p apart h. only-away t (temporary old.disk.divided p.key m) xs (apart-from old e m p few o apart h) (once_only removes touches t now))

-- no file had to go for bytes that were declared
none_needed : (n limit sum : ℕ) (es : Index) → total measure es ≤ limit → Needed limit n es → n ≡ 0
none_needed zero limit sum es fits needed = refl
none_needed (suc n) limit sum es fits needed = let over : limit < total measure (drop 0 es) = needed 0 (omega arith) in absurd (too_much limit (total measure es) fits (subst (λ (l : Index). limit < total measure l) (none_dropped es) over))
  where
    too_much : (a b : ℕ) → b ≤ a → a < b → ⊥
    too_much a b p q = omega (arith, p, q)

none_evicted : (old : Store) (r : DiskRecord) (t b : List ℕ) (size held n : ℕ) → old.disk.told ≡ Some r → bytes_at (files_now r) t ≡ Some b → length b ≤ size → held + size ≤ reserved old → indexed old + reserved old ≤ old.capacity → NeededFor t held size n old → n ≡ 0
none_evicted old r t b size held n told is small sum fits (inl none) = none
none_evicted old r t b size held n told is small sum fits (inr (m, is_size, room, needed)) =
    let long : m ≡ length b = measured_told old old.disk.told r t b m told is_size is in
    none_needed n (old.capacity - (held + max m size)) 0 old.index (omega (arith, long, small, sum, fits)) needed

pub refused-maps : (old new : Store) (r : DiskRecord) (e : AddEntry) (x : OpenEntry) (refused : Error) (now n : ℕ) (touches removes : Bool) (o : IsOpen old e) → old.disk.told ≡ Some r → IsSound old → IsDistinct bytes_eq (keys_of old.index) → Closed e.number old new
    → entry_at (entries_of old) e.number ≡ Some x → length x.bytes ≤ x.size → RefusesCommit refused e now n touches removes old new → same_maps (level_of true old.index old.disk) (level_of true new.index new.disk)
refused-maps old new r e x refused now n touches removes o told sound d closed h small c =
    let t = temporary_of e in
    let b = filled old r e o told sound in
    let own = entry-bytes old r e o b.0 x told b.1 h in
    let size : declared_at old e.number ≡ o.0.size = declared-is old e o in
    let own_size : x.size ≡ o.0.size = own.1 in
    let long : length x.bytes ≡ length b.0 = ap length own.2 in
    let sum : reserved new + declared_at old e.number ≡ reserved old = closed.reserved in
    let fits = sound.fits in
    let none : n ≡ 0 = none_evicted old r t b.0 (declared_at old e.number) (others old e.number) n told b.1 (omega (arith, small, size, own_size, long)) (omega (arith, sum)) fits c.evicted in
    let xs = once removes touches t now in
    let did : Does xs old.disk new.disk = subst (λ l. Does l old.disk new.disk) (sym (none-gone xs old.index)) (subst (λ (m : ℕ). Does (xs ++ gone (firsts m old.index)) old.disk new.disk) none
    (subst (λ l. Does l old.disk new.disk) (once_then removes touches t now (gone (firsts n old.index))) c.disk)) in
    hidden-maps xs old new (c.index ∙ ap (λ m. drop m old.index) none ∙ none_dropped old.index) did (only-hidden t xs (temporary_is e.divided e.key e.number) (once_only removes touches t now)) d sound

-- an entry that was filled with no more than it declared is refused neither for its size nor for what is reserved
pub never-too-large : (old new : Store) (r : DiskRecord) (e : AddEntry) (x : OpenEntry) (m : ℕ) (o : IsOpen old e) → old.disk.told ≡ Some r → IsSound old → Closed e.number old new → entry_at (entries_of old) e.number ≡ Some x → length x.bytes ≤ x.size
    → IsSize (temporary_of e) m old.disk → m + others old e.number ≤ old.capacity
never-too-large old new r e x m o told sound closed h small is_size =
    let t = temporary_of e in
    let b = filled old r e o told sound in
    let own = entry-bytes old r e o b.0 x told b.1 h in
    let size : declared_at old e.number ≡ o.0.size = declared-is old e o in
    let own_size : x.size ≡ o.0.size = own.1 in
    let long : length x.bytes ≡ length b.0 = ap length own.2 in
    let sum : reserved new + declared_at old e.number ≡ reserved old = closed.reserved in
    let fits = sound.fits in
    let measure : m ≡ length b.0 = measured_told old old.disk.told r t b.0 m told is_size b.1 in
    omega (arith, measure, long, small, own_size, size, sum, fits)

pub has_record : (o : Option DiskRecord) → is_some o ≡ true → (r : DiskRecord) × (o ≡ Some r)
has_record None h = cc
has_record (Some r) h = (r, refl)

over_and_not : (a b : ℕ) → a ≤ b → b < a → ⊥
over_and_not a b p q = omega (arith, p, q)

-- a store alone keeps no marks
bare : (s : Store) (r : DiskRecord) (e : AddEntry) (o : IsOpen s e) → IsSound s → (x : OpenEntry) → s.disk.told ≡ Some r → entry_at (entries_of s) e.number ≡ Some x → x.fills ≡ None
bare s r e o sound x told h = let b = filled s r e o told sound in (entry-bytes s r e o b.0 x told b.1 h).3

module _ (mode : CacheMode) (capacity : ℕ) (old new : Store) (e : AddEntry) (now : ℕ) (o : IsOpen old e) (sound : IsSound old) (d : IsDistinct bytes_eq (keys_of old.index)) (closed : Closed e.number old new) where
  pub commits-done : (size n : ℕ) → Commits e size now n old new → CommitsEntry e.number WriteDone (opened_store mode capacity old) (opened_store mode capacity new)
  commits-done size n c told x path h small is =
      let r = has_record old.disk.told told in
      let put = commit-puts old new r.0 e path x size now n o r.1 sound d h small is c in
      record { file = (put.0, put.1, record { set = sym (ap mark_of (bare old r.0 e o sound x r.1 h)); others = λ q apart. refl }); calls = tt; store = (refl, refl, refl) }

  -- what was measured is what the entry was filled with, where the disk tells
  pub measured-bytes : (m : ℕ) → IsSize (temporary_of e) m old.disk → IsMeasured e.number m (opened_store mode capacity old)
  measured-bytes m is_size told x h =
      let r = has_record old.disk.told told in
      let b = filled old r.0 e o r.1 sound in
      let own = entry-bytes old r.0 e o b.0 x r.1 b.1 h in
      measured_told old old.disk.told r.0 (temporary_of e) b.0 m r.1 is_size b.1 ∙ sym (ap length own.2)

  pub cause-io : (refused : Error) (n : ℕ) (touches removes : Bool) → refused ≡ Io → RefusesCommit refused e now n touches removes old new → RefusedCommit e.number (WriteRefused ForIo) (opened_store mode capacity old) (opened_store mode capacity new)
  cause-io refused n touches removes is c =
      let rose : Rose old.disk.faults c.by_then = subst (λ (f : Error). CommitCause f (temporary_of e) (others old e.number) old c.by_then) is c.cause in
      omega (arith, rose, c.counted)

  pub cause-too_large : (refused : Error) (n : ℕ) (touches removes : Bool) → old.capacity ≡ capacity → refused ≡ FileTooLarge → RefusesCommit refused e now n touches removes old new
      → RefusedCommit e.number (WriteRefused ForSize) (opened_store mode capacity old) (opened_store mode capacity new)
  cause-too_large refused n touches removes same is c =
      let cause = subst (λ (f : Error). CommitCause f (temporary_of e) (others old e.number) old c.by_then) is c.cause in
      (cause.0, measured-bytes cause.0 cause.1, subst (λ (z : ℕ). z < cause.0) same cause.2)

  pub cause-reserved : (refused : Error) (n : ℕ) (touches removes : Bool) → old.capacity ≡ capacity → refused ≡ Reserved → RefusesCommit refused e now n touches removes old new
      → RefusedCommit e.number (WriteRefused ForRoom) (opened_store mode capacity old) (opened_store mode capacity new)
  cause-reserved refused n touches removes same is c =
      let cause = subst (λ (f : Error). CommitCause f (temporary_of e) (others old e.number) old c.by_then) is c.cause in
      let sum : reserved new + declared_at old e.number ≡ reserved old = closed.reserved in
      let over : old.capacity < cause.0 + (reserved old - declared_at old e.number) = cause.3 in
      (cause.0, measured-bytes cause.0 cause.1, subst (λ (z : ℕ). cause.0 ≤ z) same cause.2, subst (λ (z : ℕ). z < cause.0 + reserved new) same (omega (arith, sum, over)))

  -- want of memory
  pub commits-nothing : (refused : Error) (n : ℕ) (touches removes : Bool) → RefusesCommit refused e now n touches removes old new → CommitsNothing e.number (opened_store mode capacity old) (opened_store mode capacity new)
  commits-nothing refused n touches removes c told x h small =
      let r = has_record old.disk.told told in
      record { maps = refused-maps old new r.0 e x refused now n touches removes o r.1 sound d closed h small c; marks = λ path. refl }

  pub commits-io : (refused : Error) (n : ℕ) (touches removes : Bool) → refused ≡ Io → RefusesCommit refused e now n touches removes old new → CommitsEntry e.number (WriteRefused ForIo) (opened_store mode capacity old) (opened_store mode capacity new)
  commits-io refused n touches removes is c told x path h small at =
      let r = has_record old.disk.told told in
      let rose : Rose old.disk.faults c.by_then = subst (λ (f : Error). CommitCause f (temporary_of e) (others old e.number) old c.by_then) is c.cause in
      record { file = (omega (arith, rose, c.counted), refused-maps old new r.0 e x refused now n touches removes o r.1 sound d closed h small c, (λ q. refl)); calls = tt; store = (refl, refl, refl) }

  pub commits-too_large : (refused : Error) (n : ℕ) (touches removes : Bool) → refused ≡ FileTooLarge → RefusesCommit refused e now n touches removes old new → CommitsEntry e.number (WriteRefused ForSize) (opened_store mode capacity old) (opened_store mode capacity new)
  commits-too_large refused n touches removes is c told x path h small at =
      let r = has_record old.disk.told told in
      let cause = subst (λ (f : Error). CommitCause f (temporary_of e) (others old e.number) old c.by_then) is c.cause in
      let fits = never-too-large old new r.0 e x cause.0 o r.1 sound closed h small cause.1 in
      absurd (over_and_not (cause.0 + others old e.number) old.capacity fits (omega (arith, cause.2)))

  pub commits-reserved : (refused : Error) (n : ℕ) (touches removes : Bool) → refused ≡ Reserved → RefusesCommit refused e now n touches removes old new → CommitsEntry e.number (WriteRefused ForRoom) (opened_store mode capacity old) (opened_store mode capacity new)
  commits-reserved refused n touches removes is c told x path h small at =
      let r = has_record old.disk.told told in
      let cause = subst (λ (f : Error). CommitCause f (temporary_of e) (others old e.number) old c.by_then) is c.cause in
      let fits = never-too-large old new r.0 e x cause.0 o r.1 sound closed h small cause.1 in
      absurd (over_and_not (cause.0 + others old e.number) old.capacity fits cause.3)

-- the test of an open entry
same_bool : (b : Bool) → b ≡ true → beq b true ≡ true
same_bool true h = refl
same_bool false h = cc

opens_slot : (s : Store) (e : AddEntry) (g : Option Pending) (x : OpenEntry) → option_map (open_entry s.disk.divided (told_files s.disk.told) e.number) g ≡ Some x → x.path ≡ e.key → is_open_slot g e.key ≡ true
opens_slot s e None x h path = cc
opens_slot s e (Some p) x h path = ap (λ k. bytes_eq k e.key) (ap (λ (y : OpenEntry). y.path) (same_entry (open_entry s.disk.divided (told_files s.disk.told) e.number p) x h) ∙ path) ∙ self_path e.key
  where
    same_entry : (y z : OpenEntry) → Some y ≡ Some z → y ≡ z
    same_entry y z k = cc

both_true : (a b : Bool) → a ≡ true → b ≡ true → (a && b) ≡ true
both_true true b p q = q
both_true false b p q = cc

open_tested : (mode : CacheMode) (capacity : ℕ) (s : Store) (e : AddEntry) → s.disk.divided ≡ true → IsOpenAt e (opened_store mode capacity s) → is_open s e ≡ true
open_tested mode capacity s e divided h =
    both_true (is_open_slot (get s.pending e.number) e.key) (beq e.divided s.disk.divided) (opens_slot s e (get s.pending e.number) h.1.0 (sym (entry-of s e.number) ∙ h.1.1) h.1.2)
    (ap (beq e.divided) divided ∙ same_bool e.divided h.0)

open_at : (mode : CacheMode) (capacity : ℕ) (s : Store) (e : AddEntry) → s.disk.divided ≡ true → IsOpen s e → IsOpenAt e (opened_store mode capacity s)
open_at mode capacity s e divided o = (o.3 ∙ divided, (record { path = e.key; size = o.0.size; bytes = bytes_or (bytes_at (told_files s.disk.told) (temporary_of e)); fills = None }, entry-is s e o, refl))

not_both : (b : Bool) → b ≡ false → b ≡ true → ⊥
not_both true p q = cc
not_both false p q = cc

module _ {D : Type 0} (mode : CacheMode) (capacity : ℕ) (o : Option (PairCache D)) (t : Option TwoState) (c : PairCache D) (is : o ≡ Some c) (e : AddEntry) (divided : c.store.disk.divided ≡ true) where
  pub is-open : IsOpen c.store e → IsOpenAt e (store_of mode capacity o t)
  is-open h = subst (λ (x : Option (PairCache D)). IsOpenAt e (store_of mode capacity x t)) (sym is) (open_at mode capacity c.store e divided h)

  pub is-not_open : is_open c.store e ≡ false → IsOpenAt e (store_of mode capacity o t) → ⊥
  is-not_open h x = not_both (is_open c.store e) h (open_tested mode capacity c.store e divided (subst (λ (y : Option (PairCache D)). IsOpenAt e (store_of mode capacity y t)) is x))
