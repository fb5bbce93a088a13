-- Commits of entries that may have been filled with more than they declared.
use Rattle.std.proofs.Common.{◌≡◌, ◌⊎◌, inl, inr, ℕ, zero, suc, ◌+◌, ◌-◌, ◌<◌, ◌≤◌, max, Bool, true, false, cond, is_some, bytes_eq, option_map, List, [], ◌∷◌, ◌++◌, drop, length, Option, Some, None, refl, sym, ap, ◌∙◌, subst, arith}
use Rattle.indexmap.proofs.MapLemmas.{distinct-drop}
use Rattle.std.specs.Cmp.Lexicographic.{nat_list_eq_equiv}
use Rattle.std.specs.List.{IsDistinct}
use Rattle.std.specs.Map.{keys_of, lookup}
use Rattle.sc_entry.specs.Causes.{IfTold, Rose}
use Rattle.sc_entry.specs.declared.cache_mode.CacheMode.{CacheMode}
use Rattle.sc_lru.specs.LruCache.{total}
use Rattle.sc_disk.proofs.Devices.{unmade}
use Rattle.sc_disk.proofs.Doing.{replay-append}
use Rattle.sc_disk.proofs.Temporaries.{temporary_is}
use Rattle.sc_disk.specs.Calls.{CommitCause, Commits, EvictsNone, NeededFor, RefusesCommit}
use Rattle.sc_disk.specs.Disks.{DiskFiles, DiskRecord, DiskState, Does, IsSize, did_all, files_now, replay}
use Rattle.sc_disk.specs.Names.{is_temporary_path}
use Rattle.sc_disk.specs.Sound.{IsSound}
use Rattle.sc_disk.specs.Store.{AddEntry, AreKeys, Closed, IsOpen, Store, declared_at, filed, firsts, gone, others, reserved, size_of as measure, store, temporary_of}
use Rattle.sc_disk.specs.declared.change.Change.TheVariants.{Touched, Moved}
use Rattle.sc_disk.specs.declared.error.Error.{Error}
use Rattle.sc_disk.specs.declared.error.Error.TheVariants.{FileTooLarge, Io, Reserved}
use Rattle.sc_model.specs.Asking.{same_maps}
use Rattle.sc_model.specs.Levels.{Files, Level, put_file}
use Rattle.sc_model.specs.declared.event.Written.TheVariants.{Done as WriteDone, Refused as WriteRefused}
use Rattle.sc_model.specs.declared.level.Cause.TheVariants.{FileTooLarge as ForSize, Io as ForIo, Reserved as ForRoom}
use Rattle.sc_disk_pair.specs.Parts.{ArePlaced, in_part}
use Rattle.sc_disk_pair.specs.declared.part.Part.{Part}
use Rattle.sc_disk_pair.specs.declared.part.Part.TheVariants.{Main, Pre}
use Rattle.sc_store_disk.specs.DiskStores.{OpenEntry, entries_of, entry_at, level_of, opened_store, told_files}
use Rattle.sc_store_disk.specs.Entries.{GrowsEntry, GrowsNothing, MakesRoom, PutsFile}
use Rattle.sc_store_disk.specs.Shown.{Index, bytes_at, files_of}
use Rattle.sc_store_disk.proofs.Changing.{lookup-dropped}
use Rattle.sc_store_disk.proofs.Closings.{hidden-maps, none-gone, only-hidden}
use Rattle.sc_store_disk.proofs.Commits.{declared-is, entry-bytes, filled, has_record, main_put, measured_told, once, once_only, once_then, plain-key, pre_stays, shown_at}
use Rattle.sc_store_disk.proofs.Finding.{find-files, find-put, same_map_files}
use Rattle.sc_store_disk.proofs.Rooms.{evicted, temporary_kept}
use Rattle.sc_store_disk.proofs.Steadying.{files-did}

-- the same for a file of the second part
pre_put : (f g : DiskFiles) (es : Index) (t p b : List ℕ) (r now : ℕ) → g ≡ replay f (Moved t (in_part Pre p) ∷ Touched t now ∷ []) → IsDistinct bytes_eq (keys_of es) → AreKeys es → is_temporary_path t ≡ true → is_temporary_path (in_part Pre p) ≡ false
    → bytes_at f t ≡ Some b → files_of Pre (filed (in_part Pre p) r es) g ≡ put_file (files_of Pre es f) p b
pre_put f g es t p b r now e d keys hidden plain is = same_map_files (files_of Pre (filed (in_part Pre p) r es) g) (put_file (files_of Pre es f) p b) (λ q.
    find-files Pre (filed (in_part Pre p) r es) g q ∙ shown_at f g es t (in_part Pre p) b r now (in_part Pre q) e d keys hidden plain is (is_temporary_path (in_part Pre q)) refl
    ∙ sym (find-put (files_of Pre es f) p b q ∙ ap (cond (bytes_eq q p) (Some b)) (find-files Pre es f q)))

main_stays : (f g : DiskFiles) (es : Index) (t p b : List ℕ) (r now : ℕ) → g ≡ replay f (Moved t (in_part Pre p) ∷ Touched t now ∷ []) → IsDistinct bytes_eq (keys_of es) → AreKeys es → is_temporary_path t ≡ true → is_temporary_path (in_part Pre p) ≡ false
    → bytes_at f t ≡ Some b → files_of Main (filed (in_part Pre p) r es) g ≡ files_of Main es f
main_stays f g es t p b r now e d keys hidden plain is = same_map_files (files_of Main (filed (in_part Pre p) r es) g) (files_of Main es f) (λ q.
    find-files Main (filed (in_part Pre p) r es) g q ∙ shown_at f g es t (in_part Pre p) b r now (in_part Main q) e d keys hidden plain is (is_temporary_path (in_part Main q)) refl ∙ sym (find-files Main es f q))

none_dropped : (es : Index) → drop 0 es ≡ es
none_dropped [] = refl
none_dropped (e ∷ es) = refl

-- what an index keeps once its first files went
absent_dropped : (n : ℕ) (es : Index) (q : List ℕ) (o : Option ℕ) → lookup (bytes_eq q) (drop n es) ≡ o → IsDistinct bytes_eq (keys_of es) → lookup (bytes_eq q) es ≡ None → o ≡ None
absent_dropped n es q None h d none = refl
absent_dropped n es q (Some size) h d none = sym (lookup-dropped n es q size d h) ∙ none

keys_dropped : (n : ℕ) (es : Index) → IsDistinct bytes_eq (keys_of es) → AreKeys es → AreKeys (drop n es)
keys_dropped n es d keys q hidden = let o = lookup (bytes_eq q) (drop n es) in absent_dropped n es q o refl d (keys q hidden)

drop_keys : (n : ℕ) (es : Index) → keys_of (drop n es) ≡ drop n (keys_of es)
drop_keys zero [] = refl
drop_keys zero (e ∷ es) = refl
drop_keys (suc n) [] = refl
drop_keys (suc n) (e ∷ es) = drop_keys n es

distinct_dropped : (n : ℕ) (es : Index) → IsDistinct bytes_eq (keys_of es) → IsDistinct bytes_eq (keys_of (drop n es))
distinct_dropped n es d = subst (λ (ks : List (List ℕ)). IsDistinct bytes_eq ks) (sym (drop_keys n es)) (distinct-drop nat_list_eq_equiv n (keys_of es) d)

-- the store once its first files went, and nothing else was done
abbrev without : ℕ → Store → Store
without n s = store (drop n s.index) s.spare s.pending s.capacity (record s.disk { told = option_map (did_all (gone (firsts n s.index))) s.disk.told })

-- a file of either part
file_put : (part : Part) (es : Index) (f g : DiskFiles) (a : DiskState) (t p b : List ℕ) (r now : ℕ) (v w : Level) → g ≡ replay f (Moved t (in_part part p) ∷ Touched t now ∷ []) → IsDistinct bytes_eq (keys_of es) → AreKeys es → is_temporary_path t ≡ true
    → is_temporary_path (in_part part p) ≡ false → bytes_at f t ≡ Some b → v.main ≡ files_of Main es f → v.pre ≡ files_of Pre es f → w.main ≡ files_of Main (filed (in_part part p) r es) g → w.pre ≡ files_of Pre (filed (in_part part p) r es) g
    → PutsFile part p b v w
file_put Main es f g a t p b r now v w e d keys hidden plain is m q m2 q2 = (
  m2 ∙ main_put f g es t p b r now e d keys hidden plain is ∙ ap (λ (x : Files). put_file x p b) (sym m),
  q2 ∙ pre_stays f g es t p b r now e d keys hidden plain is ∙ sym q,
)
file_put Pre es f g a t p b r now v w e d keys hidden plain is m q m2 q2 = (
  m2 ∙ main_stays f g es t p b r now e d keys hidden plain is ∙ sym m,
  q2 ∙ pre_put f g es t p b r now e d keys hidden plain is ∙ ap (λ (x : Files). put_file x p b) (sym q),
)

module _ (mode : CacheMode) (old new : Store) (e : AddEntry) (now : ℕ) (o : IsOpen old e) (sound : IsSound old) (d : IsDistinct bytes_eq (keys_of old.index)) (placed : IfTold old.disk.told (λ r. ArePlaced (files_now r))) (closed : Closed e.number old new) where
  -- the bytes of the entry are those of its temporary
  own : (r : DiskRecord) (x : OpenEntry) → old.disk.told ≡ Some r → entry_at (entries_of old) e.number ≡ Some x → (bytes_at (files_now r) (temporary_of e) ≡ Some x.bytes) × (x.path ≡ e.key) × (x.size ≡ declared_at old e.number)
  own r x told h =
      let b = filled old r e o told sound in
      let it = entry-bytes old r e o b.0 x told b.1 h in
      (b.1 ∙ ap Some (sym it.2), it.0, it.1 ∙ sym (declared-is old e o))

  measure_is : (r : DiskRecord) (x : OpenEntry) (size : ℕ) → old.disk.told ≡ Some r → entry_at (entries_of old) e.number ≡ Some x → IsSize (temporary_of e) size old.disk → size ≡ length x.bytes
  measure_is r x size told h is = measured_told old old.disk.told r (temporary_of e) x.bytes size told is (own r x told h).0

  others_are : others old e.number ≡ reserved new
  others_are = let sum : reserved new + declared_at old e.number ≡ reserved old = closed.reserved in omega (arith, sum)

  -- the files that went before a temporary took its place
  done_with : (r : DiskRecord) (part : Part) (p : List ℕ) (x : OpenEntry) (size n : ℕ) → old.disk.told ≡ Some r → entry_at (entries_of old) e.number ≡ Some x → x.path ≡ in_part part p → Commits e size now n old new
      → PutsFile part p x.bytes (level_of true (without n old).index (without n old).disk) (level_of true new.index new.disk)
  done_with r part p x size n told h path c =
      let t = temporary_of e in
      let hidden = temporary_is e.divided e.key e.number in
      let it = own r x told h in
      let key : e.key ≡ in_part part p = sym it.1 ∙ path in
      let gones = gone (firsts n old.index) in
      let f = files_now (did_all gones r) in
      let g = files_now (did_all (Moved t e.key ∷ Touched t now ∷ gones) r) in
      let before : (without n old).disk.told ≡ Some (did_all gones r) = ap (option_map (did_all gones)) told in
      let after : new.disk.told ≡ Some (did_all (Moved t e.key ∷ Touched t now ∷ gones) r) = c.disk.told ∙ ap (option_map (did_all (Moved t e.key ∷ Touched t now ∷ gones))) told in
      let made : g ≡ replay f (Moved t e.key ∷ Touched t now ∷ []) =
      files-did r (Moved t e.key ∷ Touched t now ∷ gones) ∙ replay-append (files_now r) (Moved t e.key ∷ Touched t now ∷ []) gones
      ∙ ap (λ (z : DiskFiles). replay z (Moved t e.key ∷ Touched t now ∷ [])) (sym (files-did r gones)) in
      let there : bytes_at f t ≡ Some x.bytes = temporary_kept [] n old.index (Some r) (Some (did_all gones r)) t refl sound.keys hidden tt ∙ it.0 in
      file_put part (drop n old.index) f g old.disk t p x.bytes size now (level_of true (without n old).index (without n old).disk) (level_of true new.index new.disk)
      (subst (λ (k : List ℕ). g ≡ replay f (Moved t k ∷ Touched t now ∷ [])) key made) (distinct_dropped n old.index d) (keys_dropped n old.index d sound.keys) hidden (ap is_temporary_path (sym key) ∙ plain-key old e sound o) there
      (ap (λ z. files_of Main (drop n old.index) (told_files z)) before) (ap (λ z. files_of Pre (drop n old.index) (told_files z)) before)
      ((λ i. files_of Main (c.index i) (told_files (after i))) ∙ ap (λ (k : List ℕ). files_of Main (filed k size (drop n old.index)) g) key)
      ((λ i. files_of Pre (c.index i) (told_files (after i))) ∙ ap (λ (k : List ℕ). files_of Pre (filed k size (drop n old.index)) g) key)

  pub grows-done : (size n : ℕ) → Commits e size now n old new → GrowsEntry e.number WriteDone (opened_store mode old.capacity old) (opened_store mode old.capacity new)
  grows-done size n c told x part p h path =
      let r = has_record old.disk.told told in
      let long : size ≡ length x.bytes = measure_is r.0 x size r.1 h c.size in
      let it = own r.0 x r.1 h in
      let declared : x.size ≡ declared_at old e.number = it.2 in
      let rest = others_are in
      let fits : size + others old e.number ≤ old.capacity = c.fits in (
        omega (arith, fits, rest, long),
        (
          level_of true (without n old).index (without n old).disk,
          evicted old.capacity (reserved new + max (length x.bytes) x.size) n [] old (without n old) told sound d placed tt refl (record { told = refl; faults = omega arith; calls = unmade old.disk.calls old.disk.faults; root = refl; divided = refl; letters = refl })
              (λ m l. let over : old.capacity - (others old e.number + max size (declared_at old e.number)) < total measure (drop m old.index) = c.evicted.0 m l in omega (arith, over, rest, long, declared)),
          done_with r.0 part p x size n r.1 h path c,
        ),
      )

  -- no file went
  same_when : (refused : Error) (n : ℕ) (touches removes : Bool) → n ≡ 0 → RefusesCommit refused e now n touches removes old new → same_maps (level_of true old.index old.disk) (level_of true new.index new.disk)
  same_when refused n touches removes none c =
      let t = temporary_of e in
      let xs = once removes touches t now in
      hidden-maps xs old new (c.index ∙ ap (λ m. drop m old.index) none ∙ none_dropped old.index)
      (subst (λ l. Does l old.disk new.disk) (sym (none-gone xs old.index)) (subst (λ (m : ℕ). Does (xs ++ gone (firsts m old.index)) old.disk new.disk) none
      (subst (λ l. Does l old.disk new.disk) (once_then removes touches t now (gone (firsts n old.index))) c.disk)))
      (only-hidden t xs (temporary_is e.divided e.key e.number) (once_only removes touches t now)) d sound

  -- a refused commit
  room : (refused : Error) (n : ℕ) (touches removes : Bool) (x : OpenEntry) → is_some old.disk.told ≡ true → entry_at (entries_of old) e.number ≡ Some x → RefusesCommit refused e now n touches removes old new
      → NeededFor (temporary_of e) (others old e.number) (declared_at old e.number) n old → MakesRoom x (opened_store mode old.capacity old) (opened_store mode old.capacity new)
  room refused n touches removes x told h c (inl none) = inl (same_when refused n touches removes none c)
  room refused n touches removes x told h c (inr (m, is_size, fits, needed)) =
      let r = has_record old.disk.told told in
      let long : m ≡ length x.bytes = measure_is r.0 x m r.1 h is_size in
      let declared : x.size ≡ declared_at old e.number = (own r.0 x r.1 h).2 in
      let rest = others_are in
      let t = temporary_of e in
      let xs = once removes touches t now in
      inr (
        omega (arith, fits, rest, long),
        evicted old.capacity (reserved new + max (length x.bytes) x.size) n xs old new told sound d placed (only-hidden t xs (temporary_is e.divided e.key e.number) (once_only removes touches t now)) c.index
            (subst (λ l. Does l old.disk new.disk) (once_then removes touches t now (gone (firsts n old.index))) c.disk)
            (λ j l. let over : old.capacity - (others old e.number + max m (declared_at old e.number)) < total measure (drop j old.index) = needed j l in omega (arith, over, rest, long, declared)),
      )

  pub grows-io : (refused : Error) (n : ℕ) (touches removes : Bool) → refused ≡ Io → RefusesCommit refused e now n touches removes old new → GrowsEntry e.number (WriteRefused ForIo) (opened_store mode old.capacity old) (opened_store mode old.capacity new)
  grows-io refused n touches removes is c told x part p h path =
      let rose : Rose old.disk.faults c.by_then = subst (λ (f : Error). CommitCause f (temporary_of e) (others old e.number) old c.by_then) is c.cause in
      (omega (arith, rose, c.counted), room refused n touches removes x told h c c.evicted)

  pub grows-too_large : (refused : Error) (n : ℕ) (touches removes : Bool) → refused ≡ FileTooLarge → RefusesCommit refused e now n touches removes old new → GrowsEntry e.number (WriteRefused ForSize) (opened_store mode old.capacity old) (opened_store mode old.capacity new)
  grows-too_large refused n touches removes is c told x part p h path =
      let r = has_record old.disk.told told in
      let cause = subst (λ (f : Error). CommitCause f (temporary_of e) (others old e.number) old c.by_then) is c.cause in
      let long : cause.0 ≡ length x.bytes = measure_is r.0 x cause.0 r.1 h cause.1 in
      (subst (λ (z : ℕ). old.capacity < z) long cause.2, same_when refused n touches removes (subst (λ (f : Error). EvictsNone f n) is c.none) c)

  pub grows-reserved : (refused : Error) (n : ℕ) (touches removes : Bool) → refused ≡ Reserved → RefusesCommit refused e now n touches removes old new → GrowsEntry e.number (WriteRefused ForRoom) (opened_store mode old.capacity old) (opened_store mode old.capacity new)
  grows-reserved refused n touches removes is c told x part p h path =
      let r = has_record old.disk.told told in
      let cause = subst (λ (f : Error). CommitCause f (temporary_of e) (others old e.number) old c.by_then) is c.cause in
      let long : cause.0 ≡ length x.bytes = measure_is r.0 x cause.0 r.1 h cause.1 in
      let rest = others_are in
      let over : old.capacity < cause.0 + others old e.number = cause.3 in
      (subst (λ (z : ℕ). z ≤ old.capacity) long cause.2, omega (arith, over, rest, long), same_when refused n touches removes (subst (λ (f : Error). EvictsNone f n) is c.none) c)

  -- want of memory
  pub grows-nothing : (refused : Error) (n : ℕ) (touches removes : Bool) → RefusesCommit refused e now n touches removes old new → GrowsNothing e.number (opened_store mode old.capacity old) (opened_store mode old.capacity new)
  grows-nothing refused n touches removes c told x h = room refused n touches removes x told h c c.evicted
