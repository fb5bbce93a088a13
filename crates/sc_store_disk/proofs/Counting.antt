-- As many files stand in both folders as are indexed.
use Rattle.std.proofs.Common.{◌≡◌, ℕ, suc, ◌+◌, true, cond, is_some, bytes_eq, List, [], ◌∷◌, length, Option, Some, None, refl, sym, ap, ◌∙◌, subst, arith}
use Rattle.std.proofs.lemmas.Map.Keys.{IsDistinct-tail}
use Rattle.std.specs.Cmp.Lexicographic.{nat_list_cmp_total, slice_cmp}
use Rattle.std.specs.FinMap as map
use Rattle.std.specs.FinMap.Entries.{by_order, find, put}
use Rattle.std.specs.List.{AllByRecursion, IsDistinct}
use Rattle.std.specs.Map.{keys_of, lookup}
use Rattle.std.specs.Ordering.{is_eq, nat_cmp}
use Rattle.std.specs.declared.cmp.Ordering.{Ordering}
use Rattle.std.specs.declared.cmp.Ordering.TheVariants.{Less, Equal, Greater}
use Rattle.sc_entry.specs.Causes.{IfTold}
use Rattle.sc_entry.specs.declared.cache_mode.CacheMode.{CacheMode}
use Rattle.sc_disk.proofs.Pairs.{absent_later}
use Rattle.sc_disk.specs.Disks.{DiskFiles, DiskRecord, files_now}
use Rattle.sc_disk.specs.Sound.{IsSound}
use Rattle.sc_disk.specs.Store.{AreKeys, HasFiles, Store}
use Rattle.sc_model.specs.Levels.{Files, find_file, no_files, put_file}
use Rattle.sc_disk_pair.specs.Parts.{ArePlaced, in_part}
use Rattle.sc_disk_pair.specs.Twos.{TwoState}
use Rattle.sc_disk_pair.specs.declared.pair_cache.PairCache.{PairCache}
use Rattle.sc_disk_pair.specs.declared.part.Part.{Part}
use Rattle.sc_disk_pair.specs.declared.part.Part.TheVariants.{Main, Pre}
use Rattle.sc_store_disk.specs.DiskStores.{count_of, if_opened, level_of, store_of, told_files}
use Rattle.sc_store_disk.specs.Shown.{Index, bytes_at, files_of, with_shown}
use Rattle.sc_store_disk.proofs.Finding.{find-files}
use Rattle.sc_store_disk.proofs.Sizes.{IsWhole, all-whole}

abbrev by_path : List ℕ → List ℕ → Ordering
by_path = slice_cmp nat_cmp

put_at : (o : Ordering) (k v : List ℕ) (e : List ℕ × List ℕ) (es : List (List ℕ × List ℕ)) → cond (is_eq o) (Some e.1) (find by_path k es) ≡ None
    → (find by_path k es ≡ None → length (put by_path k v es) ≡ suc (length es))
    → length (by_order o ((k, v) ∷ e ∷ es) ((e.0, v) ∷ es) (e ∷ put by_path k v es)) ≡ suc (suc (length es))
put_at Less k v e es h rest = refl
put_at Equal k v e es h rest = cc
put_at Greater k v e es h rest = ap suc (rest h)

count-put : (k v : List ℕ) (es : List (List ℕ × List ℕ)) → find by_path k es ≡ None → length (put by_path k v es) ≡ suc (length es)
count-put k v [] h = refl
count-put k v (e ∷ es) h = put_at (by_path k e.0) k v e es h (count-put k v es)

files-put : (m : Files) (k v : List ℕ) → find_file m k ≡ None → count_of (put_file m k v) ≡ suc (count_of m)
files-put m k v h = ap (λ (es : List (List ℕ × List ℕ)). length es) (map.entries-insert nat_list_cmp_total m k v) ∙ count-put k v (map.entries m) (sym (map.get-entries m k) ∙ h)

count-none : count_of no_files ≡ 0
count-none = sym (map.len-entries no_files) ∙ map.len-empty by_path (List ℕ)

count-in : (part : Part) (r b : List ℕ) (n : ℕ) (es : Index) (f : DiskFiles) → lookup (bytes_eq (in_part part r)) es ≡ None → bytes_at f (in_part part r) ≡ Some b
    → count_of (files_of Main ((in_part part r, n) ∷ es) f) + count_of (files_of Pre ((in_part part r, n) ∷ es) f) ≡ suc (count_of (files_of Main es f) + count_of (files_of Pre es f))
count-in Main r b n es f none stands =
    let more : count_of (put_file (files_of Main es f) r b) ≡ suc (count_of (files_of Main es f)) = files-put (files_of Main es f) r b (find-files Main es f r ∙ ap (λ o. cond (is_some o) (bytes_at f (in_part Main r)) None) none) in
    ap (λ o. count_of (with_shown (Some r) o (files_of Main es f)) + count_of (files_of Pre es f)) stands ∙ omega (arith, more)
count-in Pre r b n es f none stands =
    let more : count_of (put_file (files_of Pre es f) r b) ≡ suc (count_of (files_of Pre es f)) = files-put (files_of Pre es f) r b (find-files Pre es f r ∙ ap (λ o. cond (is_some o) (bytes_at f (in_part Pre r)) None) none) in
    ap (λ o. count_of (files_of Main es f) + count_of (with_shown (Some r) o (files_of Pre es f))) stands ∙ omega (arith, more)

pub counts : (es : Index) (f : DiskFiles) → IsDistinct bytes_eq (keys_of es) → AllByRecursion (IsWhole f) es → count_of (files_of Main es f) + count_of (files_of Pre es f) ≡ length es
counts [] f d a = omega (arith, count-none)
counts (e ∷ es) f d a =
    let w : IsWhole f e = a.0 in
    let rest : count_of (files_of Main es f) + count_of (files_of Pre es f) ≡ length es = counts es f (IsDistinct-tail bytes_eq e.0 (keys_of es) d) a.1 in
    let none : lookup (bytes_eq (in_part w.part w.path)) es ≡ None = ap (λ k. lookup (bytes_eq k) es) (sym w.placed) ∙ absent_later e es d in
    ap (λ k. count_of (files_of Main ((k, e.1) ∷ es) f) + count_of (files_of Pre ((k, e.1) ∷ es) f)) w.placed
    ∙ count-in w.part w.path w.bytes e.1 es f none (ap (bytes_at f) (sym w.placed) ∙ w.stands)
    ∙ ap suc rest

files_counted : (s : Store) (o : Option DiskRecord) → IsDistinct bytes_eq (keys_of s.index) → AreKeys s.index → IfTold o (λ r. HasFiles s.disk.divided s.index s.pending.slots (files_now r)) → IfTold o (λ r. ArePlaced (files_now r)) → is_some o ≡ true
    → count_of (files_of Main s.index (told_files o)) + count_of (files_of Pre s.index (told_files o)) ≡ length s.index
files_counted s None d keys files placed t = cc
files_counted s (Some r) d keys files placed t = counts s.index (files_now r) d (all-whole s.index (files_now r) d keys files.agrees placed)

pub store-counted : (s : Store) → IsSound s → IsDistinct bytes_eq (keys_of s.index) → IfTold s.disk.told (λ r. ArePlaced (files_now r)) → is_some s.disk.told ≡ true
    → count_of (level_of true s.index s.disk).main + count_of (level_of true s.index s.disk).pre ≡ length s.index
store-counted s sound d placed t = files_counted s s.disk.told d sound.keys sound.files placed t

pub len-tells : {D : Type 0} (mode : CacheMode) (capacity : ℕ) (o : Option (PairCache D)) (t : Option TwoState) (c : PairCache D) → o ≡ Some c → IsSound c.store → IsDistinct bytes_eq (keys_of c.store.index)
    → IfTold c.store.disk.told (λ r. ArePlaced (files_now r)) → (n : ℕ) → n ≡ length c.store.index → (store_of mode capacity o t).told ≡ true
    → Some n ≡ if_opened (store_of mode capacity o t).level.opened (count_of (store_of mode capacity o t).level.main + count_of (store_of mode capacity o t).level.pre)
len-tells {D} mode capacity o t c e sound d placed n is =
    subst (λ (x : Option (PairCache D)). (store_of mode capacity x t).told ≡ true → Some n ≡ if_opened (store_of mode capacity x t).level.opened (count_of (store_of mode capacity x t).level.main + count_of (store_of mode capacity x t).level.pre)) (sym e)
    (λ told. ap Some (is ∙ sym (store-counted c.store sound d placed told)))

pub unopened-len : {D : Type 0} (mode : CacheMode) (capacity : ℕ) (o : Option (PairCache D)) (t : Option TwoState) → o ≡ None
    → None ≡ if_opened (store_of mode capacity o t).level.opened (count_of (store_of mode capacity o t).level.main + count_of (store_of mode capacity o t).level.pre)
unopened-len {D} mode capacity o t e =
    subst (λ (x : Option (PairCache D)). None ≡ if_opened (store_of mode capacity x t).level.opened (count_of (store_of mode capacity x t).level.main + count_of (store_of mode capacity x t).level.pre)) (sym e) refl
