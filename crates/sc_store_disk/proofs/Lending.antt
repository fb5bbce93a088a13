-- A store that is lent while it is opened.
use Rattle.std.proofs.Common.{◌≡◌, ℕ, ◌+◌, ◌-◌, ◌^◌, ◌<◌, min, true, false, is_some, bytes_eq, IfErr, IfOk, IfSome, OnErr, OnOk, List, Option, Some, None, Result, Ok, Err, refl, sym, ap, ◌∙◌, subst, arith}
use Rattle.std.specs.List.{IsDistinct}
use Rattle.std.specs.Map.{keys_of}
use Rattle.std.specs.Option.{OnSome, option_map_or}
use Rattle.sc_entry.specs.Causes.{IfTold}
use Rattle.sc_entry.specs.declared.cache_mode.CacheMode.{CacheMode}
use Rattle.sc_entry.specs.declared.memory.NoMemory.{NoMemory}
use Rattle.sc_lru.specs.LruCache.{total}
use Rattle.sc_disk.specs.Disks.{DiskRecord, files_now}
use Rattle.sc_disk.specs.Sound.{IsSound}
use Rattle.sc_disk.specs.Store.{AreKeys, HasFiles, Store, indexed, reserved, size_of as measure}
use Rattle.sc_disk.specs.declared.error.Error.{Error}
use Rattle.sc_model.specs.Asking.{level_size}
use Rattle.sc_model.specs.Levels.{size_of}
use Rattle.sc_model.specs.declared.event.Answer.{Answer}
use Rattle.sc_model.specs.declared.level.LevelKind.TheVariants.{Disk}
use Rattle.sc_disk_pair.specs.Parts.{ArePlaced}
use Rattle.sc_disk_pair.specs.Twos.{TwoState}
use Rattle.sc_disk_pair.specs.declared.pair_cache.PairCache.{PairCache}
use Rattle.sc_disk_pair.specs.declared.part.Part.{Part}
use Rattle.sc_disk_pair.specs.declared.part.Part.TheVariants.{Main, Pre}
use Rattle.sc_store_disk.specs.DiskStores.{DiskStore, bytes_of, if_opened, level_of, opened_store, store_of, told_files}
use Rattle.sc_store_disk.specs.Moving.{ReadsAt, Steady}
use Rattle.sc_store_disk.specs.Shown.{files_of}
use Rattle.sc_store_disk.proofs.Sizes.{all-whole, sizes}
use Rattle.sc_store_disk.proofs.Steadying.{OpensOn}

module _ {D : Type 0} (mode : CacheMode) (capacity after : ℕ) where
  pub lent-steady : (o o2 : Option (PairCache D)) (t t2 : Option TwoState) (was w : PairCache D) → o ≡ Some was → o2 ≡ Some w → after ≡ capacity
      → ((m : CacheMode) (n : ℕ) → Steady (opened_store m n was.store) (opened_store m n w.store)) → Steady (store_of mode capacity o t) (store_of mode after o2 t2)
  lent-steady o o2 t t2 was w e e2 same s =
      subst (λ (x : Option (PairCache D)). Steady (store_of mode capacity x t) (store_of mode after o2 t2)) (sym e)
      (subst (λ (x : Option (PairCache D)). Steady (opened_store mode capacity was.store) (store_of mode after x t2)) (sym e2)
      (subst (λ (n : ℕ). Steady (opened_store mode capacity was.store) (opened_store mode n w.store)) (sym same) (s mode capacity)))

  pub lent-opened : (o2 : Option (PairCache D)) (t2 : Option TwoState) (w : PairCache D) → o2 ≡ Some w → (store_of mode after o2 t2).level.opened ≡ true
  lent-opened o2 t2 w e2 = ap (λ (x : Option (PairCache D)). (store_of mode after x t2).level.opened) e2

  pub lent-answer : (o o2 : Option (PairCache D)) (t t2 : Option TwoState) (was w : PairCache D) → o ≡ Some was → o2 ≡ Some w → (part : Part) (path : List ℕ) (r : Result Answer NoMemory)
      → IfOk r (λ a. ReadsAt part path a (is_some was.store.disk.told) (level_of true was.store.index was.store.disk) (level_of true w.store.index w.store.disk))
      → IfOk r (λ a. ReadsAt part path a (store_of mode capacity o t).told (store_of mode capacity o t).level (store_of mode after o2 t2).level)
  lent-answer o o2 t t2 was w e e2 part path r h =
      subst (λ (x : Option (PairCache D)). IfOk r (λ a. ReadsAt part path a (store_of mode capacity x t).told (store_of mode capacity x t).level (store_of mode after o2 t2).level)) (sym e)
      (subst (λ (x : Option (PairCache D)). IfOk r (λ a. ReadsAt part path a (store_of mode capacity (Some was) t).told (store_of mode capacity (Some was) t).level (store_of mode after x t2).level)) (sym e2) h)

files_sized : (s : Store) (o : Option DiskRecord) → IsDistinct bytes_eq (keys_of s.index) → AreKeys s.index → IfTold o (λ r. HasFiles s.disk.divided s.index s.pending.slots (files_now r)) → IfTold o (λ r. ArePlaced (files_now r)) → is_some o ≡ true
    → size_of (files_of Main s.index (told_files o)) + size_of (files_of Pre s.index (told_files o)) ≡ total measure s.index
files_sized s None d keys files placed t = cc
files_sized s (Some r) d keys files placed t = sizes s.index (files_now r) d (all-whole s.index (files_now r) d keys files.agrees placed)

-- the files of both parts of a store that tells take what is indexed
pub store-sized : (s : Store) → IsSound s → IsDistinct bytes_eq (keys_of s.index) → IfTold s.disk.told (λ r. ArePlaced (files_now r)) → is_some s.disk.told ≡ true
    → size_of (level_of true s.index s.disk).main + size_of (level_of true s.index s.disk).pre ≡ indexed s
store-sized s sound d placed t = files_sized s s.disk.told d sound.keys sound.files placed t

whole_size : (n a b r i : ℕ) → n ≡ i + r → a + b ≡ i → n < 2 ^ 64 → Some n ≡ Some (min (a + b + r) (2 ^ 64 - 1))
whole_size n a b r i e f l = ap Some (omega (arith, e, f, l))

pub size-tells : {D : Type 0} (mode : CacheMode) (capacity : ℕ) (o : Option (PairCache D)) (t : Option TwoState) (c : PairCache D) → o ≡ Some c → IsSound c.store → IsDistinct bytes_eq (keys_of c.store.index)
    → IfTold c.store.disk.told (λ r. ArePlaced (files_now r)) → (n : ℕ) → n ≡ indexed c.store + reserved c.store → n < 2 ^ 64 → (store_of mode capacity o t).told ≡ true
    → Some n ≡ level_size Disk (store_of mode capacity o t).level (store_of mode capacity o t).reserved
size-tells {D} mode capacity o t c e sound d placed n is small =
    subst (λ (x : Option (PairCache D)). (store_of mode capacity x t).told ≡ true → Some n ≡ level_size Disk (store_of mode capacity x t).level (store_of mode capacity x t).reserved) (sym e)
    (λ told. whole_size n (size_of (level_of true c.store.index c.store.disk).main) (size_of (level_of true c.store.index c.store.disk).pre) (reserved c.store) (indexed c.store) is (store-sized c.store sound d placed told) small)

-- what is indexed and reserved, whether or not the disks tell
pub indexed-size : {D : Type 0} (mode : CacheMode) (capacity : ℕ) (o : Option (PairCache D)) (t : Option TwoState) (c : PairCache D) → o ≡ Some c → (n : ℕ) → n ≡ indexed c.store + reserved c.store → Some n ≡ if_opened (store_of mode capacity o t).level.opened (bytes_of capacity o t + (store_of mode capacity o t).reserved)
indexed-size {D} mode capacity o t c e n is = subst (λ (x : Option (PairCache D)). Some n ≡ if_opened (store_of mode capacity x t).level.opened (bytes_of capacity x t + (store_of mode capacity x t).reserved)) (sym e) (ap Some is)

pub unopened-size : {D : Type 0} (mode : CacheMode) (capacity : ℕ) (o : Option (PairCache D)) (t : Option TwoState) → o ≡ None → None ≡ if_opened (store_of mode capacity o t).level.opened (bytes_of capacity o t + (store_of mode capacity o t).reserved)
unopened-size {D} mode capacity o t e = subst (λ (x : Option (PairCache D)). None ≡ if_opened (store_of mode capacity x t).level.opened (bytes_of capacity x t + (store_of mode capacity x t).reserved)) (sym e) refl

pub of_some : {A P : Type 0} (r : Option A) (x : A) → r ≡ Some x → OnSome r P → P
of_some None x e h = cc
of_some (Some y) x e h = h

-- what is so of an opened store is so of the disk store that lends it
module _ {D : Type 0} (mode : CacheMode) (capacity after : ℕ) (o o2 : Option (PairCache D)) (t t2 : Option TwoState) (was w : PairCache D) (e : o ≡ Some was) (e2 : o2 ≡ Some w) (same : after ≡ capacity) where
  pub lent : (P : DiskStore → DiskStore → Type 0) → P (opened_store mode capacity was.store) (opened_store mode capacity w.store) → P (store_of mode capacity o t) (store_of mode after o2 t2)
  lent P h =
      subst (λ (x : Option (PairCache D)). P (store_of mode capacity x t) (store_of mode after o2 t2)) (sym e)
      (subst (λ (x : Option (PairCache D)). P (opened_store mode capacity was.store) (store_of mode after x t2)) (sym e2)
      (subst (λ (n : ℕ). P (opened_store mode capacity was.store) (opened_store mode n w.store)) (sym same) h))

  -- the store's capacity stays the disk store's
  pub lent-limit : w.store.capacity ≡ was.store.capacity → option_map_or (λ (c : PairCache D). c.store.capacity) o capacity ≡ capacity → option_map_or (λ (c : PairCache D). c.store.capacity) o2 after ≡ after
  lent-limit stays limit = ap (λ (x : Option (PairCache D)). option_map_or (λ c. c.store.capacity) x after) e2 ∙ stays ∙ sym (ap (λ (x : Option (PairCache D)). option_map_or (λ c. c.store.capacity) x capacity) e) ∙ limit ∙ sym same

  pub limit-of : option_map_or (λ (c : PairCache D). c.store.capacity) o capacity ≡ capacity → was.store.capacity ≡ capacity
  limit-of limit = sym (ap (λ (x : Option (PairCache D)). option_map_or (λ c. c.store.capacity) x capacity) e) ∙ limit

opened_limit : {D : Type 0} (capacity after : ℕ) (o2 : Option (PairCache D)) (was : TwoState) → after ≡ capacity → IfSome o2 (λ c. c.store.capacity ≡ capacity) → option_map_or (λ (c : PairCache D). c.store.capacity) o2 after ≡ after
opened_limit capacity after None was same h = refl
opened_limit capacity after (Some c) was same h = h ∙ sym same

only_limit : {D : Type 0} (capacity : ℕ) (o : Option (PairCache D)) (t : Option TwoState) (o2 : Option (PairCache D)) (was : TwoState) → o ≡ None → t ≡ Some was → OpensOn capacity o t o2 → IfSome o2 (λ c. c.store.capacity ≡ capacity)
only_limit capacity o t None was none some h = tt
only_limit capacity o t (Some c) was none some h = (h was none some).2

has_some : (t : Option TwoState) → is_some t ≡ true → (was : TwoState) × (t ≡ Some was)
has_some None h = cc
has_some (Some was) h = (was, refl)

none_of : {D : Type 0} (o : Option (PairCache D)) → is_some o ≡ false → o ≡ None
none_of None h = refl
none_of (Some c) h = cc

pub open-limit : {D : Type 0} (r : Result (Unit {0}) Error) (capacity after : ℕ) (o o2 : Option (PairCache D)) (t : Option TwoState) → is_some o ≡ false → is_some t ≡ true → after ≡ capacity → OnOk r (OpensOn capacity o t o2) → OnErr r ((o ≡ None) × (o2 ≡ None))
    → option_map_or (λ (c : PairCache D). c.store.capacity) o2 after ≡ after
open-limit {D} (Ok u) capacity after o o2 t shut has same opens refuses = let some = has_some t has in opened_limit capacity after o2 some.0 same (only_limit capacity o t o2 some.0 (none_of o shut) some.1 opens)
open-limit {D} (Err e) capacity after o o2 t shut has same opens refuses = ap (λ (x : Option (PairCache D)). option_map_or (λ c. c.store.capacity) x after) refuses.1

pub on_err : {T E P Q : Type 0} (r : Result T E) → OnErr r P → (P → Q) → OnErr r Q
on_err (Ok t) h f = tt
on_err (Err e) h f = f h

pub on_err_of : {T E P : Type 0} (r : Result T E) → P → OnErr r P
on_err_of (Ok t) p = tt
on_err_of (Err e) p = p

-- two facts of one result
pub if_oks : {T E : Type 0} {P Q R : T → Type 0} (r : Result T E) → IfOk r P → IfOk r Q → ((x : T) → P x → Q x → R x) → IfOk r R
if_oks (Ok x) p q f = f x p q
if_oks (Err e) p q f = tt

pub on_errs : {T E P Q R : Type 0} (r : Result T E) → OnErr r P → OnErr r Q → (P → Q → R) → OnErr r R
on_errs (Ok x) p q f = tt
on_errs (Err e) p q f = f p q

pub if_errs : {T E : Type 0} {P Q : E → Type 0} (r : Result T E) → IfErr r P → ((e : E) → P e → Q e) → IfErr r Q
if_errs (Ok x) h f = tt
if_errs (Err e) h f = f e h

-- a disk tells of nothing that reached what is behind it
none_reached : {D : Type 0} (mode : CacheMode) (capacity : ℕ) (o : Option (PairCache D)) (t : Option TwoState) → (store_of mode capacity o t).level.written ≡ None
none_reached mode capacity (Some c) t = refl
none_reached mode capacity None t = refl

pub written-none : {D : Type 0} (mode mode2 : CacheMode) (capacity after : ℕ) (o o2 : Option (PairCache D)) (t t2 : Option TwoState) → (store_of mode2 after o2 t2).level.written ≡ (store_of mode capacity o t).level.written
written-none mode mode2 capacity after o o2 t t2 = none_reached mode2 after o2 t2 ∙ sym (none_reached mode capacity o t)
