-- What a store keeps, after a change of each kind.
use Rattle.std.proofs.Common.{◌≡◌, ◌≢◌, inl, inr, ℕ, ◌+◌, ◌<◌, ◌≤◌, ◌^◌, Bool, true, false, cond, bytes_eq, is_some, List, [], ◌∷◌, length, drop, take, slice_get, slice_index_or, option_map, Option, Some, None, Result, Ok, Err, OnErr, sym, ap, ◌∙◌, subst, arith}
use native.Mathlib.Decide.{dec_lt}
use Rattle.std.specs.List.{IsDistinct}
use Rattle.std.specs.Map.{keys_of, remove_entry}
use Rattle.slab.specs.Slab.{Slab, Updates, get}
use Rattle.sc_entry.specs.Causes.{IfTold}
use Rattle.sc_lru.proofs.Measures.{total-first, total-touched}
use Rattle.sc_lru.specs.LruCache.{total}
use Rattle.sc_lru.specs.Order.{touched}
use Rattle.sc_disk.specs.Disks.{AdoptsPart, DiskFiles, DiskState, Does, DoesPart, IsSize, change, disk_file, disk_file_at, files_now}
use Rattle.sc_disk.specs.Names.{is_temporary_path, temporary}
use Rattle.sc_disk.specs.Store.{AreKeys, HasFiles, HaveFiles, HaveKeys, Keeps, declared, filed, size_of}
use Rattle.sc_disk.specs.declared.change.Change.{Change}
use Rattle.sc_disk.specs.declared.change.Change.TheVariants.{Made, Added, Touched, Moved, Gone}
use Rattle.sc_disk.specs.declared.pending.Pending.{Pending}
use Rattle.sc_disk.proofs.Changing.{IsAside, Slots, size, some-aside, HasFiles-aside, HasFiles-discarded, HasFiles-first, HasFiles-removed, HasFiles-settled, HasFiles-touched, HasFiles-used, AreKeys-filed, AreKeys-first, AreKeys-removed}
use Rattle.sc_disk.proofs.Doing.{does-muted, mute, told-after, told-both, told-map, told-still}
use Rattle.sc_disk.proofs.Files.{at-insert, self_path}
use Rattle.sc_disk.proofs.Pairs.{Index, lookup-touched, total-filed, total-removed}
use Rattle.sc_disk.proofs.Temporaries.{temporary_is}

pub on_err : {T E : Type 0} (r : Result T E) (P : Type 0) → P → OnErr r P
on_err (Ok x) P p = tt
on_err (Err e) P p = p

-- the same files of a disk that is divided as before
files-as : (es : Index) (slots : Slots) (old new : DiskState) → new.divided ≡ old.divided → IfTold new.told (λ r. HasFiles old.divided es slots (files_now r)) → IfTold new.told (λ r. HasFiles new.divided es slots (files_now r))
files-as es slots old new same h = subst (λ (v : Bool). IfTold new.told (λ r. HasFiles v es slots (files_now r))) (sym same) h

-- the disk did nothing
pub Keeps-still : (es : Index) (b : ℕ) (slots : Slots) (h c : ℕ) (old new : DiskState) → Does [] old new → Keeps es b slots h c old → Keeps es b slots h c new
Keeps-still es b slots h c old new is k = record {
  reserved = k.reserved;
  limit = k.limit;
  fits = k.fits;
  keys = k.keys;
  opened = k.opened;
  files = files-as es slots old new is.divided (told-still old new (HasFiles old.divided es slots) is k.files);
}

pub Keeps-aside : (es : Index) (b : ℕ) (slots : Slots) (h c : ℕ) (old new : DiskState) (x : Change) → IsAside x → Does (x ∷ []) old new → Keeps es b slots h c old → Keeps es b slots h c new
Keeps-aside es b slots h c old new x a is k = record {
  reserved = k.reserved;
  limit = k.limit;
  fits = k.fits;
  keys = k.keys;
  opened = k.opened;
  files = files-as es slots old new is.divided (told-after old new x (HasFiles old.divided es slots) (HasFiles old.divided es slots) is (λ f. HasFiles-aside old.divided x es slots f a) k.files);
}

pub Keeps-part : (es : Index) (b : ℕ) (slots : Slots) (h c : ℕ) (old new : DiskState) (path bytes : List ℕ) → is_temporary_path path ≡ true → DoesPart path bytes old new → Keeps es b slots h c old → Keeps es b slots h c new
Keeps-part es b slots h c old new path bytes temp (inl same) k = Keeps-still es b slots h c old new same k
Keeps-part es b slots h c old new path bytes temp (inr part) k = Keeps-aside es b slots h c old new (Added path (take part.0 bytes)) temp part.1 k

-- what a store keeps is no matter of its disk's calls
muted : (es : Index) (b : ℕ) (slots : Slots) (h c : ℕ) (d : DiskState) → Keeps es b slots h c d → Keeps es b slots h c (mute d)
muted es b slots h c d k = record { reserved = k.reserved; limit = k.limit; fits = k.fits; keys = k.keys; opened = k.opened; files = k.files }

unmuted : (es : Index) (b : ℕ) (slots : Slots) (h c : ℕ) (d : DiskState) → Keeps es b slots h c (mute d) → Keeps es b slots h c d
unmuted es b slots h c d k = record { reserved = k.reserved; limit = k.limit; fits = k.fits; keys = k.keys; opened = k.opened; files = k.files }

pub Keeps-adopted : (es : Index) (b : ℕ) (slots : Slots) (h c : ℕ) (old new : DiskState) (outside path : List ℕ) → is_temporary_path path ≡ true → AdoptsPart outside path old new → Keeps es b slots h c old → Keeps es b slots h c new
Keeps-adopted es b slots h c old new outside path temp (inl same) k = unmuted es b slots h c new (Keeps-still es b slots h c (mute old) (mute new) (does-muted old new [] same) (muted es b slots h c old k))
Keeps-adopted es b slots h c old new outside path temp (inr (bytes, there, inl same)) k = unmuted es b slots h c new (Keeps-still es b slots h c (mute old) (mute new) (does-muted old new [] same) (muted es b slots h c old k))
Keeps-adopted es b slots h c old new outside path temp (inr (bytes, there, inr part)) k =
    unmuted es b slots h c new (Keeps-aside es b slots h c (mute old) (mute new) (Added path (take part.0 bytes)) temp (does-muted old new (Added path (take part.0 bytes) ∷ []) part.1) (muted es b slots h c old k))

-- the first file went, and its pair
pub Keeps-first : (es fs : Index) (b b2 : ℕ) (slots : Slots) (h c : ℕ) (old new : DiskState) (e : List ℕ × ℕ) → Some e ≡ slice_get es 0 → IsDistinct bytes_eq (keys_of es) → fs ≡ drop 1 es → b2 ≡ b
    → Does (Gone e.0 ∷ []) old new → Keeps es b slots h c old → Keeps fs b2 slots h c new
Keeps-first es fs b b2 slots h c old new e at d is bound did k = record {
  reserved = k.reserved;
  limit = bound ∙ k.limit;
  fits = omega (arith, k.fits, ap (total size_of) is, total-first size_of es e at);
  keys = subst AreKeys (sym is) (AreKeys-first es k.keys);
  opened = k.opened;
  files = files-as fs slots old new did.divided (subst (λ (l : Index). IfTold new.told (λ r. HasFiles old.divided l slots (files_now r))) (sym is)
      (told-after old new (Gone e.0) (HasFiles old.divided es slots) (HasFiles old.divided (drop 1 es) slots) did (λ f. HasFiles-first old.divided es e slots f at d k.keys) k.files));
}

-- the key went last
pub Keeps-used : (es fs : Index) (b b2 : ℕ) (slots : Slots) (h c : ℕ) (d : DiskState) (k : List ℕ) → IsDistinct bytes_eq (keys_of es) → fs ≡ touched (bytes_eq k) es → b2 ≡ b → Keeps es b slots h c d → Keeps fs b2 slots h c d
Keeps-used es fs b b2 slots h c d k distinct is bound kept = record {
  reserved = kept.reserved;
  limit = bound ∙ kept.limit;
  fits = let same = ap (total size_of) is ∙ total-touched size_of (bytes_eq k) es in omega (arith, same, kept.fits);
  keys = subst AreKeys (sym is) (λ q t. lookup-touched q k es distinct ∙ kept.keys q t);
  opened = kept.opened;
  files = subst (λ (l : Index). IfTold d.told (λ r. HasFiles d.divided l slots (files_now r))) (sym is) (told-map d (HasFiles d.divided es slots) (HasFiles d.divided (touched (bytes_eq k) es) slots) (λ f. HasFiles-used d.divided k es slots f distinct) kept.files);
}

pub Keeps-touched : (es : Index) (b : ℕ) (slots : Slots) (h c : ℕ) (old new : DiskState) (k : List ℕ) (now : ℕ) → Does (Touched k now ∷ []) old new → Keeps es b slots h c old → Keeps es b slots h c new
Keeps-touched es b slots h c old new k now is kept = record {
  reserved = kept.reserved;
  limit = kept.limit;
  fits = kept.fits;
  keys = kept.keys;
  opened = kept.opened;
  files = files-as es slots old new is.divided (told-after old new (Touched k now) (HasFiles old.divided es slots) (HasFiles old.divided es slots) is (λ f. HasFiles-touched old.divided k now es slots f) kept.files);
}

pub Keeps-removed : (es fs : Index) (b b2 : ℕ) (slots : Slots) (h c : ℕ) (old new : DiskState) (k : List ℕ)
    → is_temporary_path k ≡ false → IsDistinct bytes_eq (keys_of es) → fs ≡ remove_entry (bytes_eq k) es → b2 ≡ b → Does (Gone k ∷ []) old new → Keeps es b slots h c old → Keeps fs b2 slots h c new
Keeps-removed es fs b b2 slots h c old new k key d is bound p kept = record {
  reserved = kept.reserved;
  limit = bound ∙ kept.limit;
  fits = omega (arith, total-removed k es, ap (total size_of) is, kept.fits);
  keys = subst AreKeys (sym is) (AreKeys-removed k es key kept.keys);
  opened = kept.opened;
  files = files-as fs slots old new p.divided (subst (λ (l : Index). IfTold new.told (λ r. HasFiles old.divided l slots (files_now r))) (sym is)
      (told-after old new (Gone k) (HasFiles old.divided es slots) (HasFiles old.divided (remove_entry (bytes_eq k) es) slots) p (λ f. HasFiles-removed old.divided k es slots f key d) kept.files));
}

-- a closed entry's temporary went
pub Keeps-discarded : (es : Index) (b : ℕ) (slots : Slots) (h c : ℕ) (old new : DiskState) (w : Bool) (k0 : List ℕ) (m : ℕ) → m < 2 ^ 64 → length slots < 2 ^ 64 → slice_index_or slots m None ≡ None → Does (Gone (temporary w k0 m) ∷ []) old new → Keeps es b slots h c old → Keeps es b slots h c new
Keeps-discarded es b slots h c old new w k0 m small short closed is k = record {
  reserved = k.reserved;
  limit = k.limit;
  fits = k.fits;
  keys = k.keys;
  opened = k.opened;
  files = files-as es slots old new is.divided (told-after old new (Gone (temporary w k0 m)) (HasFiles old.divided es slots) (HasFiles old.divided es slots) is (λ f. HasFiles-discarded old.divided w k0 m es slots f small short closed) k.files);
}

-- a closed entry's temporary, of this size, took its key's place
pub Keeps-settled : (es fs : Index) (b b2 : ℕ) (slots : Slots) (h c : ℕ) (old mid new : DiskState) (w : Bool) (k0 : List ℕ) (m : ℕ) (k : List ℕ) (r now : ℕ)
    → m < 2 ^ 64 → length slots < 2 ^ 64 → slice_index_or slots m None ≡ None → is_temporary_path k ≡ false → IsDistinct bytes_eq (keys_of es) → fs ≡ filed k r es → b2 ≡ b → total size_of es + (h + r) ≤ c
    → Does (Touched (temporary w k0 m) now ∷ []) old mid → Does (Moved (temporary w k0 m) k ∷ []) mid new → IsSize (temporary w k0 m) r old
    → Keeps es b slots h c old → Keeps fs b2 slots h c new
Keeps-settled es fs b b2 slots h c old mid new w k0 m k r now small short closed key d is bound room p q s kept = record {
  reserved = kept.reserved;
  limit = bound ∙ kept.limit;
  fits = omega (arith, total-filed k r es, ap (total size_of) is, room);
  keys = subst AreKeys (sym is) (AreKeys-filed k r es key kept.keys);
  opened = kept.opened;
  files = let t = temporary w k0 m in let v = old.divided in files-as fs slots old new (q.divided ∙ p.divided) (subst (λ (l : Index). IfTold new.told (λ x. HasFiles v l slots (files_now x))) (sym is)
      (told-after mid new (Moved t k) (λ f. HasFiles v (filed k r es) slots (change (Moved t k) f)) (HasFiles v (filed k r es) slots) q (λ f g. g)
      (told-after old mid (Touched t now) (λ f. (option_map size (disk_file_at f t) ≡ Some r) × HasFiles v es slots f) (λ f. HasFiles v (filed k r es) slots (change (Moved t k) f)) p
      (λ f g. HasFiles-settled v w k0 m k r now es slots f small short closed key d g.0 g.1)
      (told-both old (λ f. option_map size (disk_file_at f t) ≡ Some r) (HasFiles v es slots) s kept.files))));
}

-- An entry is opened or closed: the facts of each open entry.
pub by_place : (m n : ℕ) (P : Type 0) → (m ≢ n → P) → (m ≡ n → P) → P
by_place m n P off on = elim (dec_lt m n) [
  | Prim.yes less ↦ off (λ e. absurd (omega arith))
  | Prim.no not_less ↦ elim (dec_lt n m) [
    | Prim.yes more ↦ off (λ e. absurd (omega arith))
    | Prim.no not_more ↦ on (omega arith)
  ]
]

pub same_entry : (d e : Pending) → Some d ≡ Some e → d ≡ e
same_entry d e h = cc

pub HaveKeys-opened : (old new : Slab Pending) (n : ℕ) (e : Pending) → Updates old new n (Some e) → is_temporary_path e.key ≡ false → HaveKeys old.slots → HaveKeys new.slots
HaveKeys-opened old new n e u k h = λ m d at. by_place m n (is_temporary_path d.key ≡ false) (λ off. h m d (sym (u.others m off) ∙ at))
    (λ same. let there : Some e ≡ Some d = sym u.changed ∙ ap (get new) (sym same) ∙ at in ap (λ (p : Pending). is_temporary_path p.key) (sym (same_entry e d there)) ∙ k)

pub no_entry : (d : Pending) → ◌≡◌ {A = Option Pending} None (Some d) → ⊥
no_entry d h = cc

pub still_open : (old new : Slab Pending) (n : ℕ) → Updates old new n None → (m : ℕ) (d : Pending) → get new m ≡ Some d → get old m ≡ Some d
still_open old new n u m d at = by_place m n (get old m ≡ Some d) (λ off. sym (u.others m off) ∙ at) (λ same. absurd (no_entry d (sym u.changed ∙ ap (get new) (sym same) ∙ at)))

pub HaveKeys-closed : (old new : Slab Pending) (n : ℕ) → Updates old new n None → HaveKeys old.slots → HaveKeys new.slots
HaveKeys-closed old new n u h = λ m d at. h m d (still_open old new n u m d at)

HaveFiles-made : (v : Bool) (old new : Slab Pending) (n : ℕ) (e : Pending) (now : ℕ) (f : DiskFiles) → Updates old new n (Some e) → HaveFiles v old.slots f → HaveFiles v new.slots (change (Made (temporary v e.key n) now) f)
HaveFiles-made v old new n e now f u h = λ m d at. let t = temporary v e.key n in by_place m n (is_some (disk_file_at (change (Made t now) f) (temporary v d.key m)) ≡ true)
    (λ off. some-aside (Made t now) f (temporary v d.key m) (temporary_is v e.key n) (h m d (sym (u.others m off) ∙ at)))
    (λ same. let is : temporary v d.key m ≡ t = (λ i. temporary v (same_entry d e (sym at ∙ ap (get new) same ∙ u.changed) i).key (same i)) in
    ap is_some (at-insert f t (disk_file now []) (temporary v d.key m) ∙ ap (λ b. cond b (Some (disk_file now [])) (disk_file_at f (temporary v d.key m))) (ap (λ q. bytes_eq q t) is ∙ self_path t)))

pub Keeps-opened : (es : Index) (b : ℕ) (old new : Slab Pending) (h h2 c : ℕ) (d0 d1 : DiskState) (n : ℕ) (e : Pending) (now : ℕ) → Updates old new n (Some e) → is_temporary_path e.key ≡ false
    → h2 ≡ declared new.slots → total size_of es + h2 ≤ c → Does (Made (temporary d0.divided e.key n) now ∷ []) d0 d1 → Keeps es b old.slots h c d0 → Keeps es b new.slots h2 c d1
Keeps-opened es b old new h h2 c d0 d1 n e now u key held room did k = record {
  reserved = held;
  limit = k.limit;
  fits = room;
  keys = k.keys;
  opened = HaveKeys-opened old new n e u key k.opened;
  files = let v = d0.divided in let t = temporary v e.key n in files-as es new.slots d0 d1 did.divided (told-after d0 d1 (Made t now) (HasFiles v es old.slots) (HasFiles v es new.slots) did
      (λ f g. record { agrees = (HasFiles-aside v (Made t now) es old.slots f (temporary_is v e.key n) g).agrees; temporaries = HaveFiles-made v old new n e now f u g.temporaries }) k.files);
}

pub Keeps-closed : (es : Index) (b : ℕ) (old new : Slab Pending) (h h2 c : ℕ) (d : DiskState) (n : ℕ) → Updates old new n None → h2 ≡ declared new.slots → h2 ≤ h → Keeps es b old.slots h c d → Keeps es b new.slots h2 c d
Keeps-closed es b old new h h2 c d n u held less k = record {
  reserved = held;
  limit = k.limit;
  fits = omega (arith, k.fits, less);
  keys = k.keys;
  opened = HaveKeys-closed old new n u k.opened;
  files = told-map d (HasFiles d.divided es old.slots) (HasFiles d.divided es new.slots) (λ f g. record { agrees = g.agrees; temporaries = λ m e at. g.temporaries m e (still_open old new n u m e at) }) k.files;
}

pub opened_as : (old new : Slab Pending) (n : ℕ) (k k2 : List ℕ) (r : ℕ) → k ≡ k2 → Updates old new n (Some (record { key = k; size = r })) → Updates old new n (Some (record { key = k2; size = r }))
opened_as old new n k k2 r same u = subst (λ (l : List ℕ). Updates old new n (Some (record { key = l; size = r }))) same u
