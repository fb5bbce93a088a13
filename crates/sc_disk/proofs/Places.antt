-- Paths that a disk has a place for, and files that it holds.
use Rattle.std.proofs.Common.{◌≡◌, ℕ, zero, suc, ◌+◌, ◌==◌, Bool, true, false, ◌&&◌, ◌||◌, cond, take, not, bytes_eq, is_some, List, [], ◌∷◌, ◌++◌, drop, length, option_map, Option, Some, None, slice_get, slice_index_or, refl, arith, sym, ap, ◌∙◌, subst}
use Rattle.std.specs.List.{filter, prefix_len}
use Rattle.std.specs.Map.{lookup, remove_entry}
use Rattle.slab.specs.Slab.{Slab}
use Rattle.sc_entry.specs.Causes.{IfTold}
use Rattle.sc_disk.specs.Disks.{ArePlaced, Changes, DiskFiles, DiskRecord, DiskState, Does, IsHeld, IsOneDevice, IsSize, device_of, disk_file_at, files_now, has_place, is_device}
use Rattle.sc_disk.specs.Names.{first_part, is_temporary_path, temporary, temporary_name}
use Rattle.sc_disk.specs.Opening.{HavePlaces}
use Rattle.sc_disk.specs.Store.{AddEntry, Alters, AreKeys, Evicts, HasFiles, IsOpen, Store, add_entry, filed, store}
use Rattle.sc_disk.specs.declared.change.Change.{Change}
use Rattle.sc_disk.specs.declared.change.Change.TheVariants.{Touched}
use Rattle.sc_disk.specs.declared.disk.Listed.{Listed}
use Rattle.sc_disk.specs.declared.pending.Pending.{Pending}
use Rattle.sc_disk.proofs.Changing.{first_is_key, some-touched}
use Rattle.sc_disk.proofs.Doing.{told-after, told-still}
use Rattle.sc_disk.proofs.Files.{self_path}

-- no change changes what places a disk has
pub same-place : (old new : DiskState) (xs : List Change) (path : List ℕ) → Does xs old new → has_place new path ≡ has_place old path
same-place old new xs path did = λ i. not (did.divided i) || is_device (device_of path) (did.letters i)

module _ (old new : DiskState) (xs : List Change) (did : Does xs old new) where
  pub still-placed : (all : List Listed) → ArePlaced all old → ArePlaced all new
  still-placed [] h = tt
  still-placed (e ∷ es) h = (same-place old new xs e.path did ∙ h.0, still-placed es h.1)

  pub still-places : (index : List (List ℕ × ℕ)) → HavePlaces index old → HavePlaces index new
  still-places [] h = tt
  still-places (e ∷ es) h = (same-place old new xs e.0 did ∙ h.0, still-places es h.1)

pub places-dropped : (d : DiskState) (n : ℕ) (es : List (List ℕ × ℕ)) → HavePlaces es d → HavePlaces (drop n es) d
places-dropped d zero [] h = tt
places-dropped d zero (e ∷ es) h = h
places-dropped d (suc n) [] h = tt
places-dropped d (suc n) (e ∷ es) h = places-dropped d n es h.1

places-removed : (d : DiskState) (f : List ℕ → Bool) (es : List (List ℕ × ℕ)) → HavePlaces es d → HavePlaces (remove_entry f es) d
places-removed d f [] h = tt
places-removed d f (e ∷ es) h = by (f e.0) (places-removed d f es h.1)
  where
    by : (b : Bool) → HavePlaces (remove_entry f es) d → HavePlaces (cond b es (e ∷ remove_entry f es)) d
    by true rest = h.1
    by false rest = (h.0, rest)

places-pushed : (d : DiskState) (e : List ℕ × ℕ) (es : List (List ℕ × ℕ)) → has_place d e.0 ≡ true → HavePlaces es d → HavePlaces (es ++ e ∷ []) d
places-pushed d e [] there h = (there, tt)
places-pushed d e (x ∷ es) there h = (h.0, places-pushed d e es there h.1)

pub places-filed : (d : DiskState) (key : List ℕ) (size : ℕ) (es : List (List ℕ × ℕ)) → has_place d key ≡ true → HavePlaces es d → HavePlaces (filed key size es) d
places-filed d key size es there h = places-pushed d (key, size) (remove_entry (bytes_eq key) es) there (places-removed d (bytes_eq key) es h)

pub placed-filtered : (d : DiskState) (f : Listed → Bool) (all : List Listed) → ArePlaced all d → ArePlaced (filter f all) d
placed-filtered d f [] h = tt
placed-filtered d f (e ∷ es) h = by (f e) (placed-filtered d f es h.1)
  where
    by : (b : Bool) → ArePlaced (filter f es) d → ArePlaced (cond b (e ∷ filter f es) (filter f es)) d
    by true rest = (h.0, rest)
    by false rest = rest

some_from_map : {A B : Type 0} (g : A → B) (o : Option A) → is_some (option_map g o) ≡ true → is_some o ≡ true
some_from_map g None h = h
some_from_map g (Some a) h = refl

-- a fact of the files is one of what is told
held_by : (d : DiskState) (path : List ℕ) (P : DiskFiles → Type 0) → ((f : DiskFiles) → P f → is_some (disk_file_at f path) ≡ true) → IfTold d.told (λ r. P (files_now r)) → IsHeld path d
held_by d path P step = by d.told
  where
    by : (o : Option DiskRecord) → IfTold o (λ r. P (files_now r)) → IfTold o (λ r. is_some (disk_file_at (files_now r) path) ≡ true)
    by None h = tt
    by (Some r) h = step (files_now r) h

-- an indexed key's file is held
pub held-key : (d : DiskState) (v : Bool) (index : List (List ℕ × ℕ)) (slots : List (Option Pending)) (key : List ℕ) → is_temporary_path key ≡ false → is_some (lookup (bytes_eq key) index) ≡ true → IfTold d.told (λ r. HasFiles v index slots (files_now r)) → IsHeld key d
held-key d v index slots key good there files = held_by d key (HasFiles v index slots) (λ f h. some_from_map (λ file. length file.bytes) (disk_file_at f key) (ap is_some (h.agrees key good) ∙ there)) files

-- an open entry's temporary is held
pub held-temporary : (d : DiskState) (v : Bool) (index : List (List ℕ × ℕ)) (slots : List (Option Pending)) (number : ℕ) (e : Pending) (key : List ℕ) → slice_index_or slots number None ≡ Some e → e.key ≡ key → IfTold d.told (λ r. HasFiles v index slots (files_now r)) → IsHeld (temporary v key number) d
held-temporary d v index slots number e key at same files = held_by d (temporary v key number) (HasFiles v index slots) (λ f h. subst (λ k. is_some (disk_file_at f (temporary v k number)) ≡ true) same (h.temporaries number e at)) files

-- what has a size is held
pub held-sized : (d : DiskState) (path : List ℕ) (n : ℕ) → IsSize path n d → IsHeld path d
held-sized d path n = held_by d path (λ f. option_map (λ file. length file.bytes) (disk_file_at f path) ≡ Some n) (λ f h. some_from_map (λ file. length file.bytes) (disk_file_at f path) (ap is_some h))

looked_first : (b : Bool) (r : ℕ) (o : Option ℕ) → b ≡ true → is_some (cond b (Some r) o) ≡ true
looked_first true r o h = refl
looked_first false r o h = absurd (cc)

-- the first key's file is held
pub held-first : (d : DiskState) (v : Bool) (index : List (List ℕ × ℕ)) (slots : List (Option Pending)) (e : List ℕ × ℕ) → Some e ≡ slice_get index 0 → AreKeys index → IfTold d.told (λ r. HasFiles v index slots (files_now r)) → IsHeld e.0 d
held-first d v [] slots e first keys files = absurd (cc)
held-first d v (x ∷ xs) slots e first keys files = subst (λ (k : List ℕ). IsHeld k d) (ap (λ (p : List ℕ × ℕ). p.0) (one x e first))
    (held-key d v (x ∷ xs) slots x.0 (first_is_key x xs keys (is_temporary_path x.0) refl) (looked_first (bytes_eq x.0 x.0) x.1 (lookup (bytes_eq x.0) xs) (self_path x.0)) files)
  where
    one : (x e : List ℕ × ℕ) → Some e ≡ Some x → x ≡ e
    one x e h = cc

-- what is held stays so, but where it is taken away
pub held-still : (old new : DiskState) (path : List ℕ) → Does [] old new → IsHeld path old → IsHeld path new
held-still old new path did h = told-still old new (λ f. is_some (disk_file_at f path) ≡ true) did h

pub held-touched : (old new : DiskState) (path : List ℕ) (now : ℕ) → Does (Touched path now ∷ []) old new → IsHeld path old → IsHeld path new
held-touched old new path now did h = told-after old new (Touched path now) (λ f. is_some (disk_file_at f path) ≡ true) (λ f. is_some (disk_file_at f path) ≡ true) did (λ f g. some-touched f path now path g) h

-- a key that has a place begins with a device's letter, where the disk is divided
device_first : (letters : List ℕ) (key : List ℕ) → is_device (device_of key) letters ≡ true → is_some (device_of key) ≡ true
device_first letters key = by (device_of key)
  where
    by : (o : Option ℕ) → is_device o letters ≡ true → is_some o ≡ true
    by None h = absurd (cc)
    by (Some l) h = refl

placed_device : (divided : Bool) (letters : List ℕ) (key : List ℕ) → (not divided || is_device (device_of key) letters) ≡ true → divided ≡ true → is_device (device_of key) letters ≡ true
placed_device true letters key h is = h
placed_device false letters key h is = absurd (cc)

pub has-device : (d : DiskState) (key : List ℕ) → has_place d key ≡ true → d.divided ≡ true → is_some (device_of key) ≡ true
has-device d key h is = device_first d.letters key (placed_device d.divided d.letters key h is)

first_is : (b c : ℕ) (rest : List ℕ) → (b == 47) ≡ false → (c == 47) ≡ true → first_part (b ∷ c ∷ rest) ≡ b ∷ []
first_is b c rest h k =
    ap (λ x. take (cond (not x) (1 + cond (not (c == 47)) (1 + prefix_len (λ l. not (l == 47)) rest) 0) 0) (b ∷ c ∷ rest)) h
    ∙ ap (λ y. take (1 + cond (not y) (1 + prefix_len (λ l. not (l == 47)) rest) 0) (b ∷ c ∷ rest)) k

-- a key's temporary is of its device
pub one-device : (key : List ℕ) (number : ℕ) → is_some (device_of key) ≡ true → device_of (temporary true key number) ≡ device_of key
one-device [] number h = absurd (cc)
one-device (b ∷ []) number h = absurd (cc)
one-device (b ∷ c ∷ rest) number h = by (c == 47) (b == 47) refl refl h
  where
    by : (s t : Bool) → (c == 47) ≡ s → (b == 47) ≡ t → is_some (cond (s && not t) (Some b) None) ≡ true → device_of (temporary true (b ∷ c ∷ rest) number) ≡ cond ((c == 47) && not (b == 47)) (Some b) None
    by true false is other h =
        ap (λ f. device_of (f ++ 47 ∷ temporary_name number)) (first_is b c rest other is) ∙ (λ i. cond (sym is i && not (b == 47)) (Some b) None)
    by true true is other h = absurd (cc)
    by false t is other h = absurd (cc)

pub place-temporary : (d : DiskState) (key : List ℕ) (number : ℕ) → has_place d key ≡ true → has_place d (temporary d.divided key number) ≡ true
place-temporary d key number h = by d.divided refl
  where
    by : (v : Bool) → d.divided ≡ v → (not d.divided || is_device (device_of (temporary d.divided key number)) d.letters) ≡ true
    by false is = ap (λ v. not v || is_device (device_of (temporary v key number)) d.letters) is
    by true is =
        ap (λ v. not v || is_device (device_of (temporary v key number)) d.letters) is
        ∙ ap (λ o. is_device o d.letters) (one-device key number (has-device d key h is))
        ∙ placed_device d.divided d.letters key h is

-- an entry's temporary and its key are of one device
pub temporary-moves : (d : DiskState) (v : Bool) (key k : List ℕ) (number : ℕ) → v ≡ d.divided → k ≡ key → (v ≡ true → is_some (device_of key) ≡ true) → IsOneDevice (temporary v key number) k d
temporary-moves d v key k number same is device divided =
    ap device_of is ∙ sym (one-device key number (device (same ∙ divided))) ∙ ap (λ w. device_of (temporary w key number)) (sym (same ∙ divided))

module _ (old : Store) (index : List (List ℕ × ℕ)) (spare : ℕ) (pending : Slab Pending) (capacity : ℕ) (d : DiskState) (view : store index spare pending capacity d ≡ old) where
  pub alters-so : (xs : List Change) (e : DiskState) → Does xs d e → Alters xs old (store index spare pending capacity e)
  alters-so xs e did = subst (λ (w : Store). Alters xs w (store index spare pending capacity e)) view (record { index = refl; spare = omega arith; pending = refl; capacity = refl; disk = did })

  -- a call that the disk refused
  pub alters-nothing : (e : DiskState) → Does [] d e → Alters [] old (store index spare pending capacity e)
  alters-nothing e did = alters-so [] e did

  pub evicts-nothing : (e : DiskState) → Does [] d e → Evicts 0 old (store index spare pending capacity e)
  evicts-nothing e did = subst (λ (w : Store). Evicts 0 w (store index spare pending capacity e)) view (record { index = refl; spare = omega arith; pending = refl; capacity = refl; disk = did })

  -- an open entry's temporary is held
  pub held-open : (e : AddEntry) (number : ℕ) (key : List ℕ) (divided : Bool) (path : List ℕ) → add_entry number key divided ≡ e → path ≡ temporary divided key number → IsOpen old e → IfTold d.told (λ r. HasFiles d.divided index pending.slots (files_now r)) → IsHeld path d
  held-open e number key divided path entry is o files =
      let p : IsOpen (store index spare pending capacity d) (add_entry number key divided) = subst (λ (w : Store). IsOpen w (add_entry number key divided)) (sym view) (subst (IsOpen old) (sym entry) o) in
      subst (λ (q : List ℕ). IsHeld q d) (ap (λ v. temporary v key number) (sym p.3) ∙ sym is) (held-temporary d d.divided index pending.slots number p.0 key p.1 p.2 files)

-- a closed entry's temporary, of this size, is given its moment
module _ (d mid : DiskState) (number : ℕ) (key : List ℕ) (divided : Bool) (path : List ℕ) (now : ℕ) (is : path ≡ temporary divided key number) (did : Does (Touched path now ∷ []) d mid) where
  pub touched-held : IsHeld path d → IsHeld path mid
  touched-held h = held-touched d mid path now did h

  pub touched-moves : (k : List ℕ) → divided ≡ d.divided → k ≡ key → (divided ≡ true → is_some (device_of key) ≡ true) → IsOneDevice path k mid
  touched-moves k same same_key device = subst (λ (q : List ℕ). IsOneDevice q k mid) (sym is) (temporary-moves mid divided key k number (same ∙ sym did.divided) same_key device)
