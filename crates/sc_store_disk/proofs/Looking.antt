-- What a read at an opened store answers.
use Rattle.std.proofs.Common.{◌≡◌, inl, inr, ℕ, Bool, true, false, ◌&&◌, cond, is_some, bytes_eq, option_map, List, [], ◌∷◌, Option, Some, None, refl, ap, ◌∙◌, subst, sym}
use Rattle.std.specs.List.{IsDistinct}
use Rattle.std.specs.Map.{keys_of, lookup}
use Rattle.sc_entry.specs.Causes.{IfTold}
use Rattle.sc_entry.specs.declared.cache_mode.CacheMode.{CacheMode}
use Rattle.sc_entry.specs.declared.cache_mode.CacheMode.TheVariants.{ReadOnly}
use Rattle.sc_disk.proofs.Doing.{does-none}
use Rattle.sc_disk.proofs.Pairs.{lookup-touched}
use Rattle.sc_disk.specs.Calls.{Gets, touched_by, used_unless}
use Rattle.sc_disk.specs.Refusals.{GetCause}
use Rattle.sc_entry.specs.Keys.{is_file_key}
use Rattle.sc_disk.specs.Disks.{DiskRecord, DiskState, Does, disk_file_at, files_now}
use Rattle.sc_disk.specs.Sound.{IsSound}
use Rattle.sc_disk.specs.Store.{AreKeys, HasFiles, Store}
use Rattle.sc_disk.specs.declared.change.Change.TheVariants.{Touched}
use Rattle.sc_disk.specs.declared.error.Error.{Error}
use Rattle.sc_disk.specs.declared.error.Error.TheVariants.{BadKey, FileNotInCache, FileTooLarge, Io, NoMemory, Reserved}
use Rattle.sc_model.specs.Levels.{find_file}
use Rattle.sc_disk_pair.proofs.Shares.{lookup-part}
use Rattle.sc_disk_pair.specs.Pairs.{FindsPath, RefusesRead, index_of}
use Rattle.sc_disk_pair.specs.Parts.{in_part}
use Rattle.sc_disk_pair.specs.declared.part.Part.{Part}
use Rattle.sc_disk_pair.specs.declared.part.Part.TheVariants.{Main, Pre}
use Rattle.sc_store_disk.specs.DiskStores.{level_of, opened_store, told_files}
use Rattle.sc_store_disk.specs.Moving.{HasFile, Steady, part_files}
use Rattle.sc_store_disk.specs.Shown.{Index, bytes_at, shown}
use Rattle.sc_store_disk.proofs.Finding.{find-files}
use Rattle.sc_store_disk.proofs.Openings.{indexed_stands}
use Rattle.sc_store_disk.proofs.Steadying.{AllTouched, still_told, uses-steady}

pub gets-steady : (mode : CacheMode) (capacity : ℕ) (k read : List ℕ) (now : ℕ) (old new : Store) → IsDistinct bytes_eq (keys_of old.index) → Gets k read now old new → Steady (opened_store mode capacity old) (opened_store mode capacity new)
gets-steady mode capacity k read now old new d g = uses-steady mode capacity old new _ (λ q. ap (lookup (bytes_eq q)) g.index ∙ lookup-touched q k old.index d) g.pending g.disk tt

moments_only : (touches : Bool) (k : List ℕ) (now : ℕ) → AllTouched (touched_by touches k now)
moments_only true k now = tt
moments_only false k now = tt

same_unless : (refused : Error) (k q : List ℕ) (es : Index) → IsDistinct bytes_eq (keys_of es) → lookup (bytes_eq q) (used_unless refused k es) ≡ lookup (bytes_eq q) es
same_unless BadKey k q es d = refl
same_unless FileNotInCache k q es d = refl
same_unless FileTooLarge k q es d = lookup-touched q k es d
same_unless Io k q es d = lookup-touched q k es d
same_unless NoMemory k q es d = lookup-touched q k es d
same_unless Reserved k q es d = lookup-touched q k es d

pub unread-steady : (mode : CacheMode) (capacity : ℕ) (refused : Error) (k : List ℕ) (now : ℕ) (touches : Bool) (old new : Store) → IsDistinct bytes_eq (keys_of old.index) → RefusesRead refused k now touches old new
    → Steady (opened_store mode capacity old) (opened_store mode capacity new)
unread-steady mode capacity refused k now touches old new d (inl r) =
    uses-steady mode capacity old new (touched_by touches k now) (λ q. ap (lookup (bytes_eq q)) r.index ∙ same_unless refused k q old.index d) r.pending r.disk (moments_only touches k now)
unread-steady mode capacity refused k now touches old new d (inr (e, a)) = uses-steady mode capacity old new [] (λ q. ap (lookup (bytes_eq q)) a.index) a.pending a.disk tt

held-part : (part : Part) (s : Store) (path : List ℕ) → find_file (part_files part (level_of true s.index s.disk)) path ≡ shown s.index (told_files s.disk.told) (in_part part path)
held-part Main s path = find-files Main s.index (told_files s.disk.told) path
held-part Pre s path = find-files Pre s.index (told_files s.disk.told) path

read_told : (k read : List ℕ) (o : Option DiskRecord) → IfTold o (λ r. option_map (λ file. file.bytes) (disk_file_at (files_now r) k) ≡ Some read) → is_some o ≡ true → bytes_at (told_files o) k ≡ Some read
read_told k read None h t = cc
read_told k read (Some r) h t = h

pub read-hit : (part : Part) (path read : List ℕ) (now : ℕ) (old new : Store) → IsDistinct bytes_eq (keys_of old.index) → Gets (in_part part path) read now old new → is_some old.disk.told ≡ true
    → find_file (part_files part (level_of true new.index new.disk)) path ≡ Some read
read-hit part path read now old new d g told =
    let k = in_part part path in
    let found : is_some (lookup (bytes_eq k) new.index) ≡ true = ap (λ es. is_some (lookup (bytes_eq k) es)) g.index ∙ ap is_some (lookup-touched k k old.index d) ∙ g.found in
    held-part part new path ∙ ap (λ t. cond t (bytes_at (told_files new.disk.told) k) None) found ∙ read_told k read new.disk.told g.bytes (still_told old.disk.told new.disk.told (Touched k now ∷ []) g.disk.told ∙ told)

index_not : (part : Part) (path : List ℕ) (now : ℕ) (touches : Bool) (old new : Store) → RefusesRead FileNotInCache (in_part part path) now touches old new → new.index ≡ old.index
index_not part path now touches old new (inl r) = r.index
index_not part path now touches old new (inr (e, a)) = a.index

pub read-miss : (part : Part) (path : List ℕ) (now : ℕ) (touches : Bool) (old new : Store) (refused : Error) → refused ≡ FileNotInCache → RefusesRead refused (in_part part path) now touches old new
    → GetCause (is_file_key path) (is_some (lookup (bytes_eq path) (index_of part old.index))) old.disk.faults new.disk.faults refused → find_file (part_files part (level_of true new.index new.disk)) path ≡ None
read-miss part path now touches old new refused is reads cause =
    let k = in_part part path in
    let r = subst (λ (e : Error). RefusesRead e (in_part part path) now touches old new) is reads in
    let none = (subst (GetCause (is_file_key path) (is_some (lookup (bytes_eq path) (index_of part old.index))) old.disk.faults new.disk.faults) is cause).1 in
    held-part part new path ∙ ap (λ t. cond t (bytes_at (told_files new.disk.told) k) None)
    (ap (λ es. is_some (lookup (bytes_eq k) es)) (index_not part path now touches old new r) ∙ ap is_some (lookup-part part path old.index) ∙ none)

pub unread-capacity : (refused : Error) (k : List ℕ) (now : ℕ) (touches : Bool) (old new : Store) → RefusesRead refused k now touches old new → new.capacity ≡ old.capacity
unread-capacity refused k now touches old new (inl r) = r.capacity
unread-capacity refused k now touches old new (inr (e, a)) = a.capacity

-- A path that is told.
pub path-steady : (mode : CacheMode) (capacity : ℕ) (old new : Store) → ((q : List ℕ) → lookup (bytes_eq q) new.index ≡ lookup (bytes_eq q) old.index) → new.pending ≡ old.pending → new.disk ≡ old.disk → Steady (opened_store mode capacity old) (opened_store mode capacity new)
path-steady mode capacity old new sizes pending disk = uses-steady mode capacity old new [] sizes pending (subst (λ (d : DiskState). Does [] old.disk d) (sym disk) (does-none old.disk)) tt

has_bytes : (o : Option (List ℕ)) → is_some o ≡ true → (bytes : List ℕ) × (o ≡ Some bytes)
has_bytes None h = cc
has_bytes (Some bytes) h = (bytes, refl)

has_size : (o : Option ℕ) → is_some o ≡ true → (n : ℕ) × (o ≡ Some n)
has_size None h = cc
has_size (Some n) h = (n, refl)

stands_told : (s : Store) (o : Option DiskRecord) (q : List ℕ) → AreKeys s.index → IfTold o (λ r. HasFiles s.disk.divided s.index s.pending.slots (files_now r)) → is_some o ≡ true → is_some (lookup (bytes_eq q) s.index) ≡ true → is_some (bytes_at (told_files o) q) ≡ true
stands_told s None q keys files told there = cc
stands_told s (Some r) q keys files told there = let n = has_size (lookup (bytes_eq q) s.index) there in indexed_stands s.index (files_now r) keys files.agrees q n.0 n.1

pub path-there : (path : List ℕ) (s : Store) → IsSound s → is_some s.disk.told ≡ true → is_some (lookup (bytes_eq (in_part Main path)) s.index) ≡ true → (bytes : List ℕ) × (find_file (level_of true s.index s.disk).main path ≡ Some bytes)
path-there path s sound told there =
    let k = in_part Main path in
    let b = has_bytes (bytes_at (told_files s.disk.told) k) (stands_told s s.disk.told k sound.keys sound.files told there) in
    (b.0, held-part Main s path ∙ ap (λ t. cond t (bytes_at (told_files s.disk.told) k) None) there ∙ b.1)

none_of_size : (o : Option ℕ) → is_some o ≡ false → o ≡ None
none_of_size None h = refl
none_of_size (Some n) h = cc

pub path-absent : (path : List ℕ) (s : Store) → is_some (lookup (bytes_eq (in_part Main path)) s.index) ≡ false → find_file (level_of true s.index s.disk).main path ≡ None
path-absent path s none = held-part Main s path ∙ ap (λ t. cond t (bytes_at (told_files s.disk.told) (in_part Main path)) None) none

-- what the path of a key says of the index
only_key : (a b : Bool) → a ≡ true → (a && b) ≡ false → b ≡ false
only_key true b good none = none
only_key false b good none = cc

second : (a b : Bool) → (a && b) ≡ true → b ≡ true
second true b h = h
second false b h = cc

pub path-tells : (path root : List ℕ) (found : Option (List ℕ)) (old new : Store) → is_file_key path ≡ true → ((q : List ℕ) → lookup (bytes_eq q) new.index ≡ lookup (bytes_eq q) old.index) → FindsPath Main path root found old new
    → is_some (lookup (bytes_eq (in_part Main path)) new.index) ≡ is_some found
path-tells path root (Some p) old new good sizes h = ap is_some (sizes (in_part Main path)) ∙ ap is_some (lookup-part Main path old.index) ∙ second (is_file_key path) (is_some (lookup (bytes_eq path) (index_of Main old.index))) h.0
path-tells path root None old new good sizes h = ap is_some (sizes (in_part Main path)) ∙ ap is_some (lookup-part Main path old.index) ∙ only_key (is_file_key path) (is_some (lookup (bytes_eq path) (index_of Main old.index))) good h.0

-- whether a file stands there, whatever the path
pub path-has : (path root : List ℕ) (found : Option (List ℕ)) (old new : Store) → IsSound old → is_file_key path ≡ true → ((q : List ℕ) → lookup (bytes_eq q) new.index ≡ lookup (bytes_eq q) old.index) → new.pending ≡ old.pending → new.disk ≡ old.disk
    → FindsPath Main path root found old new → HasFile path (is_some found) (is_some old.disk.told) (level_of true new.index new.disk)
path-has path root (Some p) old new sound good sizes pending disk h = λ told.
    let k = in_part Main path in
    let there : is_some (lookup (bytes_eq k) old.index) ≡ true = ap is_some (sym (sizes k)) ∙ path-tells path root (Some p) old new good sizes h in
    let b = path-there path old sound told there in
    (b.0, ap (λ m. find_file m path) (path-steady ReadOnly 0 old new sizes pending disk).main ∙ b.1)
path-has path root None old new sound good sizes pending disk h = path-absent path new (path-tells path root None old new good sizes h)
