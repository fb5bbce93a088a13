-- Calls that evict files for others, and open or close entries.
use Rattle.std.proofs.Common.{◌≡◌, ℕ, zero, suc, ◌+◌, ◌<◌, Bool, true, false, cond, is_some, bytes_eq, option_map, List, [], ◌∷◌, ◌++◌, drop, length, slice_index_or, Option, Some, None, refl, sym, ap, ◌∙◌, arith}
use Rattle.std.specs.FinMap as map
use Rattle.std.specs.List.{AllByRecursion, IsDistinct}
use Rattle.std.specs.Map.{keys_of, lookup}
use Rattle.slab.specs.Slab.{get}
use Rattle.sc_entry.specs.Causes.{IfTold}
use Rattle.sc_entry.specs.declared.cache_mode.CacheMode.{CacheMode}
use Rattle.sc_lru.specs.LruCache.{total}
use Rattle.sc_disk.proofs.Changing.{at-with}
use Rattle.sc_disk.proofs.Doing.{replay-append}
use Rattle.sc_disk.proofs.Files.{at-removed}
use Rattle.sc_disk.proofs.Sizes.{at-evicted}
use Rattle.sc_disk.proofs.Temporaries.{apart, temporary_is}
use Rattle.sc_disk.specs.Disks.{DiskFiles, DiskRecord, Does, change, did_all, disk_file_at, files_now, replay}
use Rattle.sc_disk.specs.Names.{is_temporary_path, temporary}
use Rattle.sc_disk.specs.Sound.{IsSound}
use Rattle.sc_disk.specs.Store.{AreKeys, HasFiles, Store, firsts, gone, size_of as measure}
use Rattle.sc_disk.specs.declared.change.Change.{Change}
use Rattle.sc_disk.specs.declared.change.Change.TheVariants.{Made, Added, Touched, Moved, Gone}
use Rattle.sc_disk.specs.declared.disk_file.DiskFile.{DiskFile}
use Rattle.sc_disk.specs.declared.pending.Pending.{Pending}
use Rattle.sc_model.specs.Evicting.{Evicts}
use Rattle.sc_disk_pair.specs.Parts.{ArePlaced, in_part}
use Rattle.sc_disk_pair.specs.declared.part.Part.{Part}
use Rattle.sc_disk_pair.specs.declared.part.Part.TheVariants.{Main, Pre}
use Rattle.sc_store_disk.specs.Devices.{calls_of}
use Rattle.sc_store_disk.specs.DiskStores.{bytes_or, entries_from, entries_of, entry_at, level_of, open_entry, opened_store, told_files}
use Rattle.sc_store_disk.specs.Moving.{Stays}
use Rattle.sc_store_disk.specs.Shown.{Index, bytes_at, files_of}
use Rattle.sc_store_disk.proofs.Changing.{bytes-added, bytes-all_gone, bytes-gone, bytes-made, bytes-touched, left_apart, lookup-dropped}
use Rattle.sc_store_disk.proofs.Devices.{loses_none, makes_on}
use Rattle.sc_store_disk.proofs.Evicting.{evictions}
use Rattle.sc_store_disk.proofs.Finding.{same-shown}
use Rattle.sc_store_disk.proofs.Sizes.{IsWhole, all-whole, key_is_no_temporary}
use Rattle.sc_store_disk.proofs.Steadying.{files-did, still_told}

-- A change that leaves the bytes at a path.
abbrev pub IsAway : List ℕ → Change → Type 0
IsAway q (Made p now) = bytes_eq q p ≡ false
IsAway q (Added p b) = bytes_eq q p ≡ false
IsAway q (Touched p now) = Unit {0}
IsAway q (Moved a b) = (bytes_eq q a ≡ false) × (bytes_eq q b ≡ false)
IsAway q (Gone p) = bytes_eq q p ≡ false

abbrev pub AllAway : List ℕ → List Change → Type 0
AllAway q [] = Unit {0}
AllAway q (x ∷ xs) = IsAway q x × AllAway q xs

bytes-away : (x : Change) (f : DiskFiles) (q : List ℕ) → IsAway q x → bytes_at (change x f) q ≡ bytes_at f q
bytes-away (Made p now) f q a = bytes-made f p now q ∙ ap (λ t. cond t (Some []) (bytes_at f q)) a
bytes-away (Added p b) f q a = bytes-added f p b q ∙ ap (λ t. cond t (option_map (λ c. c ++ b) (bytes_at f q)) (bytes_at f q)) a
bytes-away (Touched p now) f q a = bytes-touched f p now q
bytes-away (Moved k l) f q a = ap (option_map (λ (file : DiskFile). file.bytes)) (at-with (map.remove f k) l (disk_file_at f k) q a.1 ∙ at-removed f k q ∙ ap (λ t. cond t None (disk_file_at f q)) a.0)
bytes-away (Gone p) f q a = bytes-gone f p q ∙ ap (λ t. cond t None (bytes_at f q)) a

pub bytes-all_away : (xs : List Change) (f : DiskFiles) (q : List ℕ) → AllAway q xs → bytes_at (replay f xs) q ≡ bytes_at f q
bytes-all_away [] f q a = refl
bytes-all_away (x ∷ xs) f q a = bytes-away x (replay f xs) q a.0 ∙ bytes-all_away xs f q a.1

-- changes of temporaries alone
abbrev pub Hides : Change → Type 0
Hides (Made p now) = is_temporary_path p ≡ true
Hides (Added p b) = is_temporary_path p ≡ true
Hides (Touched p now) = is_temporary_path p ≡ true
Hides (Moved a b) = ⊥
Hides (Gone p) = is_temporary_path p ≡ true

abbrev pub AllHidden : List Change → Type 0
AllHidden [] = Unit {0}
AllHidden (x ∷ xs) = Hides x × AllHidden xs

hidden_away : (x : Change) (q : List ℕ) → Hides x → is_temporary_path q ≡ false → IsAway q x
hidden_away (Made p now) q h n = apart q p n h
hidden_away (Added p b) q h n = apart q p n h
hidden_away (Touched p now) q h n = tt
hidden_away (Moved a b) q h n = absurd h
hidden_away (Gone p) q h n = apart q p n h

pub all_hidden-away : (xs : List Change) (q : List ℕ) → AllHidden xs → is_temporary_path q ≡ false → AllAway q xs
all_hidden-away [] q h n = tt
all_hidden-away (x ∷ xs) q h n = (hidden_away x q h.0 n, all_hidden-away xs q h.1 n)

-- The files that are left once the first ones went.
kept-bytes : (xs : List Change) (n : ℕ) (es : Index) (f : DiskFiles) (q : List ℕ) (size : ℕ) → AllHidden xs → IsDistinct bytes_eq (keys_of es) → AreKeys es → lookup (bytes_eq q) (drop n es) ≡ Some size
    → bytes_at (replay f (xs ++ gone (firsts n es))) q ≡ bytes_at f q
kept-bytes xs n es f q size hidden d keys h =
    let g = replay f (gone (firsts n es)) in
    ap (λ x. bytes_at x q) (replay-append f xs (gone (firsts n es))) ∙ bytes-all_away xs g q (all_hidden-away xs q hidden (key_is_no_temporary es q size keys (lookup-dropped n es q size d h)))
    ∙ bytes-all_gone f (firsts n es) q ∙ ap (λ t. cond t None (bytes_at f q)) (left_apart n es q size d h)

kept_shown : (f g : DiskFiles) (q : List ℕ) (o : Option ℕ) → ((size : ℕ) → o ≡ Some size → bytes_at g q ≡ bytes_at f q) → cond (is_some o) (bytes_at g q) None ≡ cond (is_some o) (bytes_at f q) None
kept_shown f g q None h = refl
kept_shown f g q (Some size) h = h size refl

kept-files : (part : Part) (xs : List Change) (n : ℕ) (es : Index) (f : DiskFiles) → AllHidden xs → IsDistinct bytes_eq (keys_of es) → AreKeys es
    → files_of part (drop n es) (replay f (xs ++ gone (firsts n es))) ≡ files_of part (drop n es) f
kept-files part xs n es f hidden d keys = same-shown part (drop n es) (drop n es) (replay f (xs ++ gone (firsts n es))) f (λ k.
    kept_shown f (replay f (xs ++ gone (firsts n es))) (in_part part k) (lookup (bytes_eq (in_part part k)) (drop n es)) (λ size h. kept-bytes xs n es f (in_part part k) size hidden d keys h))

files_left : (part : Part) (xs : List Change) (n : ℕ) (es : Index) (a b : Option DiskRecord) → b ≡ option_map (did_all (xs ++ gone (firsts n es))) a → AllHidden xs → IsDistinct bytes_eq (keys_of es) → AreKeys es
    → files_of part (drop n es) (told_files b) ≡ files_of part (drop n es) (told_files a)
files_left part xs n es None b e hidden d keys = ap (λ o. files_of part (drop n es) (told_files o)) e
files_left part xs n es (Some r) b e hidden d keys =
    ap (λ o. files_of part (drop n es) (told_files o)) e ∙ ap (files_of part (drop n es)) (files-did r (xs ++ gone (firsts n es))) ∙ kept-files part xs n es (files_now r) hidden d keys

pub files-left : (part : Part) (xs : List Change) (n : ℕ) (old new : Store) → new.index ≡ drop n old.index → Does (xs ++ gone (firsts n old.index)) old.disk new.disk → AllHidden xs → IsDistinct bytes_eq (keys_of old.index) → AreKeys old.index
    → files_of part new.index (told_files new.disk.told) ≡ files_of part (drop n old.index) (told_files old.disk.told)
files-left part xs n old new index did hidden d keys = ap (λ es. files_of part es (told_files new.disk.told)) index ∙ files_left part xs n old.index old.disk.told new.disk.told did.told hidden d keys

whole_told : (s : Store) (o : Option DiskRecord) → is_some o ≡ true → IsDistinct bytes_eq (keys_of s.index) → AreKeys s.index → IfTold o (λ r. HasFiles s.disk.divided s.index s.pending.slots (files_now r)) → IfTold o (λ r. ArePlaced (files_now r))
    → AllByRecursion (IsWhole (told_files o)) s.index
whole_told s None t d keys files placed = cc
whole_told s (Some r) t d keys files placed = all-whole s.index (files_now r) d keys files.agrees placed

-- the first n files were evicted, each only while all and these bytes more took more than the capacity
pub evicted : (capacity more n : ℕ) (xs : List Change) (old new : Store) → is_some old.disk.told ≡ true → IsSound old → IsDistinct bytes_eq (keys_of old.index) → IfTold old.disk.told (λ r. ArePlaced (files_now r)) → AllHidden xs
    → new.index ≡ drop n old.index → Does (xs ++ gone (firsts n old.index)) old.disk new.disk → ((m : ℕ) → m < n → capacity < total measure (drop m old.index) + more)
    → (ps : List (Bool × List ℕ)) × Evicts capacity more ps (level_of true old.index old.disk) (level_of true new.index new.disk)
evicted capacity more n xs old new told sound d placed hidden index did needed =
    evictions capacity more n old.index (told_files old.disk.told) (level_of true old.index old.disk) (level_of true new.index new.disk) d (whole_told old old.disk.told told d sound.keys sound.files placed) needed
    (files-left Main xs n old new index did hidden d sound.keys) (files-left Pre xs n old new index did hidden d sound.keys)

pub stays : (mode : CacheMode) (capacity : ℕ) (old new : Store) (xs : List Change) → Does xs old.disk new.disk → Stays (opened_store mode capacity old) (opened_store mode capacity new)
stays mode capacity old new xs did = record {
  facts = ap (λ root. record { kind = (opened_store mode capacity old).facts.kind; wrapped = false; configured = mode; mode = mode; capacity = capacity; root = root }) did.root;
  told = still_told old.disk.told new.disk.told xs did.told;
  later = record { faults = did.faults; losses = loses_none (option_map calls_of old.disk.calls) 0; calls = makes_on old.disk.calls new.disk.calls old.disk.faults new.disk.faults did.calls; opened = refl };
}

-- The open entry of a number.
pub entry-at : (divided : Bool) (f : DiskFiles) (n : ℕ) (slots : List (Option Pending)) (m k : ℕ) → k ≡ n + m → entry_at (entries_from divided f n slots) m ≡ option_map (open_entry divided f k) (slice_index_or slots m None)
entry-at divided f n [] m k e = refl
entry-at divided f n (slot ∷ slots) zero k e = ap (λ x. option_map (open_entry divided f x) slot) (omega (arith, e))
entry-at divided f n (slot ∷ slots) (suc m) k e = entry-at divided f (suc n) slots m k (omega (arith, e))

pub entry-of : (s : Store) (m : ℕ) → entry_at (entries_of s) m ≡ option_map (open_entry s.disk.divided (told_files s.disk.told) m) (get s.pending m)
entry-of s m = entry-at s.disk.divided (told_files s.disk.told) 0 s.pending.slots m m (omega arith)

-- the bytes of a temporary, once files were evicted
pub temporary_kept : (xs : List Change) (n : ℕ) (es : Index) (a b : Option DiskRecord) (t : List ℕ) → b ≡ option_map (did_all (xs ++ gone (firsts n es))) a → AreKeys es → is_temporary_path t ≡ true → AllAway t xs → bytes_at (told_files b) t ≡ bytes_at (told_files a) t
temporary_kept xs n es None b t e keys is away = ap (λ o. bytes_at (told_files o) t) e
temporary_kept xs n es (Some r) b t e keys is away =
    ap (λ o. bytes_at (told_files o) t) e ∙ ap (λ g. bytes_at g t) (files-did r (xs ++ gone (firsts n es)) ∙ replay-append (files_now r) xs (gone (firsts n es)))
    ∙ bytes-all_away xs (replay (files_now r) (gone (firsts n es))) t away ∙ ap (option_map (λ (file : DiskFile). file.bytes)) (at-evicted t n es (files_now r) is keys)

kept_entry : (v w : Bool) (f g : DiskFiles) (m : ℕ) (o : Option Pending) → w ≡ v → ((p : Pending) → o ≡ Some p → bytes_at g (temporary v p.key m) ≡ bytes_at f (temporary v p.key m)) → option_map (open_entry w g m) o ≡ option_map (open_entry v f m) o
kept_entry v w f g m None e h = refl
kept_entry v w f g m (Some p) e h = ap (λ d. Some (open_entry d g m p)) e ∙ ap (λ b. Some (record { path = p.key; size = p.size; bytes = bytes_or b; fills = None })) (h p refl)

-- an open entry stays as it was
pub entry-kept : (xs : List Change) (n : ℕ) (old new : Store) (m : ℕ) → Does (xs ++ gone (firsts n old.index)) old.disk new.disk → AreKeys old.index → get new.pending m ≡ get old.pending m
    → ((p : Pending) → get old.pending m ≡ Some p → AllAway (temporary old.disk.divided p.key m) xs) → entry_at (entries_of new) m ≡ entry_at (entries_of old) m
entry-kept xs n old new m did keys same away =
    entry-of new m ∙ ap (option_map (open_entry new.disk.divided (told_files new.disk.told) m)) same
    ∙ kept_entry old.disk.divided new.disk.divided (told_files old.disk.told) (told_files new.disk.told) m (get old.pending m) did.divided
    (λ p e. temporary_kept xs n old.index old.disk.told new.disk.told (temporary old.disk.divided p.key m) did.told keys (temporary_is old.disk.divided p.key m) (away p e))
    ∙ sym (entry-of old m)

-- the number of a slot that has something
pub slot-in : (slots : List (Option Pending)) (m : ℕ) (p : Pending) → slice_index_or slots m None ≡ Some p → m < length slots
slot-in [] m p e = cc
slot-in (slot ∷ slots) zero p e = omega arith
slot-in (slot ∷ slots) (suc m) p e = let l = slot-in slots m p e in omega (arith, l)
