-- What changes make of the files beside an index and open entries.
use Rattle.std.proofs.Common.{◌≡◌, ℕ, zero, suc, ◌<◌, ◌^◌, Bool, true, false, cond, is_some, bytes_eq, List, [], ◌∷◌, length, drop, slice_get, slice_index_or, option_map, Option, Some, None, refl, sym, ap, ◌∙◌, subst, arith}
use Rattle.std.specs.FinMap as map
use Rattle.std.specs.List.{IsDistinct}
use Rattle.std.specs.Map.{keys_of, lookup, remove_entry}
use Rattle.sc_lru.specs.Order.{touched}
use Rattle.sc_disk.specs.Disks.{DiskFiles, change, disk_file, disk_file_at, with_disk_file}
use Rattle.sc_disk.specs.Names.{is_temporary_path, temporary}
use Rattle.sc_disk.specs.Store.{Agrees, AreKeys, HasFiles, HaveFiles, filed}
use Rattle.sc_disk.specs.declared.change.Change.{Change}
use Rattle.sc_disk.specs.declared.change.Change.TheVariants.{Made, Added, Touched, Moved, Gone}
use Rattle.sc_disk.specs.declared.disk_file.DiskFile.{DiskFile}
use Rattle.sc_disk.specs.declared.pending.Pending.{Pending}
use Rattle.sc_disk.proofs.Files.{at-insert, at-removed, same_path, self_path}
use Rattle.sc_disk.proofs.Pairs.{Index, absent_later, lookup-later, lookup-last, lookup-push, lookup-removed, lookup-removed_other, lookup-touched}
use Rattle.sc_disk.proofs.Temporaries.{apart, apart-back, numbers-apart, temporary_is}

abbrev pub size : DiskFile → ℕ
size x = length x.bytes

abbrev pub Slots : Type 0
Slots = List (Option Pending)

-- a change of a temporary alone, after which it is there if it was
abbrev pub IsAside : Change → Type 0
IsAside (Made path now) = is_temporary_path path ≡ true
IsAside (Added path bytes) = is_temporary_path path ≡ true
IsAside (Touched path now) = is_temporary_path path ≡ true
IsAside (Moved from to) = ⊥
IsAside (Gone path) = ⊥

pub at-with : (f : DiskFiles) (k : List ℕ) (o : Option DiskFile) (q : List ℕ) → bytes_eq q k ≡ false → disk_file_at (with_disk_file f k o) q ≡ disk_file_at f q
at-with f k None q h = refl
at-with f k (Some x) q h = at-insert f k x q ∙ ap (λ b. cond b (Some x) (disk_file_at f q)) h

pub at-gone : (f : DiskFiles) (k q : List ℕ) → bytes_eq q k ≡ false → disk_file_at (change (Gone k) f) q ≡ disk_file_at f q
at-gone f k q h = at-removed f k q ∙ ap (λ b. cond b None (disk_file_at f q)) h

-- a change of temporaries leaves the other files
pub at-aside : (x : Change) (f : DiskFiles) (q : List ℕ) → IsAside x → is_temporary_path q ≡ false → disk_file_at (change x f) q ≡ disk_file_at f q
at-aside (Made path now) f q a h = at-with f path (Some (disk_file now [])) q (apart q path h a)
at-aside (Added path bytes) f q a h = at-with f path _ q (apart q path h a)
at-aside (Touched path now) f q a h = at-with f path _ q (apart q path h a)
at-aside (Moved from to) f q a h = absurd a
at-aside (Gone path) f q a h = absurd a

some_put : (b : Bool) (x : DiskFile) (o : Option DiskFile) → is_some o ≡ true → is_some (cond b (Some x) o) ≡ true
some_put true x o h = refl
some_put false x o h = h

some_with : (f : DiskFiles) (k : List ℕ) (o : Option DiskFile) (q : List ℕ) → is_some (disk_file_at f q) ≡ true → is_some (disk_file_at (with_disk_file f k o) q) ≡ true
some_with f k None q h = h
some_with f k (Some x) q h = ap is_some (at-insert f k x q) ∙ some_put (bytes_eq q k) x (disk_file_at f q) h

-- what is there stays
pub some-aside : (x : Change) (f : DiskFiles) (q : List ℕ) → IsAside x → is_some (disk_file_at f q) ≡ true → is_some (disk_file_at (change x f) q) ≡ true
some-aside (Made path now) f q a h = some_with f path (Some (disk_file now [])) q h
some-aside (Added path bytes) f q a h = some_with f path _ q h
some-aside (Touched path now) f q a h = some_with f path _ q h
some-aside (Moved from to) f q a h = absurd a
some-aside (Gone path) f q a h = absurd a

pub some-touched : (f : DiskFiles) (path : List ℕ) (now : ℕ) (q : List ℕ) → is_some (disk_file_at f q) ≡ true → is_some (disk_file_at (change (Touched path now) f) q) ≡ true
some-touched f path now q h = some_with f path _ q h

pub HasFiles-aside : (d : Bool) (x : Change) (es : Index) (slots : Slots) (f : DiskFiles) → IsAside x → HasFiles d es slots f → HasFiles d es slots (change x f)
HasFiles-aside d x es slots f a h = record {
  agrees = λ q t. ap (option_map size) (at-aside x f q a t) ∙ h.agrees q t;
  temporaries = λ n e is. some-aside x f (temporary d e.key n) a (h.temporaries n e is);
}

-- without one key's file, and its pair
gone_agrees : (k : List ℕ) (es fs : Index) (f : DiskFiles) → ((q : List ℕ) → bytes_eq q k ≡ true → lookup (bytes_eq q) fs ≡ None) → ((q : List ℕ) → bytes_eq q k ≡ false → lookup (bytes_eq q) fs ≡ lookup (bytes_eq q) es)
    → Agrees es f → Agrees fs (change (Gone k) f)
gone_agrees k es fs f on off g = λ q h. (elim (bytes_eq q k) as (λ y. bytes_eq q k ≡ y → option_map size (disk_file_at (change (Gone k) f) q) ≡ lookup (bytes_eq q) fs) [
  | true ↦ λ u. ap (option_map size) (at-removed f k q ∙ ap (λ b. cond b None (disk_file_at f q)) u) ∙ sym (on q u)
  | false ↦ λ u. ap (option_map size) (at-gone f k q u) ∙ g q h ∙ sym (off q u)
]) refl

gone_temporaries : (d : Bool) (k : List ℕ) (slots : Slots) (f : DiskFiles) → is_temporary_path k ≡ false → HaveFiles d slots f → HaveFiles d slots (change (Gone k) f)
gone_temporaries d k slots f key h = λ n e is. ap is_some (at-gone f k (temporary d e.key n) (apart-back (temporary d e.key n) k (temporary_is d e.key n) key)) ∙ h n e is

pub HasFiles-removed : (v : Bool) (k : List ℕ) (es : Index) (slots : Slots) (f : DiskFiles) → is_temporary_path k ≡ false → IsDistinct bytes_eq (keys_of es) → HasFiles v es slots f → HasFiles v (remove_entry (bytes_eq k) es) slots (change (Gone k) f)
HasFiles-removed v k es slots f key d h = record {
  agrees = gone_agrees k es (remove_entry (bytes_eq k) es) f (λ q u. lookup-removed q k es u d) (λ q u. lookup-removed_other q k es u) h.agrees;
  temporaries = gone_temporaries v k slots f key h.temporaries;
}

not_found : (b : Bool) (v : ℕ) (o : Option ℕ) → b ≡ true → cond b (Some v) o ≡ None → ⊥
not_found true v o t h = cc
not_found false v o t h = cc

pub first_is_key : (e : List ℕ × ℕ) (es : Index) → AreKeys (e ∷ es) → (b : Bool) → is_temporary_path e.0 ≡ b → is_temporary_path e.0 ≡ false
first_is_key e es a true t = absurd (not_found (bytes_eq e.0 e.0) e.1 (lookup (bytes_eq e.0) es) (self_path e.0) (a e.0 t))
first_is_key e es a false t = t

pub HasFiles-first : (v : Bool) (es : Index) (e : List ℕ × ℕ) (slots : Slots) (f : DiskFiles) → Some e ≡ slice_get es 0 → IsDistinct bytes_eq (keys_of es) → AreKeys es → HasFiles v es slots f → HasFiles v (drop 1 es) slots (change (Gone e.0) f)
HasFiles-first v [] e slots f is d a h = cc
HasFiles-first v (x ∷ es) e slots f is d a h =
    let k : x.0 ≡ e.0 = ap (λ (p : List ℕ × ℕ). p.0) (sym (by_some e x is)) in
    let r : HasFiles v es slots (change (Gone x.0) f) = record {
      agrees = gone_agrees x.0 (x ∷ es) es f (λ q u. ap (λ n. lookup (bytes_eq n) es) (same_path q x.0 u) ∙ absent_later x es d)
          (λ q u. sym (ap (λ b. cond b (Some x.1) (lookup (bytes_eq q) es)) u)) h.agrees;
      temporaries = gone_temporaries v x.0 slots f (first_is_key x es a (is_temporary_path x.0) refl) h.temporaries;
    } in
    subst (λ n. HasFiles v es slots (change (Gone n) f)) k r
  where
    by_some : (e x : List ℕ × ℕ) → Some e ≡ Some x → e ≡ x
    by_some e x h = cc

pub AreKeys-first : (es : Index) → AreKeys es → AreKeys (drop 1 es)
AreKeys-first [] a = a
AreKeys-first (e ∷ es) a = λ q h. lookup-later q e es (a q h)

pub AreKeys-removed : (k : List ℕ) (es : Index) → is_temporary_path k ≡ false → AreKeys es → AreKeys (remove_entry (bytes_eq k) es)
AreKeys-removed k es n a = λ q h. lookup-removed_other q k es (apart-back q k h n) ∙ a q h

pub AreKeys-filed : (k : List ℕ) (r : ℕ) (es : Index) → is_temporary_path k ≡ false → AreKeys es → AreKeys (filed k r es)
AreKeys-filed k r es n a = λ q h. lookup-push q k r (remove_entry (bytes_eq k) es) (apart-back q k h n) ∙ AreKeys-removed k es n a q h

none_entry : (e : Pending) → ◌≡◌ {A = Option Pending} None (Some e) → ⊥
none_entry e h = cc

in_range : (slots : Slots) (n : ℕ) (e : Pending) → slice_index_or slots n None ≡ Some e → n < length slots
in_range [] n e is = absurd (none_entry e is)
in_range (s ∷ slots) zero e is = omega arith
in_range (s ∷ slots) (suc n) e is = omega (arith, in_range slots n e is)

-- an open entry's temporary isn't that of a number that is closed
other_temporary : (v w : Bool) (k : List ℕ) (m : ℕ) (slots : Slots) (n : ℕ) (e : Pending) → m < 2 ^ 64 → length slots < 2 ^ 64 → slice_index_or slots m None ≡ None → slice_index_or slots n None ≡ Some e → bytes_eq (temporary v e.key n) (temporary w k m) ≡ false
other_temporary v w k m slots n e small short closed is = numbers-apart v e.key n w k m (omega (arith, in_range slots n e is, short)) small
    (λ same. none_entry e (sym closed ∙ ap (λ i. slice_index_or slots i None) (sym same) ∙ is))

-- a temporary goes whose entry is closed
pub HasFiles-discarded : (v w : Bool) (k : List ℕ) (m : ℕ) (es : Index) (slots : Slots) (f : DiskFiles) → m < 2 ^ 64 → length slots < 2 ^ 64 → slice_index_or slots m None ≡ None → HasFiles v es slots f → HasFiles v es slots (change (Gone (temporary w k m)) f)
HasFiles-discarded v w k m es slots f small short closed h = record {
  agrees = λ q t. ap (option_map size) (at-gone f (temporary w k m) q (apart q (temporary w k m) t (temporary_is w k m))) ∙ h.agrees q t;
  temporaries = λ n e is. ap is_some (at-gone f (temporary w k m) (temporary v e.key n) (other_temporary v w k m slots n e small short closed is)) ∙ h.temporaries n e is;
}

-- what a move gives
at-moved : (s t : List ℕ) (f : DiskFiles) (x : DiskFile) (q : List ℕ) → disk_file_at f s ≡ Some x → bytes_eq q s ≡ false → disk_file_at (change (Moved s t) f) q ≡ cond (bytes_eq q t) (Some x) (disk_file_at f q)
at-moved s t f x q is h = ap (λ o. disk_file_at (with_disk_file (map.remove f s) t o) q) is ∙ at-insert (map.remove f s) t x q
    ∙ ap (λ o. cond (bytes_eq q t) (Some x) o) (at-removed f s q ∙ ap (λ b. cond b None (disk_file_at f q)) h)

-- a file that has this size has it also once it is touched
touched_at : (t : List ℕ) (now : ℕ) (f : DiskFiles) (o : Option DiskFile) (r : ℕ) → disk_file_at f t ≡ o → option_map size o ≡ Some r → (x : DiskFile) × (disk_file_at (change (Touched t now) f) t ≡ Some x) × (size x ≡ r)
touched_at t now f None r is h = absurd (no_size r h)
  where
    no_size : (r : ℕ) → ◌≡◌ {A = Option ℕ} None (Some r) → ⊥
    no_size r h = cc
touched_at t now f (Some y) r is h = (
  disk_file now y.bytes,
  ap (λ o. disk_file_at (with_disk_file f t (option_map (λ (z : DiskFile). disk_file now z.bytes) o)) t) is ∙ at-insert f t (disk_file now y.bytes) t ∙ ap (λ b. cond b (Some (disk_file now y.bytes)) (disk_file_at f t)) (self_path t),
  some_size (size y) r h,
)
  where
    some_size : (m n : ℕ) → Some m ≡ Some n → m ≡ n
    some_size m n h = cc

-- a temporary of this size got its moment, and then the key's place
settled_agrees : (t k : List ℕ) (r now : ℕ) (es : Index) (f : DiskFiles) → is_temporary_path t ≡ true → is_temporary_path k ≡ false → IsDistinct bytes_eq (keys_of es)
    → option_map size (disk_file_at f t) ≡ Some r → Agrees es f → Agrees (filed k r es) (change (Moved t k) (change (Touched t now) f))
settled_agrees t k r now es f temp key d is g = λ q h.
    let f1 : DiskFiles = change (Touched t now) f in
    let x = touched_at t now f (disk_file_at f t) r refl is in
    let moved : disk_file_at (change (Moved t k) f1) q ≡ cond (bytes_eq q k) (Some x.0) (disk_file_at f1 q) = at-moved t k f1 x.0 q x.1 (apart q t h temp) in
    (elim (bytes_eq q k) as (λ y. bytes_eq q k ≡ y → option_map size (disk_file_at (change (Moved t k) f1) q) ≡ lookup (bytes_eq q) (filed k r es)) [
      | true ↦ λ u. ap (option_map size) (moved ∙ ap (λ b. cond b (Some x.0) (disk_file_at f1 q)) u) ∙ ap Some x.2 ∙ sym (lookup-last q k r (remove_entry (bytes_eq k) es) u (lookup-removed q k es u d))
      | false ↦ λ u. ap (option_map size) (moved ∙ ap (λ b. cond b (Some x.0) (disk_file_at f1 q)) u ∙ at-aside (Touched t now) f q temp h) ∙ g q h
          ∙ sym (lookup-push q k r (remove_entry (bytes_eq k) es) u ∙ lookup-removed_other q k es u)
    ]) refl

some_moved : (s t : List ℕ) (f : DiskFiles) (q : List ℕ) → bytes_eq q s ≡ false → is_some (disk_file_at f q) ≡ true → is_some (disk_file_at (change (Moved s t) f) q) ≡ true
some_moved s t f q h is = some_with (map.remove f s) t (disk_file_at f s) q (ap is_some (at-gone f s q h) ∙ is)

pub HasFiles-settled : (v w : Bool) (k0 : List ℕ) (m : ℕ) (k : List ℕ) (r now : ℕ) (es : Index) (slots : Slots) (f : DiskFiles) → m < 2 ^ 64 → length slots < 2 ^ 64 → slice_index_or slots m None ≡ None → is_temporary_path k ≡ false → IsDistinct bytes_eq (keys_of es)
    → option_map size (disk_file_at f (temporary w k0 m)) ≡ Some r → HasFiles v es slots f → HasFiles v (filed k r es) slots (change (Moved (temporary w k0 m) k) (change (Touched (temporary w k0 m) now) f))
HasFiles-settled v w k0 m k r now es slots f small short closed key d is h = record {
  agrees = settled_agrees (temporary w k0 m) k r now es f (temporary_is w k0 m) key d is h.agrees;
  temporaries = λ n e at. some_moved (temporary w k0 m) k (change (Touched (temporary w k0 m) now) f) (temporary v e.key n) (other_temporary v w k0 m slots n e small short closed at)
      (some-aside (Touched (temporary w k0 m) now) f (temporary v e.key n) (temporary_is w k0 m) (h.temporaries n e at));
}

-- a use leaves each file's size
touched_size : (k : List ℕ) (now : ℕ) (f : DiskFiles) (q : List ℕ) (o : Option DiskFile) → disk_file_at f k ≡ o → option_map size (disk_file_at (change (Touched k now) f) q) ≡ option_map size (disk_file_at f q)
touched_size k now f q None e = ap (λ o. option_map size (disk_file_at (with_disk_file f k (option_map (λ (z : DiskFile). disk_file now z.bytes) o)) q)) e
touched_size k now f q (Some x) e = ap (λ o. option_map size (disk_file_at (with_disk_file f k (option_map (λ (z : DiskFile). disk_file now z.bytes) o)) q)) e ∙ ap (option_map size) (at-insert f k (disk_file now x.bytes) q)
    ∙ (elim (bytes_eq q k) as (λ y. bytes_eq q k ≡ y → option_map size (cond y (Some (disk_file now x.bytes)) (disk_file_at f q)) ≡ option_map size (disk_file_at f q)) [
      | true ↦ λ t. sym (ap (option_map size) (ap (disk_file_at f) (same_path q k t) ∙ e))
      | false ↦ λ t. refl
    ]) refl

pub HasFiles-touched : (v : Bool) (k : List ℕ) (now : ℕ) (es : Index) (slots : Slots) (f : DiskFiles) → HasFiles v es slots f → HasFiles v es slots (change (Touched k now) f)
HasFiles-touched v k now es slots f h = record {
  agrees = λ q t. touched_size k now f q (disk_file_at f k) refl ∙ h.agrees q t;
  temporaries = λ n e is. some_with f k (option_map (λ (z : DiskFile). disk_file now z.bytes) (disk_file_at f k)) (temporary v e.key n) (h.temporaries n e is);
}

pub HasFiles-used : (v : Bool) (k : List ℕ) (es : Index) (slots : Slots) (f : DiskFiles) → IsDistinct bytes_eq (keys_of es) → HasFiles v es slots f → HasFiles v (touched (bytes_eq k) es) slots f
HasFiles-used v k es slots f d h = record { agrees = λ q t. h.agrees q t ∙ sym (lookup-touched q k es d); temporaries = h.temporaries }
