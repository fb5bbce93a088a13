-- What files take together.
use Rattle.std.proofs.Common.{◌≡◌, ℕ, ◌+◌, ◌≤◌, Bool, true, false, cond, not, bytes_eq, List, [], ◌∷◌, ◌++◌, length, option_map, Option, Some, None, refl, sym, ap, ◌∙◌, subst, arith}
use Rattle.std.proofs.lemmas.Map.Keys.{IsDistinct-tail}
use Rattle.std.specs.List.{IsDistinct}
use Rattle.std.specs.Map.{keys_of, lookup, remove_entry}
use Rattle.sc_lru.proofs.Measures.{total-cons}
use Rattle.sc_lru.specs.LruCache.{total}
use Rattle.sc_disk.specs.declared.disk_file.DiskFile.{DiskFile}
use Rattle.sc_disk.specs.Disks.{DiskFiles, disk_file, disk_file_at, listing, replay}
use Rattle.sc_disk.specs.Names.{is_temporary_path}
use Rattle.sc_disk.specs.Opening.{pair_of, pairs_of}
use Rattle.sc_disk.specs.Store.{Agrees, size_of}
use Rattle.sc_disk.specs.declared.change.Change.{Change}
use Rattle.sc_disk.specs.declared.disk.Listed.{Listed}
use Rattle.sc_disk.proofs.Changing.{size}
use Rattle.sc_disk.proofs.Files.{same_path, self_path}
use Rattle.sc_disk.proofs.Pairs.{Index, absent_later, lookup-removed_other}
use Rattle.sc_disk.proofs.Reopening.{files_listed}
use Rattle.sc_disk_reopen.proofs.Playing.{Plays}
use Rattle.sc_disk_reopen.specs.Moments.{Effect, IsWithin, Keeps, Removed, Shows, Standing, Stored, Used, removals, shown_of, stood}

some_none : (n : ℕ) → ◌≡◌ {A = Option ℕ} None (Some n) → ⊥
some_none n h = cc

same_value : (m n : ℕ) → Some m ≡ Some n → m ≡ n
same_value m n h = cc

-- one pair and the others make the sum
total-taken : (k : List ℕ) (n : ℕ) (es : Index) → lookup (bytes_eq k) es ≡ Some n → total size_of es ≡ n + total size_of (remove_entry (bytes_eq k) es)
total-taken k n [] h = absurd (some_none n h)
total-taken k n (e ∷ es) h = (elim (bytes_eq k e.0) as (λ y. cond y (Some e.1) (lookup (bytes_eq k) es) ≡ Some n → total size_of (e ∷ es) ≡ n + total size_of (cond y es (e ∷ remove_entry (bytes_eq k) es))) [
  | true ↦ λ u. let same : e.1 ≡ n = same_value e.1 n u in omega (arith, total-cons size_of e es, same)
  | false ↦ λ u. omega (arith, total-cons size_of e es, total-cons size_of e (remove_entry (bytes_eq k) es), total-taken k n es u)
]) h

-- what a list has of keys that are no temporaries stands in an index
abbrev Stands : List Listed → Index → Type 0
Stands all es = (q : List ℕ) (n : ℕ) → is_temporary_path q ≡ false → lookup (bytes_eq q) (pairs_of all) ≡ Some n → lookup (bytes_eq q) es ≡ Some n

stands-later : (x : Listed) (all : List Listed) (es : Index) → IsDistinct bytes_eq (keys_of (pairs_of (x ∷ all))) → Stands (x ∷ all) es → (q : List ℕ) (n : ℕ) → is_temporary_path q ≡ false → lookup (bytes_eq q) (pairs_of all) ≡ Some n
    → (bytes_eq q x.path ≡ false) × (lookup (bytes_eq q) es ≡ Some n)
stands-later x all es d h q n t is = (elim (bytes_eq q x.path) as (λ y. bytes_eq q x.path ≡ y → (bytes_eq q x.path ≡ false) × (lookup (bytes_eq q) es ≡ Some n)) [
  | true ↦ λ u. absurd (some_none n (sym (ap (λ k. lookup (bytes_eq k) (pairs_of all)) (same_path q x.path u) ∙ absent_later (pair_of x) (pairs_of all) d) ∙ is))
  | false ↦ λ u. (u, h q n t (ap (λ b. cond b (Some x.size) (lookup (bytes_eq q) (pairs_of all))) u ∙ is))
]) refl

self-found : (x : Listed) (all : List Listed) → lookup (bytes_eq x.path) (pairs_of (x ∷ all)) ≡ Some x.size
self-found x all = ap (λ b. cond b (Some x.size) (lookup (bytes_eq x.path) (pairs_of all))) (self_path x.path)

total-stands : (all : List Listed) (es : Index) → IsDistinct bytes_eq (keys_of (pairs_of all)) → Stands all es → total size_of (pairs_of (shown_of all)) ≤ total size_of es
total-stands [] es d h = omega arith
total-stands (x ∷ all) es d h = (elim (is_temporary_path x.path) as (λ y. is_temporary_path x.path ≡ y → total size_of (pairs_of (cond (not y) (x ∷ shown_of all) (shown_of all))) ≤ total size_of es) [
  | true ↦ λ u. total-stands all es (IsDistinct-tail bytes_eq x.path (keys_of (pairs_of all)) d) (λ q n t is. (stands-later x all es d h q n t is).1)
  | false ↦ λ u. let rest = remove_entry (bytes_eq x.path) es in
      let less : total size_of (pairs_of (shown_of all)) ≤ total size_of rest = total-stands all rest (IsDistinct-tail bytes_eq x.path (keys_of (pairs_of all)) d)
      (λ q n t is. let p = stands-later x all es d h q n t is in lookup-removed_other q x.path es p.0 ∙ p.1) in
      omega (arith, less, total-cons size_of (pair_of x) (pairs_of (shown_of all)), total-taken x.path x.size es (h x.path x.size u (self-found x all)))
]) refl

-- files that are no temporaries are of an index, with its sizes
abbrev pub IsPart : DiskFiles → Index → Type 0
IsPart c es = (q : List ℕ) (x : DiskFile) → is_temporary_path q ≡ false → disk_file_at c q ≡ Some x → lookup (bytes_eq q) es ≡ Some (size x)

pub within-part : (capacity : ℕ) (es : Index) (c : DiskFiles) → total size_of es ≤ capacity → IsPart c es → IsWithin capacity c
within-part capacity es c fits part =
    let w = files_listed c in
    let less : total size_of (pairs_of (shown_of (listing c))) ≤ total size_of es = total-stands (listing c) es w.distinct (λ q n t is. by q n t (disk_file_at c q) refl (w.same q ∙ is)) in
    omega (arith, less, fits)
  where
    by : (q : List ℕ) (n : ℕ) → is_temporary_path q ≡ false → (o : Option DiskFile) → disk_file_at c q ≡ o → option_map size (disk_file_at c q) ≡ Some n → lookup (bytes_eq q) es ≡ Some n
    by q n t None is h = absurd (some_none n (sym (ap (option_map size) is) ∙ h))
    by q n t (Some x) is h = part q x t is ∙ sym (ap (option_map size) is) ∙ h

pub part-agrees : (es : Index) (f c : DiskFiles) (now : Standing) → Agrees es f → Shows c now → ((q : List ℕ) (x : DiskFile) → now q ≡ Some x → option_map size (disk_file_at f q) ≡ Some (size x)) → IsPart c es
part-agrees es f c now a shows sub = λ q x t is. sym (a q t) ∙ sub q x (sym (shows q t) ∙ is)

-- nothing is stored
abbrev pub AllReduce : List Effect → Type 0
AllReduce [] = Unit {0}
AllReduce (Removed k ∷ es) = AllReduce es
AllReduce (Used k now ∷ es) = AllReduce es
AllReduce (Stored k now bytes ∷ es) = ⊥

some_file : (x : DiskFile) → ◌≡◌ {A = Option DiskFile} None (Some x) → ⊥
some_file x h = cc

same_file : (x y : DiskFile) → Some x ≡ Some y → x ≡ y
same_file x y h = cc

cut_size : (start : Standing) (b : Bool) (o : Option DiskFile) (q : List ℕ) (x : DiskFile) → (o ≡ Some x → option_map size (start q) ≡ Some (size x)) → cond b None o ≡ Some x → option_map size (start q) ≡ Some (size x)
cut_size start true o q x on u = absurd (some_file x u)
cut_size start false o q x on u = on u

timed_size : (start : Standing) (b : Bool) (now : ℕ) (o : Option DiskFile) (q : List ℕ) (x : DiskFile) → ((y : DiskFile) → o ≡ Some y → option_map size (start q) ≡ Some (size y)) → cond b (option_map (λ (y : DiskFile). disk_file now y.bytes) o) o ≡ Some x → option_map size (start q) ≡ Some (size x)
timed_size start true now None q x on u = absurd (some_file x u)
timed_size start true now (Some y) q x on u = on y refl ∙ ap (λ (z : DiskFile). Some (length z.bytes)) (same_file (disk_file now y.bytes) x u)
timed_size start false now o q x on u = on x u

reduced-size : (start : Standing) (es : List Effect) (q : List ℕ) (x : DiskFile) → AllReduce es → stood start es q ≡ Some x → option_map size (start q) ≡ Some (size x)
reduced-size start [] q x a h = ap (option_map size) h
reduced-size start (Removed k ∷ es) q x a h = cut_size start (bytes_eq q k) (stood start es q) q x (λ u. reduced-size start es q x a u) h
reduced-size start (Used k now ∷ es) q x a h = timed_size start (bytes_eq q k) now (stood start es q) q x (λ y u. reduced-size start es q y a u) h
reduced-size start (Stored k now bytes ∷ es) q x a h = absurd a

pub reduce-suffix : (rest had : List Effect) → AllReduce (rest ++ had) → AllReduce had
reduce-suffix [] had a = a
reduce-suffix (Removed k ∷ rest) had a = reduce-suffix rest had a
reduce-suffix (Used k now ∷ rest) had a = reduce-suffix rest had a
reduce-suffix (Stored k now bytes ∷ rest) had a = absurd a

pub reduce-append : (es fs : List Effect) → AllReduce es → AllReduce fs → AllReduce (es ++ fs)
reduce-append [] fs a b = b
reduce-append (Removed k ∷ es) fs a b = reduce-append es fs a b
reduce-append (Used k now ∷ es) fs a b = reduce-append es fs a b
reduce-append (Stored k now bytes ∷ es) fs a b = absurd a

pub reduce-removals : (ks : List (List ℕ)) → AllReduce (removals ks)
reduce-removals [] = tt
reduce-removals (k ∷ ks) = reduce-append (removals ks) (Removed k ∷ []) (reduce-removals ks) tt

-- files of which some were removed or used
pub within-reduced : (capacity : ℕ) (es : List Effect) (index : Index) (f c : DiskFiles) → total size_of index ≤ capacity → Agrees index f → AllReduce es → Shows c (stood (disk_file_at f) es) → IsWithin capacity c
within-reduced capacity es index f c fits a r shows = within-part capacity index c fits (part-agrees index f c (stood (disk_file_at f) es) a shows (λ q x is. reduced-size (disk_file_at f) es q x r is))

pub keeps-reduced : (capacity : ℕ) (xs : List Change) (es : List Effect) (index : Index) (f : DiskFiles) → total size_of index ≤ capacity → Agrees index f → AllReduce es → Plays xs es f → Keeps capacity xs es f
keeps-reduced capacity xs es index f fits a r p = record {
  left = p.left;
  within = λ c l. let h = p.left c l in within-reduced capacity h.had index f c fits a (reduce-suffix h.rest h.had (subst AllReduce (sym h.all) r)) h.shows;
  after = p.after;
}

pub keeps-stored : (capacity : ℕ) (xs : List Change) (k : List ℕ) (now : ℕ) (bytes : List ℕ) (es : List Effect) (index last : Index) (f : DiskFiles) → total size_of index ≤ capacity → total size_of last ≤ capacity → Agrees index f → Agrees last (replay f xs)
    → AllReduce es → Plays xs (Stored k now bytes ∷ es) f → Keeps capacity xs (Stored k now bytes ∷ es) f
keeps-stored capacity xs k now bytes es index last f fits fits2 a b r p = record {
  left = p.left;
  within = λ c l. let h = p.left c l in by c h.rest h.had h.all h.shows;
  after = p.after;
}
  where
    tail_of : (x y : Effect) (us vs : List Effect) → x ∷ us ≡ y ∷ vs → us ≡ vs
    tail_of x y us vs h = cc

    by : (c : DiskFiles) (rest had : List Effect) → rest ++ had ≡ Stored k now bytes ∷ es → Shows c (stood (disk_file_at f) had) → IsWithin capacity c
    by c [] had all shows = within-part capacity last c fits2 (λ q x t is. sym (b q t) ∙ ap (option_map size) (p.after q t ∙ ap (λ l. stood (disk_file_at f) l q) (sym all) ∙ sym (shows q t) ∙ is))
    by c (e ∷ rest) had all shows = within-reduced capacity had index f c fits a (reduce-suffix rest had (subst AllReduce (sym (tail_of e (Stored k now bytes) (rest ++ had) es all)) r)) shows
