-- The files of both parts, and what changes make of them.
use Rattle.std.proofs.Common.{◌≡◌, ℕ, ◌==◌, Bool, true, false, cond, ◌&&◌, bytes_eq, List, [], ◌∷◌, ◌++◌, map as each, length, ◌⊎◌, inl, inr, option_map, Option, Some, None, refl, sym, ap, ◌∙◌, arith}
use lib.Dec.{T}
use Rattle.std.proofs.lemmas.Grind.{common_steps}
use Rattle.std.proofs.lemmas.Map.Text.{is_eq-slice_cmp}
use Rattle.std.specs.Cmp.Lexicographic.{slice_cmp}
use Rattle.std.specs.FinMap as map
use Rattle.std.specs.FinMap.Entries.{below_all, find, is_sorted}
use Rattle.std.specs.Ordering.{is_eq, is_lt, nat_cmp}
use Rattle.std.specs.declared.cmp.Ordering.{Ordering}
use Rattle.sc_disk.specs.Disks.{DiskFiles, change, disk_file, disk_file_at, listing, replay, with_disk_file}
use Rattle.sc_disk.specs.declared.change.Change.{Change}
use Rattle.sc_disk.specs.declared.change.Change.TheVariants.{Made, Added, Touched, Moved, Gone}
use Rattle.sc_disk.specs.declared.disk.Listed.{Listed}
use Rattle.sc_disk.specs.declared.disk_file.DiskFile.{DiskFile}
use Rattle.sc_disk.proofs.Files.{at-insert, at-removed, same_files}
use Rattle.sc_disk_pair.specs.Parts.{all_in, change_in, changes_in, cut_part, files_in, in_part, joined, listed_in, part_by}
use Rattle.sc_disk_pair.specs.declared.part.Part.{Part}
use Rattle.sc_disk_pair.specs.declared.part.Part.TheVariants.{Main, Pre}

abbrev Found : Type 0
Found = List (List ℕ × DiskFile)

abbrev by_path : List ℕ → List ℕ → Ordering
by_path = slice_cmp nat_cmp

both : (a b : Bool) → T a → T b → T (a && b)
both true b p q = q
both false b p q = p

first_of : (a b : Bool) → T (a && b) → T a
first_of true b p = tt
first_of false b p = p

second_of : (a b : Bool) → T (a && b) → T b
second_of true b p = p
second_of false b p = absurd p

-- The paths of one part are in order, and those of the main part are below the others.
below-in : (part : Part) (k : List ℕ) (es : Found) → T (below_all by_path k es) → T (below_all by_path (in_part part k) (files_in part es))
below-in part k [] h = tt
below-in Main k (e ∷ es) h = both (is_lt (by_path k e.0)) (below_all by_path (in_part Main k) (files_in Main es)) (first_of (is_lt (by_path k e.0)) (below_all by_path k es) h) (below-in Main k es (second_of (is_lt (by_path k e.0)) (below_all by_path k es) h))
below-in Pre k (e ∷ es) h = both (is_lt (by_path k e.0)) (below_all by_path (in_part Pre k) (files_in Pre es)) (first_of (is_lt (by_path k e.0)) (below_all by_path k es) h) (below-in Pre k es (second_of (is_lt (by_path k e.0)) (below_all by_path k es) h))

sorted-in : (part : Part) (es : Found) → T (is_sorted by_path es) → T (is_sorted by_path (files_in part es))
sorted-in part [] h = tt
sorted-in part (e ∷ es) h = both (below_all by_path (in_part part e.0) (files_in part es)) (is_sorted by_path (files_in part es))
    (below-in part e.0 es (first_of (below_all by_path e.0 es) (is_sorted by_path es) h)) (sorted-in part es (second_of (below_all by_path e.0 es) (is_sorted by_path es) h))

below-pre : (k : List ℕ) (fs : Found) → T (below_all by_path (in_part Main k) (files_in Pre fs))
below-pre k [] = tt
below-pre k (f ∷ fs) = below-pre k fs

below-append : (k : List ℕ) (xs ys : Found) → T (below_all by_path k xs) → T (below_all by_path k ys) → T (below_all by_path k (xs ++ ys))
below-append k [] ys p q = q
below-append k (x ∷ xs) ys p q = both (is_lt (by_path k x.0)) (below_all by_path k (xs ++ ys)) (first_of (is_lt (by_path k x.0)) (below_all by_path k xs) p) (below-append k xs ys (second_of (is_lt (by_path k x.0)) (below_all by_path k xs) p) q)

sorted-both : (es fs : Found) → T (is_sorted by_path es) → T (is_sorted by_path fs) → T (is_sorted by_path (files_in Main es ++ files_in Pre fs))
sorted-both [] fs p q = sorted-in Pre fs q
sorted-both (e ∷ es) fs p q = both (below_all by_path (in_part Main e.0) (files_in Main es ++ files_in Pre fs)) (is_sorted by_path (files_in Main es ++ files_in Pre fs))
    (below-append (in_part Main e.0) (files_in Main es) (files_in Pre fs) (below-in Main e.0 es (first_of (below_all by_path e.0 es) (is_sorted by_path es) p)) (below-pre e.0 fs))
    (sorted-both es fs (second_of (below_all by_path e.0 es) (is_sorted by_path es) p) q)

pub entries-joined : (f g : DiskFiles) → map.entries (joined f g) ≡ files_in Main (map.entries f) ++ files_in Pre (map.entries g)
unfolding joined
entries-joined f g = map.entries-from_sorted by_path (files_in Main (map.entries f) ++ files_in Pre (map.entries g)) (sorted-both (map.entries f) (map.entries g) (map.entries_sorted f) (map.entries_sorted g))

-- The file at each path.
find-main : (q : List ℕ) (es fs : Found) → find by_path (in_part Main q) (files_in Main es ++ files_in Pre fs) ≡ find by_path q es
find-main q [] [] = refl
find-main q [] (f ∷ fs) = find-main q [] fs
find-main q (e ∷ es) fs = ap (cond (is_eq (by_path q e.0)) (Some e.1)) (find-main q es fs)

find-pre : (q : List ℕ) (es fs : Found) → find by_path (in_part Pre q) (files_in Main es ++ files_in Pre fs) ≡ find by_path q fs
find-pre q [] [] = refl
find-pre q [] (f ∷ fs) = ap (cond (is_eq (by_path q f.0)) (Some f.1)) (find-pre q [] fs)
find-pre q (e ∷ es) fs = find-pre q es fs

at-joined : (f g : DiskFiles) (q : List ℕ) → disk_file_at (joined f g) q ≡ find by_path q (files_in Main (map.entries f) ++ files_in Pre (map.entries g))
at-joined f g q = map.get-entries (joined f g) q ∙ ap (find by_path q) (entries-joined f g)

pub at-main : (f g : DiskFiles) (q : List ℕ) → disk_file_at (joined f g) (in_part Main q) ≡ disk_file_at f q
at-main f g q = at-joined f g (in_part Main q) ∙ find-main q (map.entries f) (map.entries g) ∙ sym (map.get-entries f q)

pub at-pre : (f g : DiskFiles) (q : List ℕ) → disk_file_at (joined f g) (in_part Pre q) ≡ disk_file_at g q
at-pre f g q = at-joined f g (in_part Pre q) ∙ find-pre q (map.entries f) (map.entries g) ∙ sym (map.get-entries g q)

-- A path of neither part has no file.
abbrev pub IsNeither : List ℕ → Type 0
IsNeither q = (part : Part) (r : List ℕ) → bytes_eq q (in_part part r) ≡ false

find-neither : (q : List ℕ) → IsNeither q → (es fs : Found) → find by_path q (files_in Main es ++ files_in Pre fs) ≡ None
find-neither q h [] [] = refl
find-neither q h [] (f ∷ fs) = ap (λ b. cond b (Some f.1) (find by_path q (files_in Pre fs))) (is_eq-slice_cmp q (in_part Pre f.0) ∙ h Pre f.0) ∙ find-neither q h [] fs
find-neither q h (e ∷ es) fs = ap (λ b. cond b (Some e.1) (find by_path q (files_in Main es ++ files_in Pre fs))) (is_eq-slice_cmp q (in_part Main e.0) ∙ h Main e.0) ∙ find-neither q h es fs

pub at-neither : (f g : DiskFiles) (q : List ℕ) → IsNeither q → disk_file_at (joined f g) q ≡ None
at-neither f g q h = at-joined f g q ∙ find-neither q h (map.entries f) (map.entries g)

-- Each path is of one part or of neither.
abbrev pub Placed : List ℕ → Type 0
Placed q = (part : Part) × (r : List ℕ) × (q ≡ in_part part r)

abbrev pub Kind : List ℕ → Type 0
Kind q = Placed q ⊎ (IsNeither q × (cut_part q ≡ None))

eq_from_test : (a b : ℕ) → (a == b) ≡ true → a ≡ b
eq_from_test a b h = grind (arith, common_steps)

false_and : (a b : Bool) → a ≡ false → (a && b) ≡ false
false_and true b h = cc
false_and false b h = refl

and_false : (a b : Bool) → b ≡ false → (a && b) ≡ false
and_false true b h = h
and_false false b h = refl

neither_letter : (b c : ℕ) (rest : List ℕ) → (b == 109) ≡ false → (b == 112) ≡ false → IsNeither (b ∷ c ∷ rest)
neither_letter b c rest m p Main r = false_and (b == 109) _ m
neither_letter b c rest m p Pre r = false_and (b == 112) _ p

neither_slash : (b c : ℕ) (rest : List ℕ) → (c == 47) ≡ false → IsNeither (b ∷ c ∷ rest)
neither_slash b c rest s Main r = and_false (b == 109) _ (false_and (c == 47) _ s)
neither_slash b c rest s Pre r = and_false (b == 112) _ (false_and (c == 47) _ s)

neither_short : (b : ℕ) → IsNeither (b ∷ [])
neither_short b Main r = and_false (b == 109) false refl
neither_short b Pre r = and_false (b == 112) false refl

cut_letter : (b : ℕ) (rest : List ℕ) → (b == 109) ≡ false → (b == 112) ≡ false → part_by b rest ≡ None
cut_letter b rest m p = ap (λ t. cond t (Some (Main, rest)) (cond (b == 112) (Some (Pre, rest)) None)) m ∙ ap (λ t. cond t (Some (Pre, rest)) None) p

pub kind_of : (q : List ℕ) → Kind q
kind_of [] = inr (λ part r. refl, refl)
kind_of (b ∷ []) = inr (neither_short b, refl)
kind_of (b ∷ c ∷ rest) = (elim (c == 47) as (λ s. (c == 47) ≡ s → Kind (b ∷ c ∷ rest)) [
  | false ↦ λ s. inr (neither_slash b c rest s, ap (λ t. cond t (part_by b rest) None) s)
  | true ↦ λ s. (elim (b == 109) as (λ m. (b == 109) ≡ m → Kind (b ∷ c ∷ rest)) [
    | true ↦ λ m. inl (Main, rest, λ i. eq_from_test b 109 m i ∷ eq_from_test c 47 s i ∷ rest)
    | false ↦ λ m. (elim (b == 112) as (λ p. (b == 112) ≡ p → Kind (b ∷ c ∷ rest)) [
      | true ↦ λ p. inl (Pre, rest, λ i. eq_from_test b 112 p i ∷ eq_from_test c 47 s i ∷ rest)
      | false ↦ λ p. inr (neither_letter b c rest m p, ap (λ t. cond t (part_by b rest) None) s ∙ cut_letter b rest m p)
    ]) refl
  ]) refl
]) refl

-- two maps are one where they agree on the files of both parts, and have no others
same_joined : (h i : DiskFiles) → ((part : Part) (r : List ℕ) → disk_file_at h (in_part part r) ≡ disk_file_at i (in_part part r)) → ((q : List ℕ) → IsNeither q → disk_file_at h q ≡ disk_file_at i q) → h ≡ i
same_joined h i on off = same_files h i (λ q. by q (kind_of q))
  where
    by : (q : List ℕ) → Kind q → disk_file_at h q ≡ disk_file_at i q
    by q (inl (part, r, e)) = ap (disk_file_at h) e ∙ on part r ∙ sym (ap (disk_file_at i) e)
    by q (inr n) = off q n.0

-- the files of one of two parts, and both with others in its place
abbrev pub part_of : Part → DiskFiles → DiskFiles → DiskFiles
part_of Main f g = f
part_of Pre f g = g

abbrev pub joined_with : Part → DiskFiles → DiskFiles → DiskFiles → DiskFiles
joined_with Main h f g = joined h g
joined_with Pre h f g = joined f h

pub at-part : (part : Part) (f g : DiskFiles) (q : List ℕ) → disk_file_at (joined f g) (in_part part q) ≡ disk_file_at (part_of part f g) q
at-part Main f g q = at-main f g q
at-part Pre f g q = at-pre f g q

inserted-at : (part other : Part) (f g : DiskFiles) (k : List ℕ) (x : DiskFile) (r : List ℕ)
    → disk_file_at (map.insert (joined f g) (in_part part k) x) (in_part other r) ≡ disk_file_at (joined_with part (map.insert (part_of part f g) k x) f g) (in_part other r)
inserted-at Main Main f g k x r = at-insert (joined f g) (in_part Main k) x (in_part Main r) ∙ ap (cond (bytes_eq r k) (Some x)) (at-main f g r) ∙ sym (at-main (map.insert f k x) g r ∙ at-insert f k x r)
inserted-at Main Pre f g k x r = at-insert (joined f g) (in_part Main k) x (in_part Pre r) ∙ at-pre f g r ∙ sym (at-pre (map.insert f k x) g r)
inserted-at Pre Main f g k x r = at-insert (joined f g) (in_part Pre k) x (in_part Main r) ∙ at-main f g r ∙ sym (at-main f (map.insert g k x) r)
inserted-at Pre Pre f g k x r = at-insert (joined f g) (in_part Pre k) x (in_part Pre r) ∙ ap (cond (bytes_eq r k) (Some x)) (at-pre f g r) ∙ sym (at-pre f (map.insert g k x) r ∙ at-insert g k x r)

with-neither : (part : Part) (h f g : DiskFiles) (q : List ℕ) → IsNeither q → disk_file_at (joined_with part h f g) q ≡ None
with-neither Main h f g q n = at-neither h g q n
with-neither Pre h f g q n = at-neither f h q n

inserted : (part : Part) (f g : DiskFiles) (k : List ℕ) (x : DiskFile) → map.insert (joined f g) (in_part part k) x ≡ joined_with part (map.insert (part_of part f g) k x) f g
inserted part f g k x = same_joined (map.insert (joined f g) (in_part part k) x) (joined_with part (map.insert (part_of part f g) k x) f g) (λ other r. inserted-at part other f g k x r)
    (λ q n. at-insert (joined f g) (in_part part k) x q ∙ ap (λ b. cond b (Some x) (disk_file_at (joined f g) q)) (n part k) ∙ at-neither f g q n ∙ sym (with-neither part (map.insert (part_of part f g) k x) f g q n))

removed-at : (part other : Part) (f g : DiskFiles) (k r : List ℕ)
    → disk_file_at (map.remove (joined f g) (in_part part k)) (in_part other r) ≡ disk_file_at (joined_with part (map.remove (part_of part f g) k) f g) (in_part other r)
removed-at Main Main f g k r = at-removed (joined f g) (in_part Main k) (in_part Main r) ∙ ap (cond (bytes_eq r k) None) (at-main f g r) ∙ sym (at-main (map.remove f k) g r ∙ at-removed f k r)
removed-at Main Pre f g k r = at-removed (joined f g) (in_part Main k) (in_part Pre r) ∙ at-pre f g r ∙ sym (at-pre (map.remove f k) g r)
removed-at Pre Main f g k r = at-removed (joined f g) (in_part Pre k) (in_part Main r) ∙ at-main f g r ∙ sym (at-main f (map.remove g k) r)
removed-at Pre Pre f g k r = at-removed (joined f g) (in_part Pre k) (in_part Pre r) ∙ ap (cond (bytes_eq r k) None) (at-pre f g r) ∙ sym (at-pre f (map.remove g k) r ∙ at-removed g k r)

removed : (part : Part) (f g : DiskFiles) (k : List ℕ) → map.remove (joined f g) (in_part part k) ≡ joined_with part (map.remove (part_of part f g) k) f g
removed part f g k = same_joined (map.remove (joined f g) (in_part part k)) (joined_with part (map.remove (part_of part f g) k) f g) (λ other r. removed-at part other f g k r)
    (λ q n. at-removed (joined f g) (in_part part k) q ∙ ap (λ b. cond b None (disk_file_at (joined f g) q)) (n part k) ∙ at-neither f g q n ∙ sym (with-neither part (map.remove (part_of part f g) k) f g q n))

with_file : (part : Part) (f g : DiskFiles) (k : List ℕ) (o : Option DiskFile) → with_disk_file (joined f g) (in_part part k) o ≡ joined_with part (with_disk_file (part_of part f g) k o) f g
with_file Main f g k None = refl
with_file Pre f g k None = refl
with_file part f g k (Some x) = inserted part f g k x

changed_file : (part : Part) (f g : DiskFiles) (k : List ℕ) (c : DiskFile → DiskFile)
    → with_disk_file (joined f g) (in_part part k) (option_map c (disk_file_at (joined f g) (in_part part k))) ≡ joined_with part (with_disk_file (part_of part f g) k (option_map c (disk_file_at (part_of part f g) k))) f g
changed_file part f g k c = ap (λ o. with_disk_file (joined f g) (in_part part k) (option_map c o)) (at-part part f g k) ∙ with_file part f g k (option_map c (disk_file_at (part_of part f g) k))

moved_file : (part : Part) (f g : DiskFiles) (s t : List ℕ)
    → with_disk_file (map.remove (joined f g) (in_part part s)) (in_part part t) (disk_file_at (joined f g) (in_part part s)) ≡ joined_with part (with_disk_file (map.remove (part_of part f g) s) t (disk_file_at (part_of part f g) s)) f g
moved_file Main f g s t = ap (λ o. with_disk_file (map.remove (joined f g) (in_part Main s)) (in_part Main t) o) (at-main f g s) ∙ ap (λ h. with_disk_file h (in_part Main t) (disk_file_at f s)) (removed Main f g s)
    ∙ with_file Main (map.remove f s) g t (disk_file_at f s)
moved_file Pre f g s t = ap (λ o. with_disk_file (map.remove (joined f g) (in_part Pre s)) (in_part Pre t) o) (at-pre f g s) ∙ ap (λ h. with_disk_file h (in_part Pre t) (disk_file_at g s)) (removed Pre f g s)
    ∙ with_file Pre f (map.remove g s) t (disk_file_at g s)

-- a part's change leaves the files of both, with those of the part changed
pub changed : (part : Part) (f g : DiskFiles) (x : Change) → change (change_in part x) (joined f g) ≡ joined_with part (change x (part_of part f g)) f g
changed part f g (Made path now) = inserted part f g path (disk_file now [])
changed part f g (Added path bytes) = changed_file part f g path (λ file. disk_file file.moment (file.bytes ++ bytes))
changed part f g (Touched path now) = changed_file part f g path (λ file. disk_file now file.bytes)
changed part f g (Moved s t) = moved_file part f g s t
changed part f g (Gone path) = removed part f g path

pub replayed : (part : Part) (f g : DiskFiles) (xs : List Change) → replay (joined f g) (changes_in part xs) ≡ joined_with part (replay (part_of part f g) xs) f g
replayed Main f g [] = refl
replayed Pre f g [] = refl
replayed Main f g (x ∷ xs) = ap (change (change_in Main x)) (replayed Main f g xs) ∙ changed Main (replay f xs) g x
replayed Pre f g (x ∷ xs) = ap (change (change_in Pre x)) (replayed Pre f g xs) ∙ changed Pre f (replay g xs) x

-- The listing of both.
abbrev listed_of : List ℕ × DiskFile → Listed
listed_of e = record { path = e.0; size = length e.1.bytes; moment = e.1.moment }

listed : (part : Part) (es : Found) → each listed_of (files_in part es) ≡ all_in part (each listed_of es)
listed part [] = refl
listed part (e ∷ es) = ap (λ l. listed_in part (listed_of e) ∷ l) (listed part es)

listed_both : (es fs : Found) → each listed_of (files_in Main es ++ files_in Pre fs) ≡ all_in Main (each listed_of es) ++ all_in Pre (each listed_of fs)
listed_both [] fs = listed Pre fs
listed_both (e ∷ es) fs = ap (λ l. listed_in Main (listed_of e) ∷ l) (listed_both es fs)

pub listing-joined : (f g : DiskFiles) → listing (joined f g) ≡ all_in Main (listing f) ++ all_in Pre (listing g)
listing-joined f g = ap (each listed_of) (entries-joined f g) ∙ listed_both (map.entries f) (map.entries g)
