-- What changes make of the file at a path.
use Rattle.std.proofs.Common.{◌≡◌, ℕ, Bool, true, false, cond, bytes_eq, List, Option, Some, None, refl, sym, ap, ◌∙◌}
use Rattle.std.proofs.lemmas.Slice.Eq.{bytes_eq-Decides}
use Rattle.std.proofs.lemmas.Map.Text.{is_eq-slice_cmp}
use Rattle.std.specs.Cmp.Lexicographic.{nat_list_cmp_total}
use Rattle.std.specs.FinMap as map
use Rattle.std.specs.FinMap.{same_map, slice_cmp-IsAntisymmetric, nat_cmp-IsAntisymmetric}
use Rattle.sc_disk.specs.Disks.{DiskFiles, disk_file_at, with_disk_file}
use Rattle.sc_disk.specs.declared.disk_file.DiskFile.{DiskFile}

pub same_path : (q k : List ℕ) → bytes_eq q k ≡ true → q ≡ k
same_path q k h = (bytes_eq-Decides q k).0 h

pub self_path : (k : List ℕ) → bytes_eq k k ≡ true
self_path k = (bytes_eq-Decides k k).1 refl

pub at-removed : (f : DiskFiles) (k q : List ℕ) → disk_file_at (map.remove f k) q ≡ cond (bytes_eq q k) None (disk_file_at f q)
at-removed f k q = map.get-remove nat_list_cmp_total f k q ∙ ap (λ b. cond b None (disk_file_at f q)) (is_eq-slice_cmp q k)

pub at-insert : (f : DiskFiles) (k : List ℕ) (x : DiskFile) (q : List ℕ) → disk_file_at (map.insert f k x) q ≡ cond (bytes_eq q k) (Some x) (disk_file_at f q)
at-insert f k x q = map.get-insert nat_list_cmp_total f k x q ∙ ap (λ b. cond b (Some x) (disk_file_at f q)) (is_eq-slice_cmp q k)

pub same_files : (f g : DiskFiles) → ((q : List ℕ) → disk_file_at f q ≡ disk_file_at g q) → f ≡ g
same_files f g h = same_map nat_list_cmp_total (slice_cmp-IsAntisymmetric nat_cmp-IsAntisymmetric) f g h

cut : (b : Bool) (o p : Option DiskFile) → (b ≡ true → o ≡ p) → cond b p o ≡ o
cut true o p h = sym (h refl)
cut false o p h = refl

-- nothing moves from where nothing is
pub removed-absent : (f : DiskFiles) (a b : List ℕ) → disk_file_at f a ≡ None → f ≡ with_disk_file (map.remove f a) b (disk_file_at f a)
removed-absent f a b none = sym (ap (with_disk_file (map.remove f a) b) none
    ∙ same_files (map.remove f a) f (λ q. at-removed f a q ∙ cut (bytes_eq q a) (disk_file_at f q) None (λ t. ap (disk_file_at f) (same_path q a t) ∙ none)))

put_back : (b : Bool) (x : DiskFile) (o : Option DiskFile) → (b ≡ true → o ≡ Some x) → o ≡ cond b (Some x) (cond b None o)
put_back true x o h = h refl
put_back false x o h = refl

-- what moves to where it was stays
pub moved-self : (f : DiskFiles) (a b : List ℕ) (x : DiskFile) → bytes_eq a b ≡ true → disk_file_at f a ≡ Some x → f ≡ with_disk_file (map.remove f a) b (disk_file_at f a)
moved-self f a b x t some = let same = same_path a b t in
    same_files f (map.insert (map.remove f a) a x) (λ q. put_back (bytes_eq q a) x (disk_file_at f q) (λ u. ap (disk_file_at f) (same_path q a u) ∙ some)
    ∙ sym (at-insert (map.remove f a) a x q ∙ ap (cond (bytes_eq q a) (Some x)) (at-removed f a q)))
    ∙ ap (λ k. map.insert (map.remove f a) k x) same ∙ sym (ap (with_disk_file (map.remove f a) b) some)

swap : (u v : Bool) (x : DiskFile) (o : Option DiskFile) → (u ≡ true → v ≡ true → ⊥) → cond u None (cond v (Some x) o) ≡ cond v (Some x) (cond u None o)
swap true true x o h = absurd (h refl refl)
swap true false x o h = refl
swap false v x o h = refl

false_true : (b : Bool) → b ≡ false → b ≡ true → ⊥
false_true true p q = cc
false_true false p q = cc

-- a file moves as it is put first, and then taken away where it was
pub moved-apart : (f : DiskFiles) (a b : List ℕ) (x : DiskFile) → bytes_eq a b ≡ false → disk_file_at f a ≡ Some x → map.remove (map.insert f b x) a ≡ with_disk_file (map.remove f a) b (disk_file_at f a)
moved-apart f a b x off some =
    same_files (map.remove (map.insert f b x) a) (map.insert (map.remove f a) b x) (λ q.
    at-removed (map.insert f b x) a q ∙ ap (cond (bytes_eq q a) None) (at-insert f b x q)
    ∙ swap (bytes_eq q a) (bytes_eq q b) x (disk_file_at f q) (λ t u. false_true (bytes_eq a b) off (ap (λ k. bytes_eq k b) (sym (same_path q a t)) ∙ u))
    ∙ sym (at-insert (map.remove f a) b x q ∙ ap (cond (bytes_eq q b) (Some x)) (at-removed f a q)))
    ∙ sym (ap (with_disk_file (map.remove f a) b) some)
