-- What changes make of the bytes at a path.
use Rattle.std.proofs.Common.{◌≡◌, ℕ, zero, suc, Bool, true, false, ◌||◌, cond, bytes_eq, option_map, List, [], ◌∷◌, ◌++◌, drop, Option, Some, None, refl, sym, ap, ◌∙◌}
use Rattle.std.proofs.lemmas.Map.Keys.{IsDistinct-tail}
use Rattle.std.specs.FinMap as map
use Rattle.std.specs.List.{IsDistinct, list_any}
use Rattle.std.specs.Map.{keys_of, lookup}
use Rattle.sc_disk.proofs.Doing.{replay-append}
use Rattle.sc_disk.proofs.Files.{at-insert, at-removed, same_path}
use Rattle.sc_disk.proofs.Pairs.{absent_later}
use Rattle.sc_disk.specs.Disks.{DiskFiles, change, disk_file, disk_file_at, replay, with_disk_file}
use Rattle.sc_disk.specs.Store.{firsts, gone}
use Rattle.sc_disk.specs.declared.change.Change.TheVariants.{Made, Added, Touched, Moved, Gone}
use Rattle.sc_disk.specs.declared.disk_file.DiskFile.{DiskFile}
use Rattle.sc_store_disk.specs.Shown.{Index, bytes_at}

abbrev bytes_in : Option DiskFile → Option (List ℕ)
bytes_in o = option_map (λ file. file.bytes) o

taken : (t : Bool) (o : Option DiskFile) → bytes_in (cond t None o) ≡ cond t None (bytes_in o)
taken true o = refl
taken false o = refl

placed : (t : Bool) (x : DiskFile) (o : Option DiskFile) → bytes_in (cond t (Some x) o) ≡ cond t (Some x.bytes) (bytes_in o)
placed true x o = refl
placed false x o = refl

pub bytes-gone : (f : DiskFiles) (k q : List ℕ) → bytes_at (change (Gone k) f) q ≡ cond (bytes_eq q k) None (bytes_at f q)
bytes-gone f k q = ap bytes_in (at-removed f k q) ∙ taken (bytes_eq q k) (disk_file_at f q)

pub bytes-made : (f : DiskFiles) (k : List ℕ) (now : ℕ) (q : List ℕ) → bytes_at (change (Made k now) f) q ≡ cond (bytes_eq q k) (Some []) (bytes_at f q)
bytes-made f k now q = ap bytes_in (at-insert f k (disk_file now []) q) ∙ placed (bytes_eq q k) (disk_file now []) (disk_file_at f q)

-- a file whose bytes are changed where it stands
absent : (g : List ℕ → List ℕ) (t : Bool) (o : Option DiskFile) → (t ≡ true → o ≡ None) → bytes_in o ≡ cond t (option_map g (bytes_in o)) (bytes_in o)
absent g true o h = ap bytes_in (h refl) ∙ sym (ap (λ p. option_map g (bytes_in p)) (h refl))
absent g false o h = refl

there : (g : List ℕ → List ℕ) (t : Bool) (x y : DiskFile) (o : Option DiskFile) → y.bytes ≡ g x.bytes → (t ≡ true → o ≡ Some x) → bytes_in (cond t (Some y) o) ≡ cond t (option_map g (bytes_in o)) (bytes_in o)
there g true x y o e h = ap Some e ∙ sym (ap (λ p. option_map g (bytes_in p)) (h refl))
there g false x y o e h = refl

changed_by : (f : DiskFiles) (k : List ℕ) (c : DiskFile → DiskFile) (g : List ℕ → List ℕ) → ((x : DiskFile) → (c x).bytes ≡ g x.bytes) → (q : List ℕ) (o : Option DiskFile) → disk_file_at f k ≡ o
    → bytes_at (with_disk_file f k (option_map c o)) q ≡ cond (bytes_eq q k) (option_map g (bytes_at f q)) (bytes_at f q)
changed_by f k c g same q None e = absent g (bytes_eq q k) (disk_file_at f q) (λ t. ap (disk_file_at f) (same_path q k t) ∙ e)
changed_by f k c g same q (Some x) e = ap bytes_in (at-insert f k (c x) q) ∙ there g (bytes_eq q k) x (c x) (disk_file_at f q) (same x) (λ t. ap (disk_file_at f) (same_path q k t) ∙ e)

kept : (t : Bool) (o : Option (List ℕ)) → cond t (option_map (λ b. b) o) o ≡ o
kept true None = refl
kept true (Some b) = refl
kept false o = refl

pub bytes-touched : (f : DiskFiles) (k : List ℕ) (now : ℕ) (q : List ℕ) → bytes_at (change (Touched k now) f) q ≡ bytes_at f q
bytes-touched f k now q = changed_by f k (λ file. disk_file now file.bytes) (λ b. b) (λ x. refl) q (disk_file_at f k) refl ∙ kept (bytes_eq q k) (bytes_at f q)

pub bytes-added : (f : DiskFiles) (k b : List ℕ) (q : List ℕ) → bytes_at (change (Added k b) f) q ≡ cond (bytes_eq q k) (option_map (λ c. c ++ b) (bytes_at f q)) (bytes_at f q)
bytes-added f k b q = changed_by f k (λ file. disk_file file.moment (file.bytes ++ b)) (λ c. c ++ b) (λ x. refl) q (disk_file_at f k) refl

moved_by : (f : DiskFiles) (a b : List ℕ) (q : List ℕ) (o : Option DiskFile) (v : List ℕ) → bytes_in o ≡ Some v → bytes_at (with_disk_file (map.remove f a) b o) q ≡ cond (bytes_eq q b) (Some v) (cond (bytes_eq q a) None (bytes_at f q))
moved_by f a b q None v e = cc
moved_by f a b q (Some x) v e = ap bytes_in (at-insert (map.remove f a) b x q) ∙ placed (bytes_eq q b) x (disk_file_at (map.remove f a) q)
    ∙ ap (λ o. cond (bytes_eq q b) o (bytes_at (map.remove f a) q)) e ∙ ap (cond (bytes_eq q b) (Some v)) (bytes-gone f a q)

-- a file that stands moves
pub bytes-moved : (f : DiskFiles) (a b v : List ℕ) (q : List ℕ) → bytes_at f a ≡ Some v → bytes_at (change (Moved a b) f) q ≡ cond (bytes_eq q b) (Some v) (cond (bytes_eq q a) None (bytes_at f q))
bytes-moved f a b v q e = moved_by f a b q (disk_file_at f a) v e

joined_tests : (s t : Bool) (o : Option (List ℕ)) → cond t None (cond s None o) ≡ cond (s || t) None o
joined_tests true true o = refl
joined_tests true false o = refl
joined_tests false t o = refl

-- files that went, in this order
pub bytes-all_gone : (f : DiskFiles) (ks : List (List ℕ)) (q : List ℕ) → bytes_at (replay f (gone ks)) q ≡ cond (list_any (bytes_eq q) ks) None (bytes_at f q)
bytes-all_gone f [] q = refl
bytes-all_gone f (k ∷ ks) q = ap (λ g. bytes_at g q) (replay-append f (gone ks) (Gone k ∷ [])) ∙ bytes-all_gone (change (Gone k) f) ks q
    ∙ ap (cond (list_any (bytes_eq q) ks) None) (bytes-gone f k q) ∙ joined_tests (bytes_eq q k) (list_any (bytes_eq q) ks) (bytes_at f q)

-- a key that is left is none of those that went
not_none : (n : ℕ) (o : Option ℕ) → o ≡ Some n → o ≡ None → ⊥
not_none n o p q = cc

first_apart : (q : List ℕ) (n : ℕ) (e : List ℕ × ℕ) (es : Index) → IsDistinct bytes_eq (keys_of (e ∷ es)) → lookup (bytes_eq q) es ≡ Some n → (t : Bool) → bytes_eq q e.0 ≡ t → bytes_eq q e.0 ≡ false
first_apart q n e es d h true t = absurd (not_none n (lookup (bytes_eq q) es) h (ap (λ k. lookup (bytes_eq k) es) (same_path q e.0 t) ∙ absent_later e es d))
first_apart q n e es d h false t = t

-- what is looked up behind the first ones is looked up in all
pub lookup-dropped : (n : ℕ) (es : Index) (q : List ℕ) (size : ℕ) → IsDistinct bytes_eq (keys_of es) → lookup (bytes_eq q) (drop n es) ≡ Some size → lookup (bytes_eq q) es ≡ Some size
lookup-dropped zero [] q size d h = h
lookup-dropped zero (e ∷ es) q size d h = h
lookup-dropped (suc n) [] q size d h = h
lookup-dropped (suc n) (e ∷ es) q size d h =
    let later = lookup-dropped n es q size (IsDistinct-tail bytes_eq e.0 (keys_of es) d) h in
    ap (λ t. cond t (Some e.1) (lookup (bytes_eq q) es)) (first_apart q size e es d later (bytes_eq q e.0) refl) ∙ later

pub left_apart : (n : ℕ) (es : Index) (q : List ℕ) (size : ℕ) → IsDistinct bytes_eq (keys_of es) → lookup (bytes_eq q) (drop n es) ≡ Some size → list_any (bytes_eq q) (firsts n es) ≡ false
left_apart zero [] q size d h = refl
left_apart zero (e ∷ es) q size d h = refl
left_apart (suc n) [] q size d h = refl
left_apart (suc n) (e ∷ es) q size d h =
    let rest = IsDistinct-tail bytes_eq e.0 (keys_of es) d in
    let later = lookup-dropped n es q size rest h in
    ap (λ t. t || list_any (bytes_eq q) (firsts n es)) (first_apart q size e es d later (bytes_eq q e.0) refl) ∙ left_apart n es q size rest h
