-- What stands at a path of a part.
use Rattle.std.proofs.Common.{◌≡◌, inl, inr, ℕ, Bool, true, false, cond, is_some, bytes_eq, List, [], ◌∷◌, Option, Some, None, refl, sym, ap, ◌∙◌, subst}
use Rattle.std.proofs.lemmas.Map.Text.{is_eq-slice_cmp}
use Rattle.std.specs.Cmp.Lexicographic.{nat_list_cmp_total, nat_list_eq_equiv, slice_cmp}
use Rattle.std.specs.FinMap as map
use Rattle.std.specs.FinMap.{same_map, slice_cmp-IsAntisymmetric, nat_cmp-IsAntisymmetric}
use Rattle.std.specs.Map.{lookup}
use Rattle.std.specs.Ordering.{nat_cmp}
use Rattle.sc_disk.proofs.Files.{same_path}
use Rattle.sc_disk.specs.Disks.{DiskFiles}
use Rattle.sc_model.specs.Levels.{Files, drop_file, find_file, put_file}
use Rattle.sc_disk_pair.proofs.Joined.{Kind, kind_of}
use Rattle.sc_disk_pair.specs.Pairs.{own_key}
use Rattle.sc_disk_pair.specs.Parts.{cut_part, in_part}
use Rattle.sc_disk_pair.specs.declared.part.Part.{Part}
use Rattle.sc_disk_pair.specs.declared.part.Part.TheVariants.{Main, Pre}
use Rattle.sc_store_disk.specs.Shown.{Index, bytes_at, files_of, shown, with_shown}

pub find-put : (files : Files) (k b q : List ℕ) → find_file (put_file files k b) q ≡ cond (bytes_eq q k) (Some b) (find_file files q)
find-put files k b q = map.get-insert nat_list_cmp_total files k b q ∙ ap (λ t. cond t (Some b) (find_file files q)) (is_eq-slice_cmp q k)

pub find-drop : (files : Files) (k q : List ℕ) → find_file (drop_file files k) q ≡ cond (bytes_eq q k) None (find_file files q)
find-drop files k q = map.get-remove nat_list_cmp_total files k q ∙ ap (λ t. cond t None (find_file files q)) (is_eq-slice_cmp q k)

-- maps are one where they hold the same under each path
pub same_map_files : (m n : Files) → ((q : List ℕ) → find_file m q ≡ find_file n q) → m ≡ n
same_map_files m n h = same_map nat_list_cmp_total (slice_cmp-IsAntisymmetric nat_cmp-IsAntisymmetric) m n h

found_with : Option (List ℕ) → Bool → Option (List ℕ) → Option (List ℕ)
found_with None t rest = rest
found_with (Some b) t rest = cond t (Some b) rest

find-with : (m : Files) (r k : List ℕ) (a : Option (List ℕ)) → find_file (with_shown (Some r) a m) k ≡ found_with a (bytes_eq k r) (find_file m k)
unfolding found_with
find-with m r k None = refl
find-with m r k (Some b) = find-put m r b k

neither : (t : Bool) (b : Option (List ℕ)) → b ≡ None → cond t b None ≡ None
neither true b e = e
neither false b e = refl

settled : (t : Bool) (s : Option ℕ) (n : ℕ) (a b : Option (List ℕ)) → (t ≡ true → a ≡ b) → found_with a t (cond (is_some s) b None) ≡ cond (is_some (cond t (Some n) s)) b None
unfolding found_with
settled true s n None b h = neither (is_some s) b (sym (h refl)) ∙ h refl
settled true s n (Some v) b h = h refl
settled false s n None b h = refl
settled false s n (Some v) b h = refl

step_own : (part : Part) (r : List ℕ) (n : ℕ) (es : Index) (f : DiskFiles) (k : List ℕ) (m : Files) → find_file m k ≡ shown es f (in_part part k)
    → find_file (with_shown (Some r) (bytes_at f (in_part part r)) m) k ≡ cond (is_some (cond (bytes_eq k r) (Some n) (lookup (bytes_eq (in_part part k)) es))) (bytes_at f (in_part part k)) None
step_own part r n es f k m h =
    find-with m r k (bytes_at f (in_part part r)) ∙ ap (found_with (bytes_at f (in_part part r)) (bytes_eq k r)) h
    ∙ settled (bytes_eq k r) (lookup (bytes_eq (in_part part k)) es) n (bytes_at f (in_part part r)) (bytes_at f (in_part part k)) (λ t. ap (λ p. bytes_at f (in_part part p)) (sym (same_path k r t)))

step_in : (part other : Part) (r : List ℕ) (n : ℕ) (es : Index) (f : DiskFiles) (k : List ℕ) (m : Files) → find_file m k ≡ shown es f (in_part part k)
    → find_file (with_shown (own_key part (cut_part (in_part other r))) (bytes_at f (in_part other r)) m) k ≡ shown ((in_part other r, n) ∷ es) f (in_part part k)
step_in Main Main r n es f k m h = step_own Main r n es f k m h
step_in Main Pre r n es f k m h = h
step_in Pre Main r n es f k m h = h
step_in Pre Pre r n es f k m h = step_own Pre r n es f k m h

step : (part : Part) (p : List ℕ) (n : ℕ) (es : Index) (f : DiskFiles) (k : List ℕ) (m : Files) → find_file m k ≡ shown es f (in_part part k) → Kind p
    → find_file (with_shown (own_key part (cut_part p)) (bytes_at f p) m) k ≡ shown ((p, n) ∷ es) f (in_part part k)
step part p n es f k m h (inl (other, r, e)) =
    subst (λ (x : List ℕ). find_file (with_shown (own_key part (cut_part x)) (bytes_at f x) m) k ≡ shown ((x, n) ∷ es) f (in_part part k)) (sym e) (step_in part other r n es f k m h)
step part p n es f k m h (inr (apart, none)) =
    ap (λ o. find_file (with_shown o (bytes_at f p) m) k) (ap (own_key part) none) ∙ h
    ∙ sym (ap (λ t. cond (is_some (cond t (Some n) (lookup (bytes_eq (in_part part k)) es))) (bytes_at f (in_part part k)) None) (nat_list_eq_equiv.symm (in_part part k) p ∙ apart part k))

-- a part's map holds what is shown at the path
pub find-files : (part : Part) (es : Index) (f : DiskFiles) (k : List ℕ) → find_file (files_of part es f) k ≡ shown es f (in_part part k)
find-files part [] f k = map.get-empty (slice_cmp nat_cmp) k
find-files part (e ∷ es) f k = step part e.0 e.1 es f k (files_of part es f) (find-files part es f k) (kind_of e.0)

-- two maps of a part are one where the same is shown at each of its paths
pub same-shown : (part : Part) (es fs : Index) (f g : DiskFiles) → ((k : List ℕ) → shown es f (in_part part k) ≡ shown fs g (in_part part k)) → files_of part es f ≡ files_of part fs g
same-shown part es fs f g h = same_map_files (files_of part es f) (files_of part fs g) (λ k. find-files part es f k ∙ h k ∙ sym (find-files part fs g k))
