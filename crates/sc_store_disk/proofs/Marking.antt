-- Marks of files and of open entries.
use Rattle.std.proofs.Common.{◌≡◌, ◌≢◌, ◌==◌, eqb-true, ℕ, Bool, true, false, cond, is_some, bytes_eq, IfSome, List, Option, Some, None, refl, sym, ap, ◌∙◌, subst}
use Rattle.std.specs.Cmp.Lexicographic.{nat_list_eq_equiv}
use Rattle.std.specs.List.{list_any}
use Rattle.std.specs.Map.{lookup}
use Rattle.sc_entry.specs.declared.cache_mode.CacheMode.{CacheMode}
use Rattle.sc_disk.proofs.Files.{same_path}
use Rattle.sc_disk.specs.Disks.{DiskFiles}
use Rattle.sc_model.specs.Levels.{find_file}
use Rattle.sc_disk_pair.specs.Parts.{in_part}
use Rattle.sc_disk_pair.specs.Twos.{TwoState}
use Rattle.sc_disk_pair.specs.declared.pair_cache.PairCache.{PairCache}
use Rattle.sc_disk_pair.specs.declared.part.Part.TheVariants.{Main}
use Rattle.sc_store_disk.specs.DiskStores.{DiskStore, store_of, told_files}
use Rattle.sc_store_disk.specs.Marked.{MarksDone, SweptBy}
use Rattle.sc_store_disk.specs.Marks.{Begins, Fills, Forgets, Marks, OtherFills, Settles, Sweeps, fills_of, is_marked, mark_of}
use Rattle.sc_store_disk.specs.Shown.{Index, bytes_at, files_of}
use Rattle.sc_store_disk.proofs.Finding.{find-files}

-- numbers that are not the same
pub apart_test : (a b : ℕ) → b ≢ a → (a == b) ≡ false
apart_test a b apart = (elim (a == b) as (λ t. (a == b) ≡ t → t ≡ false) [
  | true ↦ λ e. absurd (apart (sym (eqb-true a b e)))
  | false ↦ λ e. refl
]) refl

pub flipped : (a b : List ℕ) → bytes_eq a b ≡ false → bytes_eq b a ≡ false
flipped a b h = nat_list_eq_equiv.symm b a ∙ h

-- nothing went
pub sweeps_none : (index : Index) (keep : List ℕ) (m : Marks) → Sweeps index keep m m
sweeps_none index keep m = record { entries = refl; kept = λ path h. refl; own = refl; none = λ path h. h }

pub sweeps_then : (index : Index) (keep : List ℕ) (a b c : Marks) → Sweeps index keep a b → Sweeps index keep b c → Sweeps index keep a c
sweeps_then index keep a b c s t = record {
  entries = t.entries ∙ s.entries;
  kept = λ path h. t.kept path h ∙ s.kept path h;
  own = t.own ∙ s.own;
  none = λ path h. t.none path (s.none path h);
}

-- one path went that is neither indexed nor to keep
not_both : (b : Bool) → b ≡ true → b ≡ false → ⊥
not_both true p q = cc
not_both false p q = cc

gone_or : (t b : Bool) → b ≡ false → cond t false b ≡ false
gone_or true b h = refl
gone_or false b h = h

pub sweeps_one : (index : Index) (keep k : List ℕ) (a b : Marks) → is_some (lookup (bytes_eq k) index) ≡ false → bytes_eq k keep ≡ false → b.entries ≡ a.entries → ((q : List ℕ) → is_marked b q ≡ cond (bytes_eq k q) false (is_marked a q)) → Sweeps index keep a b
sweeps_one index keep k a b absent apart entries updates = record {
  entries = entries;
  kept = λ q h. updates q ∙ (elim (bytes_eq k q) as (λ t. bytes_eq k q ≡ t → cond t false (is_marked a q) ≡ is_marked a q) [
    | true ↦ λ e. absurd (not_both (is_some (lookup (bytes_eq q) index)) h (ap (λ p. is_some (lookup (bytes_eq p) index)) (sym (same_path k q e)) ∙ absent))
    | false ↦ λ e. refl
  ]) refl;
  own = updates keep ∙ ap (λ t. cond t false (is_marked a keep)) apart;
  none = λ q h. updates q ∙ gone_or (bytes_eq k q) (is_marked a q) h;
}

-- A mark was added for a commit, which was not done.
pub undone : (path : List ℕ) (number : ℕ) (added : Bool) (a b c : Marks) → Begins path number added a b → fills_of c number ≡ None → OtherFills number b c → (added ≡ false → c.files ≡ b.files) → (added ≡ true → is_marked c path ≡ false)
    → ((q : List ℕ) → bytes_eq path q ≡ false → is_marked c q ≡ is_marked b q) → Forgets number a c
undone path number true a b c begun none others kept removed apart = record {
  files = λ q. (elim (bytes_eq path q) as (λ t. bytes_eq path q ≡ t → is_marked c q ≡ is_marked a q) [
    | true ↦ λ e. ap (is_marked c) (sym (same_path path q e)) ∙ removed refl ∙ sym (begun.unmarked refl) ∙ ap (is_marked a) (same_path path q e)
    | false ↦ λ e. apart q e ∙ begun.others q e
  ]) refl;
  none = none;
  others = λ m h. others m h ∙ ap (λ es. lookup (λ n. m == n) es) begun.entries;
}
undone path number false a b c begun none others kept removed apart = record {
  files = λ q. ap (list_any (bytes_eq q)) (kept refl ∙ begun.same refl);
  none = none;
  others = λ m h. others m h ∙ ap (λ es. lookup (λ n. m == n) es) begun.entries;
}

-- one that was done
abbrev lookup_entry : List (ℕ × Bool) → ℕ → Option Bool
lookup_entry es number = lookup (λ n. number == n) es

shown_indexed : (o : Option ℕ) (x : Option (List ℕ)) (bytes : List ℕ) → cond (is_some o) x None ≡ Some bytes → is_some o ≡ true
shown_indexed None x bytes h = cc
shown_indexed (Some n) x bytes h = refl

pub held-indexed : (index : Index) (f : DiskFiles) (key bytes : List ℕ) → find_file (files_of Main index f) key ≡ Some bytes → is_some (lookup (bytes_eq (in_part Main key)) index) ≡ true
held-indexed index f key bytes h = shown_indexed (lookup (bytes_eq (in_part Main key)) index) (bytes_at f (in_part Main key)) bytes (sym (find-files Main index f key) ∙ h)

module _ (path : List ℕ) (number : ℕ) (added : Bool) (a b c d : Marks) (begun : Begins path number added a b) (settled : Settles path number b c) where
  fills_same : (m : ℕ) → fills_of b m ≡ fills_of a m
  fills_same m = ap (λ es. lookup_entry es m) begun.entries

  apart_same : (q : List ℕ) → bytes_eq path q ≡ false → is_marked c q ≡ is_marked a q
  apart_same q h = settled.files q h ∙ begun.others q h

  own_mark : is_marked c path ≡ mark_of (fills_of a number)
  own_mark = settled.marked ∙ ap mark_of (fills_same number)

  done_swept : (index : Index) (v : DiskStore) → ((key bytes : List ℕ) → find_file v.level.main key ≡ Some bytes → is_some (lookup (bytes_eq (in_part Main key)) index) ≡ true) → Sweeps index path c d → MarksDone number path a d v
  done_swept index v indexed swept = record {
    marked = swept.own ∙ own_mark;
    kept = λ told key bytes apart is. swept.kept (in_part Main key) (indexed key bytes is) ∙ apart_same (in_part Main key) apart;
    fewer = λ q apart none. swept.none q (apart_same q apart ∙ none);
    none = ap (λ es. lookup_entry es number) swept.entries ∙ settled.none;
    others = λ m h. ap (λ es. lookup_entry es m) swept.entries ∙ settled.others m h ∙ fills_same m;
  }

  done_same : (v : DiskStore) → d ≡ c → MarksDone number path a d v
  done_same v same = record {
    marked = ap (λ m. is_marked m path) same ∙ own_mark;
    kept = λ told key bytes apart is. ap (λ m. is_marked m (in_part Main key)) same ∙ apart_same (in_part Main key) apart;
    fewer = λ q apart none. ap (λ m. is_marked m q) same ∙ apart_same q apart ∙ none;
    none = ap (λ m. fills_of m number) same ∙ settled.none;
    others = λ m h. ap (λ k. fills_of k m) same ∙ settled.others m h ∙ fills_same m;
  }

  pub marks-done : {D : Type 0} (mode : CacheMode) (capacity : ℕ) (o : Option (PairCache D)) (t : Option TwoState) → SweptBy o path c d → MarksDone number path a d (store_of mode capacity o t)
  marks-done {D} mode capacity None t swept = done_same (store_of {D = D} mode capacity None t) swept
  marks-done {D} mode capacity (Some x) t swept = done_swept x.store.index (store_of mode capacity (Some x) t) (λ key bytes is. held-indexed x.store.index (told_files x.store.disk.told) key bytes is) swept

pub of_key : {A : Type 0} (P : A → Type 0) (r : Option A) (k : A) → r ≡ Some k → IfSome r P → P k
of_key {A} P r k is h = subst (λ (o : Option A). IfSome o P) is h

-- an entry that is forgotten after it was filled
pub forgets_filled : (number : ℕ) (from_run : Bool) (a b c : Marks) → Fills number from_run a b → Forgets number b c → Forgets number a c
forgets_filled number from_run a b c f g = record { files = λ q. g.files q ∙ f.files q; none = g.none; others = λ m apart. g.others m apart ∙ f.others m apart }
