-- What puts and evictions make of the bytes at a path.
use Rattle.std.proofs.Common.{◌≡◌, ◌⊎◌, ⊎_elim, inl, inr, ℕ, ◌+◌, ◌<◌, ◌≤◌, Bool, true, false, cond, bytes_eq, List, [], ◌∷◌, length, Option, Some, None, refl, sym, ap, ◌∙◌, subst, arith}
use Rattle.std.proofs.lemmas.Slice.Eq.{bytes_eq-Decides}
use Rattle.sc_disk_pair.specs.declared.part.Part.{Part}
use Rattle.sc_disk_pair.specs.declared.part.Part.TheVariants.{Main, Pre}
use Rattle.sc_model.specs.Evicting.{Evicts, drop_part, part_size}
use Rattle.sc_model.specs.Levels.{Files, Level, drop_file, find_file, put_file, size_of}
use Rattle.sc_store_disk.proofs.Finding.{find-drop, find-put, same_map_files}
use Rattle.sc_store_disk.proofs.Sizes.{size-put}
use Rattle.sc_store_disk.specs.Moving.{part_files}

pub put_self : (m : Files) (p b : List ℕ) → find_file (put_file m p b) p ≡ Some b
put_self m p b = find-put m p b p ∙ ap (λ (t : Bool). cond t (Some b) (find_file m p)) ((bytes_eq-Decides p p).1 refl)

not_true : (t : Bool) → (t ≡ true → ⊥) → t ≡ false
not_true true h = absurd (h refl)
not_true false h = refl

pub put_other : (m : Files) (q b p : List ℕ) → (q ≡ p → ⊥) → find_file (put_file m q b) p ≡ find_file m p
put_other m q b p h =
    let apart : bytes_eq p q ≡ false = not_true (bytes_eq p q) (λ t. h (sym ((bytes_eq-Decides p q).0 t))) in
    find-put m q b p ∙ ap (λ (t : Bool). cond t (Some b) (find_file m p)) apart

seen_by : (t : Bool) (b c : List ℕ) (o : Option (List ℕ)) → cond t (Some b) o ≡ Some c → ((t ≡ true) × (b ≡ c)) ⊎ (o ≡ Some c)
seen_by true b c o e = let same : b ≡ c = cc (e) in inl (refl, same)
seen_by false b c o e = inr e

-- a put is seen at its path alone
pub put_seen : (m : Files) (q b p c : List ℕ) → find_file (put_file m q b) p ≡ Some c → ((q ≡ p) × (b ≡ c)) ⊎ (find_file m p ≡ Some c)
put_seen m q b p c e =
    ⊎_elim (λ (y : (bytes_eq p q ≡ true) × (b ≡ c)). inl (sym ((bytes_eq-Decides p q).0 y.0), y.1)) (λ (y : find_file m p ≡ Some c). inr y) (seen_by (bytes_eq p q) b c (find_file m p) (sym (find-put m q b p) ∙ e))

pub found_or_none : (o : Option (List ℕ)) → (o ≡ None) ⊎ ((c : List ℕ) × (o ≡ Some c))
found_or_none None = inl refl
found_or_none (Some c) = inr (c, refl)

pub not_both : (o : Option (List ℕ)) (c : List ℕ) → o ≡ Some c → o ≡ None → ⊥
not_both o c p q = cc

dropped_by : (t : Bool) (o : Option (List ℕ)) → (cond t None o ≡ o) ⊎ (cond t None o ≡ None)
dropped_by true o = inr refl
dropped_by false o = inl refl

dropped : (m : Files) (q p : List ℕ) → (find_file (drop_file m q) p ≡ find_file m p) ⊎ (find_file (drop_file m q) p ≡ None)
dropped m q p =
    ⊎_elim (λ (y : cond (bytes_eq p q) None (find_file m p) ≡ find_file m p). inl (find-drop m q p ∙ y)) (λ (y : cond (bytes_eq p q) None (find_file m p) ≡ None). inr (find-drop m q p ∙ y)) (dropped_by (bytes_eq p q) (find_file m p))

dropped_part : (which : Bool) (q : List ℕ) (v : Level) (part : Part) (p : List ℕ)
    → (find_file (part_files part (drop_part which q v)) p ≡ find_file (part_files part v) p) ⊎ (find_file (part_files part (drop_part which q v)) p ≡ None)
dropped_part true q v Main p = dropped v.main q p
dropped_part true q v Pre p = inl refl
dropped_part false q v Main p = inl refl
dropped_part false q v Pre p = dropped v.pre q p

-- all files and the wanted bytes take more than the capacity
abbrev pub TooMuch : ℕ → ℕ → Level → Type 0
TooMuch capacity wanted v = capacity < part_size v + wanted

taken_first : (capacity wanted : ℕ) (part : Part) (p : List ℕ) (v d w : Level) → TooMuch capacity wanted v
    → (find_file (part_files part d) p ≡ find_file (part_files part v) p) ⊎ (find_file (part_files part d) p ≡ None)
    → (find_file (part_files part w) p ≡ find_file (part_files part d) p) ⊎ ((find_file (part_files part w) p ≡ None) × TooMuch capacity wanted d)
    → (find_file (part_files part w) p ≡ find_file (part_files part v) p) ⊎ ((find_file (part_files part w) p ≡ None) × TooMuch capacity wanted v)
taken_first capacity wanted part p v d w over (inl same) (inl later) = inl (later ∙ same)
taken_first capacity wanted part p v d w over (inl same) (inr (none, more)) = inr (none, over)
taken_first capacity wanted part p v d w over (inr gone) (inl later) = inr (later ∙ gone, over)
taken_first capacity wanted part p v d w over (inr gone) (inr (none, more)) = inr (none, over)

-- what stood at a path stands there after evictions, or one of them took it, and then all took too much
pub evicted : (capacity wanted : ℕ) (ps : List (Bool × List ℕ)) (v w : Level) (part : Part) (p : List ℕ) → Evicts capacity wanted ps v w
    → (find_file (part_files part w) p ≡ find_file (part_files part v) p) ⊎ ((find_file (part_files part w) p ≡ None) × TooMuch capacity wanted v)
evicted capacity wanted [] v w Main p h = inl (ap (λ (m : Files). find_file m p) h.0)
evicted capacity wanted [] v w Pre p h = inl (ap (λ (m : Files). find_file m p) h.1)
evicted capacity wanted (q ∷ ps) v w part p h =
    taken_first capacity wanted part p v (drop_part (q.0) (q.1) v) w h.0 (dropped_part (q.0) (q.1) v part p) (evicted capacity wanted ps (drop_part (q.0) (q.1) v) w part p h.2)

-- ---- sizes

gone_here : (m : Files) (q : List ℕ) → find_file (drop_file m q) q ≡ None
gone_here m q = find-drop m q q ∙ ap (λ (t : Bool). cond t None (find_file m q)) ((bytes_eq-Decides q q).1 refl)

put_twice : (t : Bool) (b : List ℕ) (o : Option (List ℕ)) → cond t (Some b) (cond t None o) ≡ cond t (Some b) o
put_twice true b o = refl
put_twice false b o = refl

-- a put is one in a map that lacks its path
put_anew : (m : Files) (q b : List ℕ) → put_file (drop_file m q) q b ≡ put_file m q b
put_anew m q b = same_map_files (put_file (drop_file m q) q b) (put_file m q b) (λ p.
    find-put (drop_file m q) q b p ∙ ap (cond (bytes_eq p q) (Some b)) (find-drop m q p) ∙ put_twice (bytes_eq p q) b (find_file m p) ∙ sym (find-put m q b p))

put_back : (t : Bool) (b : List ℕ) (o : Option (List ℕ)) → (t ≡ true → o ≡ Some b) → cond t (Some b) o ≡ o
put_back true b o h = sym (h refl)
put_back false b o h = refl

put_again : (m : Files) (q b : List ℕ) → find_file m q ≡ Some b → put_file m q b ≡ m
put_again m q b some = same_map_files (put_file m q b) m (λ p.
    find-put m q b p ∙ put_back (bytes_eq p q) b (find_file m p) (λ t. ap (find_file m) ((bytes_eq-Decides p q).0 t) ∙ some))

drop_none : (t : Bool) (o : Option (List ℕ)) → (t ≡ true → o ≡ None) → cond t None o ≡ o
drop_none true o h = sym (h refl)
drop_none false o h = refl

drop_absent : (m : Files) (q : List ℕ) → find_file m q ≡ None → drop_file m q ≡ m
drop_absent m q none = same_map_files (drop_file m q) m (λ p.
    find-drop m q p ∙ drop_none (bytes_eq p q) (find_file m p) (λ t. ap (find_file m) ((bytes_eq-Decides p q).0 t) ∙ none))

same_size : (m n : Files) → m ≡ n → size_of m ≤ size_of n
same_size m n e = subst (λ (x : Files). size_of m ≤ size_of x) e (omega arith)

-- with a file fewer a map takes no more
pub size-dropped : (m : Files) (q : List ℕ) → size_of (drop_file m q) ≤ size_of m
size-dropped m q =
    ⊎_elim (λ (y : find_file m q ≡ None). same_size (drop_file m q) m (drop_absent m q y)) (λ (y : (c : List ℕ) × (find_file m q ≡ Some c)).
    let anew : size_of (put_file (drop_file m q) q y.0) ≡ length y.0 + size_of (drop_file m q) = size-put (drop_file m q) q y.0 (gone_here m q) in
    let same : size_of (put_file (drop_file m q) q y.0) ≡ size_of m = ap size_of (put_anew m q y.0 ∙ put_again m q y.0 y.1) in
    omega (arith, anew, same))
    (found_or_none (find_file m q))

-- a put adds no more than its bytes
pub size-more : (m : Files) (q b : List ℕ) → size_of (put_file m q b) ≤ size_of m + length b
size-more m q b =
    let anew : size_of (put_file (drop_file m q) q b) ≡ length b + size_of (drop_file m q) = size-put (drop_file m q) q b (gone_here m q) in
    let same : size_of (put_file (drop_file m q) q b) ≡ size_of (put_file m q b) = ap size_of (put_anew m q b) in
    let less : size_of (drop_file m q) ≤ size_of m = size-dropped m q in
    omega (arith, anew, same, less)

dropped_size : (which : Bool) (q : List ℕ) (v : Level) → part_size (drop_part which q v) ≤ part_size v
dropped_size true q v = let less : size_of (drop_file v.main q) ≤ size_of v.main = size-dropped v.main q in omega (arith, less)
dropped_size false q v = let less : size_of (drop_file v.pre q) ≤ size_of v.pre = size-dropped v.pre q in omega (arith, less)

-- evictions leave no more
pub evicted_size : (capacity wanted : ℕ) (ps : List (Bool × List ℕ)) (v w : Level) → Evicts capacity wanted ps v w → part_size w ≤ part_size v
evicted_size capacity wanted [] v w h = subst (λ (n : ℕ). part_size w ≤ n + size_of v.pre) (ap size_of h.0) (subst (λ (n : ℕ). part_size w ≤ size_of w.main + n) (ap size_of h.1) (omega arith))
evicted_size capacity wanted (q ∷ ps) v w h =
    let rest : part_size w ≤ part_size (drop_part (q.0) (q.1) v) = evicted_size capacity wanted ps (drop_part (q.0) (q.1) v) w h.2 in
    let first : part_size (drop_part (q.0) (q.1) v) ≤ part_size v = dropped_size (q.0) (q.1) v in
    omega (arith, rest, first)
