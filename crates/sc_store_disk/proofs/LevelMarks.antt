-- Marks of a level, and where files go.
use Rattle.std.proofs.Common.{◌≡◌, inl, inr, ℕ, Bool, true, false, ◌&&◌, ◌||◌, cond, is_some, bytes_eq, List, [], ◌∷◌, Option, Some, None, refl, sym, ap, ◌∙◌, subst}
use Rattle.std.specs.Cmp.Lexicographic.{nat_list_eq_equiv}
use Rattle.std.specs.List.{list_any}
use Rattle.sc_disk.proofs.Files.{same_path, self_path}
use Rattle.sc_model.specs.Evicting.{Evicts, drop_part}
use Rattle.sc_model.specs.Levels.{Files, KeepsMarks, Level, SetsMark, find_file, is_marked, is_there, put_file}
use Rattle.sc_disk_pair.proofs.Joined.{Kind, kind_of}
use Rattle.sc_disk_pair.specs.Pairs.{own_key}
use Rattle.sc_disk_pair.specs.Parts.{cut_part, in_part}
use Rattle.sc_disk_pair.specs.declared.part.Part.TheVariants.{Main, Pre}
use Rattle.sc_store_disk.specs.DiskStores.{level_with, shown_marks, with_marked}
use Rattle.sc_store_disk.specs.Marks.{Marks, is_marked as is_kept_mark}
use Rattle.sc_store_disk.proofs.Finding.{find-drop, find-put}

-- levels that have no marks
pub none-marked : (v w : Level) → v.marks ≡ [] → w.marks ≡ [] → KeepsMarks v w
none-marked v w m n = λ path. ap (list_any (bytes_eq path)) n ∙ sym (ap (λ ms. list_any (bytes_eq path) ms && is_there w path) m)

-- a level whose marks are those of an earlier one
pub keeps_from : (v u w : Level) → u.marks ≡ v.marks → KeepsMarks u w → KeepsMarks v w
keeps_from v u w m h = λ path. h path ∙ ap (λ ms. list_any (bytes_eq path) ms && is_there w path) m

-- A path of a level is marked where a mark is kept of it, at this place, and its file stands.
abbrev pub Shows : (List ℕ → List ℕ) → Marks → Level → Type 0
Shows place m v = (p : List ℕ) → is_marked v p ≡ (is_kept_mark m (place p) && is_there v p)

pub any_with : (f : List ℕ → Bool) (t : Bool) (p : List ℕ) (ps : List (List ℕ)) → list_any f (cond t (p ∷ ps) ps) ≡ cond t (f p || list_any f ps) (list_any f ps)
any_with f true p ps = refl
any_with f false p ps = refl

never : true ≡ false → ⊥
never e = cc

-- t: the path is this one, whose file stands or not by g; a: it is one of the others; s: its file stands; r: it is one of the others
-- that are shown
pub one_more : (t g a s r : Bool) → r ≡ (a && s) → (t ≡ true → s ≡ g) → cond g (t || r) r ≡ ((t || a) && s)
one_more true true a s r h same = sym (same refl)
one_more true false a true r h same = absurd (never (same refl))
one_more true false true false r h same = h
one_more true false false false r h same = h
one_more false true a s r h same = h
one_more false false a s r h same = h

shown_one : (files : Files) (p q : List ℕ) (qs : List (List ℕ)) → list_any (bytes_eq p) (shown_marks qs files) ≡ (list_any (bytes_eq (in_part Main p)) qs && is_some (find_file files p)) → Kind q
    → list_any (bytes_eq p) (with_marked (own_key Main (cut_part q)) files (shown_marks qs files)) ≡ ((bytes_eq (in_part Main p) q || list_any (bytes_eq (in_part Main p)) qs) && is_some (find_file files p))
shown_one files p q qs h (inl (Main, r, e)) =
    subst (λ (x : List ℕ). list_any (bytes_eq p) (with_marked (own_key Main (cut_part x)) files (shown_marks qs files)) ≡ ((bytes_eq (in_part Main p) x || list_any (bytes_eq (in_part Main p)) qs) && is_some (find_file files p))) (sym e)
    (any_with (bytes_eq p) (is_some (find_file files r)) r (shown_marks qs files)
    ∙ one_more (bytes_eq p r) (is_some (find_file files r)) (list_any (bytes_eq (in_part Main p)) qs) (is_some (find_file files p)) (list_any (bytes_eq p) (shown_marks qs files)) h (λ t. ap (λ k. is_some (find_file files k)) (same_path p r t)))
shown_one files p q qs h (inl (Pre, r, e)) =
    subst (λ (x : List ℕ). list_any (bytes_eq p) (with_marked (own_key Main (cut_part x)) files (shown_marks qs files)) ≡ ((bytes_eq (in_part Main p) x || list_any (bytes_eq (in_part Main p)) qs) && is_some (find_file files p))) (sym e) h
shown_one files p q qs h (inr (apart, none)) =
    ap (λ o. list_any (bytes_eq p) (with_marked o files (shown_marks qs files))) (ap (own_key Main) none) ∙ h
    ∙ sym (ap (λ t. (t || list_any (bytes_eq (in_part Main p)) qs) && is_some (find_file files p)) (nat_list_eq_equiv.symm (in_part Main p) q ∙ apart Main p))

shown-marked : (qs : List (List ℕ)) (files : Files) (p : List ℕ) → list_any (bytes_eq p) (shown_marks qs files) ≡ (list_any (bytes_eq (in_part Main p)) qs && is_some (find_file files p))
shown-marked [] files p = refl
shown-marked (q ∷ qs) files p = shown_one files p q qs (shown-marked qs files p) (kind_of q)

-- a disk store's main paths stand among those of both folders
pub marked-there : (m : Marks) (v : Level) → Shows (in_part Main) m (level_with m v)
marked-there m v p = shown-marked m.files v.main p

-- what stands stood before, and its mark is as it was
pub marks_stay : (m n v w : Bool) → (w ≡ true → v ≡ true) → (w ≡ true → n ≡ m) → (n && w) ≡ ((m && v) && w)
marks_stay true true true w fewer same = refl
marks_stay true true false true fewer same = sym (fewer refl)
marks_stay true true false false fewer same = refl
marks_stay true false v true fewer same = absurd (never (sym (same refl)))
marks_stay true false true false fewer same = refl
marks_stay true false false false fewer same = refl
marks_stay false true v true fewer same = absurd (never (same refl))
marks_stay false true v false fewer same = refl
marks_stay false false v w fewer same = refl

abbrev pub IsFewer : Level → Level → Type 0
IsFewer v w = (p : List ℕ) → is_there w p ≡ true → is_there v p ≡ true

pub keeps-shown : (place : List ℕ → List ℕ) (m n : Marks) (v w : Level) → Shows place m v → Shows place n w → IsFewer v w → ((p : List ℕ) → is_there w p ≡ true → is_kept_mark n (place p) ≡ is_kept_mark m (place p)) → KeepsMarks v w
keeps-shown place m n v w a b fewer same = λ p.
    b p ∙ marks_stay (is_kept_mark m (place p)) (is_kept_mark n (place p)) (is_there v p) (is_there w p) (fewer p) (same p) ∙ ap (λ t. t && is_there w p) (sym (a p))

pub and_true : (m b : Bool) → b ≡ true → (m && b) ≡ m
and_true true b h = h
and_true false b h = refl

-- A path got this mark.
pub sets-shown : (place : List ℕ → List ℕ) (m n : Marks) (v w : Level) (path : List ℕ) (mark : Bool) → Shows place m v → Shows place n w → is_marked w path ≡ mark
    → ((q : List ℕ) → bytes_eq path q ≡ false → is_there w q ≡ true → (is_there v q ≡ true) × (is_kept_mark n (place q) ≡ is_kept_mark m (place q))) → SetsMark path mark v w
sets-shown place m n v w path mark a b set others = record {
  set = set;
  others = λ q apart.
      b q ∙ marks_stay (is_kept_mark m (place q)) (is_kept_mark n (place q)) (is_there v q) (is_there w q) (λ there. (others q apart there).0) (λ there. (others q apart there).1) ∙ ap (λ t. t && is_there w q) (sym (a q));
}

-- no mark is set at a disk level, and no file came
pub keeps-fewer : (m n : Marks) (v w : Level) → ((p : List ℕ) → is_kept_mark n (in_part Main p) ≡ is_kept_mark m (in_part Main p)) → IsFewer v w → KeepsMarks (level_with m v) (level_with n w)
keeps-fewer m n v w same fewer = keeps-shown (in_part Main) m n (level_with m v) (level_with n w) (marked-there m v) (marked-there n w) fewer (λ p there. same p)

pub same-fewer : (v w : Level) → w.main ≡ v.main → IsFewer v w
same-fewer v w m p h = ap (λ f. is_some (find_file f p)) (sym m) ∙ h

-- where files went fewer stand
dropped_there : (t : Bool) (o : Option (List ℕ)) → is_some (cond t None o) ≡ true → is_some o ≡ true
dropped_there true o h = cc
dropped_there false o h = h

drop_fewer : (main : Bool) (q : List ℕ) (v : Level) → IsFewer v (drop_part main q v)
drop_fewer true q v p h = dropped_there (bytes_eq p q) (find_file v.main p) (sym (ap is_some (find-drop v.main q p)) ∙ h)
drop_fewer false q v p h = h

pub evicts-fewer : (capacity more : ℕ) (ps : List (Bool × List ℕ)) (v w : Level) → Evicts capacity more ps v w → IsFewer v w
evicts-fewer capacity more [] v w h = same-fewer v w h.0
evicts-fewer capacity more (q ∷ ps) v w h = λ p there. drop_fewer (q.0) (q.1) v p (evicts-fewer capacity more ps (drop_part (q.0) (q.1) v) w h.2 p there)

-- a file was put
pub put_there : (f : Files) (p b q : List ℕ) → bytes_eq q p ≡ false → is_some (find_file (put_file f p b) q) ≡ is_some (find_file f q)
put_there f p b q apart = ap is_some (find-put f p b q ∙ ap (λ t. cond t (Some b) (find_file f q)) apart)

pub put_own : (f : Files) (p b : List ℕ) → is_some (find_file (put_file f p b) p) ≡ true
put_own f p b = ap is_some (find-put f p b p ∙ ap (λ t. cond t (Some b) (find_file f p)) (self_path p))

-- and its path got this mark, at a disk level
pub sets-mark : (m n : Marks) (v w : Level) (p b : List ℕ) (mark : Bool) → w.main ≡ put_file v.main p b → is_kept_mark n (in_part Main p) ≡ mark
    → ((q : List ℕ) → bytes_eq p q ≡ false → is_there w q ≡ true → is_kept_mark n (in_part Main q) ≡ is_kept_mark m (in_part Main q)) → SetsMark p mark (level_with m v) (level_with n w)
sets-mark m n v w p b mark put is kept =
    sets-shown (in_part Main) m n (level_with m v) (level_with n w) p mark (marked-there m v) (marked-there n w)
    (marked-there n w p ∙ and_true (is_kept_mark n (in_part Main p)) (is_there w p) (ap (λ f. is_some (find_file f p)) put ∙ put_own v.main p b) ∙ is)
    (λ q apart there.
    let same : is_there w q ≡ is_there v q = ap (λ f. is_some (find_file f q)) put ∙ put_there v.main p b q (nat_list_eq_equiv.symm q p ∙ apart) in
    (sym same ∙ there, kept q apart there))

-- no path of a disk level is marked at which no file stands
pub marks-there : (m : Marks) (v : Level) → KeepsMarks (level_with m v) (level_with m v)
marks-there m v = keeps-fewer m m v v (λ p. refl) (λ p there. there)
