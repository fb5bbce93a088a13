-- Directories that are gone through one after another, with the set of those before.
use Rattle.std.proofs.Common.{◌≡◌, ℕ, ◌-◌, ◌≤◌, Bool, true, false, not, ◌||◌, cond, List, [], ◌∷◌, ◌++◌, length, take, drop, get_or, refl, ap, sym, ◌∙◌, arith}
use Rattle.std.proofs.Math.Seq.{take-length}
use Rattle.std.specs.Borrow.{Bor}
use Rattle.std.specs.BTreeSet.{BTreeSet, Updates, contains}
use Rattle.std.specs.Cmp.Lexicographic.{slice_cmp}
use Rattle.std.specs.Ordering.{nat_cmp}
use Rattle.std.specs.Str.{bytes_eq}
use Rattle.std.proofs.lemmas.Map.Text.{is_eq-slice_cmp}
use Rattle.sc_store.specs.Basedirs.{IsSetOf, collect, is_among}

or_cond : (b : Bool) → (b || false) ≡ cond b true false
or_cond true = refl
or_cond false = refl

either : (a b c : Bool) → (a || cond b true c) ≡ cond b true (a || c)
either true true c = refl
either true false c = refl
either false b c = refl

-- a directory among some with one more
among_more : (dir : List ℕ) (ds : List (List ℕ)) (d : List ℕ) → is_among dir (ds ++ d ∷ []) ≡ cond (bytes_eq d dir) true (is_among dir ds)
among_more dir [] d = or_cond (bytes_eq d dir)
among_more dir (x ∷ ds) d = ap (λ (b : Bool). bytes_eq x dir || b) (among_more dir ds d) ∙ either (bytes_eq x dir) (bytes_eq d dir) (is_among dir ds)

module _ (old new : BTreeSet (Bor (List ℕ))) (d : Bor (List ℕ)) (seen more : List (List ℕ)) where
  -- the set with that one more
  pub set_more : IsSetOf old seen → Updates (λ x y. slice_cmp nat_cmp x.now y.now) old new d true → more ≡ seen ++ d.now ∷ [] → IsSetOf new more
  set_more was updates is = λ dir.
      updates.0 dir ∙ ap (λ (b : Bool). cond b true (contains (λ x y. slice_cmp nat_cmp x.now y.now) old dir)) (is_eq-slice_cmp d.now dir.now)
      ∙ ap (λ (b : Bool). cond (bytes_eq d.now dir.now) true b) (was dir) ∙ sym (among_more dir.now seen d.now) ∙ ap (λ (l : List (List ℕ)). is_among dir.now l) (sym is)

unless : (b c d : Bool) → b ≡ not c → b ≡ true → c ≡ d → d ≡ false
unless b true d is added same = absurd (cc)
unless b false d is added same = sym same

-- one that the set lacks is among none of them
pub new_dir : (named : BTreeSet (Bor (List ℕ))) (d : Bor (List ℕ)) (seen : List (List ℕ)) (b : Bool) → IsSetOf named seen → b ≡ not (contains (λ x y. slice_cmp nat_cmp x.now y.now) named d) → b ≡ true
    → is_among d.now seen ≡ false
new_dir named d seen b was is added = unless b _ _ is added (was d)

pub collect_more : (left : List (List ℕ)) (d : List ℕ) (seen more all : List (List ℕ)) → 1 ≤ length left → d ≡ get_or left 0 d → is_among d seen ≡ false → more ≡ seen ++ d ∷ [] → collect seen left ≡ all
    → collect more (take (length left - 1) (drop 1 left)) ≡ all
collect_more [] d seen more all some first absent is before = absurd (omega (arith, some))
collect_more (x ∷ left) d seen more all some first absent is before =
    let n : length (x ∷ left) - 1 ≡ length left = omega arith in
    let here : is_among x seen ≡ false = rw (← first) absent in
    let same : collect (seen ++ x ∷ []) left ≡ all = rw here at before in
    rw (n, take-length, is, first) same
