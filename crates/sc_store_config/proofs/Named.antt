-- Where a remote of a name stands, and what is left once it is taken.
use Rattle.std.proofs.Common.{◌≡◌, ℕ, zero, suc, ◌+◌, ◌<◌, ◌≤◌, Bool, true, false, cond, List, [], ◌∷◌, length, get_or, drop, remove, Option, Some, None, option_map, bytes_eq, ap, sym, ◌∙◌, refl, arith, drop-cons, add-one}
use Rattle.std.proofs.lemmas.List.{drop_all}
use Rattle.sc_store_config.specs.Configs.{first_named, place_of, without_first}
use Rattle.sc_store_config.specs.declared.remote_config.NamedRemote.{NamedRemote}

-- a place behind others
abbrev pub after : ℕ → Option ℕ → Option ℕ
after k None = None
after k (Some p) = Some (k + p)

after_more : (k : ℕ) (o : Option ℕ) → after k (option_map suc o) ≡ after (k + 1) o
after_more k None = refl
after_more k (Some p) = ap Some (omega arith)

after_one : (k : ℕ) (b : Bool) (o : Option ℕ) → b ≡ false → after k (cond b (Some 0) (option_map suc o)) ≡ after (k + 1) o
after_one k true o e = absurd (cc)
after_one k false o e = after_more k o

after_found : (k : ℕ) (b : Bool) (o : Option ℕ) → b ≡ true → after k (cond b (Some 0) (option_map suc o)) ≡ Some k
after_found k true o e = ap Some (omega arith)
after_found k false o e = absurd (cc)

-- the list from a place on
from_place : {A : Type 0} (xs : List A) (k : ℕ) (x : A) → k < length xs → x ≡ get_or xs k x → drop k xs ≡ x ∷ drop (k + 1) xs
from_place {A} xs k x lt is = drop-cons xs k x lt ∙ ap (λ (y : A). y ∷ drop (suc k) xs) (sym is) ∙ ap (λ (n : ℕ). x ∷ drop n xs) (sym (add-one k))

pub place_more : {R : Type 0} (name : List ℕ) (xs : List (NamedRemote R)) (k : ℕ) (x : NamedRemote R) → k < length xs → x ≡ get_or xs k x → bytes_eq x.name name ≡ false
    → after k (place_of name (drop k xs)) ≡ place_of name xs → after (k + 1) (place_of name (drop (k + 1) xs)) ≡ place_of name xs
place_more {R} name xs k x lt is other so_far =
    sym (after_one k (bytes_eq x.name name) (place_of name (drop (k + 1) xs)) other) ∙ ap (λ (ys : List (NamedRemote R)). after k (place_of name ys)) (sym (from_place xs k x lt is)) ∙ so_far

pub place_found : {R : Type 0} (name : List ℕ) (xs : List (NamedRemote R)) (k : ℕ) (x : NamedRemote R) → k < length xs → x ≡ get_or xs k x → bytes_eq x.name name ≡ true
    → after k (place_of name (drop k xs)) ≡ place_of name xs → Some k ≡ place_of name xs
place_found {R} name xs k x lt is same so_far =
    sym (after_found k (bytes_eq x.name name) (place_of name (drop (k + 1) xs)) same) ∙ ap (λ (ys : List (NamedRemote R)). after k (place_of name ys)) (sym (from_place xs k x lt is)) ∙ so_far

pub place_none : {R : Type 0} (name : List ℕ) (xs : List (NamedRemote R)) (k : ℕ) → length xs ≤ k → after k (place_of name (drop k xs)) ≡ place_of name xs → None ≡ place_of name xs
place_none {R} name xs k le so_far =
    ap (λ (ys : List (NamedRemote R)). after k (place_of name ys)) (sym (drop_all k xs le)) ∙ so_far

pub place_within : {R : Type 0} (name : List ℕ) (xs : List (NamedRemote R)) (p : ℕ) → place_of name xs ≡ Some p → p < length xs
place_within name [] p e = absurd (cc)
place_within name (r ∷ rs) p e = step (bytes_eq r.name name) (place_of name rs) e (place_within name rs)
  where
    step : (b : Bool) (o : Option ℕ) → cond b (Some 0) (option_map suc o) ≡ Some p → ((q : ℕ) → o ≡ Some q → q < length rs) → p < suc (length rs)
    step true o e ih = grind arith
    step false None e ih = absurd (cc)
    step false (Some q) e ih = let h = ih q refl in grind (arith, h)

pub first_at : {R : Type 0} (name : List ℕ) (xs : List (NamedRemote R)) (p : ℕ) (x : NamedRemote R) → place_of name xs ≡ Some p → x ≡ get_or xs p x → first_named name xs ≡ Some x.config
first_at name [] p x e is = absurd (cc)
first_at name (r ∷ rs) p x e is = step (bytes_eq r.name name) (place_of name rs) p e is (λ q. first_at name rs q x)
  where
    step : (b : Bool) (o : Option ℕ) (p : ℕ) → cond b (Some 0) (option_map suc o) ≡ Some p → x ≡ get_or (r ∷ rs) p x → ((q : ℕ) → o ≡ Some q → x ≡ get_or rs q x → first_named name rs ≡ Some x.config) → cond b (Some r.config) (first_named name rs) ≡ Some x.config
    step true o zero e is ih = ap (λ y. Some y.config) (sym is)
    step true o (suc p) e is ih = absurd (cc)
    step false None p e is ih = absurd (cc)
    step false (Some q) zero e is ih = absurd (cc)
    step false (Some q) (suc p) e is ih = ih p (cc) is

pub left_at : {R : Type 0} (name : List ℕ) (xs : List (NamedRemote R)) (p : ℕ) → place_of name xs ≡ Some p → without_first name xs ≡ remove xs p
left_at name [] p e = absurd (cc)
left_at name (r ∷ rs) p e = step (bytes_eq r.name name) (place_of name rs) p e (left_at name rs)
  where
    step : (b : Bool) (o : Option ℕ) (p : ℕ) → cond b (Some 0) (option_map suc o) ≡ Some p → ((q : ℕ) → o ≡ Some q → without_first name rs ≡ remove rs q) → cond b rs (r ∷ without_first name rs) ≡ remove (r ∷ rs) p
    step true o zero e ih = refl
    step true o (suc p) e ih = absurd (cc)
    step false None p e ih = absurd (cc)
    step false (Some q) zero e ih = absurd (cc)
    step false (Some q) (suc p) e ih = ap (λ ys. r ∷ ys) (ih p (cc))

pub none_named : {R : Type 0} (name : List ℕ) (xs : List (NamedRemote R)) → place_of name xs ≡ None → first_named name xs ≡ None
none_named name [] e = refl
none_named name (r ∷ rs) e = step (bytes_eq r.name name) (place_of name rs) e (none_named name rs)
  where
    step : (b : Bool) (o : Option ℕ) → cond b (Some 0) (option_map suc o) ≡ None → (o ≡ None → first_named name rs ≡ None) → cond b (Some r.config) (first_named name rs) ≡ None
    step true o e ih = absurd (cc)
    step false None e ih = ih refl
    step false (Some q) e ih = absurd (cc)

pub none_left : {R : Type 0} (name : List ℕ) (xs : List (NamedRemote R)) → place_of name xs ≡ None → without_first name xs ≡ xs
none_left name [] e = refl
none_left name (r ∷ rs) e = step (bytes_eq r.name name) (place_of name rs) e (none_left name rs)
  where
    step : (b : Bool) (o : Option ℕ) → cond b (Some 0) (option_map suc o) ≡ None → (o ≡ None → without_first name rs ≡ rs) → cond b rs (r ∷ without_first name rs) ≡ r ∷ rs
    step true o e ih = absurd (cc)
    step false None e ih = ap (λ ys. r ∷ ys) (ih refl)
    step false (Some q) e ih = absurd (cc)
