-- Walks over positions, and what it makes of them to skip, rename or add one.
use Rattle.std.proofs.Common.{◌≡◌, ℕ, suc, ◌+◌, ◌<◌, if◌then◌else◌, List, [], ◌∷◌, ◌++◌, length, reverse, refl, sym, ap, ◌∙◌, subst, inl, inr, ◌⊎◌, arith, append_assoc, append-nil}
use Rattle.std.proofs.lemmas.Bool.{eq-eqb}
use Rattle.std.proofs.lemmas.Bool.Decides.{eqb_tells}
use Rattle.std.proofs.lemmas.List.{reverse-append, same_from_push}
use Rattle.sc_lru.specs.Linked.{chase, Walk, Avoids, AllApart, AllBelow, In, end_redirected}

-- ---- lists of positions
pub reverse-cut : (xs : List ℕ) (p : ℕ) (ys : List ℕ) → reverse (xs ++ p ∷ ys) ≡ reverse ys ++ p ∷ reverse xs
reverse-cut xs p ys = reverse-append xs (p ∷ ys) ∙ ap (λ l. l ++ reverse xs) (reverse-append (p ∷ []) ys) ∙ append_assoc (reverse ys) (p ∷ []) (reverse xs)

pub reverse-cons : (p : ℕ) (ys : List ℕ) → reverse (p ∷ ys) ≡ reverse ys ++ p ∷ []
reverse-cons p ys = reverse-append (p ∷ []) ys

pub reverse-twice : (xs : List ℕ) → reverse (reverse xs) ≡ xs
reverse-twice [] = refl
reverse-twice (x ∷ xs) = ap reverse (reverse-cons x xs) ∙ reverse-append (reverse xs) (x ∷ []) ∙ ap (λ l. x ∷ l) (reverse-twice xs)

-- a list is empty, or has a last item
pub ends : (xs : List ℕ) → (xs ≡ []) ⊎ ((zs : List ℕ) × (b : ℕ) × (xs ≡ zs ++ b ∷ []))
ends [] = inl refl
ends (x ∷ xs) = elim (ends xs) [
  | inl e ↦ inr ([], x, ap (λ l. x ∷ l) e)
  | inr r ↦ inr (x ∷ r.0, r.1, ap (λ l. x ∷ l) r.2)
]

pub avoids-left : (i : ℕ) (xs ys : List ℕ) → Avoids i (xs ++ ys) → Avoids i xs
avoids-left i [] ys h = tt
avoids-left i (x ∷ xs) ys h = (h.0, avoids-left i xs ys h.1)

pub avoids-right : (i : ℕ) (xs ys : List ℕ) → Avoids i (xs ++ ys) → Avoids i ys
avoids-right i [] ys h = h
avoids-right i (x ∷ xs) ys h = avoids-right i xs ys h.1

pub avoids-append : (i : ℕ) (xs ys : List ℕ) → Avoids i xs → Avoids i ys → Avoids i (xs ++ ys)
avoids-append i [] ys h k = k
avoids-append i (x ∷ xs) ys h k = (h.0, avoids-append i xs ys h.1 k)

pub avoids-reverse : (i : ℕ) (xs : List ℕ) → Avoids i xs → Avoids i (reverse xs)
avoids-reverse i [] h = tt
avoids-reverse i (x ∷ xs) h = subst (Avoids i) (sym (reverse-cons x xs)) (avoids-append i (reverse xs) (x ∷ []) (avoids-reverse i xs h.1) (h.0, tt))

below-append : (n : ℕ) (xs ys : List ℕ) → AllBelow n xs → AllBelow n ys → AllBelow n (xs ++ ys)
below-append n [] ys h k = k
below-append n (x ∷ xs) ys h k = (h.0, below-append n xs ys h.1 k)

pub below-left : (n : ℕ) (xs ys : List ℕ) → AllBelow n (xs ++ ys) → AllBelow n xs
below-left n [] ys h = tt
below-left n (x ∷ xs) ys h = (h.0, below-left n xs ys h.1)

pub below-right : (n : ℕ) (xs ys : List ℕ) → AllBelow n (xs ++ ys) → AllBelow n ys
below-right n [] ys h = h
below-right n (x ∷ xs) ys h = below-right n xs ys h.1

pub below-at : (n : ℕ) (xs : List ℕ) (p : ℕ) (ys : List ℕ) → AllBelow n (xs ++ p ∷ ys) → p < n
below-at n [] p ys h = h.0
below-at n (x ∷ xs) p ys h = below-at n xs p ys h.1

pub below-reverse : (n : ℕ) (xs : List ℕ) → AllBelow n xs → AllBelow n (reverse xs)
below-reverse n [] h = tt
below-reverse n (x ∷ xs) h = subst (AllBelow n) (sym (reverse-cons x xs)) (below-append n (reverse xs) (x ∷ []) (below-reverse n xs h.1) (h.0, tt))

pub below-join : (n : ℕ) (xs ys : List ℕ) → AllBelow n xs → AllBelow n ys → AllBelow n (xs ++ ys)
below-join = below-append

-- the parts of a list without repeats, cut at p
pub apart-before : (xs : List ℕ) (p : ℕ) (ys : List ℕ) → AllApart (xs ++ p ∷ ys) → Avoids p xs
apart-before [] p ys h = tt
apart-before (x ∷ xs) p ys h = (λ e. (avoids-right x xs (p ∷ ys) h.0).0 (sym e), apart-before xs p ys h.1)

pub apart-behind : (xs : List ℕ) (p : ℕ) (ys : List ℕ) → AllApart (xs ++ p ∷ ys) → Avoids p ys
apart-behind [] p ys h = h.0
apart-behind (x ∷ xs) p ys h = apart-behind xs p ys h.1

avoids-skip : (i : ℕ) (xs : List ℕ) (p : ℕ) (ys : List ℕ) → Avoids i (xs ++ p ∷ ys) → Avoids i (xs ++ ys)
avoids-skip i [] p ys h = h.1
avoids-skip i (x ∷ xs) p ys h = (h.0, avoids-skip i xs p ys h.1)

pub apart-skip : (xs : List ℕ) (p : ℕ) (ys : List ℕ) → AllApart (xs ++ p ∷ ys) → AllApart (xs ++ ys)
apart-skip [] p ys h = h.1
apart-skip (x ∷ xs) p ys h = (avoids-skip x xs p ys h.0, apart-skip xs p ys h.1)

pub apart-put : (xs : List ℕ) (p : ℕ) (ys : List ℕ) → AllApart (xs ++ ys) → Avoids p (xs ++ ys) → AllApart (xs ++ p ∷ ys)
apart-put [] p ys h k = (k, h)
apart-put (x ∷ xs) p ys h k = (avoids-append x xs (p ∷ ys) (avoids-left x xs ys h.0) (λ e. k.0 (sym e), avoids-right x xs ys h.0), apart-put xs p ys h.1 k.1)

pub below-skip : (n : ℕ) (xs : List ℕ) (p : ℕ) (ys : List ℕ) → AllBelow n (xs ++ p ∷ ys) → AllBelow n (xs ++ ys)
below-skip n [] p ys h = h.1
below-skip n (x ∷ xs) p ys h = (h.0, below-skip n xs p ys h.1)

-- those below n that avoid the last are below n - 1
pub below-less : (n m : ℕ) (xs : List ℕ) → m + 1 ≡ n → AllBelow n xs → Avoids m xs → AllBelow m xs
below-less n m [] e h k = tt
below-less n m (x ∷ xs) e h k = (let l : x < n = h.0 in let d : x ≡ m → ⊥ = k.0 in omega arith, below-less n m xs e h.1 k.1)

pub avoids_above : (n : ℕ) (xs : List ℕ) → AllBelow n xs → Avoids n xs
avoids_above n [] h = tt
avoids_above n (x ∷ xs) h = (λ e. let l : x < n = h.0 in absurd (omega arith), avoids_above n xs h.1)

pub in-at : (xs : List ℕ) (p : ℕ) (ys : List ℕ) → In p (xs ++ p ∷ ys)
in-at [] p ys = inl refl
in-at (x ∷ xs) p ys = inr (in-at xs p ys)

pub in-skip : (i : ℕ) (xs : List ℕ) (p : ℕ) (ys : List ℕ) → (p ≡ i → ⊥) → In i (xs ++ p ∷ ys) → In i (xs ++ ys)
in-skip i [] p ys d h = elim h [ inl e ↦ absurd (d e) | inr r ↦ r ]
in-skip i (x ∷ xs) p ys d h = elim h [ inl e ↦ inl e | inr r ↦ inr (in-skip i xs p ys d r) ]

pub in-put : (i : ℕ) (xs : List ℕ) (p : ℕ) (ys : List ℕ) → In i (xs ++ ys) → In i (xs ++ p ∷ ys)
in-put i [] p ys h = inr h
in-put i (x ∷ xs) p ys h = elim h [ inl e ↦ inl e | inr r ↦ inr (in-put i xs p ys r) ]

pub in_cut : (i : ℕ) (xs : List ℕ) → In i xs → (us : List ℕ) × (vs : List ℕ) × (xs ≡ us ++ i ∷ vs)
in_cut i [] h = absurd h
in_cut i (x ∷ xs) h = elim h [
  | inl e ↦ ([], xs, ap (λ y. y ∷ xs) e)
  | inr r ↦ let on = in_cut i xs r in (x ∷ on.0, on.1, ap (λ l. x ∷ l) on.2)
]

-- ---- walks
abbrev pub Agrees : (ℕ → ℕ) → (ℕ → ℕ) → List ℕ → Type 0
Agrees f g [] = Unit {0}
Agrees f g (x ∷ xs) = (g x ≡ f x) × Agrees f g xs

walk_head : (f : ℕ → ℕ) (a x : ℕ) (xs : List ℕ) → Walk f a (x ∷ xs) → a ≡ x
walk_head f a x xs w = w.0

pub walk_tail : (f : ℕ → ℕ) (a x : ℕ) (xs : List ℕ) → Walk f a (x ∷ xs) → Walk f (f x) xs
walk_tail f a x xs w = w.1

pub walk-agrees : (f g : ℕ → ℕ) (a : ℕ) (xs : List ℕ) → Walk f a xs → Agrees f g xs → Walk g a xs
walk-agrees f g a [] w h = tt
walk-agrees f g a (x ∷ xs) w h = (walk_head f a x xs w, walk-agrees f g (g x) xs (subst (λ b. Walk f b xs) (sym h.0) (walk_tail f a x xs w)) h.1)

pub agrees_but : (f g : ℕ → ℕ) (b : ℕ) (xs : List ℕ) → ((j : ℕ) → (j ≡ b → ⊥) → g j ≡ f j) → Avoids b xs → Agrees f g xs
agrees_but f g b [] h k = tt
agrees_but f g b (x ∷ xs) h k = (h x k.0, agrees_but f g b xs h k.1)

pub agrees_all : (f g : ℕ → ℕ) (xs : List ℕ) → ((j : ℕ) → g j ≡ f j) → Agrees f g xs
agrees_all f g [] h = tt
agrees_all f g (x ∷ xs) h = (h x, agrees_all f g xs h)

pub agrees-below : (f g : ℕ → ℕ) (n : ℕ) (xs : List ℕ) → ((j : ℕ) → j < n → g j ≡ f j) → AllBelow n xs → Agrees f g xs
agrees-below f g n [] h k = tt
agrees-below f g n (x ∷ xs) h k = (h x k.0, agrees-below f g n xs h k.1)

pub agrees_both : (f g h : ℕ → ℕ) (xs : List ℕ) → Agrees f g xs → Agrees g h xs → Agrees f h xs
agrees_both f g h [] a b = tt
agrees_both f g h (x ∷ xs) a b = (b.0 ∙ a.0, agrees_both f g h xs a.1 b.1)

pub chase-walk : (f : ℕ → ℕ) (a : ℕ) (xs : List ℕ) → Walk f a xs → chase (length xs) f a ≡ xs
chase-walk f a [] w = refl
chase-walk f a (x ∷ xs) w =
    let more : length (x ∷ xs) ≡ suc (length xs) = omega arith in
    let same = walk_head f a x xs w in
    ap (λ n. chase n f a) more ∙ ap (λ y. y ∷ chase (length xs) f (f y)) same ∙ ap (λ l. x ∷ l) (chase-walk f (f x) xs (walk_tail f a x xs w))

-- the position after p, in the middle of a walk
pub walk_next : (f : ℕ → ℕ) (a : ℕ) (zs : List ℕ) (b p : ℕ) (vs : List ℕ) → Walk f a (zs ++ b ∷ p ∷ vs) → f b ≡ p
walk_next f a [] b p vs w = walk_head f (f b) p vs (walk_tail f a b (p ∷ vs) w)
walk_next f a (z ∷ zs) b p vs w = walk_next f (f z) zs b p vs (walk_tail f a z (zs ++ b ∷ p ∷ vs) w)

pub walk_start : (f : ℕ → ℕ) (a : ℕ) (p : ℕ) (xs ys : List ℕ) → Walk f a (xs ++ p ∷ ys) → Avoids p xs → (a ≡ p → ⊥) ⊎ (xs ≡ [])
walk_start f a p [] ys w h = inr refl
walk_start f a p (x ∷ xs) ys w h = inl (λ e. h.0 (sym (walk_head f a x (xs ++ p ∷ ys) w) ∙ e))

walk_skip : (f g : ℕ → ℕ) (a : ℕ) (zs : List ℕ) (b p : ℕ) (vs : List ℕ) → Walk f a (zs ++ b ∷ p ∷ vs) → g b ≡ f p → Agrees f g zs → Agrees f g vs → Walk g a (zs ++ b ∷ vs)
walk_skip f g a [] b p vs w e hz hv =
    let t = walk_tail f (f b) p vs (walk_tail f a b (p ∷ vs) w) in
    (walk_head f a b (p ∷ vs) w, walk-agrees f g (g b) vs (subst (λ c. Walk f c vs) (sym e) t) hv)
walk_skip f g a (z ∷ zs) b p vs w e hz hv =
    let l = zs ++ b ∷ p ∷ vs in
    (walk_head f a z l w, walk_skip f g (g z) zs b p vs (subst (λ c. Walk f c l) (sym hz.0) (walk_tail f a z l w)) e hz.1 hv)

walk_rename : (f g : ℕ → ℕ) (a : ℕ) (zs : List ℕ) (b m p : ℕ) (vs : List ℕ) → Walk f a (zs ++ b ∷ m ∷ vs) → g b ≡ p → g p ≡ f m → Agrees f g zs → Agrees f g vs → Walk g a (zs ++ b ∷ p ∷ vs)
walk_rename f g a [] b m p vs w e d hz hv =
    let t = walk_tail f (f b) m vs (walk_tail f a b (m ∷ vs) w) in
    (walk_head f a b (m ∷ vs) w, (e, walk-agrees f g (g p) vs (subst (λ c. Walk f c vs) (sym d) t) hv))
walk_rename f g a (z ∷ zs) b m p vs w e d hz hv =
    let l = zs ++ b ∷ m ∷ vs in
    (walk_head f a z l w, walk_rename f g (g z) zs b m p vs (subst (λ c. Walk f c l) (sym hz.0) (walk_tail f a z l w)) e d hz.1 hv)

pub walk_push : (f g : ℕ → ℕ) (a : ℕ) (zs : List ℕ) (b p : ℕ) → Walk f a (zs ++ b ∷ []) → g b ≡ p → Agrees f g zs → Walk g a (zs ++ b ∷ p ∷ [])
walk_push f g a [] b p w e hz = (walk_head f a b [] w, (e, tt))
walk_push f g a (z ∷ zs) b p w e hz =
    let l = zs ++ b ∷ [] in
    (walk_head f a z l w, walk_push f g (g z) zs b p (subst (λ c. Walk f c l) (sym hz.0) (walk_tail f a z l w)) e hz.1)

-- q is the last of xs, if there is one
abbrev pub EndsAt : ℕ → List ℕ → Type 0
EndsAt q xs = (zs : List ℕ) (b : ℕ) → xs ≡ zs ++ b ∷ [] → q ≡ b

-- what follows p on a walk ends the rest, seen from behind
pub next_ends : (f : ℕ → ℕ) (a : ℕ) (us : List ℕ) (p : ℕ) (ys : List ℕ) → Walk f a (us ++ p ∷ ys) → EndsAt (f p) (reverse ys)
next_ends f a us p [] w zs b e = absurd (elim (ends zs) [ inl r ↦ none zs b e | inr r ↦ none zs b e ])
  where
    none : (zs : List ℕ) (b : ℕ) → [] ≡ zs ++ b ∷ [] → ⊥
    none [] b e = cc
    none (z ∷ zs) b e = cc
next_ends f a us p (y ∷ ys) w zs b e = walk_next f a us p y ys w ∙ (same_from_push (reverse ys) zs y b (sym (reverse-cons y ys) ∙ e)).1

-- g is f, but for what stands at q, if p is not the start
abbrev pub Redirects : (ℕ → ℕ) → (ℕ → ℕ) → ℕ → ℕ → ℕ → ℕ → Type 0
Redirects f g a p q to = (p ≡ a → (j : ℕ) → g j ≡ f j) × ((p ≡ a → ⊥) → (g q ≡ to) × ((j : ℕ) → (j ≡ q → ⊥) → g j ≡ f j))

redirected_same : (a p to : ℕ) → p ≡ a → end_redirected a p to ≡ to
redirected_same a p to e = ap (λ b. if b then to else a) (eq-eqb p a e)

redirected_other : (a p to : ℕ) → (p ≡ a → ⊥) → end_redirected a p to ≡ a
redirected_other a p to d = elim (eqb_tells p a) [
  | inl t ↦ absurd (d t.1)
  | inr f ↦ ap (λ b. if b then to else a) f.0
]

-- who points at p may be written
pub redirect_bound : (f : ℕ → ℕ) (a p q n : ℕ) (xs ys : List ℕ) → Walk f a (xs ++ p ∷ ys) → EndsAt q xs → AllBelow n xs → (p ≡ a → ⊥) → q < n
redirect_bound f a p q n xs ys w at below d = elim (ends xs) [
  | inl e ↦ absurd (d (sym (walk_head f a p ys (subst (λ l. Walk f a (l ++ p ∷ ys)) e w))))
  | inr r ↦ let zs = r.0 in let b = r.1 in let same : q ≡ b = at zs b r.2 in
      let last : b < n = below-at n zs b [] (subst (AllBelow n) r.2 below) in subst (λ i. i < n) (sym same) last
]

pub skip_walk : (f g : ℕ → ℕ) (a p q : ℕ) (xs ys : List ℕ) → Walk f a (xs ++ p ∷ ys) → AllApart (xs ++ p ∷ ys) → EndsAt q xs → Redirects f g a p q (f p) → Walk g (end_redirected a p (f p)) (xs ++ ys)
skip_walk f g a p q xs ys w apart at r = elim (ends xs) [
  | inl e ↦
      let w' = subst (λ l. Walk f a (l ++ p ∷ ys)) e w in let start = walk_head f a p ys w' in
      let walk : Walk g (f p) ys = walk-agrees f g (f p) ys (walk_tail f a p ys w') (agrees_all f g ys (r.0 (sym start))) in
      subst (λ l. Walk g (end_redirected a p (f p)) (l ++ ys)) (sym e) (subst (λ c. Walk g c ys) (sym (redirected_same a p (f p) (sym start))) walk)
  | inr s ↦
      let zs = s.0 in let b = s.1 in let same : q ≡ b = at zs b s.2 in
      let w1 = subst (λ l. Walk f a (l ++ p ∷ ys)) s.2 w in let w2 : Walk f a (zs ++ b ∷ p ∷ ys) = subst (Walk f a) (append_assoc zs (b ∷ []) (p ∷ ys)) w1 in
      let a1 = subst (λ l. AllApart (l ++ p ∷ ys)) s.2 apart in let a2 : AllApart (zs ++ b ∷ p ∷ ys) = subst AllApart (append_assoc zs (b ∷ []) (p ∷ ys)) a1 in
      let d : p ≡ a → ⊥ = other f a p xs ys w (apart-before xs p ys apart) zs b s.2 in
      let t = r.1 d in let at_b : g b ≡ f p = subst (λ i. g i ≡ f p) same t.0 in
      let but : (j : ℕ) → (j ≡ b → ⊥) → g j ≡ f j = subst (λ i. (j : ℕ) → (j ≡ i → ⊥) → g j ≡ f j) same t.1 in
      let hz = agrees_but f g b zs but (apart-before zs b (p ∷ ys) a2) in
      let hv = agrees_but f g b ys but (apart-behind zs b (p ∷ ys) a2).1 in
      let walk : Walk g a (zs ++ b ∷ ys) = walk_skip f g a zs b p ys w2 at_b hz hv in
      let walk' : Walk g a (xs ++ ys) = subst (λ l. Walk g a (l ++ ys)) (sym s.2) (subst (Walk g a) (sym (append_assoc zs (b ∷ []) ys)) walk) in
      subst (λ c. Walk g c (xs ++ ys)) (sym (redirected_other a p (f p) d)) walk'
]
  where
    other : (f : ℕ → ℕ) (a p : ℕ) (xs ys : List ℕ) → Walk f a (xs ++ p ∷ ys) → Avoids p xs → (zs : List ℕ) (b : ℕ) → xs ≡ zs ++ b ∷ [] → p ≡ a → ⊥
    other f a p [] ys w h [] b e = cc
    other f a p [] ys w h (z ∷ zs) b e = cc
    other f a p (x ∷ xs) ys w h zs b e = λ s. h.0 (sym (walk_head f a x (xs ++ p ∷ ys) w) ∙ sym s)

-- the position m is now p: h has at p what f had at m
pub rename_walk : (f h g : ℕ → ℕ) (a m p q n : ℕ) (xs ys : List ℕ) → Walk f a (xs ++ m ∷ ys) → AllApart (xs ++ m ∷ ys) → EndsAt q xs
    → Avoids p (xs ++ ys) → AllBelow n (xs ++ ys) → h p ≡ f m → ((j : ℕ) → j < n → (j ≡ p → ⊥) → h j ≡ f j) → Redirects h g a m q p → Walk g (end_redirected a m p) (xs ++ p ∷ ys)
rename_walk f h g a m p q n xs ys w apart at away below moved stays r = elim (ends xs) [
  | inl e ↦
      let w' = subst (λ l. Walk f a (l ++ m ∷ ys)) e w in let start = walk_head f a m ys w' in let all = r.0 (sym start) in
      let hv : Agrees f g ys = agrees_both f h g ys (steady ys (avoids-right p xs ys away) (below-right n xs ys below)) (agrees_all h g ys all) in
      let at_p : g p ≡ f m = all p ∙ moved in
      let walk : Walk g p (p ∷ ys) = (refl, walk-agrees f g (g p) ys (subst (λ c. Walk f c ys) (sym at_p) (walk_tail f a m ys w')) hv) in
      subst (λ l. Walk g (end_redirected a m p) (l ++ p ∷ ys)) (sym e) (subst (λ c. Walk g c (p ∷ ys)) (sym (redirected_same a m p (sym start))) walk)
  | inr s ↦
      let zs = s.0 in let b = s.1 in let same : q ≡ b = at zs b s.2 in
      let w2 : Walk f a (zs ++ b ∷ m ∷ ys) = subst (Walk f a) (append_assoc zs (b ∷ []) (m ∷ ys)) (subst (λ l. Walk f a (l ++ m ∷ ys)) s.2 w) in
      let a2 : AllApart (zs ++ b ∷ m ∷ ys) = subst AllApart (append_assoc zs (b ∷ []) (m ∷ ys)) (subst (λ l. AllApart (l ++ m ∷ ys)) s.2 apart) in
      let d : m ≡ a → ⊥ = other f a m xs ys w (apart-before xs m ys apart) zs b s.2 in
      let t = r.1 d in let at_b : g b ≡ p = subst (λ i. g i ≡ p) same t.0 in
      let but : (j : ℕ) → (j ≡ b → ⊥) → g j ≡ h j = subst (λ i. (j : ℕ) → (j ≡ i → ⊥) → g j ≡ h j) same t.1 in
      let away_zb = subst (Avoids p) s.2 (avoids-left p xs ys away) in let below_zb = subst (AllBelow n) s.2 (below-left n xs ys below) in
      let b_p : b ≡ p → ⊥ = (avoids-right p zs (b ∷ []) away_zb).0 in
      let at_p : g p ≡ f m = but p (λ e. b_p (sym e)) ∙ moved in
      let hz : Agrees f g zs = agrees_both f h g zs (steady zs (avoids-left p zs (b ∷ []) away_zb) (below-left n zs (b ∷ []) below_zb)) (agrees_but h g b zs but (apart-before zs b (m ∷ ys) a2)) in
      let hv : Agrees f g ys = agrees_both f h g ys (steady ys (avoids-right p xs ys away) (below-right n xs ys below)) (agrees_but h g b ys but (apart-behind zs b (m ∷ ys) a2).1) in
      let walk : Walk g a (zs ++ b ∷ p ∷ ys) = walk_rename f g a zs b m p ys w2 at_b at_p hz hv in
      let walk' : Walk g a (xs ++ p ∷ ys) = subst (λ l. Walk g a (l ++ p ∷ ys)) (sym s.2) (subst (Walk g a) (sym (append_assoc zs (b ∷ []) (p ∷ ys))) walk) in
      subst (λ c. Walk g c (xs ++ p ∷ ys)) (sym (redirected_other a m p d)) walk'
]
  where
    steady : (l : List ℕ) → Avoids p l → AllBelow n l → Agrees f h l
    steady [] a b = tt
    steady (x ∷ l) a b = (stays x b.0 a.0, steady l a.1 b.1)

    other : (f : ℕ → ℕ) (a p : ℕ) (xs ys : List ℕ) → Walk f a (xs ++ p ∷ ys) → Avoids p xs → (zs : List ℕ) (b : ℕ) → xs ≡ zs ++ b ∷ [] → p ≡ a → ⊥
    other f a p [] ys w h [] b e = cc
    other f a p [] ys w h (z ∷ zs) b e = cc
    other f a p (x ∷ xs) ys w h zs b e = λ s. h.0 (sym (walk_head f a x (xs ++ p ∷ ys) w) ∙ sym s)

pub apart-reverse : (xs : List ℕ) → AllApart xs → AllApart (reverse xs)
apart-reverse [] h = tt
apart-reverse (x ∷ xs) h =
    let nil : reverse xs ++ [] ≡ reverse xs = append-nil (reverse xs) in
    subst AllApart (sym (reverse-cons x xs)) (apart-put (reverse xs) x [] (subst AllApart (sym nil) (apart-reverse xs h.1)) (subst (Avoids x) (sym nil) (avoids-reverse x xs h.0)))
