-- Relations of one key after another.
use Rattle.std.proofs.Common.{◌≡◌, inl, ℕ, suc, ◌+◌, ◌<◌, ◌≤◌, List, [], ◌∷◌, ◌++◌, length, take, drop, get_or, refl, sym, ap, ◌∙◌, subst, drop-cons, take-append-drop, take_all}
use Rattle.std.proofs.lemmas.List.{take_more}
use Rattle.sc_store_alone.proofs.Keeping.{keeps_same}
use Rattle.sc_store_alone.specs.Storages.{State}
use Rattle.sc_store_warm.specs.Warming.{Each, Stops, StopsAt, StopsKey, WarmsKey, WarmsWith}
use Rattle.sc_store_warm.specs.declared.warmed.Warmed.{Warmed}

-- one more key
pub pushed : (keys : List (List ℕ)) (rest : List Warmed) (key : List ℕ) (warmed : Warmed) (f g h t u v : State) → Each WarmsKey keys rest f g t u → WarmsKey key warmed g h u v → Each WarmsKey (keys ++ key ∷ []) (rest ++ warmed ∷ []) f h t v
pushed [] [] key warmed f g h t u v (e, d) step = (h, v, subst (λ (s : State). WarmsKey key warmed s h t v) e (subst (λ (s : State). WarmsKey key warmed g h s v) d step), (refl, refl))
pushed [] (w ∷ rest) key warmed f g h t u v none step = absurd none
pushed (k ∷ keys) [] key warmed f g h t u v none step = absurd none
pushed (k ∷ keys) (w ∷ rest) key warmed f g h t u v (source, target, first, more) step = (source, target, first, pushed keys rest key warmed source g h target u v more step)

-- what holds of each key holds along all of them
pub each_with : (fact : List ℕ → Warmed → State → State → State → State → Type 0) → ((key : List ℕ) (warmed : Warmed) (f g t u : State) → WarmsKey key warmed f g t u → fact key warmed f g t u)
    → (keys : List (List ℕ)) (rest : List Warmed) (f g t u : State) → Each WarmsKey keys rest f g t u → Each (WarmsWith fact) keys rest f g t u
each_with fact h [] [] f g t u none = none
each_with fact h [] (w ∷ rest) f g t u none = absurd none
each_with fact h (k ∷ keys) [] f g t u none = absurd none
each_with fact h (k ∷ keys) (w ∷ rest) f g t u (source, target, first, more) = (source, target, (first, h k w f source t target first), each_with fact h keys rest source g target u more)

-- ---- over the keys of a list

-- the key at a place, behind those before it
pub pushed_at : (keys : List (List ℕ)) (i : ℕ) (key : List ℕ) (told more : List Warmed) (warmed : Warmed) (f g h t u v : State) → i < length keys → key ≡ get_or keys i key → more ≡ told ++ warmed ∷ [] → Each WarmsKey (take i keys) told f g t u
    → WarmsKey key warmed g h u v → Each WarmsKey (take (i + 1) keys) more f h t v
pushed_at keys i key told more warmed f g h t u v less is pushes each step =
    let one : take (i + 1) keys ≡ take i keys ++ key ∷ [] = take_more keys i key less ∙ ap (λ (k : List ℕ). take i keys ++ k ∷ []) (sym is) in
    subst (λ (ks : List (List ℕ)). Each WarmsKey ks more f h t v) (sym one) (subst (λ (ws : List Warmed). Each WarmsKey (take i keys ++ key ∷ []) ws f h t v) (sym pushes) (pushed (take i keys) told key warmed f g h t u v each step))

-- all of them
pub all_with : (fact : List ℕ → Warmed → State → State → State → State → Type 0) → ((key : List ℕ) (warmed : Warmed) (f g t u : State) → WarmsKey key warmed f g t u → fact key warmed f g t u)
    → (keys : List (List ℕ)) (i : ℕ) (told : List Warmed) (f g t u : State) → length keys ≤ i → Each WarmsKey (take i keys) told f g t u → Each (WarmsWith fact) keys told f g t u
all_with fact h keys i told f g t u more each = each_with fact h keys told f g t u (subst (λ (ks : List (List ℕ)). Each WarmsKey ks told f g t u) (take_all i keys more) each)

-- ---- where memory runs out

ends_still : (left : List (List ℕ)) (f t : State) → StopsAt left f f t t
ends_still [] f t = (refl, refl)
ends_still (key ∷ keys) f t = (keeps_same f, inl refl)

-- behind so many keys
pub stops_behind : (keys : List (List ℕ)) (i : ℕ) (told : List Warmed) (f g t u : State) → Each WarmsKey (take i keys) told f g t u → Stops keys f g t u
stops_behind keys i told f g t u each = record { done = take i keys; left = drop i keys; split = sym (take-append-drop i keys); warmed = told; source = g; target = u; each = each; ends = ends_still (drop i keys) g u }

-- at the key of a place
pub stops_at : (keys : List (List ℕ)) (i : ℕ) (key : List ℕ) (told : List Warmed) (f g h t u v : State) → i < length keys → key ≡ get_or keys i key → Each WarmsKey (take i keys) told f g t u → StopsKey key g h u v → Stops keys f h t v
stops_at keys i key told f g h t u v less is each stops =
    let there : drop i keys ≡ key ∷ drop (suc i) keys = drop-cons keys i key less ∙ ap (λ (k : List ℕ). k ∷ drop (suc i) keys) (sym is) in
    record { done = take i keys; left = drop i keys; split = sym (take-append-drop i keys); warmed = told; source = g; target = u; each = each; ends = subst (λ (ks : List (List ℕ)). StopsAt ks g h u v) (sym there) stops }
