-- What an insert and a removal make of the sum of the declared sizes.
use Rattle.std.proofs.Common.{◌≡◌, ◌≢◌, ℕ, zero, suc, ◌+◌, ◌-◌, ◌<◌, ◌≤◌, List, [], ◌∷◌, length, Option, Some, None, slice_index_or, slice_set, refl, sym, ap, ◌∙◌, subst, arith}
use Rattle.std.proofs.lemmas.List.Sums.{sum_by-cons}
use Rattle.std.specs.Option.{option_map_or}
use Rattle.slab.specs.Slab.{Slab, Updates, get}
use Rattle.sc_disk.specs.declared.pending.Pending.{Pending}
use Rattle.sc_disk.specs.Store.{declared}

abbrev weigh : Option Pending → ℕ
weigh slot = option_map_or (λ e. e.size) slot 0

declared-cons : (slot : Option Pending) (slots : List (Option Pending)) → declared (slot ∷ slots) ≡ weigh slot + declared slots
declared-cons slot slots = sum_by-cons weigh slot slots

abbrev at : List (Option Pending) → ℕ → Option Pending
at slots i = slice_index_or slots i None

later : (i j : ℕ) → i ≢ j → suc i ≢ suc j
later i j h e = h (omega arith)

empty_slots : (slots : List (Option Pending)) → ((i : ℕ) → at slots i ≡ None) → declared slots ≡ 0
empty_slots [] h = refl
empty_slots (s ∷ slots) h = declared-cons s slots ∙ let first : weigh s ≡ 0 = ap weigh (h 0) in let rest = empty_slots slots (λ i. h (suc i)) in omega arith

same_slots : (xs ys : List (Option Pending)) → ((i : ℕ) → at ys i ≡ at xs i) → declared ys ≡ declared xs
same_slots [] ys h = empty_slots ys h
same_slots (x ∷ xs) [] h = sym (empty_slots (x ∷ xs) (λ i. sym (h i)))
same_slots (x ∷ xs) (y ∷ ys) h = let first : weigh y ≡ weigh x = ap weigh (h 0) in let rest = same_slots xs ys (λ i. h (suc i)) in
    let p = declared-cons x xs in let q = declared-cons y ys in omega arith

-- where the slots differ at n alone
pub changed_slots : (xs ys : List (Option Pending)) (n : ℕ) → ((i : ℕ) → i ≢ n → at ys i ≡ at xs i) → declared ys + weigh (at xs n) ≡ declared xs + weigh (at ys n)
changed_slots [] [] n h = refl
changed_slots [] (y ∷ ys) zero h = let rest : declared ys ≡ 0 = empty_slots ys (λ i. h (suc i) (λ e. absurd (omega arith))) in let q = declared-cons y ys in omega arith
changed_slots [] (y ∷ ys) (suc n) h = let first : weigh y ≡ 0 = ap weigh (h 0 (λ e. absurd (omega arith))) in
    let rest = changed_slots [] ys n (λ i o. h (suc i) (later i n o)) in let q = declared-cons y ys in omega arith
changed_slots (x ∷ xs) [] zero h = let rest : declared xs ≡ 0 = empty_slots xs (λ i. sym (h (suc i) (λ e. absurd (omega arith)))) in let q = declared-cons x xs in omega arith
changed_slots (x ∷ xs) [] (suc n) h = let first : 0 ≡ weigh x = ap weigh (h 0 (λ e. absurd (omega arith))) in
    let rest = changed_slots xs [] n (λ i o. h (suc i) (later i n o)) in let q = declared-cons x xs in omega arith
changed_slots (x ∷ xs) (y ∷ ys) zero h = let rest = same_slots xs ys (λ i. h (suc i) (λ e. absurd (omega arith))) in
    let p = declared-cons x xs in let q = declared-cons y ys in omega arith
changed_slots (x ∷ xs) (y ∷ ys) (suc n) h = let first : weigh y ≡ weigh x = ap weigh (h 0 (λ e. absurd (omega arith))) in
    let rest = changed_slots xs ys n (λ i o. h (suc i) (later i n o)) in
    let p = declared-cons x xs in let q = declared-cons y ys in omega arith

pub declared-opened : (old new : Slab Pending) (n : ℕ) (e : Pending) → get old n ≡ None → Updates old new n (Some e) → declared new.slots ≡ declared old.slots + e.size
declared-opened old new n e none u = let all = changed_slots old.slots new.slots n u.others in
    let was : weigh (at old.slots n) ≡ 0 = ap weigh none in let is : weigh (at new.slots n) ≡ e.size = ap weigh u.changed in omega arith

pub declared-closed : (old new : Slab Pending) (n : ℕ) (e : Pending) → get old n ≡ Some e → Updates old new n None → declared new.slots + e.size ≡ declared old.slots
declared-closed old new n e some u = let all = changed_slots old.slots new.slots n u.others in
    let was : weigh (at old.slots n) ≡ e.size = ap weigh some in let is : weigh (at new.slots n) ≡ 0 = ap weigh u.changed in omega arith
