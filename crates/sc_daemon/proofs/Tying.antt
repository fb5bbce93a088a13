-- What an event of one owner leaves of the ties of all.
use Rattle.std.proofs.Common.{◌≡◌, ◌≢◌, ◌==◌, ℕ, ◌+◌, Bool, true, false, ◌&&◌, if◌then◌else◌, List, [], ◌∷◌, length, Option, Some, None, inl, inr, ◌⊎◌, refl, ap, sym, subst, ◌∙◌, arith, eqb-true, eq-eqb}
use Rattle.sc_daemon.specs.Ties.{IsThere, Owners, Ties, TiesHand, first_open, with_owner}
use Rattle.sc_store_disk.specs.DiskStores.{DiskStore, OpenEntry, entry_at}
use Rattle.sc_daemon_hold.specs.Holding.{Hand, HandsBy, IsHand, KeepsHands, ReservesBy}
use Rattle.sc_model.specs.Trace.{Open, release, reserved_at, reserved_by, same_owner}
use Rattle.sc_model.specs.declared.event.Owner.{Owner}
use Rattle.sc_model.specs.declared.event.Owner.TheVariants.{Nobody, Request as OfRequest, Write as OfWrite}
use Rattle.sc_model.specs.declared.event.What.{What}
use Rattle.sc_model.specs.declared.event.What.TheVariants.{Asked, Began, Closed, Committed, Dist, Filled, Idle, Keyed, Outcome, Passed, Placed, Ran, Reserved, Sent, Taken, TokenTaken, TooLong, WriteEnded, Wrote}
use Rattle.sc_model.specs.declared.event.Written.TheVariants.{Done, Refused}

pub never : false ≡ true → ⊥
never e = absurd (cc)

not_none : {A : Type 0} (a : A) → Some a ≡ None → ⊥
not_none a e = absurd (cc)

same_some : {A : Type 0} (a b : A) → Some a ≡ Some b → a ≡ b
same_some a b e = cc

both_true : (a b : Bool) → (a && b) ≡ true → (a ≡ true) × (b ≡ true)
both_true true b e = (refl, e)
both_true false b e = absurd (cc)

true_both : (a b : Bool) → a ≡ true → b ≡ true → (a && b) ≡ true
true_both a b x y = rw (x, y) refl

-- owners
pub owner_same : (a b : Owner) → same_owner a b ≡ true → a ≡ b
owner_same (OfRequest c n) (OfRequest d k) e = let h = both_true (c == d) (n == k) e in let x = eqb-true c d h.0 in let y = eqb-true n k h.1 in λ i. OfRequest (x i) (y i)
owner_same (OfRequest c n) (OfWrite j) e = absurd (cc)
owner_same (OfRequest c n) Nobody e = absurd (cc)
owner_same (OfWrite i) (OfRequest d k) e = absurd (cc)
owner_same (OfWrite i) (OfWrite j) e = ap OfWrite (eqb-true i j e)
owner_same (OfWrite i) Nobody e = absurd (cc)
owner_same Nobody (OfRequest d k) e = absurd (cc)
owner_same Nobody (OfWrite j) e = absurd (cc)
owner_same Nobody Nobody e = refl

own_owner : (o : Owner) → same_owner o o ≡ true
own_owner (OfRequest c n) = true_both (c == c) (n == n) (eq-eqb c c refl) (eq-eqb n n refl)
own_owner (OfWrite i) = eq-eqb i i refl
own_owner Nobody = refl

apart_owners : (o p : Owner) → same_owner o p ≡ false → o ≡ p → ⊥
apart_owners o p e is = never (sym e ∙ ap (λ x. same_owner o x) (sym is) ∙ own_owner o)

other_owner : (a o p : Owner) → same_owner o p ≡ false → same_owner a o ≡ true → same_owner a p ≡ false
other_owner a o p e is = ap (λ x. same_owner x p) (owner_same a o is) ∙ e

not_equal : (m l : ℕ) → m ≢ l → (l == m) ≡ false
not_equal m l apart = (elim (l == m) as (λ t. (l == m) ≡ t → t ≡ false) [
  | true ↦ λ e. absurd (apart (sym (eqb-true l m e)))
  | false ↦ λ e. refl
]) refl

-- what is reserved at a level, once an owner's newest reservation is released
module _ (o : Owner) (l : ℕ) where
  pushed : (t : Bool) (r : Open) (xs ys : List Open) → reserved_at l (if t then xs else r ∷ ys) ≡ (if t then reserved_at l xs else (if r.level == l then r.size + reserved_at l ys else reserved_at l ys))
  pushed true r xs ys = refl
  pushed false r xs ys = refl

  release_here : (rs : List Open) (n : ℕ) → first_open o l rs ≡ Some n → reserved_at l (release o l rs) + n ≡ reserved_at l rs
  release_here [] n e = absurd (cc)
  release_here (r ∷ rs) n e = ap (λ k. k + n) (pushed (same_owner r.owner o && (r.level == l)) r rs (release o l rs)) ∙ step (same_owner r.owner o) (r.level == l) (λ later. release_here rs n later) e
    where
      step : (a c : Bool) → (first_open o l rs ≡ Some n → reserved_at l (release o l rs) + n ≡ reserved_at l rs) → (if a && c then Some r.size else first_open o l rs) ≡ Some n
          → (if a && c then reserved_at l rs else (if c then r.size + reserved_at l (release o l rs) else reserved_at l (release o l rs))) + n ≡ (if c then r.size + reserved_at l rs else reserved_at l rs)
      step true true rest e = let same : r.size ≡ n = same_some r.size n e in omega (arith, same)
      step true false rest e = rest e
      step false true rest e = let ih : reserved_at l (release o l rs) + n ≡ reserved_at l rs = rest e in omega (arith, ih)
      step false false rest e = rest e

  release_away : (m : ℕ) → m ≢ l → (rs : List Open) → reserved_at m (release o l rs) ≡ reserved_at m rs
  release_away m apart [] = refl
  release_away m apart (r ∷ rs) = step (same_owner r.owner o) (r.level == l) (release_away m apart rs) (λ is. ap (λ k. k == m) (eqb-true r.level l is) ∙ not_equal m l apart)
    where
      step : (a c : Bool) → reserved_at m (release o l rs) ≡ reserved_at m rs → (c ≡ true → (r.level == m) ≡ false) → reserved_at m (if a && c then rs else r ∷ release o l rs) ≡ reserved_at m (r ∷ rs)
      step true true rest f = sym (ap (λ t. if t then r.size + reserved_at m rs else reserved_at m rs) (f refl))
      step true false rest f = ap (λ k. if r.level == m then r.size + k else k) rest
      step false true rest f = ap (λ k. if r.level == m then r.size + k else k) rest
      step false false rest f = ap (λ k. if r.level == m then r.size + k else k) rest

  release_other : (p : Owner) (m : ℕ) → same_owner o p ≡ false → (rs : List Open) → first_open p m (release o l rs) ≡ first_open p m rs
  release_other p m apart [] = refl
  release_other p m apart (r ∷ rs) = step (same_owner r.owner o) (r.level == l) (release_other p m apart rs) (λ is. other_owner r.owner o p apart is)
    where
      step : (a c : Bool) → first_open p m (release o l rs) ≡ first_open p m rs → (a ≡ true → same_owner r.owner p ≡ false) → first_open p m (if a && c then rs else r ∷ release o l rs) ≡ first_open p m (r ∷ rs)
      step true true rest f = sym (ap (λ t. if t && (r.level == m) then Some r.size else first_open p m rs) (f refl))
      step true false rest f = ap (λ k. if same_owner r.owner p && (r.level == m) then Some r.size else k) rest
      step false true rest f = ap (λ k. if same_owner r.owner p && (r.level == m) then Some r.size else k) rest
      step false false rest f = ap (λ k. if same_owner r.owner p && (r.level == m) then Some r.size else k) rest

-- The reservations of all, after an event of one owner.
hand_of_tie : (owns : Owners) (opens : List Open) (d : ℕ → DiskStore) (o : Owner) (h : Option Hand) (l number n : ℕ) → h ≡ Some (record { level = l; number = number; size = n }) → TiesHand owns opens d o h → first_open o l opens ≡ Some n
hand_of_tie owns opens d o h l number n is ties = (subst (TiesHand owns opens d o) is ties).reserved

released_all : (o : Owner) (l n : ℕ) (opens : List Open) (old new : ℕ → ℕ) → first_open o l opens ≡ Some n → ((m : ℕ) → reserved_at m opens ≡ old m) → new l + n ≡ old l → ((m : ℕ) → m ≢ l → new m ≡ old m) → (m : ℕ) → reserved_at m (release o l opens) ≡ new m
released_all o l n opens old new first all here away m = (elim (m == l) as (λ t. (m == l) ≡ t → reserved_at m (release o l opens) ≡ new m) [
  | true ↦ λ e. subst (λ (k : ℕ). reserved_at k (release o l opens) ≡ new k) (sym (eqb-true m l e))
      (let less : reserved_at l (release o l opens) + n ≡ reserved_at l opens = release_here o l opens n first in let was : reserved_at l opens ≡ old l = all l in omega (arith, less, was, here))
  | false ↦ λ e. let apart : m ≢ l = (λ is. never (sym e ∙ eq-eqb m l is)) in release_away o l m apart opens ∙ all m ∙ sym (away m apart)
]) refl

added_all : (o : Owner) (l n : ℕ) (opens : List Open) (old new : ℕ → ℕ) → ((m : ℕ) → reserved_at m opens ≡ old m) → new l ≡ old l + n → ((m : ℕ) → m ≢ l → new m ≡ old m) → (m : ℕ) → reserved_at m ((record { owner = o; level = l; size = n }) ∷ opens) ≡ new m
added_all o l n opens old new all here away m = (elim (l == m) as (λ t. (l == m) ≡ t → (if t then n + reserved_at m opens else reserved_at m opens) ≡ new m) [
  | true ↦ λ e. subst (λ (k : ℕ). n + reserved_at k opens ≡ new k) (eqb-true l m e) (let was : reserved_at l opens ≡ old l = all l in omega (arith, was, here))
  | false ↦ λ e. all m ∙ sym (away m (λ is. never (sym e ∙ eq-eqb l m (sym is))))
]) refl

pub reserves_step : (owns : Owners) (opens : List Open) (d : ℕ → DiskStore) (o : Owner) (x : What) (h h2 : Option Hand) (old new : ℕ → ℕ) → HandsBy d x h h2 → TiesHand owns opens d o h → ((m : ℕ) → reserved_at m opens ≡ old m) → ReservesBy x old new
    → (m : ℕ) → reserved_at m (reserved_by o x opens) ≡ new m
reserves_step owns opens d o (Reserved l k n Done) h h2 old new by ties all moves = added_all o l n opens old new all moves.0 moves.1
reserves_step owns opens d o (Reserved l k n (Refused c)) h h2 old new by ties all moves = λ m. all m ∙ sym (moves m)
reserves_step owns opens d o (Filled l k b mark Done) h h2 old new by ties all moves = λ m. all m ∙ sym (moves m)
reserves_step owns opens d o (Filled l k b mark (Refused c)) h h2 old new by ties all moves = released_all o l (length b) opens old new (hand_of_tie owns opens d o h l by.0 (length b) by.1 ties) all moves.0 moves.1
reserves_step owns opens d o (Committed l k b how) h h2 old new by ties all moves = released_all o l (length b) opens old new (hand_of_tie owns opens d o h l by.0 (length b) by.1 ties) all moves.0 moves.1
reserves_step owns opens d o Idle h h2 old new by ties all moves = λ m. all m ∙ sym (moves m)
reserves_step owns opens d o (Passed a) h h2 old new by ties all moves = λ m. all m ∙ sym (moves m)
reserves_step owns opens d o (Taken a b) h h2 old new by ties all moves = λ m. all m ∙ sym (moves m)
reserves_step owns opens d o (Closed a) h h2 old new by ties all moves = λ m. all m ∙ sym (moves m)
reserves_step owns opens d o (Began a b) h h2 old new by ties all moves = λ m. all m ∙ sym (moves m)
reserves_step owns opens d o (Keyed a b f) h h2 old new by ties all moves = λ m. all m ∙ sym (moves m)
reserves_step owns opens d o (Asked a b f g e) h h2 old new by ties all moves = λ m. all m ∙ sym (moves m)
reserves_step owns opens d o (Placed a) h h2 old new by ties all moves = λ m. all m ∙ sym (moves m)
reserves_step owns opens d o TokenTaken h h2 old new by ties all moves = λ m. all m ∙ sym (moves m)
reserves_step owns opens d o (Ran a) h h2 old new by ties all moves = λ m. all m ∙ sym (moves m)
reserves_step owns opens d o (Dist a) h h2 old new by ties all moves = λ m. all m ∙ sym (moves m)
reserves_step owns opens d o (Outcome a b) h h2 old new by ties all moves = λ m. all m ∙ sym (moves m)
reserves_step owns opens d o (Wrote a b f g e i) h h2 old new by ties all moves = λ m. all m ∙ sym (moves m)
reserves_step owns opens d o (WriteEnded a b) h h2 old new by ties all moves = λ m. all m ∙ sym (moves m)
reserves_step owns opens d o (Sent a) h h2 old new by ties all moves = λ m. all m ∙ sym (moves m)
reserves_step owns opens d o (TooLong a) h h2 old new by ties all moves = λ m. all m ∙ sym (moves m)

-- what others have reserved stays
pushed_other : (o p : Owner) (l m n : ℕ) (opens : List Open) → same_owner o p ≡ false → first_open p m ((record { owner = o; level = l; size = n }) ∷ opens) ≡ first_open p m opens
pushed_other o p l m n opens apart = ap (λ t. if t && (l == m) then Some n else first_open p m opens) apart

first_stays : (o p : Owner) (x : What) (m : ℕ) (opens : List Open) → same_owner o p ≡ false → first_open p m (reserved_by o x opens) ≡ first_open p m opens
first_stays o p (Reserved l k n Done) m opens apart = pushed_other o p l m n opens apart
first_stays o p (Reserved l k n (Refused c)) m opens apart = refl
first_stays o p (Filled l k b mark Done) m opens apart = refl
first_stays o p (Filled l k b mark (Refused c)) m opens apart = release_other o l p m apart opens
first_stays o p (Committed l k b how) m opens apart = release_other o l p m apart opens
first_stays o p Idle m opens apart = refl
first_stays o p (Passed a) m opens apart = refl
first_stays o p (Taken a b) m opens apart = refl
first_stays o p (Closed a) m opens apart = refl
first_stays o p (Began a b) m opens apart = refl
first_stays o p (Keyed a b f) m opens apart = refl
first_stays o p (Asked a b f g e) m opens apart = refl
first_stays o p (Placed a) m opens apart = refl
first_stays o p TokenTaken m opens apart = refl
first_stays o p (Ran a) m opens apart = refl
first_stays o p (Dist a) m opens apart = refl
first_stays o p (Outcome a b) m opens apart = refl
first_stays o p (Wrote a b f g e i) m opens apart = refl
first_stays o p (WriteEnded a b) m opens apart = refl
first_stays o p (Sent a) m opens apart = refl
first_stays o p (TooLong a) m opens apart = refl

-- an entry that is held after an event was held before it, or its number was free
abbrev WasHeld : (ℕ → DiskStore) → Option Hand → Hand → Type 0
WasHeld d h a = (entry_at (d a.level).entries a.number ≡ None) ⊎ (h ≡ Some a)

no_hand : (d : ℕ → DiskStore) (h h2 : Option Hand) (a : Hand) → h2 ≡ None → h2 ≡ Some a → WasHeld d h a
no_hand d h h2 a none is = absurd (not_none a (sym is ∙ none))

was_held : (d : ℕ → DiskStore) (x : What) (h h2 : Option Hand) (a : Hand) → HandsBy d x h h2 → h2 ≡ Some a → WasHeld d h a
was_held d (Reserved l k n Done) h h2 a by is = let same = same_some (record { level = l; number = by.1.0; size = n }) a (sym by.1.1 ∙ is) in inl (subst (λ (x : Hand). entry_at (d x.level).entries x.number ≡ None) same by.1.2)
was_held d (Reserved l k n (Refused c)) h h2 a by is = no_hand d h h2 a by.1 is
was_held d (Filled l k b mark Done) h h2 a by is = inr (by.1 ∙ sym by.2 ∙ is)
was_held d (Filled l k b mark (Refused c)) h h2 a by is = no_hand d h h2 a by.2 is
was_held d (Committed l k b how) h h2 a by is = no_hand d h h2 a by.2 is
was_held d Idle h h2 a by is = no_hand d h h2 a by.1 is
was_held d (Passed z) h h2 a by is = no_hand d h h2 a by.1 is
was_held d (Taken z b) h h2 a by is = no_hand d h h2 a by.1 is
was_held d (Closed z) h h2 a by is = no_hand d h h2 a by.1 is
was_held d (Began z b) h h2 a by is = no_hand d h h2 a by.1 is
was_held d (Keyed z b f) h h2 a by is = no_hand d h h2 a by.1 is
was_held d (Asked z b f g e) h h2 a by is = no_hand d h h2 a by.1 is
was_held d (Placed z) h h2 a by is = no_hand d h h2 a by.1 is
was_held d TokenTaken h h2 a by is = no_hand d h h2 a by.1 is
was_held d (Ran z) h h2 a by is = no_hand d h h2 a by.1 is
was_held d (Dist z) h h2 a by is = no_hand d h h2 a by.1 is
was_held d (Outcome z b) h h2 a by is = no_hand d h h2 a by.1 is
was_held d (Wrote z b f g e i) h h2 a by is = no_hand d h h2 a by.1 is
was_held d (WriteEnded z b) h h2 a by is = no_hand d h h2 a by.1 is
was_held d (Sent z) h h2 a by is = no_hand d h h2 a by.1 is
was_held d (TooLong z) h h2 a by is = no_hand d h h2 a by.1 is

module _ (owns : Owners) (opens : List Open) (d : ℕ → DiskStore) (o p : Owner) (apart : same_owner o p ≡ false) (b : Hand) (theirs : Ties owns opens d p b) where
  -- an entry of another is not the one that is held
  not_held : (h : Option Hand) → TiesHand owns opens d o h → IsHand h b.level b.number → ⊥
  not_held None ties is = is
  not_held (Some a) ties is =
      apart_owners o p apart (same_some o p (sym ties.owned ∙ ap (λ l. owns l a.number) (sym is.0) ∙ ap (λ n. owns b.level n) (sym is.1) ∙ theirs.owned))

  not_new : (h h2 : Option Hand) (a : Hand) → TiesHand owns opens d o h → h2 ≡ Some a → WasHeld d h a → b.level ≡ a.level → b.number ≡ a.number → ⊥
  not_new h h2 a ties is (inl free) l n = not_none theirs.slot (sym theirs.there ∙ ap (λ k. entry_at (d k).entries b.number) l ∙ ap (λ k. entry_at (d a.level).entries k) n ∙ free)
  not_new h h2 a ties is (inr held) l n = not_held h ties (subst (λ (x : Option Hand). IsHand x b.level b.number) (sym held) (l, n))

owned_apart : (owns : Owners) (o : Owner) (h : Hand) (l n : ℕ) → (l ≡ h.level → n ≡ h.number → ⊥) → with_owner owns o (Some h) l n ≡ owns l n
owned_apart owns o h l n apart = step (l == h.level) (n == h.number) (λ x y. apart (eqb-true l h.level x) (eqb-true n h.number y))
  where
    step : (s t : Bool) → (s ≡ true → t ≡ true → ⊥) → (if s && t then Some o else owns l n) ≡ owns l n
    step true true f = absurd (f refl refl)
    step true false f = refl
    step false t f = refl

owned_other : (owns : Owners) (opens : List Open) (d : ℕ → DiskStore) (o p : Owner) (x : What) (h h2 : Option Hand) (b : Hand) → same_owner o p ≡ false → HandsBy d x h h2 → TiesHand owns opens d o h → Ties owns opens d p b
    → with_owner owns o h2 b.level b.number ≡ owns b.level b.number
owned_other owns opens d o p x h None b apart by ties theirs = refl
owned_other owns opens d o p x h (Some a) b apart by ties theirs = owned_apart owns o a b.level b.number (λ l n. not_new owns opens d o p apart b theirs h (Some a) a ties refl (was_held d x h (Some a) a by refl) l n)

-- the ties of another stay
other_ties : (owns : Owners) (opens : List Open) (d d2 : ℕ → DiskStore) (o p : Owner) (x : What) (h h2 : Option Hand) (b : Hand) → same_owner o p ≡ false → HandsBy d x h h2 → KeepsHands h d d2 → TiesHand owns opens d o h → Ties owns opens d p b
    → Ties (with_owner owns o h2) (reserved_by o x opens) d2 p b
other_ties owns opens d d2 o p x h h2 b apart by keeps ties theirs = record {
  reserved = first_stays o p x b.level opens apart ∙ theirs.reserved;
  owned = owned_other owns opens d o p x h h2 b apart by ties theirs ∙ theirs.owned;
  slot = theirs.slot;
  there = keeps b.level b.number theirs.slot (not_held owns opens d o p apart b theirs h ties) theirs.there;
}

pub others_tie : (owns : Owners) (opens : List Open) (d d2 : ℕ → DiskStore) (o p : Owner) (x : What) (h h2 q : Option Hand) → same_owner o p ≡ false → HandsBy d x h h2 → KeepsHands h d d2 → TiesHand owns opens d o h → TiesHand owns opens d p q
    → TiesHand (with_owner owns o h2) (reserved_by o x opens) d2 p q
others_tie owns opens d d2 o p x h h2 None apart by keeps ties theirs = tt
others_tie owns opens d d2 o p x h h2 (Some b) apart by keeps ties theirs = other_ties owns opens d d2 o p x h h2 b apart by keeps ties theirs

-- another's open entry stays as it was
pub others_open : (owns : Owners) (opens : List Open) (d d2 : ℕ → DiskStore) (o p : Owner) (h : Option Hand) (b : Hand) (slot : OpenEntry) → same_owner o p ≡ false → KeepsHands h d d2 → TiesHand owns opens d o h → Ties owns opens d p b
    → entry_at (d b.level).entries b.number ≡ Some slot → entry_at (d2 b.level).entries b.number ≡ Some slot
others_open owns opens d d2 o p h b slot apart keeps ties theirs is = keeps b.level b.number slot (not_held owns opens d o p apart b theirs h ties) is

-- The ties of the owner itself.
own_first : (o : Owner) (l n : ℕ) (opens : List Open) → first_open o l ((record { owner = o; level = l; size = n }) ∷ opens) ≡ Some n
own_first o l n opens = ap (λ t. if t && (l == l) then Some n else first_open o l opens) (own_owner o) ∙ ap (λ t. if t then Some n else first_open o l opens) (eq-eqb l l refl)

own_reserved : (owns : Owners) (opens : List Open) (d : ℕ → DiskStore) (o : Owner) (x : What) (h h2 : Option Hand) (a : Hand) → HandsBy d x h h2 → TiesHand owns opens d o h → h2 ≡ Some a → first_open o a.level (reserved_by o x opens) ≡ Some a.size
own_reserved owns opens d o (Reserved l k n Done) h h2 a by ties is =
    let same = same_some (record { level = l; number = by.1.0; size = n }) a (sym by.1.1 ∙ is) in
    subst (λ (z : Hand). first_open o z.level ((record { owner = o; level = l; size = n }) ∷ opens) ≡ Some z.size) same (own_first o l n opens)
own_reserved owns opens d o (Filled l k b mark Done) h h2 a by ties is = (subst (TiesHand owns opens d o) (by.1 ∙ sym by.2 ∙ is) ties).reserved
own_reserved owns opens d o (Reserved l k n (Refused c)) h h2 a by ties is = absurd (not_none a (sym is ∙ by.1))
own_reserved owns opens d o (Filled l k b mark (Refused c)) h h2 a by ties is = absurd (not_none a (sym is ∙ by.2))
own_reserved owns opens d o (Committed l k b how) h h2 a by ties is = absurd (not_none a (sym is ∙ by.2))
own_reserved owns opens d o Idle h h2 a by ties is = absurd (not_none a (sym is ∙ by.1))
own_reserved owns opens d o (Passed z) h h2 a by ties is = absurd (not_none a (sym is ∙ by.1))
own_reserved owns opens d o (Taken z b) h h2 a by ties is = absurd (not_none a (sym is ∙ by.1))
own_reserved owns opens d o (Closed z) h h2 a by ties is = absurd (not_none a (sym is ∙ by.1))
own_reserved owns opens d o (Began z b) h h2 a by ties is = absurd (not_none a (sym is ∙ by.1))
own_reserved owns opens d o (Keyed z b f) h h2 a by ties is = absurd (not_none a (sym is ∙ by.1))
own_reserved owns opens d o (Asked z b f g e) h h2 a by ties is = absurd (not_none a (sym is ∙ by.1))
own_reserved owns opens d o (Placed z) h h2 a by ties is = absurd (not_none a (sym is ∙ by.1))
own_reserved owns opens d o TokenTaken h h2 a by ties is = absurd (not_none a (sym is ∙ by.1))
own_reserved owns opens d o (Ran z) h h2 a by ties is = absurd (not_none a (sym is ∙ by.1))
own_reserved owns opens d o (Dist z) h h2 a by ties is = absurd (not_none a (sym is ∙ by.1))
own_reserved owns opens d o (Outcome z b) h h2 a by ties is = absurd (not_none a (sym is ∙ by.1))
own_reserved owns opens d o (Wrote z b f g e i) h h2 a by ties is = absurd (not_none a (sym is ∙ by.1))
own_reserved owns opens d o (WriteEnded z b) h h2 a by ties is = absurd (not_none a (sym is ∙ by.1))
own_reserved owns opens d o (Sent z) h h2 a by ties is = absurd (not_none a (sym is ∙ by.1))
own_reserved owns opens d o (TooLong z) h h2 a by ties is = absurd (not_none a (sym is ∙ by.1))

owned_own : (owns : Owners) (o : Owner) (a : Hand) → with_owner owns o (Some a) a.level a.number ≡ Some o
owned_own owns o a = ap (λ t. if t && (a.number == a.number) then Some o else owns a.level a.number) (eq-eqb a.level a.level refl) ∙ ap (λ t. if t then Some o else owns a.level a.number) (eq-eqb a.number a.number refl)

pub owner_ties : (owns : Owners) (opens : List Open) (d d2 : ℕ → DiskStore) (o : Owner) (x : What) (h h2 : Option Hand) → HandsBy d x h h2 → TiesHand owns opens d o h → IsThere d2 h2 → TiesHand (with_owner owns o h2) (reserved_by o x opens) d2 o h2
owner_ties owns opens d d2 o x h None by ties there = tt
owner_ties owns opens d d2 o x h (Some a) by ties there = record {
  reserved = own_reserved owns opens d o x h (Some a) a by ties refl;
  owned = owned_own owns o a;
  slot = there.0;
  there = there.1;
}
