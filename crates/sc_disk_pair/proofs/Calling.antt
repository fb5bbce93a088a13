-- What two disks as one tell of their calls, after a call of one of them.
use Rattle.std.proofs.Common.{◌≡◌, ℕ, ◌+◌, ◌-◌, ◌^◌, ◌<◌, ◌||◌, ◌==◌, min, Bool, true, false, cond, List, [], ◌∷◌, option_map, Option, Some, None, nat_cmp, is_eq, Less, Equal, Greater, refl, sym, ap, ◌∙◌, subst, arith, le-ltb, eq-eqb}
use Rattle.std.specs.List.{list_any}
use Rattle.sc_entry.specs.Causes.{Rose}
use Rattle.sc_entry.specs.Failing.{fails_at}
use Rattle.sc_entry.specs.declared.calls.Calls.{Calls}
use Rattle.sc_disk.specs.Devices.{Counts, CountsOn, MakesOn}
use Rattle.sc_disk.specs.Disks.{DiskRecord, DiskState, did_all}
use Rattle.sc_disk.specs.declared.change.Change.{Change}
use Rattle.sc_disk_pair.specs.Twos.{calls_beside, fails_none, is_none, joined_calls, whole_calls}

abbrev Told : Type 0
Told = Option DiskRecord

-- the count of faults of both
abbrev Sum : ℕ → ℕ → ℕ → ℕ
Sum f g k = min (f + (g + k)) (2 ^ 64 - 1)

-- Whether any call is to fail, by which ones are.
is_itself : (n : ℕ) → is_eq (nat_cmp n n) ≡ true
is_itself n = ap (λ b. is_eq (cond b Less (cond (n == n) Equal Greater))) (le-ltb n n (omega arith)) ∙ ap (λ b. is_eq (cond b Equal Greater)) (eq-eqb n n refl)

or_first : (a b : Bool) → a ≡ true → (a || b) ≡ true
or_first true b h = refl
or_first false b h = absurd (cc)

not_any : (number : ℕ) (ks : List ℕ) → is_none ks ≡ true → list_any (λ k. is_eq (nat_cmp number k)) ks ≡ true → ⊥
not_any number [] none is = cc
not_any number (k ∷ ks) none is = cc

no_fails : (a : Calls) (number : ℕ) → fails_none a ≡ true → fails_at a number ≡ true → ⊥
no_fails a number none is = not_any number a.failing.keys none is

apart : (b : Bool) → b ≡ true → b ≡ false → ⊥
apart b t f = cc

pub same_none : (xs ys : List ℕ) → ((number : ℕ) → list_any (λ k. is_eq (nat_cmp number k)) ys ≡ list_any (λ k. is_eq (nat_cmp number k)) xs) → is_none ys ≡ is_none xs
same_none [] [] h = refl
same_none [] (y ∷ ys) h = absurd (apart (list_any (λ k. is_eq (nat_cmp y k)) (y ∷ ys)) (or_first (is_eq (nat_cmp y y)) (list_any (λ k. is_eq (nat_cmp y k)) ys) (is_itself y)) (h y))
same_none (x ∷ xs) [] h = absurd (apart (list_any (λ k. is_eq (nat_cmp x k)) (x ∷ xs)) (or_first (is_eq (nat_cmp x x)) (list_any (λ k. is_eq (nat_cmp x k)) xs) (is_itself x)) (sym (h x)))
same_none (x ∷ xs) (y ∷ ys) h = refl

stays_none : (a b : Calls) (f g : ℕ) → Counts a b f g → fails_none b ≡ fails_none a
stays_none a b f g c = same_none a.failing.keys b.failing.keys c.failing

-- Calls that weren't made.
unmade : (a : Calls) (f g : ℕ) → Counts a a f g
unmade a f g = record { failing = λ number. refl; made = omega arith; fails = λ number h k is. absurd (omega (arith, h, k)) }

unmade_on : (o : Option Calls) (f g : ℕ) → CountsOn o o f g
unmade_on None f g = refl
unmade_on (Some a) f g = (a, refl, unmade a f g)

unfailed_on : (o : Option Calls) (f g : ℕ) → (f < g → ⊥) → MakesOn o o f g
unfailed_on None f g h = refl
unfailed_on (Some a) f g h = (a, refl, record { counts = unmade a f g; fault = λ rose. absurd (h rose) })

-- The main disk's calls, with the faults of both.
counts_sum : (a b : Calls) (f g h k : ℕ) → Counts a b f g → Counts a b (Sum f h k) (Sum g h k)
counts_sum a b f g h k c = record {
  failing = c.failing;
  made = c.made;
  fails = λ number late early is. let rose : Rose f g = c.fails number late early is in omega (arith, rose);
}

counts_on_sum : (o n : Option Calls) (f g h k : ℕ) → CountsOn o n f g → CountsOn o n (Sum f h k) (Sum g h k)
counts_on_sum None n f g h k c = c
counts_on_sum (Some a) n f g h k c = (c.0, c.1, counts_sum a c.0 f g h k c.2)

makes_on_sum : (o n : Option Calls) (f g h k : ℕ) → MakesOn o n f g → MakesOn o n (Sum f h k) (Sum g h k)
makes_on_sum None n f g h k c = c
makes_on_sum (Some a) n f g h k c = (c.0, c.1, record { counts = counts_sum a c.0 f g h k c.2.counts; fault = λ rose. c.2.fault (omega (arith, rose)) })

counts_shown : (b : Bool) (o n : Option Calls) (f g : ℕ) → CountsOn o n f g → CountsOn (cond b o None) (cond b n None) f g
counts_shown true o n f g c = c
counts_shown false o n f g c = refl

makes_shown : (b : Bool) (o n : Option Calls) (f g : ℕ) → MakesOn o n f g → MakesOn (cond b o None) (cond b n None) f g
makes_shown true o n f g c = c
makes_shown false o n f g c = refl

counts_beside-main : (o n p : Option Calls) (f g h k : ℕ) → CountsOn o n f g → CountsOn (calls_beside o p) (calls_beside n p) (Sum f h k) (Sum g h k)
counts_beside-main o n None f g h k c = refl
counts_beside-main o n (Some p) f g h k c = counts_shown (fails_none p) o n (Sum f h k) (Sum g h k) (counts_on_sum o n f g h k c)

makes_beside-main : (o n p : Option Calls) (f g h k : ℕ) → MakesOn o n f g → MakesOn (calls_beside o p) (calls_beside n p) (Sum f h k) (Sum g h k)
makes_beside-main o n None f g h k c = refl
makes_beside-main o n (Some p) f g h k c = makes_shown (fails_none p) o n (Sum f h k) (Sum g h k) (makes_on_sum o n f g h k c)

-- The other disk's: the main one's aren't made.
counts_beside-pre : (m o n : Option Calls) (f g h k : ℕ) → CountsOn o n f g → CountsOn (calls_beside m o) (calls_beside m n) (Sum h f k) (Sum h g k)
counts_beside-pre m None n f g h k c = ap (calls_beside m) c
counts_beside-pre m (Some a) n f g h k c = subst (λ x. CountsOn (calls_beside m (Some a)) x (Sum h f k) (Sum h g k)) (sym (ap (calls_beside m) c.1 ∙ ap (λ b. cond b m None) (stays_none a c.0 f g c.2)))
    (counts_shown (fails_none a) m m (Sum h f k) (Sum h g k) (unmade_on m (Sum h f k) (Sum h g k)))

makes_none : (b : Bool) (m : Option Calls) (f g : ℕ) → (b ≡ true → f < g → ⊥) → MakesOn (cond b m None) (cond b m None) f g
makes_none true m f g h = unfailed_on m f g (h refl)
makes_none false m f g h = refl

makes_beside-pre : (m o n : Option Calls) (f g h k : ℕ) → MakesOn o n f g → MakesOn (calls_beside m o) (calls_beside m n) (Sum h f k) (Sum h g k)
makes_beside-pre m None n f g h k c = ap (calls_beside m) c
makes_beside-pre m (Some a) n f g h k c = subst (λ x. MakesOn (calls_beside m (Some a)) x (Sum h f k) (Sum h g k)) (sym (ap (calls_beside m) c.1 ∙ ap (λ b. cond b m None) (stays_none a c.0 f g c.2.counts)))
    (makes_none (fails_none a) m (Sum h f k) (Sum h g k) (λ none rose. let x = c.2.fault (omega (arith, rose)) in no_fails a x.0 none x.3))

-- A disk that isn't divided stays so.
counts_whole : (b c : Bool) (o n : Option Calls) (f g : ℕ) → c ≡ b → CountsOn o n f g → CountsOn (cond b None o) (cond c None n) f g
counts_whole true c o n f g e h = ap (λ t. cond t None n) e
counts_whole false c o n f g e h = subst (λ t. CountsOn o (cond t None n) f g) (sym e) h

makes_whole : (b c : Bool) (o n : Option Calls) (f g : ℕ) → c ≡ b → MakesOn o n f g → MakesOn (cond b None o) (cond c None n) f g
makes_whole true c o n f g e h = ap (λ t. cond t None n) e
makes_whole false c o n f g e h = subst (λ t. MakesOn o (cond t None n) f g) (sym e) h

-- Whether the files of both are told stays.
counts_told : (told now : Told) (xs : List Change) (m p n q : Option Calls) (f g : ℕ) → now ≡ option_map (did_all xs) told → CountsOn (calls_beside m p) (calls_beside n q) f g → CountsOn (joined_calls told m p) (joined_calls now n q) f g
counts_told None now xs m p n q f g is c = ap (λ t. joined_calls t n q) is
counts_told (Some r) now xs m p n q f g is c = subst (λ t. CountsOn (calls_beside m p) (joined_calls t n q) f g) (sym is) c

makes_told : (told now : Told) (xs : List Change) (m p n q : Option Calls) (f g : ℕ) → now ≡ option_map (did_all xs) told → MakesOn (calls_beside m p) (calls_beside n q) f g → MakesOn (joined_calls told m p) (joined_calls now n q) f g
makes_told None now xs m p n q f g is c = ap (λ t. joined_calls t n q) is
makes_told (Some r) now xs m p n q f g is c = subst (λ t. MakesOn (calls_beside m p) (joined_calls t n q) f g) (sym is) c

module _ (told now : Told) (xs : List Change) (is : now ≡ option_map (did_all xs) told) (k : ℕ) where
  pub counts-main : (m n p : DiskState) → n.divided ≡ m.divided → CountsOn m.calls n.calls m.faults n.faults
      → CountsOn (joined_calls told (whole_calls m) (whole_calls p)) (joined_calls now (whole_calls n) (whole_calls p)) (Sum m.faults p.faults k) (Sum n.faults p.faults k)
  counts-main m n p e c = counts_told told now xs (whole_calls m) (whole_calls p) (whole_calls n) (whole_calls p) (Sum m.faults p.faults k) (Sum n.faults p.faults k) is
      (counts_beside-main (whole_calls m) (whole_calls n) (whole_calls p) m.faults n.faults p.faults k (counts_whole m.divided n.divided m.calls n.calls m.faults n.faults e c))

  pub makes-main : (m n p : DiskState) → n.divided ≡ m.divided → MakesOn m.calls n.calls m.faults n.faults
      → MakesOn (joined_calls told (whole_calls m) (whole_calls p)) (joined_calls now (whole_calls n) (whole_calls p)) (Sum m.faults p.faults k) (Sum n.faults p.faults k)
  makes-main m n p e c = makes_told told now xs (whole_calls m) (whole_calls p) (whole_calls n) (whole_calls p) (Sum m.faults p.faults k) (Sum n.faults p.faults k) is
      (makes_beside-main (whole_calls m) (whole_calls n) (whole_calls p) m.faults n.faults p.faults k (makes_whole m.divided n.divided m.calls n.calls m.faults n.faults e c))

  pub counts-pre : (m p n : DiskState) → n.divided ≡ p.divided → CountsOn p.calls n.calls p.faults n.faults
      → CountsOn (joined_calls told (whole_calls m) (whole_calls p)) (joined_calls now (whole_calls m) (whole_calls n)) (Sum m.faults p.faults k) (Sum m.faults n.faults k)
  counts-pre m p n e c = counts_told told now xs (whole_calls m) (whole_calls p) (whole_calls m) (whole_calls n) (Sum m.faults p.faults k) (Sum m.faults n.faults k) is
      (counts_beside-pre (whole_calls m) (whole_calls p) (whole_calls n) p.faults n.faults m.faults k (counts_whole p.divided n.divided p.calls n.calls p.faults n.faults e c))

  pub makes-pre : (m p n : DiskState) → n.divided ≡ p.divided → MakesOn p.calls n.calls p.faults n.faults
      → MakesOn (joined_calls told (whole_calls m) (whole_calls p)) (joined_calls now (whole_calls m) (whole_calls n)) (Sum m.faults p.faults k) (Sum m.faults n.faults k)
  makes-pre m p n e c = makes_told told now xs (whole_calls m) (whole_calls p) (whole_calls m) (whole_calls n) (Sum m.faults p.faults k) (Sum m.faults n.faults k) is
      (makes_beside-pre (whole_calls m) (whole_calls p) (whole_calls n) p.faults n.faults m.faults k (makes_whole p.divided n.divided p.calls n.calls p.faults n.faults e c))

-- a refusal alone makes no call
pub counts-none : (o : Option Calls) (f g : ℕ) → CountsOn o o f g
counts-none o f g = unmade_on o f g

pub makes-none : (o : Option Calls) (f : ℕ) → MakesOn o o f f
makes-none o f = unfailed_on o f f (λ rose. absurd (omega (arith, rose)))
