-- The first of levels, and those behind it.
use Rattle.std.proofs.Common.{◌≡◌, ℕ, zero, suc, ◌+◌, ◌-◌, ◌^◌, ◌<◌, ◌≤◌, min, Bool, true, false, ◌&&◌, ◌==◌, not, if◌then◌else◌, List, [], ◌∷◌, ◌++◌, length, take, drop, get_or, Option, Some, None, refl, ap, sym, subst, ◌∙◌, arith, add-one, eq-eqb, eqb-true, append_assoc, append-nil}
use Rattle.std.proofs.Math.Seq.{take-length}
use Rattle.std.specs.Option.{unwrap_or}
use Rattle.sc_model.specs.declared.level.Policy.{Policy}
use Rattle.sc_store.specs.Basedirs.{first_basedirs}
use Rattle.sc_store.specs.Held.{AreWithin, HeldLevel, IsWithin, Room, are_unreserved, held_of, room_in}
use Rattle.sc_store.specs.Levels.{held_level, held_levels, rooms_of}
use Rattle.sc_model.specs.Plan.{first_policy, levels_of, reads_only, rest_policies}
use Rattle.sc_model.specs.declared.level.LevelPolicy.{LevelPolicy}
use Rattle.sc_stats.specs.Sums.{no_level_stats}
use Rattle.sc_stats.specs.declared.counters.LevelStats.{LevelStats}
use Rattle.sc_store.specs.Planning.{facts_of}
use Rattle.sc_store.specs.Telling.{first_location, known, level_max, level_name, max_onto, new_counters, titles_of}
use Rattle.sc_store.specs.declared.level.Level.{Level}

-- what stands behind the first of a list
pub behind : {A : Type 0} (xs : List A) (x : A) → 1 ≤ length xs → x ≡ get_or xs 0 x → xs ≡ x ∷ take (length xs - 1) (drop 1 xs)
behind [] x le is = absurd (omega (arith, le))
behind (y ∷ ys) x le is =
    let n : length (y ∷ ys) - 1 ≡ length ys = omega arith in
    let rest : ys ≡ take (length (y ∷ ys) - 1) ys = sym (take-length ys) ∙ ap (λ k. take k ys) (sym n) in
    λ i. sym is i ∷ rest i

known_is : (o : Option ℕ) → unwrap_or o 0 ≡ known o
known_is None = refl
known_is (Some n) = refl

-- one more level was summed
pub max_more : {R D V : Type 0} (levels : List (Level R D V)) (level : Level R D V) (sum sum2 n total : ℕ) (max : Option ℕ) → 1 ≤ length levels → level ≡ get_or levels 0 level → max ≡ level_max (held_level level).facts → n ≡ unwrap_or max 0 → sum2 ≡ min (sum + n) (2 ^ 64 - 1)
    → max_onto sum (facts_of levels) ≡ total → max_onto sum2 (facts_of (take (length levels - 1) (drop 1 levels))) ≡ total
max_more {R} {D} {V} levels level sum sum2 n total max some first is_max is_n is_sum so_far =
    let rest = take (length levels - 1) (drop 1 levels) in
    let known_max : n ≡ known (level_max (held_level level).facts) = is_n ∙ known_is max ∙ ap known is_max in
    ap (λ k. max_onto k (facts_of rest)) (is_sum ∙ ap (λ k. min (sum + k) (2 ^ 64 - 1)) known_max)
    ∙ ap (λ (ls : List (Level R D V)). max_onto sum (facts_of ls)) (sym (behind levels level some first))
    ∙ so_far

first_within : (h : HeldLevel) (hs : List HeldLevel) (policy : Policy) → IsWithin h.facts h.level h.room → AreWithin (held_of hs policy) → AreWithin (held_of (h ∷ hs) policy)
first_within h hs policy here rest zero = here
first_within h hs policy here rest (suc l) = rest l

-- the first level is within its capacity, and so are those behind it
pub all_within : {R D V : Type 0} (levels : List (Level R D V)) (level : Level R D V) → 1 ≤ length levels → level ≡ get_or levels 0 level → IsWithin (held_level level).facts (held_level level).level (held_level level).room
    → ((policy : Policy) → AreWithin (held_levels (take (length levels - 1) (drop 1 levels)) policy)) → (policy : Policy) → AreWithin (held_levels levels policy)
all_within {R} {D} {V} levels level some first here rest policy =
    subst (λ (ls : List (Level R D V)). AreWithin (held_levels ls policy)) (sym (behind levels level some first))
    (first_within (held_level level) _ policy here (rest policy))

-- no level is beyond its capacity where there is none
pub none_within : {R D V : Type 0} (levels : List (Level R D V)) → length levels < 1 → (policy : Policy) → AreWithin (held_levels levels policy)
none_within [] none policy = λ l kind. absurd (cc)
none_within (level ∷ levels) none policy = absurd (omega arith)

-- where the first level is
pub first_located : {R D V : Type 0} (levels : List (Level R D V)) (level : Level R D V) → 1 ≤ length levels → level ≡ get_or levels 0 level → first_location (titles_of levels) ≡ (held_level level).title.location
first_located {R} {D} {V} levels level some first = ap (λ (ls : List (Level R D V)). first_location (titles_of ls)) (behind levels level some first)

-- what base directories it was given
pub first_given : {R D V : Type 0} (levels : List (Level R D V)) (level : Level R D V) → 1 ≤ length levels → level ≡ get_or levels 0 level → first_basedirs (titles_of levels) ≡ (held_level level).title.given.basedirs
first_given {R} {D} {V} levels level some first = ap (λ (ls : List (Level R D V)). first_basedirs (titles_of ls)) (behind levels level some first)

-- as many as before, and one more was counted
pub one_counted : {A : Type 0} (xs : List A) (x : A) (n total : ℕ) → 1 ≤ length xs → x ≡ get_or xs 0 x → n + length xs ≡ total → (n + 1) + length (take (length xs - 1) (drop 1 xs)) ≡ total
one_counted {A} xs x n total some first is =
    let same : length xs ≡ suc (length (take (length xs - 1) (drop 1 xs))) = ap (λ (ys : List A). length ys) (behind xs x some first) in
    omega (arith, same, is)

taken_more : (t : Bool) (n : ℕ) (found found2 more : List ℕ) → (t ≡ true → found2 ≡ found ++ n ∷ []) → (t ≡ false → found2 ≡ found) → found2 ++ more ≡ found ++ (if t then n ∷ more else more)
taken_more true n found found2 more added kept = ap (λ (xs : List ℕ). xs ++ more) (added refl) ∙ append_assoc found (n ∷ []) more
taken_more false n found found2 more added kept = ap (λ (xs : List ℕ). xs ++ more) (kept refl)

-- one more level was looked at
pub levels_more : {R D V : Type 0} (test : LevelPolicy → Bool) (n : ℕ) (ps : List LevelPolicy) (levels : List (Level R D V)) (level : Level R D V) (found found2 total : List ℕ) (ps2 : List LevelPolicy) (t : Bool) → 1 ≤ length levels → level ≡ get_or levels 0 level
    → t ≡ (not (reads_only (held_level level).facts.mode) && test (first_policy ps)) → (t ≡ true → found2 ≡ found ++ n ∷ []) → (t ≡ false → found2 ≡ found) → ps2 ≡ rest_policies ps → found ++ levels_of test n ps (facts_of levels) ≡ total
    → found2 ++ levels_of test (n + 1) ps2 (facts_of (take (length levels - 1) (drop 1 levels))) ≡ total
levels_more {R} {D} {V} test n ps levels level found found2 total ps2 t some first is added kept left so_far =
    let rest = take (length levels - 1) (drop 1 levels) in
    let more = levels_of test (suc n) (rest_policies ps) (facts_of rest) in
    ap (λ k. found2 ++ levels_of test k ps2 (facts_of rest)) (add-one n)
    ∙ ap (λ (qs : List LevelPolicy). found2 ++ levels_of test (suc n) qs (facts_of rest)) left
    ∙ taken_more t n found found2 more added kept
    ∙ ap (λ b. found ++ (if b then n ∷ more else more)) is
    ∙ ap (λ (ls : List (Level R D V)). found ++ levels_of test n ps (facts_of ls)) (sym (behind levels level some first))
    ∙ so_far

-- one more level has its counters
pub counters_more : {R D V : Type 0} (n : ℕ) (levels : List (Level R D V)) (level : Level R D V) (counters counters2 total : List LevelStats) (one : LevelStats) → 1 ≤ length levels → level ≡ get_or levels 0 level
    → one ≡ record no_level_stats { name = level_name n (held_level level).title.type_name; location = (held_level level).title.location } → counters2 ≡ counters ++ one ∷ [] → counters ++ new_counters n (titles_of levels) ≡ total
    → counters2 ++ new_counters (n + 1) (titles_of (take (length levels - 1) (drop 1 levels))) ≡ total
counters_more {R} {D} {V} n levels level counters counters2 total one some first is pushed so_far =
    let rest = take (length levels - 1) (drop 1 levels) in
    ap (λ k. counters2 ++ new_counters k (titles_of rest)) (add-one n)
    ∙ ap (λ (cs : List LevelStats). cs ++ new_counters (suc n) (titles_of rest)) pushed
    ∙ append_assoc counters (one ∷ []) (new_counters (suc n) (titles_of rest))
    ∙ ap (λ (c : LevelStats). counters ++ c ∷ new_counters (suc n) (titles_of rest)) is
    ∙ ap (λ (ls : List (Level R D V)). counters ++ new_counters n (titles_of ls)) (sym (behind levels level some first))
    ∙ so_far

-- no level is left
pub counters_all : {R D V : Type 0} (n : ℕ) (levels : List (Level R D V)) (counters total : List LevelStats) → length levels < 1 → counters ++ new_counters n (titles_of levels) ≡ total → counters ≡ total
counters_all n [] counters total none so_far = sym (append-nil counters) ∙ so_far
counters_all n (l ∷ ls) counters total none so_far = absurd (omega (arith, none))

-- nothing is reserved at the first level, and at those behind it
pub all_unreserved : {R D V : Type 0} (levels : List (Level R D V)) (level : Level R D V) → 1 ≤ length levels → level ≡ get_or levels 0 level
    → are_unreserved (rooms_of levels) ≡ (((held_level level).room.reserved == 0) && are_unreserved (rooms_of (take (length levels - 1) (drop 1 levels))))
all_unreserved {R} {D} {V} levels level some first = ap (λ (ls : List (Level R D V)). are_unreserved (rooms_of ls)) (behind levels level some first)

left_of : (a b : Bool) → (a && b) ≡ true → a ≡ true
left_of true b e = refl
left_of false b e = absurd (cc)

right_of : (a b : Bool) → (a && b) ≡ true → b ≡ true
right_of true b e = e
right_of false b e = absurd (cc)

both : (a b : Bool) → a ≡ true → b ≡ true → (a && b) ≡ true
both true b a_is b_is = b_is
both false b a_is b_is = absurd (cc)

-- so nothing is reserved at any
pub each_unreserved : (rooms : List Room) → are_unreserved rooms ≡ true → (l : ℕ) → (room_in rooms l).reserved ≡ 0
each_unreserved [] none l = refl
each_unreserved (r ∷ rs) none zero = eqb-true r.reserved 0 (left_of (r.reserved == 0) (are_unreserved rs) none)
each_unreserved (r ∷ rs) none (suc l) = each_unreserved rs (right_of (r.reserved == 0) (are_unreserved rs) none) l

pub none_reserved : (rooms : List Room) → ((l : ℕ) → (room_in rooms l).reserved ≡ 0) → are_unreserved rooms ≡ true
none_reserved [] none = refl
none_reserved (r ∷ rs) none = both (r.reserved == 0) (are_unreserved rs) (eq-eqb r.reserved 0 (none 0)) (none_reserved rs (λ l. none (suc l)))

pub free_first : (n : ℕ) (b : Bool) → n ≡ 0 → b ≡ ((n == 0) && b)
free_first n b none = subst (λ (k : ℕ). b ≡ ((k == 0) && b)) (sym none) refl

pub held_first : (m n : ℕ) (b : Bool) → m ≡ n → (m ≡ 0 → ⊥) → (m == 0) ≡ ((n == 0) && b)
held_first m n b is some = (elim (m == 0) as (λ t. (m == 0) ≡ t → t ≡ ((n == 0) && b)) [
  | true ↦ λ e. absurd (some (eqb-true m 0 e))
  | false ↦ λ e. subst (λ (k : ℕ). false ≡ ((k == 0) && b)) is (subst (λ t. false ≡ (t && b)) (sym e) refl)
]) refl
