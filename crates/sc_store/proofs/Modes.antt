-- What the modes of levels come to.
use Rattle.std.proofs.Common.{◌≡◌, ℕ, ◌-◌, ◌<◌, ◌≤◌, Bool, true, false, ◌&&◌, ◌==◌, List, [], ◌∷◌, ◌++◌, length, take, drop, get_or, refl, ap, sym, ◌∙◌, arith, eq-eqb, eqb-true, append-nil}
use Rattle.sc_entry.specs.declared.cache_mode.CacheMode.TheVariants.{ReadWrite}
use Rattle.sc_model.specs.Describing.{all_read_only, mode_of}
use Rattle.sc_model.specs.Plan.{levels_of, reads_only}
use Rattle.sc_model.specs.declared.level.LevelPolicy.{LevelPolicy}
use Rattle.sc_store.proofs.Behind.{behind}
use Rattle.sc_store.specs.Levels.{held_level}
use Rattle.sc_store.specs.Planning.{facts_of}
use Rattle.sc_store.specs.Telling.{store_mode}
use Rattle.sc_store.specs.declared.level.Level.{Level}

never : false ≡ true → ⊥
never e = cc

-- one more level is read-only
pub rest_read_only : {R D V : Type 0} (levels : List (Level R D V)) (level : Level R D V) (total : Bool) → 1 ≤ length levels → level ≡ get_or levels 0 level → reads_only (held_level level).facts.mode ≡ true → all_read_only (facts_of levels) ≡ total
    → all_read_only (facts_of (take (length levels - 1) (drop 1 levels))) ≡ total
rest_read_only {R} {D} {V} levels level total some first only so_far =
    let rest = take (length levels - 1) (drop 1 levels) in
    ap (λ (b : Bool). b && all_read_only (facts_of rest)) (sym only) ∙ ap (λ (ls : List (Level R D V)). all_read_only (facts_of ls)) (sym (behind levels level some first)) ∙ so_far

pub all_read : {R D V : Type 0} (levels : List (Level R D V)) (total : Bool) → length levels < 1 → all_read_only (facts_of levels) ≡ total → true ≡ total
all_read [] total few is = is
all_read (l ∷ ls) total few is = absurd (omega (arith, few))

pub no_levels_mode : {R D V : Type 0} (levels : List (Level R D V)) → (length levels == 0) ≡ true → ReadWrite ≡ store_mode (facts_of levels)
no_levels_mode [] none = refl
no_levels_mode (l ∷ ls) none = let same = eqb-true (length (l ∷ ls)) 0 none in absurd (omega (arith, same))

pub levels_mode : {R D V : Type 0} (levels : List (Level R D V)) (only : Bool) → (length levels == 0) ≡ false → only ≡ all_read_only (facts_of levels) → mode_of only ≡ store_mode (facts_of levels)
levels_mode [] only some is = absurd (never (sym some ∙ eq-eqb 0 0 refl))
levels_mode (l ∷ ls) only some is = ap mode_of is

-- no level is left
pub all_taken : {R D V : Type 0} (test : LevelPolicy → Bool) (n : ℕ) (ps : List LevelPolicy) (levels : List (Level R D V)) (found total : List ℕ) → length levels < 1 → found ++ levels_of test n ps (facts_of levels) ≡ total → found ≡ total
all_taken test n ps [] found total few is = sym (append-nil found) ∙ is
all_taken test n ps (l ∷ ls) found total few is = absurd (omega (arith, few))
