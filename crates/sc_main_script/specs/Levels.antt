-- The levels that a script has, and how they are written.
use Rattle.std.specs.Prelude.{ℕ, zero, suc, ◌==◌, Bool, true, List, [], ◌∷◌, ◌++◌, replicate, Option, is_none, is_some}
use Rattle.sc_model.specs.declared.level.LevelPolicy.{LevelPolicy}
use Rattle.sc_model.specs.declared.level.LevelPolicy.TheVariants.{Required}
use Rattle.sc_model.specs.declared.level.Policy.{Policy}
use Rattle.sc_model.specs.declared.level.Policy.TheVariants as policy
use Rattle.sc_main_script.specs.declared.level_rule.LevelRule.{LevelRule}
use Rattle.sc_main_script.specs.declared.line.LevelLine.{LevelLine}
use Rattle.sc_main_script.specs.declared.policies.PolicyName.{PolicyName}
use Rattle.sc_main_script.specs.declared.policies.PolicyName.TheVariants as named

-- a level's line ends in a policy of its own exactly where each level has one
abbrev pub fits_word : PolicyName → Option LevelPolicy → Bool
fits_word named.Levels word = is_some word
fits_word _ word = is_none word

-- a single store is exactly one level
abbrev pub has_its_levels : PolicyName → ℕ → Bool
has_its_levels named.Single n = n == 1
has_its_levels _ n = true

-- The policy of n levels, whose own policies are the words. What a list of policies lacks is written later.
abbrev pub policy_of : PolicyName → ℕ → List LevelPolicy → Policy
policy_of named.Single n words = policy.Single
policy_of named.Ignore n words = policy.Levels []
policy_of named.L0 n words = policy.Levels (replicate 1 Required)
policy_of named.All n words = policy.Levels (replicate n Required)
policy_of named.Levels n words = policy.Levels words

-- a level that holds nothing, and none of whose calls fails
abbrev pub rule_of : LevelLine → LevelRule
rule_of l = record { kind = l.kind; capacity = l.capacity; mode = l.mode; holds = []; fails = [] }

-- a level that holds one key more
abbrev pub with_key : List ℕ → List ℕ → LevelRule → LevelRule
with_key key bytes r = record r { holds = r.holds ++ (key, bytes) ∷ [] }

-- a level of which one call more fails
abbrev pub with_call : ℕ → LevelRule → LevelRule
with_call call r = record r { fails = r.fails ++ call ∷ [] }

-- levels of which the lth is changed
abbrev pub changed : List LevelRule → ℕ → (LevelRule → LevelRule) → List LevelRule
changed [] l f = []
changed (r ∷ rules) zero f = f r ∷ rules
changed (r ∷ rules) (suc l) f = r ∷ changed rules l f
