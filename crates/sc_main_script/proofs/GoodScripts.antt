-- What holds of all that a good script says.
use Rattle.std.proofs.Common.{◌≡◌, ℕ, zero, suc, ◌+◌, ◌≤◌, ◌==◌, Bool, true, ◌&&◌, nat_le, nat_lt, List, [], ◌∷◌, ◌++◌, length, length-append, take, Option, Some, None, unwrap_or, Result, Ok, Err, refl, ap, subst, arith, lit≤}
use Rattle.sc_model.specs.GoodNames.{is_chain, is_good_answer}
use Rattle.sc_compile_dist.specs.GoodJobs.{is_good_dist}
use Rattle.sc_entry.specs.Keys.{is_store_key}
use Rattle.sc_main_script.proofs.GoodLines.{GoodLine, IsWithin, good_line}
use Rattle.sc_main_script_words.proofs.Tests.{both, by_only, by_test, by_then, eq_of_test, le_of_test, left_of, lt_of_test, right_of, some_same}
use Rattle.sc_model.specs.declared.level.LevelPolicy.{LevelPolicy}
use Rattle.sc_model.specs.declared.level.Policy.TheVariants.{Single}
use Rattle.sc_main_script.specs.Goods.{IsGood, are_good_jobs, are_good_levels, are_good_places, are_good_runs, are_store_keys, is_good_level}
use Rattle.sc_main_script.specs.Levels.{changed, fits_word, has_its_levels, policy_of, rule_of, with_call, with_key}
use Rattle.sc_main_script.specs.Lines.{line_of_words}
use Rattle.sc_main_script.specs.Parts.{parts_of}
use Rattle.sc_words.specs.Lines.{words_of}
use Rattle.sc_words.specs.Words.{only_if}
use Rattle.sc_main_script.specs.Scripts.{finished, go_on, good, lines_from, most, nothing, policy_name, reading_of, script_from, script_of, takes_level, with_back, with_bytes, with_connections, with_fail, with_hold, with_job, with_key_step, with_level, with_limit, with_line, with_pass, with_place, with_policy, with_read, with_run, with_serve, with_text, with_tokens, with_tool, with_version}
use Rattle.sc_main_script.specs.declared.draft.Draft.{Draft}
use Rattle.sc_main_script.specs.declared.job_rule.JobRule.{JobRule}
use Rattle.sc_main_script.specs.declared.line.Line.{Line}
use Rattle.sc_main_script.specs.declared.line.Line.TheVariants.{Version, Connections, Tokens, Limit, Policy, Level, Hold, Fail, Tool, Run, KeyStep, Place, Job, Bytes, Ask, Read, Serve, Back, Pass}
use Rattle.sc_main_script.specs.declared.level_rule.LevelRule.{LevelRule}
use Rattle.sc_main_script.specs.declared.line.LevelLine.{LevelLine}
use Rattle.sc_main_script.specs.declared.policies.PolicyName.{PolicyName}
use Rattle.sc_main_script.specs.declared.policies.PolicyName.TheVariants as named
use Rattle.sc_main_script.specs.declared.place_rule.PlaceRule.{PlaceRule}
use Rattle.sc_main_script.specs.declared.run_rule.RunRule.{RunRule}
use Rattle.sc_main_script.specs.declared.script.Script.{Script}

-- what holds of the lines so far
pub record GoodDraft (d : Draft) : Type 0 where
  pub tokens : IsWithin 1 65535 (unwrap_or d.tokens 1)
  pub limit : IsWithin 1 16777216 (unwrap_or d.limit 8388608)
  pub levels : are_good_levels d.levels ≡ true
  pub few : length d.levels ≤ 16
  pub answers : are_good_runs d.runs ≡ true
  pub places : are_good_places d.places ≡ true
  pub jobs : are_good_jobs d.jobs ≡ true

keys_more : (holds : List (List ℕ × List ℕ)) (key bytes : List ℕ) → are_store_keys holds ≡ true → is_store_key key ≡ true → are_store_keys (holds ++ (key, bytes) ∷ []) ≡ true
keys_more [] key bytes e good = both _ _ good refl
keys_more (h ∷ holds) key bytes e good = both _ _ (left_of (is_store_key h.0) _ e) (keys_more holds key bytes (right_of (is_store_key h.0) _ e) good)

runs_more : (runs : List RunRule) (r : RunRule) → are_good_runs runs ≡ true → is_good_answer r.answer ≡ true → are_good_runs (runs ++ r ∷ []) ≡ true
runs_more [] r e good = both _ _ good refl
runs_more (x ∷ runs) r e good = both _ _ (left_of (is_good_answer x.answer) _ e) (runs_more runs r (right_of (is_good_answer x.answer) _ e) good)

places_more : (places : List PlaceRule) (r : PlaceRule) → are_good_places places ≡ true → is_chain r.chain ≡ true → are_good_places (places ++ r ∷ []) ≡ true
places_more [] r e good = both _ _ good refl
places_more (x ∷ places) r e good = both _ _ (left_of (is_chain x.chain) _ e) (places_more places r (right_of (is_chain x.chain) _ e) good)

jobs_more : (jobs : List JobRule) (r : JobRule) → are_good_jobs jobs ≡ true → is_good_dist r.answer ≡ true → are_good_jobs (jobs ++ r ∷ []) ≡ true
jobs_more [] r e good = both _ _ good refl
jobs_more (x ∷ jobs) r e good = both _ _ (left_of (is_good_dist x.answer) _ e) (jobs_more jobs r (right_of (is_good_dist x.answer) _ e) good)

levels_more : (rules : List LevelRule) (r : LevelRule) → are_good_levels rules ≡ true → is_good_level r ≡ true → are_good_levels (rules ++ r ∷ []) ≡ true
levels_more [] r e good = both _ _ good refl
levels_more (x ∷ rules) r e good = both _ _ (left_of (is_good_level x) _ e) (levels_more rules r (right_of (is_good_level x) _ e) good)

levels_changed : (rules : List LevelRule) (l : ℕ) (f : LevelRule → LevelRule) → ((r : LevelRule) → is_good_level r ≡ true → is_good_level (f r) ≡ true) → are_good_levels rules ≡ true → are_good_levels (changed rules l f) ≡ true
levels_changed [] l f keeps e = e
levels_changed (x ∷ rules) zero f keeps e = both _ _ (keeps x (left_of (is_good_level x) _ e)) (right_of (is_good_level x) _ e)
levels_changed (x ∷ rules) (suc l) f keeps e = both _ _ (left_of (is_good_level x) _ e) (levels_changed rules l f keeps (right_of (is_good_level x) _ e))

length-changed : (rules : List LevelRule) (l : ℕ) (f : LevelRule → LevelRule) → length (changed rules l f) ≡ length rules
length-changed [] l f = refl
length-changed (x ∷ rules) zero f = refl
length-changed (x ∷ rules) (suc l) f = ap (λ (n : ℕ). suc n) (length-changed rules l f)

few_changed : (rules : List LevelRule) (l : ℕ) (f : LevelRule → LevelRule) → length rules ≤ 16 → length (changed rules l f) ≤ 16
few_changed rules l f few = rw (length-changed rules l f) few

one_key : (r : LevelRule) (key bytes : List ℕ) → is_store_key key ≡ true → is_good_level r ≡ true → is_good_level (with_key key bytes r) ≡ true
one_key r key bytes good e = keys_more r.holds key bytes e good

few_more : (rules : List LevelRule) (r : LevelRule) → nat_lt (length rules) 16 ≡ true → length (rules ++ r ∷ []) ≤ 16
few_more rules r test = rw (length-append rules (r ∷ [])) (omega (arith, lt_of_test (length rules) 16 test))

-- a level that the lines so far take
new_level : (d e : Draft) (l : LevelLine) → GoodDraft d → with_level d l ≡ Some e → GoodDraft e
unfolding with_level
new_level d e l g is = by_only (d.begun && takes_level d l) _ e
    (λ test same.
    let takes = right_of d.begun (takes_level d l) test in
    let room = nat_lt (length d.levels) 16 in
    let few = left_of room (fits_word (policy_name d) l.policy) takes in
    subst GoodDraft same (record {
      tokens = g.tokens;
      limit = g.limit;
      levels = levels_more d.levels (rule_of l) g.levels refl;
      few = few_more d.levels (rule_of l) few;
      answers = g.answers;
      places = g.places;
      jobs = g.jobs;
    })) is

-- one more line
stays : (d made e : Draft) (b : Bool) → GoodDraft made → only_if b made ≡ Some e → GoodDraft e
stays d made e b g is = by_only b made e (λ test same. subst GoodDraft same g) is

pub good_step : (d e : Draft) (l : Line) → GoodDraft d → GoodLine l → with_line d l ≡ Some e → GoodDraft e
unfolding with_line with_version with_connections with_tokens with_limit with_policy with_hold with_fail with_tool with_run with_key_step with_place with_job with_bytes with_read with_serve with_back with_pass
good_step d e Version g good is = stays d _ e _ (record { tokens = g.tokens; limit = g.limit; levels = g.levels; few = g.few; answers = g.answers; places = g.places; jobs = g.jobs }) is
good_step d e (Connections n) g good is = stays d _ e _ (record { tokens = g.tokens; limit = g.limit; levels = g.levels; few = g.few; answers = g.answers; places = g.places; jobs = g.jobs }) is
good_step d e (Tokens n) g good is = stays d _ e _ (record { tokens = good; limit = g.limit; levels = g.levels; few = g.few; answers = g.answers; places = g.places; jobs = g.jobs }) is
good_step d e (Limit n) g good is = stays d _ e _ (record { tokens = g.tokens; limit = good; levels = g.levels; few = g.few; answers = g.answers; places = g.places; jobs = g.jobs }) is
good_step d e (Policy name) g good is = stays d _ e _ (record { tokens = g.tokens; limit = g.limit; levels = g.levels; few = g.few; answers = g.answers; places = g.places; jobs = g.jobs }) is
good_step d e (Level l) g good is = new_level d e l g is
good_step d e (Hold h) g good is = stays d _ e _ (record { tokens = g.tokens; limit = g.limit; levels = levels_changed d.levels h.level (with_key h.key h.bytes) (λ r. one_key r h.key h.bytes good) g.levels; few = few_changed d.levels h.level (with_key h.key h.bytes) g.few; answers = g.answers; places = g.places; jobs = g.jobs }) is
good_step d e (Fail level call) g good is = stays d _ e _ (record { tokens = g.tokens; limit = g.limit; levels = levels_changed d.levels level (with_call call) (λ r kept. kept) g.levels; few = few_changed d.levels level (with_call call) g.few; answers = g.answers; places = g.places; jobs = g.jobs }) is
good_step d e (Tool tool) g good is = stays d _ e _ (record { tokens = g.tokens; limit = g.limit; levels = g.levels; few = g.few; answers = g.answers; places = g.places; jobs = g.jobs }) is
good_step d e (Run run) g good is = stays d _ e _ (record { tokens = g.tokens; limit = g.limit; levels = g.levels; few = g.few; answers = runs_more d.runs run g.answers good; places = g.places; jobs = g.jobs }) is
good_step d e (KeyStep line) g good is = stays d _ e _ (record { tokens = g.tokens; limit = g.limit; levels = g.levels; few = g.few; answers = g.answers; places = g.places; jobs = g.jobs }) is
good_step d e (Place rule) g good is = stays d _ e _ (record { tokens = g.tokens; limit = g.limit; levels = g.levels; few = g.few; answers = g.answers; places = places_more d.places rule g.places good; jobs = g.jobs }) is
good_step d e (Job rule) g good is = stays d _ e _ (record { tokens = g.tokens; limit = g.limit; levels = g.levels; few = g.few; answers = g.answers; places = g.places; jobs = jobs_more d.jobs rule g.jobs good }) is
good_step d e (Bytes c bytes) g good is = stays d _ e _ (record { tokens = g.tokens; limit = g.limit; levels = g.levels; few = g.few; answers = g.answers; places = g.places; jobs = g.jobs }) is
good_step d e (Ask c request) g good is = stays d _ e _ (record { tokens = g.tokens; limit = g.limit; levels = g.levels; few = g.few; answers = g.answers; places = g.places; jobs = g.jobs }) is
good_step d e (Read c n) g good is = stays d _ e _ (record { tokens = g.tokens; limit = g.limit; levels = g.levels; few = g.few; answers = g.answers; places = g.places; jobs = g.jobs }) is
good_step d e (Back n) g good is = stays d _ e _ (record { tokens = g.tokens; limit = g.limit; levels = g.levels; few = g.few; answers = g.answers; places = g.places; jobs = g.jobs }) is
good_step d e (Pass n) g good is = stays d _ e _ (record { tokens = g.tokens; limit = g.limit; levels = g.levels; few = g.few; answers = g.answers; places = g.places; jobs = g.jobs }) is
good_step d e (Serve c times) g good is = stays d _ e _ (record { tokens = g.tokens; limit = g.limit; levels = g.levels; few = g.few; answers = g.answers; places = g.places; jobs = g.jobs }) is

good_text : (d e : Draft) (line : List ℕ) → GoodDraft d → with_text d line ≡ Some e → GoodDraft e
unfolding with_text
good_text d e line g is = by_then (line_of_words (words_of line)) _ e (λ l told. good_step d e l g (good_line (words_of line) l told)) is

one_of : (name : PolicyName) (n : ℕ) (words : List LevelPolicy) → has_its_levels name n ≡ true → policy_of name n words ≡ Single → n ≡ 1
one_of named.Single n words one e = eq_of_test n 1 one
one_of named.Ignore n words one e = absurd (cc)
one_of named.L0 n words one e = absurd (cc)
one_of named.All n words one e = absurd (cc)
one_of named.Levels n words one e = absurd (cc)

good_from : (d : Draft) → GoodDraft d → has_its_levels (policy_name d) (length d.levels) ≡ true → IsGood (script_from d)
good_from d g one = record {
  some_tokens = le_of_test 1 (unwrap_or d.tokens 1) (left_of (nat_le 1 (unwrap_or d.tokens 1)) _ g.tokens);
  few_tokens = le_of_test (unwrap_or d.tokens 1) 65535 (right_of (nat_le 1 (unwrap_or d.tokens 1)) _ g.tokens);
  some_limit = le_of_test 1 (unwrap_or d.limit 8388608) (left_of (nat_le 1 (unwrap_or d.limit 8388608)) _ g.limit);
  small_limit = le_of_test (unwrap_or d.limit 8388608) 16777216 (right_of (nat_le 1 (unwrap_or d.limit 8388608)) _ g.limit);
  levels = g.levels;
  few_levels = g.few;
  one_level = one_of (policy_name d) (length d.levels) d.words one;
  answers = g.answers;
  places = g.places;
  jobs = g.jobs;
}

ok-injective : {A E : Type 0} (x y : A) → (◌≡◌ {A = Result A E}) (Ok x) (Ok y) → x ≡ y
ok-injective x y e = cc

good_end : (n : ℕ) (d : Draft) (s : Script) → GoodDraft d → finished n d ≡ Ok s → IsGood s
good_end n d s g e = by_test (d.begun && has_its_levels (policy_name d) (length d.levels)) _ _ _ (λ test same. subst IsGood (ok-injective (script_from d) s same) (good_from d g (right_of d.begun _ test))) (λ same. absurd (cc)) e

by_go : {P : Type 0} (n : ℕ) (o : Option Draft) (rest : Draft → Result Script ℕ) (s : Script) → ((d : Draft) → o ≡ Some d → rest d ≡ Ok s → P) → go_on n o rest ≡ Ok s → P
by_go n None rest s f e = absurd (cc)
by_go n (Some d) rest s f e = f d refl e

good_lines : (all : Bool) (n : ℕ) (d : Draft) (parts : List (List ℕ)) (s : Script) → GoodDraft d → lines_from all n d parts ≡ Ok s → IsGood s
good_lines all n d [] s g e = absurd (cc)
good_lines all n d (part ∷ parts) s g e = by_test (length parts == 0) _ _ _
    (λ last is. by_test (all && length part == 0) _ _ _ (λ empty. good_end n d s g) (λ same. absurd (cc)) is)
    (λ is. by_go n (with_text d part) _ s (λ f told. good_lines all (n + 1) f parts s (good_text d f part g told)) is) e

pub good_nothing : GoodDraft nothing
good_nothing = record { tokens = refl; limit = refl; levels = refl; few = lit≤ tt; answers = refl; places = refl; jobs = refl }

by_good : (r : Result Script ℕ) (s : Script) → good r ≡ Some s → r ≡ Ok s
by_good (Ok x) s e = ap (λ (y : Script). Ok y) (some_same x s e)
by_good (Err n) s e = absurd (cc)

pub good_script : (bytes : List ℕ) (s : Script) → script_of bytes ≡ Some s → IsGood s
unfolding script_of reading_of
good_script bytes s e = good_lines (nat_le (length bytes) most) 1 nothing (parts_of (take most bytes)) s good_nothing (by_good _ s e)
