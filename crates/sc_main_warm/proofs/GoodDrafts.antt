-- What holds of all that a script of warm says.
use Rattle.std.proofs.Common.{◌≡◌, ℕ, ◌+◌, Bool, true, ◌&&◌, ◌==◌, nat_le, List, [], ◌∷◌, ◌++◌, length, take, Option, Some, None, Result, Ok, subst, refl, codes}
use Rattle.std.specs.Prelude.{bytes_eq}
use Rattle.sc_main_script.proofs.GoodLines.{GoodLine, good_line}
use Rattle.sc_main_script.proofs.GoodScripts.{GoodDraft, good_nothing, good_step}
use Rattle.sc_main_script.specs.Goods.{are_good_levels, are_store_keys, is_good_level}
use Rattle.sc_main_script.specs.Lines.{line_of_words}
use Rattle.sc_main_script.specs.Parts.{parts_of}
use Rattle.sc_main_script.specs.Scripts.{most, with_line as with_script_line}
use Rattle.sc_main_script.specs.declared.draft.Draft.{Draft}
use Rattle.sc_main_script.specs.declared.level_rule.LevelRule.{LevelRule}
use Rattle.sc_main_script.specs.declared.line.Line.{Line}
use Rattle.sc_main_script_words.proofs.Tests.{by_test, by_then, left_of, right_of, some_same}
use Rattle.sc_main_warm.specs.Drafts.{has_both, key_of_words, may_stand, no_lines, of_levels, with_key, with_line, with_script}
use Rattle.sc_main_warm.specs.Texts.{go_on, lines_from, warm_said, with_text}
use Rattle.sc_main_warm.specs.declared.warm_draft.WarmDraft.{WarmDraft}
use Rattle.sc_main_warm.specs.declared.warm_script.WarmScript.{WarmScript}
use Rattle.sc_words.specs.Lines.{words_of}
use Rattle.sc_words.specs.Words.{word}

-- the lines so far are good lines of a script
abbrev IsGood : WarmDraft → Type 0
IsGood d = GoodDraft d.script

-- both levels hold store keys alone
pub record HoldKeys (w : WarmScript) : Type 0 where
  pub from : are_store_keys w.from.holds ≡ true
  pub to : are_store_keys w.to.holds ≡ true

by_script : (d e : WarmDraft) (o : Option Draft) → ((s : Draft) → o ≡ Some s → GoodDraft s) → with_script d o ≡ Some e → IsGood e
by_script d e None good is = absurd (cc)
by_script d e (Some s) good is = subst IsGood (some_same (record d { script = s }) e is) (good s refl)

good_added : (d e : WarmDraft) (l : Line) → IsGood d → GoodLine l → with_line d l ≡ Some e → IsGood e
unfolding with_line
good_added d e l g good is =
    by_test (may_stand d l) _ _ _ (λ test. by_script d e (with_script_line d.script l) (λ s told. good_step d.script s l g good told)) (λ same. absurd (cc)) is

good_key : (d e : WarmDraft) (ws : List (List ℕ)) → IsGood d → with_key d ws ≡ Some e → IsGood e
unfolding with_key
good_key d e ws g is =
    by_test (has_both d) _ _ _ (λ test. by_then (key_of_words ws) _ e (λ key told same. subst IsGood (some_same (record d { keys = d.keys ++ key ∷ [] }) e same) g)) (λ same. absurd (cc)) is

good_text : (d e : WarmDraft) (line : List ℕ) → IsGood d → with_text d line ≡ Some e → IsGood e
unfolding with_text
good_text d e line g is =
    by_then (word (words_of line)) _ e (λ p first.
    by_test (bytes_eq p.0 (codes "key")) _ _ _ (λ test. good_key d e p.1 g) (by_then (line_of_words (words_of line)) _ e (λ l told. good_added d e l g (good_line (words_of line) l told)))) is

by_ok : {A E P : Type 0} (x y : A) → (x ≡ y → P) → (◌≡◌ {A = Result A E}) (Ok x) (Ok y) → P
by_ok x y f e = f (cc)

good_levels : (n : ℕ) (levels : List LevelRule) (keys : List (List ℕ)) (w : WarmScript) → are_good_levels levels ≡ true → of_levels n levels keys ≡ Ok w → HoldKeys w
good_levels n [] keys w g e = absurd (cc)
good_levels n (from ∷ []) keys w g e = absurd (cc)
good_levels n (from ∷ to ∷ []) keys w g e =
    by_ok _ w (λ same. subst HoldKeys same (record { from = left_of (is_good_level from) _ g; to = left_of (is_good_level to) _ (right_of (is_good_level from) _ g) })) e
good_levels n (from ∷ to ∷ third ∷ levels) keys w g e = absurd (cc)

by_go : {P : Type 0} (n : ℕ) (o : Option WarmDraft) (rest : WarmDraft → Result WarmScript ℕ) (w : WarmScript) → ((d : WarmDraft) → o ≡ Some d → rest d ≡ Ok w → P) → go_on n o rest ≡ Ok w → P
by_go n None rest w f e = absurd (cc)
by_go n (Some d) rest w f e = f d refl e

good_lines : (all : Bool) (n : ℕ) (d : WarmDraft) (parts : List (List ℕ)) (w : WarmScript) → IsGood d → lines_from all n d parts ≡ Ok w → HoldKeys w
good_lines all n d [] w g e = absurd (cc)
good_lines all n d (part ∷ parts) w g e = by_test (length parts == 0) _ _ _
    (λ last is. by_test (all && length part == 0) _ _ _ (λ empty. good_levels n d.script.levels d.keys w g.levels) (λ same. absurd (cc)) is)
    (λ is. by_go n (with_text d part) _ w (λ f told. good_lines all (n + 1) f parts w (good_text d f part g told)) is) e

-- what is read holds store keys alone
pub good_warm : (bytes : List ℕ) (w : WarmScript) → warm_said bytes ≡ Ok w → HoldKeys w
unfolding warm_said
good_warm bytes w e = good_lines (nat_le (length bytes) most) 1 no_lines (parts_of (take most bytes)) w good_nothing e
