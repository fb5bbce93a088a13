-- What the lines of a script of warm say, and where each may stand.
use Rattle.std.specs.Prelude.{◌≡◌, ℕ, List, [], ◌∷◌, ◌++◌, length, Option, Some, None, Result, Ok, Err, Bool, true, false, ◌&&◌, ◌==◌, nat_lt, if◌then◌else◌}
use Rattle.sc_main_script.specs.Scripts.{nothing, with_line as with_script_line}
use Rattle.sc_main_script.specs.declared.draft.Draft.{Draft}
use Rattle.sc_main_script.specs.declared.level_rule.LevelRule.{LevelRule}
use Rattle.sc_main_script.specs.declared.line.Line.{Line}
use Rattle.sc_main_script.specs.declared.line.Line.TheVariants.{Version, Level, Hold, Fail}
use Rattle.sc_main_script.specs.declared.script.ScriptError.{ScriptError}
use Rattle.sc_main_script.specs.declared.script.ScriptError.TheVariants.{Bad, Memory}
use Rattle.sc_main_script_words.specs.Fields.{text_of_token}
use Rattle.sc_main_warm.specs.declared.warm_draft.WarmDraft.{WarmDraft}
use Rattle.sc_main_warm.specs.declared.warm_script.WarmScript.{WarmScript}
use Rattle.sc_words.specs.Words.{◌>>=◌, word}

-- before the first line
abbrev pub no_lines : WarmDraft
no_lines = record { script = nothing; keys = [] }

-- both levels are there
abbrev pub has_both : WarmDraft → Bool
has_both d = length d.script.levels == 2

-- both levels are there, and no key
abbrev pub is_between : WarmDraft → Bool
is_between d = has_both d && length d.keys == 0

-- The first line, at most two levels, and behind them what they hold and which of their calls fail. No other line of a script may
-- stand anywhere.
abbrev pub may_stand : WarmDraft → Line → Bool
may_stand d Version = true
may_stand d (Level l) = nat_lt (length d.script.levels) 2
may_stand d (Hold h) = is_between d
may_stand d (Fail level call) = is_between d
may_stand d _ = false

abbrev pub with_script : WarmDraft → Option Draft → Option WarmDraft
with_script d None = None
with_script d (Some s) = Some (record d { script = s })

-- one more line that any script may have, by the script's own rule
unfoldable pub with_line : WarmDraft → Line → Option WarmDraft
with_line d line = if may_stand d line then with_script d (with_script_line d.script line) else None

-- no word is left over
abbrev pub alone : List ℕ → List (List ℕ) → Option (List ℕ)
alone key [] = Some key
alone key (w ∷ ws) = None

-- TOKEN, whose bytes are UTF-8 and need be no store key
unfoldable pub key_of_words : List (List ℕ) → Option (List ℕ)
key_of_words ws = word ws >>= (λ p. text_of_token p.0 >>= (λ key. alone key p.1))

-- one more key, behind both levels
unfoldable pub with_key : WarmDraft → List (List ℕ) → Option WarmDraft
with_key d ws = if has_both d then key_of_words ws >>= (λ key. Some (record d { keys = d.keys ++ key ∷ [] })) else None

-- two levels and the keys; with fewer levels the line behind the last is bad
abbrev pub of_levels : ℕ → List LevelRule → List (List ℕ) → Result WarmScript ℕ
of_levels n [] keys = Err n
of_levels n (from ∷ []) keys = Err n
of_levels n (from ∷ to ∷ []) keys = Ok (record { from = from; to = to; keys = keys })
of_levels n (from ∷ to ∷ third ∷ levels) keys = Err n

abbrev pub finished : ℕ → WarmDraft → Result WarmScript ℕ
finished n d = of_levels n d.script.levels d.keys

-- what reading answers: the script, or the first bad line, unless memory ran out
abbrev pub Answers : Result WarmScript ℕ → Result WarmScript ScriptError → Type 0
Answers said (Ok w) = said ≡ Ok w
Answers said (Err Memory) = Unit {0}
Answers said (Err (Bad n)) = said ≡ Err n
