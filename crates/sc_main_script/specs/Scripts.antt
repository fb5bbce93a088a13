-- When a script is good, what it says, and which of its lines is the first bad one.
use Rattle.std.specs.Prelude.{◌≡◌, ℕ, ◌+◌, List, [], ◌∷◌, ◌++◌, length, take, replicate, Option, Some, None, is_none, Result, Ok, Err, Bool, true, false, not, ◌&&◌, ◌==◌, nat_lt, nat_le, if◌then◌else◌, unwrap_or, option_to_list, codes, decimal}
use Rattle.std.specs.FinMap as map
use Rattle.sc_main_script.specs.declared.run_rule.RunRule.{RunRule}
use Rattle.sc_compile.specs.declared.tool.Tool.{Tool as Told}
use Rattle.sc_entry.specs.Tally.{count_of, counted}
use Rattle.sc_model.specs.declared.event.Step.TheVariants.{Back as BackStep, Read as ReadStep, Serve as ServeStep, Pass as PassStep}
use Rattle.sc_words.specs.Words.{◌>>=◌, only_if}
use Rattle.sc_words.specs.Lines.{words_of}
use Rattle.sc_main_script.specs.Parts.{parts_of}
use Rattle.sc_main_script.specs.Lines.{line_of_words}
use Rattle.sc_main_script.specs.Inputs.{appended}
use Rattle.sc_main_script.specs.Frames.{frame_of}
use Rattle.sc_main_script.specs.Levels.{changed, fits_word, has_its_levels, policy_of, rule_of, with_call, with_key}
use Rattle.sc_compile.specs.declared.key_line.KeyLine.{KeyLine}
use Rattle.sc_main_script.specs.declared.job_rule.JobRule.{JobRule}
use Rattle.sc_main_script.specs.declared.line.HoldLine.{HoldLine}
use Rattle.sc_main_script.specs.declared.line.LevelLine.{LevelLine}
use Rattle.sc_main_script.specs.declared.line.Line.{Line}
use Rattle.sc_main_script.specs.declared.line.Line.TheVariants.{Version, Connections, Tokens, Limit, Policy, Level, Hold, Fail, Tool, Run, KeyStep, Place, Job, Bytes, Ask, Read, Serve, Back, Pass}
use Rattle.sc_main_script.specs.declared.draft.Draft.{Draft}
use Rattle.sc_main_script.specs.declared.place_rule.PlaceRule.{PlaceRule}
use Rattle.sc_main_script.specs.declared.policies.PolicyName.{PolicyName}
use Rattle.sc_main_script.specs.declared.policies.PolicyName.TheVariants as named
use Rattle.sc_main_script.specs.declared.script.Script.{Script}
use Rattle.sc_main_script.specs.declared.script.ScriptError.{ScriptError}
use Rattle.sc_main_script.specs.declared.script.ScriptError.TheVariants.{Memory, Bad}

-- before the first line
abbrev pub nothing : Draft
nothing = record {
  begun = false;
  started = false;
  connected = false;
  tokens = None;
  limit = None;
  policy = None;
  words = [];
  levels = [];
  held = map.empty;
  tools = [];
  runs = [];
  keys = [];
  places = [];
  jobs = [];
  inputs = [];
  steps = [];
}

abbrev pub is_level : ℕ → Draft → Bool
is_level level d = nat_lt level (length d.levels)

abbrev pub is_connection : ℕ → Draft → Bool
is_connection c d = nat_lt c (length d.inputs)

-- a script has at most ten million steps, each repeat counted
abbrev pub has_room : ℕ → Draft → Bool
has_room times d = nat_le (length d.steps + times) 10000000

-- a setting stands before the first input and the first step
abbrev pub may_set : Draft → Bool
may_set d = d.begun && not d.started

-- the name under which a level's key is counted
unfoldable pub held_name : ℕ → List ℕ → List ℕ
held_name level key = decimal level ++ codes " " ++ key

-- script 1 is the first line, and no other
unfoldable pub with_version : Draft → Option Draft
with_version d = only_if (not d.begun) (record d { begun = true })

unfoldable pub with_connections : Draft → ℕ → Option Draft
with_connections d n = only_if (may_set d && not d.connected) (record d { connected = true; inputs = replicate n [] })

unfoldable pub with_tokens : Draft → ℕ → Option Draft
with_tokens d n = only_if (may_set d && is_none d.tokens) (record d { tokens = Some n })

unfoldable pub with_limit : Draft → ℕ → Option Draft
with_limit d n = only_if (may_set d && is_none d.limit) (record d { limit = Some n })

-- how the levels are written, where no line says it yet
abbrev pub policy_name : Draft → PolicyName
policy_name d = unwrap_or d.policy named.Single

-- that each level has a policy of its own is said before the first level
abbrev pub is_in_time : PolicyName → Draft → Bool
is_in_time named.Levels d = length d.levels == 0
is_in_time _ d = true

unfoldable pub with_policy : Draft → PolicyName → Option Draft
with_policy d name = only_if (may_set d && is_none d.policy && is_in_time name d) (record d { policy = Some name })

-- at most sixteen levels
abbrev pub takes_level : Draft → LevelLine → Bool
takes_level d l = nat_lt (length d.levels) 16 && fits_word (policy_name d) l.policy

unfoldable pub with_level : Draft → LevelLine → Option Draft
with_level d l =
    only_if (d.begun && takes_level d l)
    (record d { levels = d.levels ++ rule_of l ∷ []; words = d.words ++ option_to_list l.policy })

-- a key that the level doesn't hold yet
unfoldable pub with_hold : Draft → HoldLine → Option Draft
with_hold d h =
    only_if (d.begun && is_level h.level d && count_of d.held (held_name h.level h.key) == 0)
    (record d { held = counted d.held (held_name h.level h.key) 1; levels = changed d.levels h.level (with_key h.key h.bytes) })

unfoldable pub with_fail : Draft → ℕ → ℕ → Option Draft
with_fail d level call = only_if (d.begun && is_level level d) (record d { levels = changed d.levels level (with_call call) })

unfoldable pub with_tool : Draft → Told → Option Draft
with_tool d tool = only_if d.begun (record d { tools = d.tools ++ tool ∷ [] })

unfoldable pub with_run : Draft → RunRule → Option Draft
with_run d run = only_if d.begun (record d { runs = d.runs ++ run ∷ [] })

unfoldable pub with_key_step : Draft → KeyLine → Option Draft
with_key_step d line = only_if d.begun (record d { keys = d.keys ++ line ∷ [] })

unfoldable pub with_place : Draft → PlaceRule → Option Draft
with_place d rule = only_if d.begun (record d { places = d.places ++ rule ∷ [] })

unfoldable pub with_job : Draft → JobRule → Option Draft
with_job d rule = only_if d.begun (record d { jobs = d.jobs ++ rule ∷ [] })

-- bytes that come on a connection that is there
unfoldable pub with_bytes : Draft → ℕ → List ℕ → Option Draft
with_bytes d c bytes = only_if (d.begun && is_connection c d) (record d { inputs = appended d.inputs c bytes; started = true })

-- a step on a connection that is there, so many times
unfoldable pub with_read : Draft → ℕ → ℕ → Option Draft
with_read d c most =
    only_if (d.begun && is_connection c d && has_room 1 d)
    (record d { steps = d.steps ++ ReadStep c most ∷ []; started = true })

unfoldable pub with_serve : Draft → ℕ → ℕ → Option Draft
with_serve d c times =
    only_if (d.begun && is_connection c d && has_room times d)
    (record d { steps = d.steps ++ replicate times (ServeStep c); started = true })

-- a step at a write in the background, which needn't be there
unfoldable pub with_back : Draft → ℕ → Option Draft
with_back d write = only_if (d.begun && has_room 1 d) (record d { steps = d.steps ++ BackStep write ∷ []; started = true })

-- a step that lets time pass
unfoldable pub with_pass : Draft → ℕ → Option Draft
with_pass d time = only_if (d.begun && has_room 1 d) (record d { steps = d.steps ++ PassStep time ∷ []; started = true })

-- one more line, where it may stand there
unfoldable pub with_line : Draft → Line → Option Draft
with_line d Version = with_version d
with_line d (Connections n) = with_connections d n
with_line d (Tokens n) = with_tokens d n
with_line d (Limit n) = with_limit d n
with_line d (Policy name) = with_policy d name
with_line d (Level l) = with_level d l
with_line d (Hold h) = with_hold d h
with_line d (Fail level call) = with_fail d level call
with_line d (Tool tool) = with_tool d tool
with_line d (Run run) = with_run d run
with_line d (KeyStep line) = with_key_step d line
with_line d (Place rule) = with_place d rule
with_line d (Job rule) = with_job d rule
with_line d (Bytes c bytes) = with_bytes d c bytes
with_line d (Ask c request) = with_bytes d c (frame_of request)
with_line d (Read c most) = with_read d c most
with_line d (Serve c times) = with_serve d c times
with_line d (Back write) = with_back d write
with_line d (Pass time) = with_pass d time

unfoldable pub with_text : Draft → List ℕ → Option Draft
with_text d line = line_of_words (words_of line) >>= (λ l. with_line d l)

-- what the lines say, with what stands where a setting is absent
abbrev pub script_from : Draft → Script
script_from d = record {
  inputs = d.inputs;
  tokens = unwrap_or d.tokens 1;
  limit = unwrap_or d.limit 8388608;
  policy = policy_of (policy_name d) (length d.levels) d.words;
  levels = d.levels;
  tools = d.tools;
  runs = d.runs;
  keys = d.keys;
  places = d.places;
  jobs = d.jobs;
  steps = d.steps;
}

-- Behind the last line: a single store is exactly one level, else the line behind the last is bad.
abbrev pub finished : ℕ → Draft → Result Script ℕ
finished n d = if d.begun && has_its_levels (policy_name d) (length d.levels) then Ok (script_from d) else Err n

abbrev pub go_on : ℕ → Option Draft → (Draft → Result Script ℕ) → Result Script ℕ
go_on n None rest = Err n
go_on n (Some d) rest = rest d

-- The lines from the nth on, behind those so far. What stands behind the last line feed is no line, so it must
-- be empty; where the script is cut off it is bad in any case.
abbrev pub lines_from : Bool → ℕ → Draft → List (List ℕ) → Result Script ℕ
lines_from whole n d [] = Err n
lines_from whole n d (part ∷ parts) =
    if length parts == 0 then (if whole && length part == 0 then finished n d else Err n)
    else go_on n (with_text d part) (λ e. lines_from whole (n + 1) e parts)

-- how many bytes a script may have
abbrev pub most : ℕ
most = 67108864

-- What a script says, or its first bad line. The line that passes the greatest length is bad.
unfoldable pub reading_of : List ℕ → Result Script ℕ
reading_of bytes = lines_from (nat_le (length bytes) most) 1 nothing (parts_of (take most bytes))

abbrev pub good : Result Script ℕ → Option Script
good (Ok s) = Some s
good (Err n) = None

abbrev pub bad : Result Script ℕ → ℕ
bad (Ok s) = 0
bad (Err n) = n

-- what a good script says
unfoldable pub script_of : List ℕ → Option Script
script_of bytes = good (reading_of bytes)

-- the first bad line, counted from 1; 0 where the script is good
unfoldable pub first_bad : List ℕ → ℕ
first_bad bytes = bad (reading_of bytes)

-- what reading answers: a good script, or the first bad line, unless memory ran out
abbrev pub Answers : Result Script ℕ → Result Script ScriptError → Type 0
Answers reading (Ok s) = reading ≡ Ok s
Answers reading (Err Memory) = Unit {0}
Answers reading (Err (Bad n)) = reading ≡ Err n

-- the same, by what a good script says and by the first bad line
abbrev pub Tells : Option Script → ℕ → Result Script ScriptError → Type 0
Tells said first (Ok s) = said ≡ Some s
Tells said first (Err Memory) = Unit {0}
Tells said first (Err (Bad n)) = (said ≡ None) × (first ≡ n)
