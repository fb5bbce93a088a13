-- What a line says, kind by kind.
use Rattle.std.specs.Prelude.{ℕ, ◌-◌, ◌^◌, List, [], ◌∷◌, Option, Some, None, if◌then◌else◌, codes, bytes_eq}
use Rattle.sc_compile.specs.declared.key_line.KeyRefusal.TheVariants.{Fault as KeyFault, ProcessError as KeyError}
use Rattle.sc_model.specs.declared.event.DistAnswer.{DistAnswer}
use Rattle.sc_model.specs.declared.event.DistAnswer.TheVariants.{Done, Http, Other, TooLarge}
use Rattle.sc_model.specs.declared.event.Objects.TheVariants.{Collected}
use Rattle.sc_model.specs.declared.event.RunAnswer.TheVariants.{Fault, Output, ProcessError}
use Rattle.sc_model.specs.declared.level.LevelKind.{LevelKind}
use Rattle.sc_model.specs.declared.level.LevelKind.TheVariants.{Disk, Remote}
use Rattle.sc_model.specs.declared.level.LevelPolicy.{LevelPolicy}
use Rattle.sc_words.specs.Words.{Reader, word}
use Rattle.sc_words.specs.Words.{◌>>=◌ as ◌then◌}
use Rattle.sc_words.specs.Readers.{◌>>=◌, gives, field}
use Rattle.sc_main_script_words.specs.Outputs.{chain_words, no_names, objects_onto, output_words}
use Rattle.sc_main_script_words.specs.Requests.{request_words}
use Rattle.sc_main_script_words.specs.Fields.{number_of, number_in, bytes_of_token, text_of_token, store_key_of, hex_of}
use Rattle.sc_main_script.specs.Choices.{kind_of, policy_name_of, level_policy_of, outcome_of, level_kind_of, mode_of}
use Rattle.sc_main_script.specs.declared.job_rule.JobOutcome.{JobOutcome}
use Rattle.sc_main_script.specs.declared.job_rule.JobOutcome.TheVariants as job
use Rattle.sc_main_script.specs.declared.line.Line.{Line}
use Rattle.sc_main_script.specs.declared.line.Line.TheVariants.{Version, Connections, Tokens, Limit, Policy, Level, Hold, Fail, Tool, Run, KeyStep, Place, Job, Bytes, Ask, Read, Serve, Back, Pass}
use Rattle.sc_main_script.specs.declared.lines.Keyword.{Keyword}
use Rattle.sc_main_script.specs.declared.lines.Keyword.TheVariants as at

-- script 1
unfoldable pub version_line : Reader Line
version_line = do
  n ← field (number_in 1 1)
  gives Version

-- conns N
unfoldable pub connections_line : Reader Line
connections_line = do
  n ← field (number_in 0 1024)
  gives (Connections n)

-- tokens N
unfoldable pub tokens_line : Reader Line
tokens_line = do
  n ← field (number_in 1 65535)
  gives (Tokens n)

-- limit N
unfoldable pub limit_line : Reader Line
limit_line = do
  n ← field (number_in 1 16777216)
  gives (Limit n)

-- policy NAME
unfoldable pub policy_line : Reader Line
policy_line = do
  name ← field policy_name_of
  gives (Policy name)

-- a disk level's kind is followed by its capacity
unfoldable pub capacity_words : LevelKind → Reader ℕ
capacity_words Disk = field number_of
capacity_words Remote = gives 0

-- a level's own policy, which may be absent
unfoldable pub own_policy : Reader (Option LevelPolicy)
own_policy [] = Some (None, [])
own_policy (w ∷ ws) = level_policy_of w then (λ p. Some (Some p, ws))

-- level disk CAP MODE [POLICY], level remote MODE [POLICY]
unfoldable pub level_line : Reader Line
level_line = do
  kind ← field level_kind_of
  capacity ← capacity_words kind
  mode ← field mode_of
  policy ← own_policy
  gives (Level (record { kind = kind; capacity = capacity; mode = mode; policy = policy }))

-- hold L KEY DATA
unfoldable pub hold_line : Reader Line
hold_line = do
  level ← field number_of
  key ← field store_key_of
  bytes ← field bytes_of_token
  gives (Hold (record { level = level; key = key; bytes = bytes }))

-- fail L N
unfoldable pub fail_line : Reader Line
fail_line = do
  level ← field number_of
  call ← field number_of
  gives (Fail level call)

-- tool PATH MOMENT KIND
unfoldable pub tool_line : Reader Line
tool_line = do
  path ← field bytes_of_token
  moment ← field number_of
  kind ← field kind_of
  gives (Tool (record { path = path; moment = moment; kind = kind }))

-- run KEY STATUS OUT ERR PAIR..
unfoldable pub run_line : Reader Line
run_line = do
  key ← field text_of_token
  output ← output_words
  objects ← objects_onto [] no_names
  gives (Run (record { key = key; answer = Output (record { output = output; objects = Collected objects }) }))

-- run-error KEY STATUS OUT ERR
unfoldable pub run_error_line : Reader Line
run_error_line = do
  key ← field text_of_token
  output ← output_words
  gives (Run (record { key = key; answer = ProcessError output }))

-- run-fault KEY TEXT..
unfoldable pub run_fault_line : Reader Line
run_fault_line = do
  key ← field text_of_token
  chain ← chain_words
  gives (Run (record { key = key; answer = Fault chain }))

-- key-error KEY STATUS OUT ERR
unfoldable pub key_error_line : Reader Line
key_error_line = do
  key ← field text_of_token
  output ← output_words
  gives (KeyStep (record { key = key; refusal = KeyError output }))

-- key-fault KEY TEXT..
unfoldable pub key_fault_line : Reader Line
key_fault_line = do
  key ← field text_of_token
  chain ← chain_words
  gives (KeyStep (record { key = key; refusal = KeyFault chain }))

-- place-fault KEY TEXT..
unfoldable pub place_fault_line : Reader Line
place_fault_line = do
  key ← field text_of_token
  chain ← chain_words
  gives (Place (record { key = key; chain = chain }))

-- SERVER STATUS OUT ERR PAIR..
unfoldable pub done_words : Reader DistAnswer
done_words = do
  server ← field text_of_token
  output ← output_words
  objects ← objects_onto [] no_names
  gives (Done server (record { output = output; objects = Collected objects }))

-- what a distributed job comes to: done, or a text
unfoldable pub job_words : JobOutcome → Reader DistAnswer
job_words job.Done = done_words
job_words job.Http = do
  text ← field text_of_token
  gives (Http text)
job_words job.Large = do
  text ← field text_of_token
  gives (TooLarge text)
job_words job.Other = do
  text ← field text_of_token
  gives (Other text)

-- dist KEY done SERVER STATUS OUT ERR PAIR.., dist KEY http TEXT, dist KEY large TEXT, dist KEY other TEXT
unfoldable pub dist_line : Reader Line
dist_line = do
  key ← field text_of_token
  outcome ← field outcome_of
  answer ← job_words outcome
  gives (Job (record { key = key; answer = answer }))

-- bytes C HEX
unfoldable pub bytes_line : Reader Line
bytes_line = do
  connection ← field number_of
  bytes ← field hex_of
  gives (Bytes connection bytes)

-- ask C REQUEST
unfoldable pub ask_line : Reader Line
ask_line = do
  connection ← field number_of
  request ← request_words
  gives (Ask connection request)

-- read C N
unfoldable pub read_line : Reader Line
read_line = do
  connection ← field number_of
  most ← field (number_in 1 (2 ^ 64 - 1))
  gives (Read connection most)

-- serve C [K]
unfoldable pub times_of : Reader ℕ
times_of [] = Some (1, [])
times_of (w ∷ ws) = number_in 1 (2 ^ 64 - 1) w then (λ n. Some (n, ws))

unfoldable pub serve_line : Reader Line
serve_line = do
  connection ← field number_of
  times ← times_of
  gives (Serve connection times)

-- back I
unfoldable pub back_line : Reader Line
back_line = do
  write ← field number_of
  gives (Back write)

-- pass T
unfoldable pub pass_line : Reader Line
pass_line = do
  time ← field number_of
  gives (Pass time)

-- a line's first word says its kind
unfoldable pub step_keyword : List ℕ → Option Keyword
step_keyword w =
    if bytes_eq w (codes "bytes") then Some at.Bytes
    else if bytes_eq w (codes "ask") then Some at.Ask
    else if bytes_eq w (codes "read") then Some at.Read
    else if bytes_eq w (codes "serve") then Some at.Serve
    else if bytes_eq w (codes "back") then Some at.Back
    else if bytes_eq w (codes "pass") then Some at.Pass
    else None

-- what a compile, a placing or a job comes to
unfoldable pub answer_keyword : List ℕ → Option Keyword
answer_keyword w =
    if bytes_eq w (codes "run") then Some at.Run
    else if bytes_eq w (codes "run-error") then Some at.RunError
    else if bytes_eq w (codes "run-fault") then Some at.RunFault
    else if bytes_eq w (codes "key-error") then Some at.KeyError
    else if bytes_eq w (codes "key-fault") then Some at.KeyFault
    else if bytes_eq w (codes "place-fault") then Some at.PlaceFault
    else if bytes_eq w (codes "dist") then Some at.Dist
    else step_keyword w

unfoldable pub keyword_of : List ℕ → Option Keyword
keyword_of w =
    if bytes_eq w (codes "script") then Some at.Version
    else if bytes_eq w (codes "conns") then Some at.Connections
    else if bytes_eq w (codes "tokens") then Some at.Tokens
    else if bytes_eq w (codes "limit") then Some at.Limit
    else if bytes_eq w (codes "policy") then Some at.Policy
    else if bytes_eq w (codes "level") then Some at.Level
    else if bytes_eq w (codes "hold") then Some at.Hold
    else if bytes_eq w (codes "fail") then Some at.Fail
    else if bytes_eq w (codes "tool") then Some at.Tool
    else answer_keyword w

unfoldable pub body : Keyword → Reader Line
body at.Version = version_line
body at.Connections = connections_line
body at.Tokens = tokens_line
body at.Limit = limit_line
body at.Policy = policy_line
body at.Level = level_line
body at.Hold = hold_line
body at.Fail = fail_line
body at.Tool = tool_line
body at.Run = run_line
body at.RunError = run_error_line
body at.RunFault = run_fault_line
body at.KeyError = key_error_line
body at.KeyFault = key_fault_line
body at.PlaceFault = place_fault_line
body at.Dist = dist_line
body at.Bytes = bytes_line
body at.Ask = ask_line
body at.Read = read_line
body at.Serve = serve_line
body at.Back = back_line
body at.Pass = pass_line

-- no word is left over
abbrev pub whole : Option (Line × List (List ℕ)) → Option Line
whole None = None
whole (Some (line, [])) = Some line
whole (Some (line, w ∷ ws)) = None

unfoldable pub line_of_words : List (List ℕ) → Option Line
line_of_words ws = word ws then (λ p. keyword_of p.0 then (λ k. whole (body k p.1)))
