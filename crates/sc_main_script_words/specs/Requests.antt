-- The requests that a line may ask.
use Rattle.std.specs.Prelude.{ℕ, List, [], ◌∷◌, ◌++◌, Option, Some, None, if◌then◌else◌, codes, bytes_eq}
use Rattle.sc_model.specs.declared.message.Request.{Request}
use Rattle.sc_model.specs.declared.message.Request.TheVariants.{Compile, DistStatus, GetStats, Shutdown, StorageGetPath, StorageGetPreprocessorEntry, StorageGetRaw, StorageHandshake, StoragePutPreprocessorEntry, StoragePutRaw, ZeroStats}
use Rattle.sc_model.specs.declared.message.Variable.{Variable}
use Rattle.sc_words.specs.Words.{Reader}
use Rattle.sc_words.specs.Words.{◌>>=◌ as ◌then◌}
use Rattle.sc_words.specs.Readers.{◌>>=◌, gives, field}
use Rattle.sc_main_script_words.specs.Fields.{bytes_of_token, text_of_token, variable_of}
use Rattle.sc_main_script_words.specs.Records.{record_request}
use Rattle.sc_main_script_words.specs.declared.requests.RequestKind.{RequestKind}
use Rattle.sc_main_script_words.specs.declared.requests.RequestKind.TheVariants as kind

-- tokens of all words that are left, behind those so far
abbrev pub tokens_onto : List (List ℕ) → Reader (List (List ℕ))
tokens_onto sofar [] = Some (sofar, [])
tokens_onto sofar (w ∷ ws) = bytes_of_token w then (λ x. tokens_onto (sofar ++ x ∷ []) ws)

-- variables up to the word --, which is taken too
abbrev pub variables_onto : List Variable → Reader (List Variable)
variables_onto sofar [] = None
variables_onto sofar (w ∷ ws) =
    if bytes_eq w (codes "--") then Some (sofar, ws)
    else variable_of w then (λ x. variables_onto (sofar ++ x ∷ []) ws)

-- compile EXE CWD PAIR.. -- WORD..
unfoldable pub compile_request : Reader Request
compile_request = do
  exe ← field bytes_of_token
  cwd ← field bytes_of_token
  env_vars ← variables_onto []
  args ← tokens_onto []
  gives (Compile (record { exe = exe; cwd = cwd; args = args; env_vars = env_vars }))

-- get-path KEY, where any text is a key
unfoldable pub get_path_request : Reader Request
get_path_request = do
  key ← field text_of_token
  gives (StorageGetPath key)

-- get-raw KEY
unfoldable pub get_raw_request : Reader Request
get_raw_request = do
  key ← field text_of_token
  gives (StorageGetRaw key)

-- put-raw KEY DATA
unfoldable pub put_raw_request : Reader Request
put_raw_request = do
  key ← field text_of_token
  bytes ← field bytes_of_token
  gives (StoragePutRaw key bytes)

-- get-pre KEY
unfoldable pub get_pre_request : Reader Request
get_pre_request = do
  key ← field text_of_token
  gives (StorageGetPreprocessorEntry key)

-- put-pre KEY DATA, where any bytes are asked to be put
unfoldable pub put_pre_request : Reader Request
put_pre_request = do
  key ← field text_of_token
  bytes ← field bytes_of_token
  gives (StoragePutPreprocessorEntry key bytes)

-- a request's first word says its kind
unfoldable pub request_kind : List ℕ → Option RequestKind
request_kind w =
    if bytes_eq w (codes "compile") then Some kind.Compile
    else if bytes_eq w (codes "get-path") then Some kind.GetPath
    else if bytes_eq w (codes "get-raw") then Some kind.GetRaw
    else if bytes_eq w (codes "put-raw") then Some kind.PutRaw
    else if bytes_eq w (codes "get-pre") then Some kind.GetPre
    else if bytes_eq w (codes "put-pre") then Some kind.PutPre
    else if bytes_eq w (codes "zero-stats") then Some kind.ZeroStats
    else if bytes_eq w (codes "get-stats") then Some kind.GetStats
    else if bytes_eq w (codes "handshake") then Some kind.Handshake
    else if bytes_eq w (codes "dist-status") then Some kind.DistStatus
    else if bytes_eq w (codes "record") then Some kind.Record
    else if bytes_eq w (codes "shutdown") then Some kind.Shutdown
    else None

unfoldable pub request_body : RequestKind → Reader Request
request_body kind.Compile = compile_request
request_body kind.GetPath = get_path_request
request_body kind.GetRaw = get_raw_request
request_body kind.PutRaw = put_raw_request
request_body kind.GetPre = get_pre_request
request_body kind.PutPre = put_pre_request
-- zero-stats, get-stats, handshake, dist-status and shutdown have no further word
request_body kind.ZeroStats = gives ZeroStats
request_body kind.GetStats = gives GetStats
request_body kind.Handshake = gives StorageHandshake
request_body kind.DistStatus = gives DistStatus
request_body kind.Record = record_request
request_body kind.Shutdown = gives Shutdown

unfoldable pub request_words : Reader Request
request_words = do
  k ← field request_kind
  request_body k
