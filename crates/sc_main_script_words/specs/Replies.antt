-- How replies are printed, a line each.
use Rattle.std.specs.Prelude.{ℕ, List, ◌++◌, Option, Some, None, Result, Ok, Err, Bool, true, false, codes}
use Rattle.sc_model.specs.declared.message.ColorMode.{ColorMode}
use Rattle.sc_model.specs.declared.message.ColorMode.TheVariants.{Off, On, Auto}
use Rattle.sc_model.specs.declared.message.CompileFinished.{CompileFinished as Finished}
use Rattle.sc_model.specs.declared.message.CompileResponse.{CompileResponse}
use Rattle.sc_model.specs.declared.message.CompileResponse.TheVariants.{CompileStarted, UnhandledCompile, UnsupportedCompiler}
use Rattle.sc_entry.specs.declared.get_path_result.GetPathResult.{GetPathResult}
use Rattle.sc_entry.specs.declared.get_path_result.GetPathResult.TheVariants.{Found, Miss, Unsupported}
use Rattle.sc_model.specs.declared.message.Response.{Response}
use Rattle.sc_model.specs.declared.message.Response.TheVariants.{Compile, ZeroStats, Stats, DistStatus, ShuttingDown, CompileFinished, StorageHandshake, StorageGetPath, StorageGetRaw, StoragePutRaw, StorageGetPreprocessorEntry, StoragePutPreprocessorEntry, RecordStats, ArtifactNotification}
use Rattle.sc_main_script_words.specs.Tokens.{printed, token_of}
use Rattle.sc_main_script_words.specs.Numbers.{number_text}

-- a line of a name and bytes
abbrev pub bytes_line : Bool → List ℕ → List ℕ → List ℕ
bytes_line spaces name bytes = name ++ codes " " ++ printed spaces bytes ++ codes "\n"

-- a name and a token, a name and a token with spaces
abbrev pub data_line : List ℕ → List ℕ → List ℕ
data_line name bytes = bytes_line false name bytes

abbrev pub text_line : List ℕ → List ℕ → List ℕ
text_line name bytes = bytes_line true name bytes

unfoldable pub color_line : ColorMode → List ℕ
color_line Off = codes "off\n"
color_line On = codes "on\n"
color_line Auto = codes "auto\n"

-- the code and the signal
abbrev pub ending_words : Finished → List ℕ
ending_words f = number_text f.retcode ++ codes " " ++ number_text f.signal ++ codes " "

abbrev pub output_words : Finished → List ℕ
output_words f = token_of f.stdout ++ codes " " ++ token_of f.stderr ++ codes " "

unfoldable pub finished_line : Finished → List ℕ
finished_line f = codes "finished " ++ ending_words f ++ output_words f ++ color_line f.color_mode

unfoldable pub compile_line : CompileResponse → List ℕ
compile_line CompileStarted = codes "started\n"
compile_line UnhandledCompile = codes "unhandled\n"
compile_line (UnsupportedCompiler message) = text_line (codes "unsupported") message

unfoldable pub path_line : GetPathResult → List ℕ
path_line (Found path) = data_line (codes "path found") path
path_line Miss = codes "path miss\n"
path_line Unsupported = codes "path unsupported\n"

unfoldable pub raw_line : Option (List ℕ) → List ℕ
raw_line None = codes "raw none\n"
raw_line (Some bytes) = data_line (codes "raw") bytes

unfoldable pub put_line : Result (Unit {0}) (List ℕ) → List ℕ
put_line (Ok u) = codes "put ok\n"
put_line (Err text) = text_line (codes "put err") text

unfoldable pub pre_line : Result (Option (List ℕ)) (List ℕ) → List ℕ
pre_line (Ok None) = codes "pre none\n"
pre_line (Ok (Some bytes)) = data_line (codes "pre") bytes
pre_line (Err text) = text_line (codes "pre err") text

unfoldable pub pre_put_line : Result (Unit {0}) (List ℕ) → List ℕ
pre_put_line (Ok u) = codes "pre-put ok\n"
pre_put_line (Err text) = text_line (codes "pre-put err") text

-- a reply's line, with its line feed
unfoldable pub reply_line : Response → List ℕ
reply_line (Compile response) = compile_line response
reply_line ZeroStats = codes "zero-stats\n"
reply_line (Stats info) = codes "stats\n"
reply_line (DistStatus info) = codes "dist-status\n"
reply_line (ShuttingDown info) = codes "shutting-down\n"
reply_line (CompileFinished f) = finished_line f
reply_line (StorageHandshake info) = codes "handshake\n"
reply_line (StorageGetPath found) = path_line found
reply_line (StorageGetRaw found) = raw_line found
reply_line (StoragePutRaw answer) = put_line answer
reply_line (StorageGetPreprocessorEntry found) = pre_line found
reply_line (StoragePutPreprocessorEntry answer) = pre_put_line answer
reply_line RecordStats = codes "recorded\n"
reply_line (ArtifactNotification bytes) = data_line (codes "note") bytes
