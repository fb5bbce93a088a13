-- What the caller hands in, and what its parts tell: bytes, limits, levels, policy, compiler part, texts.
use Rattle.std.specs.Prelude.{◌≡◌, ℕ, ◌<◌, Bool, true, false, ◌||◌, List, [], ◌∷◌, ◌++◌, length, Option, slice_index_or, codes, bytes_eq}
use Rattle.sc_compile_language.specs.declared.compiler_kind.CCompilerKind.TheVariants.{Gcc, Nvcc}
use Rattle.sc_compile_language.specs.declared.compiler_kind.CompilerKind.TheVariants.{C as KindC}
use Rattle.sc_model.specs.declared.event.DistAnswer.{DistAnswer}
use Rattle.sc_model.specs.declared.event.KeyStep.{KeyStep}
use Rattle.sc_compile_language.specs.declared.language.Language.TheVariants.{C as LanguageC, Cuda}
use Rattle.sc_entry.specs.declared.object.Object.{Object}
use Rattle.sc_model.specs.declared.event.Parsed.{Parsed}
use Rattle.sc_model.specs.declared.event.RunAnswer.{RunAnswer}
use Rattle.sc_model.specs.declared.event.Task.{Task}
use Rattle.sc_entry.specs.declared.object.FileObjectSource.{FileObjectSource}
use Rattle.sc_model.specs.declared.level.LevelFacts.{LevelFacts}
use Rattle.sc_model.specs.declared.level.Policy.{Policy}
use Rattle.sc_model.specs.declared.level.Policy.TheVariants.{Levels, Single}
use Rattle.sc_model.specs.declared.message.ColorMode.{ColorMode}
use Rattle.sc_model.specs.declared.message.Compile.{Compile as CompileRequest}
use Rattle.sc_model.specs.declared.message.Request.{Request}
use Rattle.sc_model.specs.declared.message.Request.TheVariants.{Compile}
use Rattle.sc_model.specs.declared.message.Response.{Response}
use Rattle.sc_model.specs.declared.message.Variable.{Variable}
use Rattle.sc_stats.specs.declared.counters.DistInfo.{DistInfo}
use Rattle.sc_stats.specs.declared.counters.LevelStats.{LevelStats}
use Rattle.sc_stats.specs.declared.counters.ServerStats.{ServerStats}

-- how a connection ends
pub data End : Type 0 where
  IsOpen : End
  IsEnded : End
  EndInFrame : End
  BadFrame : End
  ReplyTooLong : (size : ℕ) → End

-- the requests that bytes spell, and their end; closed: no more come
pub record Reader : Type 0 where
  pub requests : List ℕ → List Request
  -- the bytes behind the last whole good frame
  pub rest : List ℕ → List ℕ
  pub ends : List ℕ → Bool → End

-- bytes can be read as they come
pub record ReadsOn (r : Reader) : Type 0 where
  pub none : r.requests [] ≡ []
  pub nothing : r.rest [] ≡ []
  pub requests : (b more : List ℕ) → r.requests (b ++ more) ≡ r.requests b ++ r.requests (r.rest b ++ more)
  pub rest : (b more : List ℕ) → r.rest (b ++ more) ≡ r.rest (r.rest b ++ more)
  pub ends : (b : List ℕ) (closed : Bool) → r.ends b closed ≡ r.ends (r.rest b) closed

-- spellings of replies and entries
pub record Codec : Type 0 where
  pub payload : Response → List ℕ
  pub entry : List Object → List ℕ
  pub objects : List ℕ → Option (List Object)

-- which control a key step gets
pub data Control : Type 0 where
  Default : Control
  ForceNoCache : Control
  ForceRecache : Control

-- what the compiler part, the probe and the validity test tell
pub record Compilers : Type 0 where
  -- the reading of a compile's words by the compiler that the probe finds, or why none is found, where these tell it
  pub reads : CompileRequest → Option Parsed
  -- the key step's answer, where the compiler tells it
  pub keys : CompileRequest → Control → Option KeyStep
  pub color : CompileRequest → ColorMode
  pub pretty : CompileRequest → List ℕ
  pub is_note : CompileRequest → List ℕ → Bool
  pub is_valid : List ℕ → Bool
  -- a language's kind, and its kind with a compiler
  pub kind_text : Task → List ℕ
  pub full_text : Task → List ℕ

-- what the store tells of itself
pub record StoreFacts : Type 0 where
  pub location : List ℕ
  pub type_name : List ℕ
  pub basedirs : List (List ℕ)
  pub basedir_texts : List (List ℕ)
  pub flag : Bool
  pub max_size : Option ℕ

-- what is known of the distributed client: its scheduler's address, how a wait is told, and, where that is told, what it says of its
-- scheduler, or that it refuses to
pub record Scheduler : Type 0 where
  pub url : Option (List ℕ)
  pub retry_text : ℕ → List ℕ
  pub status : Option (Option DistInfo)

-- a daemon: how it spells, what its parts tell, its store's levels and policy, its limits
pub record Setup : Type 0 where
  pub codec : Codec
  pub compilers : Compilers
  pub scheduler : Scheduler
  -- what the workshop answers under a key, by the runs before and the outputs that are wanted, where it tells that
  pub workshop : List ℕ → Option (List (List ℕ × RunAnswer)) → List FileObjectSource → Option RunAnswer
  -- why it refuses a placing under a key, if it does, where it tells that
  pub placing : List ℕ → Option (Option (List (List ℕ)))
  -- what the distributed client answers under a key, by its jobs before and the outputs that are wanted, where it tells that
  pub dist : List ℕ → Option (List (List ℕ × DistAnswer)) → List FileObjectSource → Option DistAnswer
  pub store : StoreFacts
  pub levels : List LevelFacts
  pub policy : Policy
  pub tokens : ℕ
  pub limit : ℕ

-- what a drive is given: a daemon, each connection's bytes with the reader that finds their requests, and the counters at the call
pub record Script : Type 0 where
  pub setup : Setup
  pub inputs : List (List ℕ)
  pub reader : Reader
  pub first : ServerStats
  pub first_levels : List LevelStats

abbrev pub input : Script → ℕ → List ℕ
input s c = slice_index_or s.inputs c []

-- a connection is there
abbrev pub HasConn : Script → ℕ → Type 0
HasConn s c = c < length s.inputs

abbrev pub is_single : Policy → Bool
is_single Single = true
is_single (Levels ps) = false

-- the names of both control variables
abbrev pub named : List ℕ → List Variable → Bool
named name [] = false
named name (v ∷ vs) = bytes_eq v.name name || named name vs

abbrev pub pick : Bool → Control → Control → Control
pick true a b = a
pick false a b = b

abbrev pub by_variables : CompileRequest → Control
by_variables c = pick (named (codes "SCCACHE_NO_CACHE") c.env_vars) ForceNoCache (pick (named (codes "SCCACHE_RECACHE") c.env_vars) ForceRecache Default)

-- the control of a key step, the first or the one again
abbrev pub control : Request → Bool → Control
control (Compile c) true = by_variables c
control (Compile c) false = ForceRecache
control _ first = Default

abbrev pub cuda_task : Bool → Task → Task
cuda_task true task = record { kind = KindC Nvcc; language = Cuda }
cuda_task false task = task

-- the kind and language that are counted
abbrev pub counted_task : Request → Task → Task
counted_task (Compile c) task = cuda_task (named (codes "__SCCACHE_THIS_IS_A_CUDA_COMPILATION__") c.env_vars) task
counted_task _ task = task

abbrev pub no_task : Task
no_task = record { kind = KindC Gcc; language = LanguageC }
