-- The script that is drawn from a number.
use Rattle.std.specs.Prelude.{ℕ, zero, suc, ◌*◌, ◌%◌, nat_lt, if◌then◌else◌, List, [], ◌∷◌, ◌++◌, replicate, codes}
use Rattle.sc_compile.specs.declared.tool.Tool.{Tool}
use Rattle.sc_compile.specs.declared.tool.ToolKind.TheVariants.{Compiler}
use Rattle.sc_compile_language.specs.declared.compiler_kind.CCompilerKind.TheVariants.{Gcc}
use Rattle.sc_compile_language.specs.declared.compiler_kind.CompilerKind.TheVariants.{C}
use Rattle.sc_entry.specs.declared.cache_mode.CacheMode.TheVariants.{ReadWrite}
use Rattle.sc_main_drawn.specs.Keys.{compile, run}
use Rattle.sc_main_generate.specs.Draws as draws
use Rattle.sc_main_generate.specs.Generated.{after}
use Rattle.sc_main_script.specs.Frames.{frame_of}
use Rattle.sc_main_script.specs.Inputs.{appended}
use Rattle.sc_main_script.specs.declared.level_rule.LevelRule.{LevelRule}
use Rattle.sc_main_script.specs.declared.run_rule.RunRule.{RunRule}
use Rattle.sc_main_script.specs.declared.script.Script.{Script}
use Rattle.sc_model.specs.declared.event.Step.{Step}
use Rattle.sc_model.specs.declared.event.Step.TheVariants.{Back, Read, Serve}
use Rattle.sc_model.specs.declared.level.LevelKind.{LevelKind}
use Rattle.sc_model.specs.declared.level.LevelKind.TheVariants.{Disk, Remote}
use Rattle.sc_model.specs.declared.level.LevelPolicy.TheVariants.{Required}
use Rattle.sc_model.specs.declared.level.Policy.{Policy}
use Rattle.sc_model.specs.declared.level.Policy.TheVariants.{Levels}

-- a level that may be written, holds nothing and refuses nothing
abbrev pub level : LevelKind → ℕ → LevelRule
level kind capacity = record { kind = kind; capacity = capacity; mode = ReadWrite; holds = []; fails = [] }

-- a disk level of two thousand bytes, and a remote one
abbrev pub levels : List LevelRule
levels = level Disk 2000 ∷ level Remote 0 ∷ []

-- the first is written before the answer, the other later
abbrev pub policy : Policy
policy = Levels (Required ∷ [])

abbrev pub tool : Tool
tool = record { path = codes "/cc"; moment = 1; kind = Compiler (C Gcc) }

-- so many runs, from this key on
abbrev pub runs : ℕ → ℕ → List RunRule
runs zero k = []
runs (suc n) k = run k ∷ runs n (suc k)

-- one more compile on a connection
abbrev pub asked : List (List ℕ) → ℕ → ℕ → List (List ℕ)
asked inputs c k = appended inputs c (frame_of (compile k))

-- so many compiles, from this one on, each under a key that is drawn, on four connections in turn
abbrev pub asks : ℕ → ℕ → ℕ → List (List ℕ) → List (List ℕ)
asks zero i x inputs = inputs
asks (suc n) i x inputs = asks n (suc i) (draws.next x) (asked inputs (i % 4) (draws.drawn (draws.next x) % 50))

abbrev pub read : ℕ → Step
read c = Read c 1000000

abbrev pub serve : ℕ → Step
serve c = Serve c

abbrev pub back : Step
back = Back 0

-- all bytes of the four connections
abbrev pub reads : List Step
reads = read 0 ∷ read 1 ∷ read 2 ∷ read 3 ∷ []

-- below four a connection is served, else a handed write goes on
abbrev pub step_of : ℕ → Step
step_of n = if nat_lt n 4 then serve n else back

-- so many steps that are drawn
abbrev pub drawn_steps : ℕ → ℕ → List Step
drawn_steps zero x = []
drawn_steps (suc n) x = step_of (draws.drawn (draws.next x) % 5) ∷ drawn_steps n (draws.next x)

-- each connection is served so often
abbrev pub round : ℕ → List Step
round times = replicate times (serve 0) ++ replicate times (serve 1) ++ replicate times (serve 2) ++ replicate times (serve 3)

-- the steps of the script of a number, whose compiles' draws left this state
abbrev pub steps : ℕ → ℕ → List Step
steps n x = reads ++ drawn_steps (40 * n) x ++ round (20 * n) ++ round (20 * n) ++ replicate (20 * n) back

-- the whole
unfoldable pub drawn_script : ℕ → Script
drawn_script n = record {
  inputs = asks n 0 n (replicate 4 []);
  tokens = 2;
  limit = 8388608;
  policy = policy;
  levels = levels;
  tools = tool ∷ [];
  runs = runs 50 0;
  keys = [];
  places = [];
  jobs = [];
  steps = steps n (after n n);
}
