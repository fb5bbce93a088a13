-- Words that name one of a few choices.
use Rattle.std.specs.Prelude.{ℕ, List, Option, Some, None, if◌then◌else◌, codes, bytes_eq}
use Rattle.sc_compile.specs.declared.tool.ToolKind.{ToolKind}
use Rattle.sc_compile.specs.declared.tool.ToolKind.TheVariants.{Compiler, NotACompiler}
use Rattle.sc_compile_language.specs.declared.compiler_kind.CCompilerKind.TheVariants.{Clang, Gcc, Nvcc}
use Rattle.sc_compile_language.specs.declared.compiler_kind.CompilerKind.TheVariants.{C, Rust}
use Rattle.sc_entry.specs.declared.cache_mode.CacheMode.{CacheMode}
use Rattle.sc_entry.specs.declared.cache_mode.CacheMode.TheVariants.{ReadOnly, ReadWrite}
use Rattle.sc_main_script.specs.declared.job_rule.JobOutcome.{JobOutcome}
use Rattle.sc_main_script.specs.declared.job_rule.JobOutcome.TheVariants as job
use Rattle.sc_main_script.specs.declared.policies.PolicyName.{PolicyName}
use Rattle.sc_main_script.specs.declared.policies.PolicyName.TheVariants as named
use Rattle.sc_model.specs.declared.level.LevelKind.{LevelKind}
use Rattle.sc_model.specs.declared.level.LevelKind.TheVariants.{Disk, Remote}
use Rattle.sc_model.specs.declared.level.LevelPolicy.{LevelPolicy}
use Rattle.sc_model.specs.declared.level.LevelPolicy.TheVariants.{Background, Off, Required}

-- which compiler a tool is, if it is one
unfoldable pub kind_of : List ℕ → Option ToolKind
kind_of word =
    if bytes_eq word (codes "gcc") then Some (Compiler (C Gcc))
    else if bytes_eq word (codes "clang") then Some (Compiler (C Clang))
    else if bytes_eq word (codes "rust") then Some (Compiler Rust)
    else if bytes_eq word (codes "nvcc") then Some (Compiler (C Nvcc))
    else if bytes_eq word (codes "none") then Some NotACompiler
    else None

-- how the levels are written
unfoldable pub policy_name_of : List ℕ → Option PolicyName
policy_name_of word =
    if bytes_eq word (codes "single") then Some named.Single
    else if bytes_eq word (codes "ignore") then Some named.Ignore
    else if bytes_eq word (codes "l0") then Some named.L0
    else if bytes_eq word (codes "all") then Some named.All
    else if bytes_eq word (codes "levels") then Some named.Levels
    else None

-- when one level is written
unfoldable pub level_policy_of : List ℕ → Option LevelPolicy
level_policy_of word =
    if bytes_eq word (codes "required") then Some Required
    else if bytes_eq word (codes "background") then Some Background
    else if bytes_eq word (codes "off") then Some Off
    else None

-- what a level is
unfoldable pub level_kind_of : List ℕ → Option LevelKind
level_kind_of word =
    if bytes_eq word (codes "disk") then Some Disk
    else if bytes_eq word (codes "remote") then Some Remote
    else None

-- what a distributed job comes to
unfoldable pub outcome_of : List ℕ → Option JobOutcome
outcome_of word =
    if bytes_eq word (codes "done") then Some job.Done
    else if bytes_eq word (codes "http") then Some job.Http
    else if bytes_eq word (codes "large") then Some job.Large
    else if bytes_eq word (codes "other") then Some job.Other
    else None

-- whether a level may be written
unfoldable pub mode_of : List ℕ → Option CacheMode
mode_of word =
    if bytes_eq word (codes "rw") then Some ReadWrite
    else if bytes_eq word (codes "ro") then Some ReadOnly
    else None
