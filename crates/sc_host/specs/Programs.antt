-- How the system runs a command's program.
use Rattle.std.specs.Prelude.{◌≡◌, ℕ, Bool, ◌||◌, List, fold, codes, bytes_eq, cond, Option, Some, None, Result, Ok, Err, All}
use Rattle.std.specs.Str.{IsUtf8}
use Rattle.std.specs.Process.{command_program, command_args, command_var, command_dir, clears_env}
use Rattle.std.specs.declared.process.command.Command.{Command}
use Rattle.sc_command.specs.Variables.{Named}
use Rattle.sc_command.specs.declared.setting.Setting.{Setting}
use Rattle.sc_command.specs.declared.refusal.SpawnError.{SpawnError}
use Rattle.sc_command.specs.declared.refusal.SpawnError.TheVariants.{NoMemory, SpawnFault}

-- the variables by which make and cargo hand their own tokens down
abbrev pub is_jobserver_variable : List ℕ → Bool
is_jobserver_variable name = bytes_eq name (codes "MAKEFLAGS") || (bytes_eq name (codes "MFLAGS") || bytes_eq name (codes "CARGO_MAKEFLAGS"))

-- what is said of a variable after these were set: `Some (Some value)` where it is set
abbrev pub said : List ℕ → Option (Option (List ℕ)) → Named → Option (Option (List ℕ))
said name before vars = fold (λ so p. cond (bytes_eq p.0 name) (Some (Some p.1)) so) before vars

-- a variable that a child doesn't get: nothing is said of it where the child gets nothing of this process's environment,
-- else it is removed (`Some None`)
abbrev pub removed : Bool → Option (Option (List ℕ))
removed clears = cond clears None (Some None)

-- what a child is told of a variable: make's and cargo's are removed, whoever set them; else what was set last
abbrev pub child_variable : Setting → List ℕ → Option (Option (List ℕ))
child_variable s name = cond (is_jobserver_variable name) (removed s.clears) (said name None s.variables)

-- The system's command has the program, the arguments in order, the folder, and each variable as the child is told it.
pub record Runs (s : Setting) (words : List (List ℕ)) {A : Type 0} (c : Command A) : Type 0 where
  pub program : command_program c ≡ s.program
  pub arguments : command_args c ≡ words
  pub clears : clears_env c ≡ s.clears
  pub variables : (name : List ℕ) → command_var c name ≡ child_variable s name
  pub folder : command_dir c ≡ s.folder

-- a folder that is named in UTF-8, or none
abbrev pub IsNamedFolder : Option (List ℕ) → Type 0
IsNamedFolder None = Unit {0}
IsNamedFolder (Some folder) = IsUtf8 folder

-- a variable whose name and value are UTF-8
abbrev pub IsTextPair : List ℕ × List ℕ → Type 0
IsTextPair p = IsUtf8 p.0 × IsUtf8 p.1

-- the program and its arguments are UTF-8
abbrev pub IsTextCall : List ℕ → List (List ℕ) → Type 0
IsTextCall program words = IsUtf8 program × All IsUtf8 words

-- so are the variables and the folder
abbrev pub IsTextPlace : Named → Option (List ℕ) → Type 0
IsTextPlace variables folder = All IsTextPair variables × IsNamedFolder folder

-- every word that the system is to take is UTF-8
abbrev pub AreTexts : Setting → List (List ℕ) → Type 0
AreTexts s words = IsTextCall s.program words × IsTextPlace s.variables s.folder

-- A command as the system takes it; refused exactly where a word isn't UTF-8. Want of memory is free.
abbrev pub SystemAnswer : Setting → List (List ℕ) → {A : Type 0} → Result (Command A) SpawnError → Type 0
SystemAnswer s words (Ok c) = Runs s words c × AreTexts s words
SystemAnswer s words (Err NoMemory) = Unit {0}
SystemAnswer s words (Err SpawnFault) = AreTexts s words → ⊥
