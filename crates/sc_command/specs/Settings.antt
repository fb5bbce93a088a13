-- How a command runs its program.
use Rattle.std.specs.Prelude.{◌≡◌, ℕ, Bool, true, false, List, [], ◌++◌, take, Option, Some, None, option_map, ◌⊎◌}
use Rattle.sc_command.specs.Variables.{Named, set_variable, set_variables}
use Rattle.sc_command.specs.declared.setting.Setting.{Setting}
use Rattle.sc_command.specs.declared.setting.StdioMode.{StdioMode}
use Rattle.sc_command.specs.declared.setting.StdioMode.TheVariants.{Inherit, Null, Piped}

-- a stream whose other end the child hands out
abbrev pub is_piped : StdioMode → Bool
is_piped Piped = true
is_piped Inherit = false
is_piped Null = false

-- a program in this process's environment, folder and streams
abbrev pub fresh_setting : List ℕ → Setting
fresh_setting program = record { program = program; variables = []; clears = false; folder = None; stdin = Inherit; stdout = Inherit; stderr = Inherit; shares_jobserver = false }

abbrev pub with_variable : List ℕ → List ℕ → Setting → Setting
with_variable name value s = record s { variables = set_variable s.variables name value }

abbrev pub with_variables : Named → Setting → Setting
with_variables vars s = record s { variables = set_variables s.variables vars }

-- nothing of this process's environment, and no variable that was set
abbrev pub with_nothing : Setting → Setting
with_nothing s = record s { variables = []; clears = true }

abbrev pub with_folder : List ℕ → Setting → Setting
with_folder folder s = record s { folder = Some folder }

abbrev pub with_stdin : StdioMode → Setting → Setting
with_stdin mode s = record s { stdin = mode }

abbrev pub with_stdout : StdioMode → Setting → Setting
with_stdout mode s = record s { stdout = mode }

abbrev pub with_stderr : StdioMode → Setting → Setting
with_stderr mode s = record s { stderr = mode }

abbrev pub with_jobserver : Setting → Setting
with_jobserver s = record s { shares_jobserver = true }

-- the flag was set, or nothing was done
abbrev pub MayShare : Option Setting → Option Setting → Type 0
MayShare old new = (new ≡ option_map with_jobserver old) ⊎ (new ≡ old)

-- the first of some words were added, maybe none or all
abbrev pub AddsFirst : List (List ℕ) → List (List ℕ) → List (List ℕ) → Type 0
AddsFirst words old new = (n : ℕ) × (new ≡ old ++ take n words)

-- the first of some variables were set, maybe none or all
abbrev pub SetsFirst : Named → Setting → Setting → Type 0
SetsFirst vars old new = (n : ℕ) × (new ≡ with_variables (take n vars) old)
