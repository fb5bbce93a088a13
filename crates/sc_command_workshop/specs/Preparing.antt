-- How a compile's command sets up the command that runs it.
use Rattle.std.specs.Prelude.{◌≡◌, ℕ, ◌⊎◌, Bool, true, false, List, [], ◌∷◌, Option, Some, None, Result, Ok, Err, option_map}
use Rattle.sc_entry.specs.Causes.{IfTold}
use Rattle.sc_command.specs.Settings.{MayShare, fresh_setting, with_folder, with_jobserver, with_nothing, with_stderr, with_stdin, with_stdout, with_variable}
use Rattle.sc_command.specs.declared.refusal.NewCommandError.{NewCommandError}
use Rattle.sc_command.specs.declared.refusal.NewCommandError.TheVariants.{NoMemory, NoChild}
use Rattle.sc_command.specs.declared.setting.Setting.{Setting}
use Rattle.sc_command.specs.declared.setting.StdioMode.TheVariants.{Null, Piped}
use Rattle.sc_model.specs.declared.command.SingleCompileCommand.{SingleCompileCommand}
use Rattle.sc_model.specs.declared.message.Variable.{Variable}

-- the variables set one after the other
abbrev pub with_each : List Variable → Setting → Setting
with_each [] s = s
with_each (v ∷ vs) s = with_each vs (with_variable v.name v.value s)

-- its own variables alone, its folder, nothing to read, and both outputs to be collected
abbrev pub set_up : SingleCompileCommand → Setting → Setting
set_up c s = with_stderr Piped (with_stdout Piped (with_stdin Null (with_folder c.cwd (with_each c.env_vars (with_nothing s)))))

-- make's tokens are shared where that is asked and can be
abbrev pub Shares : Bool → Option Setting → Option Setting → Type 0
Shares true old new = MayShare old new
Shares false old new = new ≡ old

-- the same of a setting that is told
abbrev pub MayShareOf : Bool → Setting → Setting → Type 0
MayShareOf true old new = (new ≡ with_jobserver old) ⊎ (new ≡ old)
MayShareOf false old new = new ≡ old

-- A compile's command sets up another.
abbrev pub SetsUp : SingleCompileCommand → Option Setting → Option Setting → Type 0
SetsUp c old new = Shares c.share_jobserver (option_map (set_up c) old) new

-- A fresh command with a compile's words, set up by it: what it tells of its arguments and of what it runs in.
abbrev pub IsMade : SingleCompileCommand → Option (List (List ℕ)) → Option Setting → Type 0
IsMade c words setting = IfTold words (λ ws. ws ≡ c.arguments) × IfTold setting (λ s. MayShareOf c.share_jobserver (set_up c (fresh_setting c.executable)) s)

-- the command that was made keeps the plan of the first, and where that tells its arguments, has these
abbrev pub Keeps : {C P : Type 0} → (C → P) → (C → Option (List (List ℕ))) → List (List ℕ) → C → C → Type 0
Keeps plan told words first made = (plan made ≡ plan first) × IfTold (told first) (λ ws. told made ≡ Some words)

-- A creator that tells its commands gave the first, and keeps the others; where memory ran out it may have kept the
-- first too. It refused exactly where none was left.
abbrev pub Prepares : {C : Type 0} → (C → C → Type 0) → Option (List C) → Result C NewCommandError → Option (List C) → Type 0
Prepares keeps None result after = after ≡ None
Prepares keeps (Some []) (Ok made) after = ⊥
Prepares keeps (Some []) (Err error) after = after ≡ Some []
Prepares keeps (Some (first ∷ rest)) (Ok made) after = keeps first made × (after ≡ Some rest)
Prepares keeps (Some (first ∷ rest)) (Err NoMemory) after = (after ≡ Some rest) ⊎ (after ≡ Some (first ∷ rest))
Prepares keeps (Some (first ∷ rest)) (Err NoChild) after = ⊥
