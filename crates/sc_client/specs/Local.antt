-- A compile's command that a client runs itself.
use Rattle.std.specs.Prelude.{◌≡◌, ◌⊎◌, ℕ, ℤ, pos, Bool, true, false, List, [], ◌∷◌, ◌++◌, codes, Option, Some, None, Result, Ok, Err}
use Rattle.std.specs.Fmt.{signed_decimal}
use Rattle.sc_compile.specs.Plain.{PlainArguments, arguments}
use Rattle.sc_command.specs.Children.{Content, GivesOutput}
use Rattle.sc_command.specs.Settings.{fresh_setting, with_folder, with_stderr, with_stdout}
use Rattle.sc_command.specs.declared.output.Output.{Output}
use Rattle.sc_command.specs.declared.refusal.CommandError.{CommandError}
use Rattle.sc_command.specs.declared.refusal.CommandError.TheVariants as command_errors
use Rattle.sc_command.specs.declared.refusal.CommandRefusal.{CommandRefusal}
use Rattle.sc_command.specs.declared.refusal.CommandRefusal.TheVariants.{Spent, SpawnFault, WaitFault}
use Rattle.sc_command.specs.declared.refusal.NewCommandError.{NewCommandError}
use Rattle.sc_command.specs.declared.refusal.NewCommandError.TheVariants as new_command_errors
use Rattle.sc_command.specs.declared.refusal.SpawnError.{SpawnError}
use Rattle.sc_command.specs.declared.refusal.SpawnError.TheVariants as spawn_errors
use Rattle.sc_command.specs.declared.setting.Setting.{Setting}
use Rattle.sc_command.specs.declared.setting.StdioMode.TheVariants.{Piped}
use Rattle.sc_entry.specs.Causes.{IfTold, Rose}
use Rattle.sc_client.specs.declared.client_error.ClientError.{ClientError}
use Rattle.sc_client.specs.declared.client_error.ClientError.TheVariants.{NoMemory, NoChild, Command}

-- ---- what is run

abbrev pub words_behind : Option PlainArguments → List (List ℕ) → List (List ℕ)
words_behind None words = words
words_behind (Some a) words = a.words

-- The words behind `--` where all the words are a compile as the plain compiler reads them, else all of them as they are.
abbrev pub local_words : List (List ℕ) → List (List ℕ)
local_words words = words_behind (arguments words) words

-- whether the streams of the command are collected: where notifications were written before
abbrev pub collects : List (List ℕ) → Bool
collects [] = false
collects (n ∷ ns) = true

abbrev pub collecting : Bool → Setting → Setting
collecting true s = with_stderr Piped (with_stdout Piped s)
collecting false s = s

-- a program in a folder and this process's environment, with its streams or collected ones
abbrev pub local_setting : List ℕ → List ℕ → Bool → Setting
local_setting program folder collected = collecting collected (with_folder folder (fresh_setting program))

-- what a command tells of itself
abbrev pub IsMade : List ℕ → List (List ℕ) → List ℕ → Bool → Option (List (List ℕ)) → Option Setting → Type 0
IsMade program words folder collected told_words told_setting =
    IfTold told_words (λ ws. ws ≡ words) × IfTold told_setting (λ s. s ≡ local_setting program folder collected)

-- ---- what it comes to

-- A child that the command may give ended so, and wrote this where that is collected.
abbrev pub Gave : {C : Type 0} → Bool → (Result C SpawnError → Type 0) → (C → Option Content) → Output → Type 0
Gave {C} true gives content output = (child : C) × gives (Ok child) × IfTold (content child) (λ c. (Some output.status ≡ c.ending) × (output.stdout ≡ c.stdout) × (output.stderr ≡ c.stderr))
Gave {C} false gives content output = (child : C) × gives (Ok child) × IfTold (content child) (λ c. Some output.status ≡ c.ending)

-- nothing is collected where the streams are this process's
abbrev pub IsBare : Bool → Output → Type 0
IsBare true output = Unit {0}
IsBare false output = (output.stdout ≡ []) × (output.stderr ≡ [])

-- the output of a child that tells, where its streams are collected or not
abbrev pub GivesAs : {F : Type 0} → Bool → Content → Result Output (CommandError F) → Type 0
GivesAs true c result = GivesOutput c result
GivesAs false c (Ok output) = Some output.status ≡ c.ending
GivesAs false c (Err command_errors.NoMemory) = Unit {0}
GivesAs false c (Err (command_errors.Fault fault)) = c.ending ≡ None

-- A spawn was refused that may be, or the wait of a child that may be.
abbrev pub MayRefuse : {C : Type 0} → (Result C SpawnError → Type 0) → (C → Option Content) → CommandRefusal → Type 0
MayRefuse gives content Spent = ⊥
MayRefuse gives content SpawnFault = gives (Err spawn_errors.SpawnFault)
MayRefuse {C} gives content WaitFault = (child : C) × gives (Ok child) × IfTold (content child) (λ c. c.ending ≡ None)

-- what a spawned command comes to
abbrev pub CameOf : {C F : Type 0} → Bool → (Result C SpawnError → Type 0) → (C → Option Content) → (F → CommandRefusal) → Result Output (CommandError F) → Type 0
CameOf collected gives content why (Ok output) = Gave collected gives content output
CameOf collected gives content why (Err command_errors.NoMemory) = Unit {0}
CameOf collected gives content why (Err (command_errors.Fault fault)) = MayRefuse gives content (why fault)

-- what a client makes of that
abbrev pub Tells : {F : Type 0} → (F → CommandRefusal) → Result Output (CommandError F) → Result Output ClientError → Type 0
Tells why (Ok output) result = result ≡ Ok output
Tells why (Err command_errors.NoMemory) result = result ≡ Err NoMemory
Tells why (Err (command_errors.Fault fault)) result = result ≡ Err (Command (why fault))

-- what a client's command comes to
abbrev pub Comes : {C : Type 0} → Bool → (Result C SpawnError → Type 0) → (C → Option Content) → Result Output ClientError → Type 0
Comes collected gives content (Ok output) = Gave collected gives content output × IsBare collected output
Comes collected gives content (Err (Command refusal)) = MayRefuse gives content refusal
Comes collected gives content (Err error) = ⊥

-- A creator that tells its commands gave its first, and keeps the others.
abbrev pub TakesFirst : {C : Type 0} → (C → Type 0) → Option (List C) → Option (List C) → Type 0
TakesFirst keeps None after = after ≡ None
TakesFirst keeps (Some []) after = ⊥
TakesFirst keeps (Some (first ∷ rest)) after = keeps first × (after ≡ Some rest)

-- the first may be gone, where there is one
abbrev pub MayTake : {C : Type 0} → Option (List C) → Option (List C) → Type 0
MayTake None after = after ≡ None
MayTake (Some []) after = after ≡ Some []
MayTake (Some (first ∷ rest)) after = (after ≡ Some rest) ⊎ (after ≡ Some (first ∷ rest))

-- A creator made a command. keeps: what that has of the first command of those that are told; made: what it is.
abbrev pub Prepares : {C : Type 0} → (C → C → Type 0) → (C → Type 0) → Option (List C) → Result C NewCommandError → Option (List C) → Type 0
Prepares keeps made before (Ok command) after = made command × TakesFirst (λ first. keeps first command) before after
Prepares keeps made before (Err new_command_errors.NoMemory) after = MayTake before after
Prepares keeps made before (Err new_command_errors.NoChild) after = (after ≡ before) × IfTold before (λ queue. queue ≡ [])

-- One command of a creator was made, spawned and waited for. It refused exactly where it tells that none is left. After want of
-- memory the first command may be gone.
abbrev pub RunsOne : {C : Type 0} → (C → C → Type 0) → (C → Result Output ClientError → Type 0) → Option (List C) → Result Output ClientError → Option (List C) → Type 0
RunsOne {C} keeps ran before (Ok output) after = (command : C) × ran command (Ok output) × TakesFirst (λ first. keeps first command) before after
RunsOne {C} keeps ran before (Err (Command refusal)) after = (command : C) × ran command (Err (Command refusal)) × TakesFirst (λ first. keeps first command) before after
RunsOne keeps ran before (Err NoMemory) after = MayTake before after
RunsOne keeps ran before (Err NoChild) after = (after ≡ before) × IfTold before (λ queue. queue ≡ [])
RunsOne keeps ran before (Err error) after = ⊥

-- what a command goes by is that of the creator's first
abbrev pub KeepsPlan : {C P : Type 0} → (C → P) → C → C → Type 0
KeepsPlan plan first command = plan command ≡ plan first

-- A command of this program, with these words, in this folder, was run: where it tells its words it came to what they may come to.
pub record Ran {C D P : Type 0} (gives : P → List (List ℕ) → Result D SpawnError → Type 0) (plan : C → P) (told : C → Option (List (List ℕ))) (setting : C → Option Setting) (content : D → Option Content) (program : List ℕ) (words : List (List ℕ)) (folder : List ℕ) (collected : Bool) (command : C) (came : Result Output ClientError) : Type 0 where
  pub made : IsMade program words folder collected (told command) (setting command)
  pub ended : IfTold (told command) (λ ws. Comes collected (gives (plan command) words) content came)

-- The creator's count rises where it, its command or its child refused, and nowhere else.
abbrev pub RunCause : ℕ → ℕ → Result Output ClientError → Type 0
RunCause before now (Err NoChild) = Rose before now
RunCause before now (Err (Command refusal)) = Rose before now
RunCause before now result = now ≡ before

-- ---- what is told of its end

-- its code, and 2 where it has none
abbrev pub local_status : Option ℤ → ℤ
local_status (Some code) = code
local_status None = pos 2

-- a line on the signal that ended it
abbrev pub local_line : Option ℤ → Option ℤ → List ℕ
local_line (Some code) signal = []
local_line None (Some signal) = codes "sccache: Compile terminated by signal " ++ (signed_decimal signal ++ codes "\n")
local_line None None = []
