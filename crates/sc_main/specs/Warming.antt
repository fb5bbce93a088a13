-- What a program that warms by a script prints.
use Rattle.std.specs.Prelude.{◌≡◌, ℕ, List, [], ◌∷◌, ◌++◌, Result, Ok, Err, codes, decimal}
use Rattle.sc_main_memory.specs.Making.{first_held}
use Rattle.sc_main_memory.specs.Sizes.{size_of}
use Rattle.sc_main_report.specs.Report.{level_lines}
use Rattle.sc_main_script.specs.declared.level_size.LevelSize.{LevelSize}
use Rattle.sc_main_script.specs.declared.script.ScriptError.TheVariants.{Bad, Memory}
use Rattle.sc_main_script.specs.declared.script.ScriptError.{ScriptError}
use Rattle.sc_main_script_words.specs.Tokens.{line_of, token_of}
use Rattle.sc_main_warm.specs.Texts.{warm_said}
use Rattle.sc_main_warm.specs.declared.warm_script.WarmScript.{WarmScript}
use Rattle.sc_store.specs.Held.{HeldLevel}
use Rattle.sc_store_alone.specs.Storages.{Alone, State, error_text}
use Rattle.sc_store_alone.specs.declared.storage_error.StorageError.{StorageError}
use Rattle.sc_store_warm.specs.Causes.{AbsentWhere, CopiedWhere, FromRefusedWhere, ToRefusedWhere, TornWhere}
use Rattle.sc_store_warm.specs.Warming.{Each, WarmsKey, WarmsWith}
use Rattle.sc_store_warm.specs.declared.warmed.Warmed.TheVariants.{Absent, Copied, FromRefused, ToRefused, Torn}
use Rattle.sc_store_warm.specs.declared.warmed.Warmed.{Warmed}
use Rattle.std.specs.Global.{Vec}

-- a refusal's text, in which spaces stand for themselves, behind the word that says whose it is
unfoldable pub refusal_text : List ℕ → StorageError → List ℕ
refusal_text name refusal = name ++ line_of (error_text refusal)

-- what became of a key
unfoldable pub outcome_text : Warmed → List ℕ
outcome_text (Copied size) = codes "copied " ++ decimal size
outcome_text Absent = codes "absent"
outcome_text Torn = codes "torn"
outcome_text (FromRefused refusal) = refusal_text (codes "from-refused ") refusal
outcome_text (ToRefused refusal) = refusal_text (codes "to-refused ") refusal

-- key TOKEN, and what became of it
unfoldable pub key_line : List ℕ → Warmed → List ℕ
key_line key warmed = codes "key " ++ token_of key ++ codes " " ++ outcome_text warmed ++ codes "\n"

-- a line for each key, in their order
abbrev pub key_lines : List (List ℕ) → List Warmed → List ℕ
key_lines [] warmed = []
key_lines (key ∷ keys) [] = []
key_lines (key ∷ keys) (one ∷ warmed) = key_line key one ++ key_lines keys warmed

-- a line for each key, one for each level, which counts nothing, and the end
unfoldable pub warm_text : List (List ℕ) → List Warmed → LevelSize → LevelSize → List ℕ
warm_text keys warmed from to = key_lines keys warmed ++ level_lines 0 (from ∷ to ∷ []) [] ++ codes "end\n"

-- the two levels of a script, as a drive makes its first and its second level
abbrev pub source : WarmScript → State
source w = Alone (first_held 0 w.from)

abbrev pub target : WarmScript → State
target w = Alone (first_held 1 w.to)

-- what a level holds and has reserved
abbrev pub held_size : HeldLevel → LevelSize
held_size h = size_of h.room.reserved h.level

-- A text tells what became of each key of a script, one after another from the levels at first on, by what both stores held, and the
-- size of both levels at the end.
pub record WarmsScript (w : WarmScript) (text : List ℕ) : Type 0 where
  pub warmed : List Warmed
  pub from2 : HeldLevel
  pub to2 : HeldLevel
  pub each : Each WarmsKey w.keys warmed (source w) (Alone from2) (target w) (Alone to2)
  pub absent : Each (WarmsWith AbsentWhere) w.keys warmed (source w) (Alone from2) (target w) (Alone to2)
  pub torn : Each (WarmsWith TornWhere) w.keys warmed (source w) (Alone from2) (target w) (Alone to2)
  pub copied : Each (WarmsWith CopiedWhere) w.keys warmed (source w) (Alone from2) (target w) (Alone to2)
  pub from_refused : Each (WarmsWith FromRefusedWhere) w.keys warmed (source w) (Alone from2) (target w) (Alone to2)
  pub to_refused : Each (WarmsWith ToRefusedWhere) w.keys warmed (source w) (Alone from2) (target w) (Alone to2)
  pub told : text ≡ warm_text w.keys warmed (held_size from2) (held_size to2)

-- A script of warm is reported on, and any other is refused with its first bad line; want of memory is free.
abbrev pub WarmReports : List ℕ → Result (Vec ℕ) ScriptError → Type 0
WarmReports bytes (Ok text) = (w : WarmScript) × (warm_said bytes ≡ Ok w) × WarmsScript w text.items
WarmReports bytes (Err Memory) = Unit {0}
WarmReports bytes (Err (Bad n)) = warm_said bytes ≡ Err n
