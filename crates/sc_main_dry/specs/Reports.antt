-- The capacity report of uses.
use Rattle.std.specs.Prelude.{◌≡◌, ℕ, List, map, Result, Ok, Err, bytes_eq}
use Rattle.std.specs.Global.{Vec}
use Rattle.sc_lru.specs.DryRun.{dry_line}
use Rattle.sc_lru.specs.declared.capacity_report.Use.{Use}
use Rattle.sc_main_dry.specs.Printed.{dry_text}
use Rattle.sc_main_dry.specs.Texts.{uses_said}
use Rattle.sc_main_script.specs.declared.script.ScriptError.{ScriptError}
use Rattle.sc_main_script.specs.declared.script.ScriptError.TheVariants.{Bad, Memory}

-- what the uses find at each capacity by itself, as it is printed
abbrev pub report_of : List (Use (List ℕ)) → List ℕ → List ℕ
report_of us capacities = dry_text (map (dry_line bytes_eq us) capacities)

-- A text of uses is reported on, and any other is refused with its first bad line; want of memory is free.
abbrev pub Reports : List ℕ → List ℕ → Result (Vec ℕ) ScriptError → Type 0
Reports bytes capacities (Ok text) = (us : List (Use (List ℕ))) × (uses_said bytes ≡ Ok us) × (text.items ≡ report_of us capacities)
Reports bytes capacities (Err Memory) = Unit {0}
Reports bytes capacities (Err (Bad n)) = uses_said bytes ≡ Err n
