-- What a table of tools answers on a path, and what compilers behind such a table tell of a compile.
use Rattle.std.specs.Prelude.{ℕ, List, Option, Some, None, codes, option_map}
use Rattle.sc_model.specs.declared.event.KeyStep.{KeyStep}
use Rattle.sc_model.specs.declared.event.Parsed.{Parsed}
use Rattle.sc_model.specs.declared.event.Parsed.TheVariants.{Unsupported}
use Rattle.sc_model.specs.declared.message.Compile.{Compile}
use Rattle.sc_compile_table.specs.Tables.{first_of}
use Rattle.sc_compile.specs.Plain.{PlainArguments, arguments, plain_key, plain_parsed}
use Rattle.sc_compile.specs.KeySteps.{refusal_of, step_by}
use Rattle.sc_compile.specs.declared.key_line.KeyLine.{KeyLine}
use Rattle.sc_compile.specs.declared.tool.Detected.{Detected}
use Rattle.sc_compile.specs.declared.tool.Detected.TheVariants.{Compiler as Found, Refused}
use Rattle.sc_compile.specs.declared.tool.Tool.{Tool}
use Rattle.sc_compile.specs.declared.tool.ToolKind.{ToolKind}
use Rattle.sc_compile.specs.declared.tool.ToolKind.TheVariants.{Compiler, NotACompiler}

-- the first tool of a path
abbrev pub tool_at : List Tool → List ℕ → Option Tool
tool_at tools path = first_of (λ (t : Tool). t.path) path tools

-- when the file of a path was changed, where there is one
abbrev pub moment_of : List Tool → List ℕ → Option ℕ
moment_of tools path = option_map (λ t. t.moment) (tool_at tools path)

abbrev pub detected_as : ToolKind → Detected
detected_as (Compiler kind) = Found kind
detected_as NotACompiler = Refused (codes "not a compiler")

abbrev pub detected_by : Option Tool → Detected
detected_by None = Refused (codes "compiler not found")
detected_by (Some t) = detected_as t.kind

-- what a path's tool is
abbrev pub detected_of : List Tool → List ℕ → Detected
detected_of tools path = detected_by (tool_at tools path)

abbrev pub read_as : Compile → Detected → Parsed
read_as c (Found kind) = plain_parsed kind c
read_as c (Refused text) = Unsupported text

-- What a compile is by a table: the reading of its words by the compiler at its path, or why there is none.
abbrev pub reading : Option (List Tool) → Compile → Option Parsed
reading None c = None
reading (Some tools) c = Some (read_as c (detected_of tools c.exe))

abbrev pub key_told : List KeyLine → Compile → Option PlainArguments → Option KeyStep
key_told lines c None = None
key_told lines c (Some a) = Some (step_by (plain_key c) (refusal_of lines (plain_key c).key))

-- the key step's answer, where the lines are told and the words are good
abbrev pub told_key : Option (List KeyLine) → Compile → Option KeyStep
told_key None c = None
told_key (Some lines) c = key_told lines c (arguments c.args)
