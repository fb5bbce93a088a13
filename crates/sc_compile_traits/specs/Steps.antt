-- What a compile's first events tell by compilers of any kind: Began of the reading of its words, Keyed of its key step.
use Rattle.std.specs.Prelude.{ℕ, Bool, true, List, [], Option, Some, None}
use Rattle.sc_compile.specs.OutputNames.{are_outputs}
use Rattle.sc_compile_language.specs.declared.compiler_kind.CompilerKind.{CompilerKind}
use Rattle.sc_compile_language.specs.declared.language.Language.{Language}
use Rattle.sc_entry.specs.declared.object.FileObjectSource.{FileObjectSource}
use Rattle.sc_model.specs.declared.command.SingleCompileCommand.{SingleCompileCommand}
use Rattle.sc_model.specs.declared.event.KeyStep.{KeyStep}
use Rattle.sc_model.specs.declared.event.KeyStep.TheVariants.{Fault as StepFault, Key, ProcessError as StepError}
use Rattle.sc_model.specs.declared.event.Parsed.{Parsed}
use Rattle.sc_model.specs.declared.event.Parsed.TheVariants.{CannotCache as CannotBe, NotCompile, Started}
use Rattle.sc_compile_traits.specs.Cacheables.{is_cacheable}
use Rattle.sc_compile_traits.specs.declared.arguments.CompilerArguments.{CompilerArguments}
use Rattle.sc_compile_traits.specs.declared.arguments.CompilerArguments.TheVariants.{CannotCache, NotCompilation, Ok as IsCompile}
use Rattle.sc_compile_traits.specs.declared.control.Cacheable.{Cacheable}
use Rattle.sc_compile_traits.specs.declared.hashed.HashAnswer.{HashAnswer}
use Rattle.sc_compile_traits.specs.declared.hashed.HashAnswer.TheVariants.{Fault, Found, ProcessError}

-- what is begun, by a compiler of this kind whose hashers tell their language
abbrev pub parsed_as : {H : Type 0} → CompilerKind → (H → Language) → CompilerArguments H → Parsed
parsed_as kind language (IsCompile hasher) = Started (record { kind = kind; language = language hasher })
parsed_as kind language (CannotCache why extra) = CannotBe why extra
parsed_as kind language NotCompilation = NotCompile

-- what finds the key
abbrev pub hasher_of : {H : Type 0} → CompilerArguments H → Option H
hasher_of (IsCompile hasher) = Some hasher
hasher_of (CannotCache why extra) = None
hasher_of NotCompilation = None

-- what a key step tells, where compilations tell their outputs, whether they are preprocessed here, and whether they may be stored
abbrev pub step_as : {C : Type 0} → (C → List FileObjectSource) → (C → Bool) → (C → Cacheable) → HashAnswer C → KeyStep
step_as outputs is_local cacheable (Found r) =
    Key (record { key = r.key; outputs = outputs r.compilation; locally_preprocessed = is_local r.compilation; cacheable = is_cacheable (cacheable r.compilation) })
step_as outputs is_local cacheable (ProcessError output) = StepError output
step_as outputs is_local cacheable (Fault chain) = StepFault chain

-- what is run, where compilations tell it
abbrev pub command_of : {C : Type 0} → (C → SingleCompileCommand) → HashAnswer C → Option SingleCompileCommand
command_of command (Found r) = Some (command r.compilation)
command_of command (ProcessError output) = None
command_of command (Fault chain) = None

-- the outputs of a key have names that an entry can hold
abbrev pub are_named : KeyStep → Bool
are_named (Key found) = are_outputs [] found.outputs
are_named (StepError output) = true
are_named (StepFault chain) = true
