-- What plain compilers read, and what their hashers answer.
use Rattle.std.specs.Prelude.{ℕ, List, [], None}
use Rattle.sc_compile.specs.Plain.{plain_key, plain_parsed}
use Rattle.sc_model.specs.declared.event.Parsed.{Parsed}
use Rattle.sc_model.specs.declared.event.Parsed.TheVariants.{CannotCache as CannotBe, NotCompile, Started, Unsupported}
use Rattle.sc_model.specs.declared.message.Compile.{Compile}
use Rattle.sc_model.specs.declared.message.Variable.{Variable}
use Rattle.sc_compile_traits.specs.declared.arguments.CompilerArguments.{CompilerArguments}
use Rattle.sc_compile_traits.specs.declared.arguments.CompilerArguments.TheVariants.{CannotCache, NotCompilation, Ok as IsCompile}
use Rattle.sc_compile_traits.specs.declared.hashed.HashAnswer.{HashAnswer}
use Rattle.sc_compile_traits.specs.declared.hashed.HashAnswer.TheVariants.{Found}
use Rattle.sc_compile_traits.specs.declared.plain_compiler.PlainCompiler.{PlainCompiler}
use Rattle.sc_compile_traits.specs.declared.plain_hasher.PlainHasher.{PlainHasher}

-- the request of these words, for a compiler at its path
abbrev pub asked_of : PlainCompiler → List (List ℕ) → List ℕ → List Variable → Compile
asked_of p args cwd env_vars = record { exe = p.executable; cwd = cwd; args = args; env_vars = env_vars }

-- a reading of a request; no plain compiler reads that a compiler isn't supported
abbrev pub read_as : Compile → Parsed → CompilerArguments PlainHasher
read_as c (Started task) = IsCompile (record { request = c; language = task.language })
read_as c NotCompile = NotCompilation
read_as c (CannotBe why extra) = CannotCache why extra
read_as c (Unsupported why) = CannotCache why None

-- What a plain compiler reads.
abbrev pub plain_reading : PlainCompiler → List (List ℕ) → List ℕ → List Variable → CompilerArguments PlainHasher
plain_reading p args cwd env_vars = read_as (asked_of p args cwd env_vars) (plain_parsed p.kind (asked_of p args cwd env_vars))

-- the same words in a folder, with variables
abbrev pub asked_in : Compile → List ℕ → List Variable → Compile
asked_in c cwd env_vars = record { exe = c.exe; cwd = cwd; args = c.args; env_vars = env_vars }

-- What the key step of a plain compile answers: the key of its words, and its request as what is compiled. No toolchain is named.
abbrev pub plain_answer : Compile → HashAnswer Compile
plain_answer c = Found (record { key = (plain_key c).key; compilation = c; weak_toolchain_key = [] })
