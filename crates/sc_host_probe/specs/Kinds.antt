-- Which compiler the file at a path is, by its name.
use Rattle.std.specs.Prelude.{◌≡◌, ℕ, List, [], ◌∷◌, take, Bool, false, ◌||◌, if◌then◌else◌, bytes_eq, codes, Option, Some, None}
use Rattle.sc_compile.specs.declared.tool.Detected.{Detected}
use Rattle.sc_compile.specs.declared.tool.Detected.TheVariants.{Compiler, Refused}
use Rattle.sc_compile_language.specs.Extensions.{file_name}
use Rattle.sc_compile_language.specs.declared.compiler_kind.CCompilerKind.TheVariants.{Clang, Gcc, Nvcc}
use Rattle.sc_compile_language.specs.declared.compiler_kind.CompilerKind.{CompilerKind}
use Rattle.sc_compile_language.specs.declared.compiler_kind.CompilerKind.TheVariants.{C, Rust}

-- whether `clang` stands somewhere in a name
abbrev pub has_clang : List ℕ → Bool
has_clang [] = false
has_clang (byte ∷ rest) = bytes_eq (take 5 (byte ∷ rest)) (codes "clang") || has_clang rest

abbrev pub kind_of_name : List ℕ → CompilerKind
kind_of_name name =
    if bytes_eq name (codes "rustc") then Rust
    else if bytes_eq name (codes "nvcc") then C Nvcc
    else if has_clang name then C Clang
    else C Gcc

-- the kind of a compiler, by the last part of its path
abbrev pub kind_of : List ℕ → CompilerKind
kind_of path = kind_of_name (file_name path)

-- what a path without a file is
abbrev pub not_found : Detected
not_found = Refused (codes "compiler not found")

-- A file was found at a path, or none was.
abbrev pub DetectsAt : List ℕ → Option ℕ → Detected → Type 0
DetectsAt path None found = found ≡ not_found
DetectsAt path (Some moment) found = found ≡ Compiler (kind_of path)
