-- The language of a file, by its name.
use Rattle.std.specs.Option.{option_and_then}
use Rattle.std.specs.Prelude.{ℕ, List, [], ◌∷◌, Option, Some, None, Bool, ◌==◌, ◌||◌, if◌then◌else◌, codes, bytes_eq}
use Rattle.sc_compile_language.specs.declared.language.Language.{Language}
use Rattle.sc_compile_language.specs.declared.language.Language.TheVariants.{Assembler, AssemblerToPreprocess, C, CPreprocessed, Cxx, CxxHeader, CxxModule, CxxPreprocessed, Cubin, Cuda, GenericHeader, Hip, ObjectiveC, ObjectiveCPreprocessed, ObjectiveCxx, ObjectiveCxxPreprocessed, Ptx, Rust}

-- the first, or else the second
abbrev pub or_else : Option (List ℕ) → Option (List ℕ) → Option (List ℕ)
or_else (Some found) other = Some found
or_else None other = other

-- what stands behind the last byte of this value, if there is one
abbrev pub after_last : ℕ → List ℕ → Option (List ℕ)
after_last mark [] = None
after_last mark (byte ∷ rest) = or_else (after_last mark rest) (if byte == mark then Some rest else None)

abbrev pub or_whole : List ℕ → Option (List ℕ) → List ℕ
or_whole whole None = whole
or_whole whole (Some part) = part

-- the name of a path's file: its last part
abbrev pub file_name : List ℕ → List ℕ
file_name path = or_whole path (after_last 47 path)

-- what stands behind a name's last dot, if that isn't its first byte
abbrev pub extension_of_name : List ℕ → Option (List ℕ)
extension_of_name [] = None
extension_of_name (first ∷ rest) = after_last 46 rest

abbrev pub extension : List ℕ → Option (List ℕ)
extension path = extension_of_name (file_name path)

abbrev pub is_cxx : List ℕ → Bool
is_cxx e = bytes_eq e (codes "C") || bytes_eq e (codes "cc") || bytes_eq e (codes "cp") || bytes_eq e (codes "cpp") || bytes_eq e (codes "CPP") || bytes_eq e (codes "cxx") || bytes_eq e (codes "c++")

abbrev pub is_cxx_header : List ℕ → Bool
is_cxx_header e = bytes_eq e (codes "H") || bytes_eq e (codes "hh") || bytes_eq e (codes "hp") || bytes_eq e (codes "hpp") || bytes_eq e (codes "HPP") || bytes_eq e (codes "hxx") || bytes_eq e (codes "h++") || bytes_eq e (codes "tcc")

-- the language of an extension
abbrev pub language_of : List ℕ → Option Language
language_of e =
    if bytes_eq e (codes "s") then Some Assembler
    else if bytes_eq e (codes "S") || bytes_eq e (codes "sx") then Some AssemblerToPreprocess
    else if bytes_eq e (codes "c") then Some C
    else if bytes_eq e (codes "h") then Some GenericHeader
    else if bytes_eq e (codes "i") then Some CPreprocessed
    else if is_cxx e then Some Cxx
    else if bytes_eq e (codes "ii") then Some CxxPreprocessed
    else if is_cxx_header e then Some CxxHeader
    else if bytes_eq e (codes "cppm") || bytes_eq e (codes "ixx") then Some CxxModule
    else if bytes_eq e (codes "m") then Some ObjectiveC
    else if bytes_eq e (codes "mi") then Some ObjectiveCPreprocessed
    else if bytes_eq e (codes "M") || bytes_eq e (codes "mm") then Some ObjectiveCxx
    else if bytes_eq e (codes "mii") then Some ObjectiveCxxPreprocessed
    else if bytes_eq e (codes "cu") then Some Cuda
    else if bytes_eq e (codes "ptx") then Some Ptx
    else if bytes_eq e (codes "cubin") then Some Cubin
    else if bytes_eq e (codes "rs") then Some Rust
    else if bytes_eq e (codes "hip") then Some Hip
    else None

-- the language of a file
abbrev pub language_of_file : List ℕ → Option Language
language_of_file path = option_and_then language_of (extension path)
