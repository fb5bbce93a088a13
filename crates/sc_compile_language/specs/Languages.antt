-- How languages are called, and what becomes of them.
use Rattle.std.specs.Prelude.{ℕ, List, [], ◌++◌, Option, Some, None, Bool, true, false, codes}
use Rattle.sc_compile_language.specs.declared.compiler_kind.CCompilerKind.TheVariants.{Cicc, Clang, CudaFE as CudaFrontEnd, Diab, Gcc, Msvc, Nvcc, Nvhpc, Ptxas, TaskingVX}
use Rattle.sc_compile_language.specs.declared.compiler_kind.CompilerKind.{CompilerKind}
use Rattle.sc_compile_language.specs.declared.compiler_kind.CompilerKind.TheVariants.{C as OfC, Rust as OfRust}
use Rattle.sc_compile_language.specs.declared.language.Language.{Language}
use Rattle.sc_compile_language.specs.declared.language.Language.TheVariants.{Assembler, AssemblerToPreprocess, C, CHeader, CPreprocessed, Cubin, Cuda, CudaFE, Cxx, CxxHeader, CxxModule, CxxPreprocessed, GenericHeader, Hip, ObjectiveC, ObjectiveCHeader, ObjectiveCPreprocessed, ObjectiveCxx, ObjectiveCxxHeader, ObjectiveCxxPreprocessed, Ptx, Rust}

-- a language's name, as statistics print it
abbrev pub name : Language → List ℕ
name Assembler = codes "assembler"
name AssemblerToPreprocess = codes "assemblerToPreprocess"
name C = codes "c"
name CHeader = codes "cHeader"
name CPreprocessed = codes "cPreprocessed"
name Cxx = codes "c++"
name CxxHeader = codes "c++Header"
name CxxPreprocessed = codes "c++Preprocessed"
name CxxModule = codes "c++-module"
name GenericHeader = codes "c/c++"
name ObjectiveC = codes "objc"
name ObjectiveCHeader = codes "objc"
name ObjectiveCPreprocessed = codes "objcPreprocessed"
name ObjectiveCxx = codes "objc++"
name ObjectiveCxxHeader = codes "objc++"
name ObjectiveCxxPreprocessed = codes "objc++Preprocessed"
name Cuda = codes "cuda"
name CudaFE = codes "cuda"
name Ptx = codes "ptx"
name Cubin = codes "cubin"
name Rust = codes "rust"
name Hip = codes "hip"

-- a compiler's word for a language behind -x, where CUDA's is this
abbrev pub compiler_arg : List ℕ → Language → Option (List ℕ)
compiler_arg cuda Assembler = Some (codes "assembler")
compiler_arg cuda AssemblerToPreprocess = Some (codes "assembler-with-cpp")
compiler_arg cuda C = Some (codes "c")
compiler_arg cuda CHeader = Some (codes "c-header")
compiler_arg cuda CPreprocessed = Some (codes "cpp-output")
compiler_arg cuda Cxx = Some (codes "c++")
compiler_arg cuda CxxHeader = Some (codes "c++-header")
compiler_arg cuda CxxPreprocessed = Some (codes "c++-cpp-output")
compiler_arg cuda CxxModule = Some (codes "c++-module")
compiler_arg cuda ObjectiveC = Some (codes "objective-c")
compiler_arg cuda ObjectiveCHeader = Some (codes "objective-c-header")
compiler_arg cuda ObjectiveCPreprocessed = Some (codes "objective-c-cpp-output")
compiler_arg cuda ObjectiveCxx = Some (codes "objective-c++")
compiler_arg cuda ObjectiveCxxHeader = Some (codes "objective-c++-header")
compiler_arg cuda ObjectiveCxxPreprocessed = Some (codes "objective-c++-cpp-output")
compiler_arg cuda Cuda = Some cuda
compiler_arg cuda Hip = Some (codes "hip")
compiler_arg cuda GenericHeader = None
compiler_arg cuda CudaFE = None
compiler_arg cuda Ptx = None
compiler_arg cuda Cubin = None
compiler_arg cuda Rust = None

-- whether a compiler of C preprocesses it before it compiles
abbrev pub needs_c_preprocessing : Language → Bool
needs_c_preprocessing Assembler = false
needs_c_preprocessing CPreprocessed = false
needs_c_preprocessing CxxPreprocessed = false
needs_c_preprocessing ObjectiveCPreprocessed = false
needs_c_preprocessing ObjectiveCxxPreprocessed = false
needs_c_preprocessing Rust = false
needs_c_preprocessing _ = true

abbrev pub is_c_like_header : Language → Bool
is_c_like_header CHeader = true
is_c_like_header CxxHeader = true
is_c_like_header ObjectiveCHeader = true
is_c_like_header ObjectiveCxxHeader = true
is_c_like_header GenericHeader = true
is_c_like_header _ = false

-- the language of what a preprocessor makes of it
abbrev pub preprocessed : Language → Option Language
preprocessed AssemblerToPreprocess = Some Assembler
preprocessed C = Some CPreprocessed
preprocessed Cxx = Some CxxPreprocessed
preprocessed ObjectiveC = Some ObjectiveCPreprocessed
preprocessed ObjectiveCxx = Some ObjectiveCxxPreprocessed
preprocessed _ = None

-- the kind of language that a compile is counted by
abbrev pub lang_kind : Language → List ℕ
lang_kind Assembler = codes "Assembler"
lang_kind AssemblerToPreprocess = codes "Assembler"
lang_kind Cuda = codes "CUDA"
lang_kind CudaFE = codes "CUDA (Device code)"
lang_kind Ptx = codes "PTX"
lang_kind Cubin = codes "CUBIN"
lang_kind Rust = codes "Rust"
lang_kind Hip = codes "HIP"
lang_kind _ = codes "C/C++"

-- what stands behind a language that a compiler of this kind compiles
abbrev pub mark : CompilerKind → List ℕ
mark (OfC Clang) = codes " [clang]"
mark (OfC Diab) = codes " [diab]"
mark (OfC Gcc) = codes " [gcc]"
mark (OfC Msvc) = codes " [msvc]"
mark (OfC Nvcc) = codes " [nvcc]"
mark (OfC CudaFrontEnd) = codes " [cudafe++]"
mark (OfC Cicc) = codes " [cicc]"
mark (OfC Ptxas) = codes " [ptxas]"
mark (OfC Nvhpc) = codes " [nvhpc]"
mark (OfC TaskingVX) = codes " [taskingvx]"
mark OfRust = []

-- the language and, of one that compiles C, the compiler that a compile is counted by
abbrev pub lang_comp_kind : CompilerKind → Language → List ℕ
lang_comp_kind kind language = name language ++ mark kind
