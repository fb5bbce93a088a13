-- Compilers that are kept by path and moment.
use Rattle.std.specs.Prelude.{◌≡◌, ℕ, ◌==◌, if◌then◌else◌, List, Option, Some, None, codes}
use Rattle.std.specs.BTreeMap.{BTreeMap, get}
use Rattle.std.specs.Cmp.Lexicographic.{slice_cmp}
use Rattle.std.specs.Ordering.{nat_cmp}
use Rattle.std.specs.Str.{bytes_eq}
use Rattle.sc_entry.specs.Causes.{IfTold}
use Rattle.sc_compile_language.specs.declared.compiler_kind.CompilerKind.{CompilerKind}
use Rattle.sc_compile.specs.Tools.{detected_of, moment_of}
use Rattle.sc_compile.specs.declared.tool.Detected.{Detected}
use Rattle.sc_compile.specs.declared.tool.Detected.TheVariants.{Compiler, Refused}
use Rattle.sc_compile.specs.declared.tool.Tool.{Tool}
use Rattle.sc_compile.specs.declared.map.CompilerCacheEntry.{CompilerCacheEntry}

abbrev pub Kept : Type 0
Kept = BTreeMap (List ℕ) CompilerCacheEntry

-- what is kept of a path
abbrev pub entry_at : Kept → List ℕ → Option CompilerCacheEntry
entry_at kept path = get (slice_cmp nat_cmp) kept path

-- the compiler of an entry, where its file was changed at this moment
abbrev pub if_unchanged : ℕ → Option CompilerCacheEntry → Option CompilerKind
if_unchanged mtime None = None
if_unchanged mtime (Some e) = if e.mtime == mtime then Some e.kind else None

abbrev pub kept_at : Kept → List ℕ → ℕ → Option CompilerKind
kept_at kept path mtime = if_unchanged mtime (entry_at kept path)

-- this is kept of one path, and of all others what was kept before
abbrev pub Sets : List ℕ → Option CompilerCacheEntry → Kept → Kept → Type 0
Sets path e old new = (other : List ℕ) → entry_at new other ≡ (if bytes_eq path other then e else entry_at old other)

-- all is kept as before
abbrev pub Stays : Kept → Kept → Type 0
Stays old new = (path : List ℕ) → entry_at new path ≡ entry_at old path

-- what is kept of a file that was looked into: a compiler, or nothing where it is none
abbrev pub entry_for : ℕ → Detected → Option CompilerCacheEntry
entry_for mtime (Compiler kind) = Some (record { kind = kind; mtime = mtime })
entry_for mtime (Refused why) = None

-- a file is looked into
abbrev pub Detects : Option (List Tool) → ℕ → List ℕ → Detected → Kept → Kept → Type 0
Detects table mtime path found old new = IfTold table (λ tools. found ≡ detected_of tools path) × Sets path (entry_for mtime found) old new

-- unless a compiler is kept of it
abbrev pub InformsBy : Option CompilerKind → Option (List Tool) → ℕ → List ℕ → Detected → Kept → Kept → Type 0
InformsBy None table mtime path found old new = Detects table mtime path found old new
InformsBy (Some kind) table mtime path found old new = (found ≡ Compiler kind) × Stays old new

-- where there is a file
abbrev pub InformsAt : Option ℕ → Option (List Tool) → List ℕ → Detected → Kept → Kept → Type 0
InformsAt None table path found old new = (found ≡ Refused (codes "compiler not found")) × Stays old new
InformsAt (Some mtime) table path found old new = InformsBy (kept_at old path mtime) table mtime path found old new

-- What a path's file is: no compiler where there is no file, a kept compiler where the file was not changed since, else what it is
-- found to be, which is kept.
abbrev pub Informs : Option (List Tool) → List ℕ → Detected → Kept → Kept → Type 0
Informs table path found old new = (mtime : Option ℕ) × IfTold table (λ tools. mtime ≡ moment_of tools path) × InformsAt mtime table path found old new

-- a compiler that is kept of a file which was not changed since is the table's
abbrev pub AreDetected : List Tool → Kept → Type 0
AreDetected tools kept =
    (path : List ℕ) (mtime : ℕ) (kind : CompilerKind) → kept_at kept path mtime ≡ Some kind → moment_of tools path ≡ Some mtime → detected_of tools path ≡ Compiler kind
