-- A remote level holds one map alone.
use Rattle.std.proofs.Common.{◌≡◌, ℕ, ◌+◌, ◌-◌, ◌^◌, min, List, length, sym, ap, ◌∙◌, arith}
use Rattle.std.specs.Cmp.Lexicographic.{slice_cmp}
use Rattle.std.specs.FinMap as map
use Rattle.std.specs.Ordering.{nat_cmp}
use Rattle.sc_store_disk.proofs.Sizes.{size-none}
use Rattle.sc_store_disk.specs.DiskStores.{count_of}
use Rattle.sc_main_memory.specs.Sizes.{size_of}
use Rattle.sc_model.specs.Levels.{Files, Level, no_files, size_of as files_size}
use Rattle.sc_store.specs.Paths.{entries_of, told_size}

count_none : count_of no_files ≡ 0
count_none = sym (map.len-entries no_files) ∙ map.len-empty (slice_cmp nat_cmp) (List ℕ)

capped : (s z r : ℕ) → z ≡ 0 → min (min s (2 ^ 64 - 1) + r) (2 ^ 64 - 1) ≡ min (s + z + r) (2 ^ 64 - 1)
capped s z r none = omega (arith, none)

same_count : (level : Level) (files : Files) (entries : ℕ) → level.main ≡ files → level.pre ≡ no_files → entries ≡ length (entries_of files) → entries ≡ count_of level.main + count_of level.pre
same_count level files entries main none counted =
    let zero_pre : count_of level.pre ≡ 0 = ap count_of none ∙ count_none in
    let all : entries ≡ count_of level.main = counted ∙ ap count_of (sym main) in
    omega (arith, zero_pre, all)

pub remote_size : (reserved : ℕ) (level : Level) (files : Files) (bytes entries size free : ℕ) → level.main ≡ files → level.pre ≡ no_files → size ≡ told_size files → free ≡ reserved → bytes ≡ min (size + free) (2 ^ 64 - 1) → entries ≡ length (entries_of files)
    → record { bytes = bytes; entries = entries } ≡ size_of reserved level
remote_size reserved level files bytes entries size free main none sized same summed counted =
    let held : size ≡ min (files_size level.main) (2 ^ 64 - 1) = sized ∙ ap told_size (sym main) in
    let first : bytes ≡ min (min (files_size level.main) (2 ^ 64 - 1) + reserved) (2 ^ 64 - 1) = summed ∙ ap (λ (n : ℕ). min (n + free) (2 ^ 64 - 1)) held ∙ ap (λ (n : ℕ). min (min (files_size level.main) (2 ^ 64 - 1) + n) (2 ^ 64 - 1)) same in
    (λ i. record {
      bytes = (first ∙ capped (files_size level.main) (files_size level.pre) reserved (ap files_size none ∙ size-none)) i;
      entries = same_count level files entries main none counted i;
    })
