-- The program's version.
use Rattle.std.specs.Prelude.{ℕ, List, codes}

abbrev pub version_line : List ℕ
version_line = codes "sccache 0.19.0\n"
