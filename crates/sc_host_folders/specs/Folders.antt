-- The two folders of a store.
use Rattle.std.specs.Prelude.{ℕ, List, ◌++◌, codes}

-- where the preprocessor entries of the store in a folder stand
abbrev pub pre_root : List ℕ → List ℕ
pre_root folder = folder ++ codes "/preprocessor"
