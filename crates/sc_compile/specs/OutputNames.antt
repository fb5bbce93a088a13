-- What outputs of a compile are named.
use Rattle.std.specs.Prelude.{Bool, true, ◌&&◌, List, [], ◌∷◌, ◌++◌}
use Rattle.sc_entry.specs.declared.object.FileObjectSource.{FileObjectSource}
use Rattle.sc_compile.specs.Plain.{is_new_name}

-- the outputs of a compile, each new behind those before
abbrev pub are_outputs : List FileObjectSource → List FileObjectSource → Bool
are_outputs before [] = true
are_outputs before (o ∷ os) = is_new_name before o.key && are_outputs (before ++ o ∷ []) os
