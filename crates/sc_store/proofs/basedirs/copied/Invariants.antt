use Rattle.std.proofs.Common.{◌≡◌, ◌++◌, drop}
use Rattle.sc_store.proofs.basedirs.copied.Given as goal

-- with the directories that are left, all of them
abbrev pub invariant-loop-basedir : goal.invariant-loop-basedir
invariant-loop-basedir l = l.copies ++ drop l.basedir-index l.basedirs ≡ l.basedirs
