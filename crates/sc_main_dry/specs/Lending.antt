-- Uses whose keys are lent.
use Rattle.std.specs.Borrow.{Bor}
use Rattle.sc_lru.specs.declared.capacity_report.Use.{Use}
use Rattle.sc_lru.specs.declared.capacity_report.Use.TheVariants.{Get, Put}

-- a use whose key was lent, by what the key is
abbrev pub lent : {K : Type 0} → Use (Bor K) → Use K
lent (Get key) = Get key.now
lent (Put key bytes) = Put key.now bytes
