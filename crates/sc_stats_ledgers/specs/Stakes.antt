-- What shares of the ledgers are.
use Rattle.std.specs.Prelude.{ℕ, ◌-◌, ◌^◌}
use Rattle.sc_stats_ledgers.specs.declared.numbers.Numbers.{Numbers}

-- how many parts each ledger has
abbrev pub all_parts : ℕ
all_parts = 2 ^ 64 - 1

-- how many parts of each ledger one has, and what they added to it
pub record Stake : Type 0 where
  pub parts : ℕ
  pub amounts : Numbers
