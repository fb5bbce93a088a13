use Rattle.std.proofs.Common.{◌≡◌, drop, string_bytes}
use Rattle.sc_stats.specs.Info.{with_more}
use Rattle.sc_stats.proofs.info.joined.Given as goal

-- with the texts that are left, all text
abbrev pub invariant-loop-other : goal.invariant-loop-other
invariant-loop-other l = with_more (string_bytes l.text) (drop l.other-index l.others) ≡ with_more (string_bytes l.initial.text) l.others
