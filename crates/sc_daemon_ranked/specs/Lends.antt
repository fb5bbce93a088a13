-- What a list ends as, once a reference into it has ended.
use Rattle.std.specs.Prelude.{ℕ, List, Option, slice_set}
use Rattle.std.specs.Borrow.{Fml, LendsIf, MutBor, RattleType}
use Rattle.sc_daemon_ranked.specs.contracts.list.RankedList.{the_row}

-- it has the last value written through r at this place, and at `None` it stays as it is
abbrev pub lends_at : (T : RattleType) → MutBor (List T.Denot) → ℕ → Option (MutBor T.Denot) → Fml
lends_at T l place r = LendsIf (the_row T) T l r (slice_set l.now place) l.now
