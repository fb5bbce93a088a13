use Rattle.std.proofs.Common.{sym}
use Rattle.sc_lru.proofs.Cut.{missed, none_from_is_some}
use Rattle.sc_lru_tests.proofs.Shifts.{touched_from_move}
use Rattle.sc_lru_tests.proofs.shifted.Order.touch.Goals as goal

pub returns-in-Some-clause-entries : goal.returns-in-Some-clause-entries
returns-in-Some-clause-entries g c = let f = c.in-Some.ensures in
    rw (← c.self.view_is) (touched_from_move (g.K.PartialEq.eq c.args.key.now) c.self.inside.map.entries _ c.in-Some.i c.len-last.result f.index c.len-last.ensures.len c.move_index.ensures.entries)

pub returns-in-None-clause-entries : goal.returns-in-None-clause-entries
returns-in-None-clause-entries g c = let f = c.in-None.ensures in
    rw (← c.self.view_is) (sym (missed (g.K.PartialEq.eq c.args.key.now) c.self.inside.map.entries (none_from_is_some _ (sym f.found))).last)
