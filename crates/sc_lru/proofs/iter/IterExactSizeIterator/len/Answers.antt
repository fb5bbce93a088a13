use Rattle.std.proofs.Common.{sym}
use Rattle.sc_lru.proofs.Windows.{length-window}
use Rattle.sc_lru.proofs.iter.IterExactSizeIterator.len.Goals as goal

pub returns-clause-value : goal.returns-clause-value
returns-clause-value g c = let s = c.self.inside in let w = c.self.invariant in
    rw (← c.self.view_is) (sym (length-window s.map.now.entries s.front s.back s.left w))
