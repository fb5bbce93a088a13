-- The pairs that came so far are inserted.
use Rattle.std.proofs.iter.Next as it
use Rattle.std.specs.Iterator.{EndsFrom, items_left}
use Rattle.sc_lru.specs.LruCache.{Extends}
use Rattle.sc_lru.proofs.extend.LruCacheExtendTuple2.extend.Given as goal

abbrev pub invariant-loop-pair : goal.invariant-loop-pair
invariant-loop-pair g l = it.Ran g.I.IntoIter.Iterator.can_next (EndsFrom g.I.IntoIter.Iterator.remaining) (items_left g.I.IntoIter.Iterator.remaining) g.I.IntoIter.Iterator.next_gives (λ xs. Extends g.M.Meter.measure g.K.PartialEq.eq l.fn.self xs l.self) l.initial.rest l.rest

abbrev pub decreases-loop-pair : goal.decreases-loop-pair
decreases-loop-pair g l = items_left g.I.IntoIter.Iterator.remaining l.rest
