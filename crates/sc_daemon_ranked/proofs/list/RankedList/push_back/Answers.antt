use Rattle.std.proofs.Common.{◌∙◌, ◌++◌, ◌∷◌, [], ap}
use Rattle.sc_daemon_ranked.specs.Trees.{items}
use Rattle.sc_daemon_ranked.proofs.Ranked.{after_push}
use Rattle.sc_daemon_ranked.proofs.list.RankedList.push_back.Goals as goal

pub invariant_of-self : goal.invariant_of-self
invariant_of-self g c =
    (after_push c.self.inside _ _ c.self.invariant c.take.ensures.value c.put_back.ensures.items _ c.push.ensures.counted c.args.item _ (ap items c.in_ok-leaf.ensures.ok) c.take.ensures.after c.push.ensures.items).0

pub returns-clause-ok : goal.returns-clause-ok
returns-clause-ok g c =
    (after_push c.self.inside _ _ c.self.invariant c.take.ensures.value c.put_back.ensures.items _ c.push.ensures.counted c.args.item _ (ap items c.in_ok-leaf.ensures.ok) c.take.ensures.after c.push.ensures.items).1
    ∙ ap (λ xs. xs ++ c.args.item ∷ []) c.self.view_is
