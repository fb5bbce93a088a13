use Rattle.std.proofs.Common.{◌≡◌, ◌∙◌, ◌<◌, ◌++◌, ◌∷◌, [], OnOk, ap, sym, subst, arith, length, length-append, is_some}
use Rattle.indexmap.proofs.CallerLemmas.{insert_entry-new}
use Rattle.indexmap.specs.IndexMap.{insert_entry}
use Rattle.std.specs.Map.{keys_of, lookup}
use Rattle.sc_lru.specs.Linked.{node, with_after}
use Rattle.sc_lru.proofs.Chains.{keys-change}
use Rattle.sc_lru.proofs.Cut.{none_from_is_some}
use Rattle.sc_lru.proofs.Orders.{keys-push, last_within, pushed, some_pairs}
use Rattle.sc_lru.proofs.linked.Order.push_last.Goals as goal

pub link-requires-clause-last : goal.link-requires-clause-last
link-requires-clause-last g c =
    let o = c.self.inside in let es = o.map.entries in let eq = g.K.PartialEq.eq in let laws = g.met.K.Eq.laws in let k = c.args.key in let v = c.args.value in
    let gs = c.insert.new.self.entries in
    let none = none_from_is_some (lookup (eq k) es) (sym (some_pairs eq laws (eq k) (laws.congr k) es o.first o.last c.self.invariant) ∙ ap is_some (rw (← c.self.view_is) at c.requires.absent)) in
    let put = subst (λ r. OnOk r (gs ≡ insert_entry eq es k (node 0 0 v))) c.unwrap.ensures c.insert.ensures.entries in
    let to_gs : gs ≡ es ++ (k, node 0 0 v) ∷ [] = put ∙ insert_entry-new eq o.map k (node 0 0 v) none in
    let n = c.len-at.ensures.len in let d = c.if-at-eq0.false in let some : 0 < length es = omega (arith, n, d) in
    let low = last_within eq es o.first o.last c.self.invariant some in
    omega (arith, low, ap length to_gs, length-append es ((k, node 0 0 v) ∷ []))

pub link-requires-clause-at : goal.link-requires-clause-at
link-requires-clause-at g c =
    let o = c.self.inside in let es = o.map.entries in let eq = g.K.PartialEq.eq in let laws = g.met.K.Eq.laws in let k = c.args.key in let v = c.args.value in
    let gs = c.insert.new.self.entries in
    let none = none_from_is_some (lookup (eq k) es) (sym (some_pairs eq laws (eq k) (laws.congr k) es o.first o.last c.self.invariant) ∙ ap is_some (rw (← c.self.view_is) at c.requires.absent)) in
    let put = subst (λ r. OnOk r (gs ≡ insert_entry eq es k (node 0 0 v))) c.unwrap.ensures c.insert.ensures.entries in
    let to_gs : gs ≡ es ++ (k, node 0 0 v) ∷ [] = put ∙ insert_entry-new eq o.map k (node 0 0 v) none in
    let n = c.len-at.ensures.len in let d = c.if-at-eq0.false in let some : 0 < length es = omega (arith, n, d) in
    omega (arith, n, ap length to_gs, length-append es ((k, node 0 0 v) ∷ []))

pub invariant_of-self-2 : goal.invariant_of-self-2
invariant_of-self-2 g c =
    let o = c.self.inside in let es = o.map.entries in let eq = g.K.PartialEq.eq in let laws = g.met.K.Eq.laws in let k = c.args.key in let v = c.args.value in
    let gs = c.insert.new.self.entries in
    let none = none_from_is_some (lookup (eq k) es) (sym (some_pairs eq laws (eq k) (laws.congr k) es o.first o.last c.self.invariant) ∙ ap is_some (rw (← c.self.view_is) at c.requires.absent)) in
    let put = subst (λ r. OnOk r (gs ≡ insert_entry eq es k (node 0 0 v))) c.unwrap.ensures c.insert.ensures.entries in
    let to_gs : gs ≡ es ++ (k, node 0 0 v) ∷ [] = put ∙ insert_entry-new eq o.map k (node 0 0 v) none in
    let n = c.len-at.ensures.len in let d = c.if-at-eq0.false in let some : 0 < length es = omega (arith, n, d) in
    let hs = c.link.new.map.entries in
    let distinct = c.insert.ensures.unique in
    let p = pushed eq es gs hs o.first o.last c.len-at.result k v c.self.invariant some n to_gs (ap (λ m. m.entries) c.link.ensures) distinct in
    p.0

pub returns-clause-entries : goal.returns-clause-entries
returns-clause-entries g c =
    let o = c.self.inside in let es = o.map.entries in let eq = g.K.PartialEq.eq in let laws = g.met.K.Eq.laws in let k = c.args.key in let v = c.args.value in
    let gs = c.insert.new.self.entries in
    let none = none_from_is_some (lookup (eq k) es) (sym (some_pairs eq laws (eq k) (laws.congr k) es o.first o.last c.self.invariant) ∙ ap is_some (rw (← c.self.view_is) at c.requires.absent)) in
    let put = subst (λ r. OnOk r (gs ≡ insert_entry eq es k (node 0 0 v))) c.unwrap.ensures c.insert.ensures.entries in
    let to_gs : gs ≡ es ++ (k, node 0 0 v) ∷ [] = put ∙ insert_entry-new eq o.map k (node 0 0 v) none in
    let n = c.len-at.ensures.len in let d = c.if-at-eq0.false in let some : 0 < length es = omega (arith, n, d) in
    let hs = c.link.new.map.entries in
    let distinct = c.insert.ensures.unique in
    let p = pushed eq es gs hs o.first o.last c.len-at.result k v c.self.invariant some n to_gs (ap (λ m. m.entries) c.link.ensures) distinct in
    rw (← c.self.view_is) p.1

pub returns-clause-slots : goal.returns-clause-slots
returns-clause-slots g c =
    let o = c.self.inside in let es = o.map.entries in let eq = g.K.PartialEq.eq in let laws = g.met.K.Eq.laws in let k = c.args.key in let v = c.args.value in
    let gs = c.insert.new.self.entries in
    let none = none_from_is_some (lookup (eq k) es) (sym (some_pairs eq laws (eq k) (laws.congr k) es o.first o.last c.self.invariant) ∙ ap is_some (rw (← c.self.view_is) at c.requires.absent)) in
    let put = subst (λ r. OnOk r (gs ≡ insert_entry eq es k (node 0 0 v))) c.unwrap.ensures c.insert.ensures.entries in
    let to_gs : gs ≡ es ++ (k, node 0 0 v) ∷ [] = put ∙ insert_entry-new eq o.map k (node 0 0 v) none in
    let n = c.len-at.ensures.len in let d = c.if-at-eq0.false in let some : 0 < length es = omega (arith, n, d) in
    let n' = c.len-at.result in
    rw (← c.self.view_is) (ap keys_of (ap (λ m. m.entries) c.link.ensures) ∙ keys-change (with_after gs o.last n') n' (λ x. node o.last x.after x.value) ∙ keys-change gs o.last (λ x. node x.before n' x.value) ∙ ap keys_of to_gs ∙ keys-push es (k, node 0 0 v))
