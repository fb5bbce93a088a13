use Rattle.std.proofs.Common.{ap, arith, length, ◌≡◌, ◌∙◌, sym, subst, IfSome, IsSome, option_map, refl}
use Rattle.std.specs.List.{swap_remove, IsDistinct}
use Rattle.sc_lru.specs.Linked.{pair_at}
use Rattle.sc_lru.proofs.Walks.{below-at}
use Rattle.sc_lru.proofs.Chains.{before_bound, after_bound, item-slice_get, pair-skipped}
use Rattle.sc_lru.proofs.Pairs.{item_within}
use Rattle.sc_lru.proofs.Steps.{long_gs, keys_taken, takes_end, takes_gap, before_gap, after_gap, keys_gap, moved}
use Rattle.sc_lru.proofs.links.take.Goals as goal

pub skip-first-requires-clause-within : goal.skip-first-requires-clause-within
skip-first-requires-clause-within g c = let r = c.requires in let chain = r.2 in below-at (length c.args.map.now.entries) r.0 c.args.at r.1 chain.below

pub skip-first-requires-clause-before : goal.skip-first-requires-clause-before
skip-first-requires-clause-before g c = let r = c.requires in before_bound c.args.map.now.entries c.args.first c.args.last r.0 c.args.at r.1 r.2

pub skip-first-requires-clause-after : goal.skip-first-requires-clause-after
skip-first-requires-clause-after g c = let r = c.requires in after_bound c.args.map.now.entries c.args.first c.args.last r.0 c.args.at r.1 r.2

pub unwrap-key-requires : goal.unwrap-key-requires
unwrap-key-requires g c =
    let r = c.requires in let chain = r.2 in let s = c.skip-first in let es = c.args.map.now.entries in let gs = s.new.map.entries in
    let to_gs = ap (λ m. m.entries) s.ensures.links in let at = c.args.at in
    let low = below-at (length es) r.0 at r.1 chain.below in
    let same = long_gs es gs c.args.first c.args.last at s.result.0 s.result.1 to_gs s.ensures.first s.ensures.last in
    let there = item_within gs at (omega (arith, low, same)) in
    subst IsSome (sym (c.swap_remove_index.ensures.entry ∙ item-slice_get gs at ∙ there.1)) refl

pub returns-then-at-was-clause-pair : goal.returns-then-at-was-clause-pair
returns-then-at-was-clause-pair g c =
    let r = c.requires in let chain = r.2 in let s = c.skip-first in let es = c.args.map.now.entries in let gs = s.new.map.entries in
    let to_gs = ap (λ m. m.entries) s.ensures.links in let at = c.args.at in
    let low = below-at (length es) r.0 at r.1 chain.below in
    let item_at = sym (item-slice_get gs at) ∙ sym c.swap_remove_index.ensures.entry ∙ c.unwrap-key.ensures in
    sym (ap (λ l. pair_at l at) to_gs ∙ pair-skipped es c.args.first c.args.last at at) ∙ ap (option_map (λ f. (f.0, f.1.value))) item_at

pub returns-then-at-was-clause-chain : goal.returns-then-at-was-clause-chain
returns-then-at-was-clause-chain g c =
    let r = c.requires in let chain = r.2 in let s = c.skip-first in let es = c.args.map.now.entries in let gs = s.new.map.entries in
    let to_gs = ap (λ m. m.entries) s.ensures.links in let at = c.args.at in
    let low = below-at (length es) r.0 at r.1 chain.below in
    let hs = c.swap_remove_index.new.self.entries in let e = c.unwrap-key.result in
    let to_hs = subst (λ o. IfSome o (λ p. hs ≡ swap_remove gs at p)) c.unwrap-key.ensures c.swap_remove_index.ensures.entries in
    takes_end es gs c.args.first c.args.last at s.result.0 s.result.1 to_gs s.ensures.first s.ensures.last hs e to_hs low c.len-was.result c.len-was.ensures.len c.if-at-was.true

pub mend-first-requires-clause-within : goal.mend-first-requires-clause-within
mend-first-requires-clause-within g c =
    let r = c.requires in let chain = r.2 in let s = c.skip-first in let es = c.args.map.now.entries in let gs = s.new.map.entries in
    let to_gs = ap (λ m. m.entries) s.ensures.links in let at = c.args.at in
    let low = below-at (length es) r.0 at r.1 chain.below in
    let hs = c.swap_remove_index.new.self.entries in let e = c.unwrap-key.result in
    let to_hs = subst (λ o. IfSome o (λ p. hs ≡ swap_remove gs at p)) c.unwrap-key.ensures c.swap_remove_index.ensures.entries in
    let mv = moved es gs c.args.first c.args.last at s.result.0 s.result.1 to_gs s.ensures.first s.ensures.last hs e to_hs low in let was = c.len-was.ensures.len in let d = c.if-at-was.false in
    omega (arith, low, mv.long, was, d)

pub mend-first-requires-clause-before : goal.mend-first-requires-clause-before
mend-first-requires-clause-before g c =
    let r = c.requires in let chain = r.2 in let s = c.skip-first in let es = c.args.map.now.entries in let gs = s.new.map.entries in
    let to_gs = ap (λ m. m.entries) s.ensures.links in let at = c.args.at in
    let low = below-at (length es) r.0 at r.1 chain.below in
    let hs = c.swap_remove_index.new.self.entries in let e = c.unwrap-key.result in
    let to_hs = subst (λ o. IfSome o (λ p. hs ≡ swap_remove gs at p)) c.unwrap-key.ensures c.swap_remove_index.ensures.entries in
    before_gap es gs c.args.first c.args.last at s.result.0 s.result.1 to_gs s.ensures.first s.ensures.last hs e to_hs low c.len-was.result c.len-was.ensures.len c.if-at-was.false r.0 r.1 r.2 r.3

pub mend-first-requires-clause-after : goal.mend-first-requires-clause-after
mend-first-requires-clause-after g c =
    let r = c.requires in let chain = r.2 in let s = c.skip-first in let es = c.args.map.now.entries in let gs = s.new.map.entries in
    let to_gs = ap (λ m. m.entries) s.ensures.links in let at = c.args.at in
    let low = below-at (length es) r.0 at r.1 chain.below in
    let hs = c.swap_remove_index.new.self.entries in let e = c.unwrap-key.result in
    let to_hs = subst (λ o. IfSome o (λ p. hs ≡ swap_remove gs at p)) c.unwrap-key.ensures c.swap_remove_index.ensures.entries in
    after_gap es gs c.args.first c.args.last at s.result.0 s.result.1 to_gs s.ensures.first s.ensures.last hs e to_hs low c.len-was.result c.len-was.ensures.len c.if-at-was.false r.0 r.1 r.2 r.3

pub returns-clause-pair : goal.returns-clause-pair
returns-clause-pair g c =
    let r = c.requires in let chain = r.2 in let s = c.skip-first in let es = c.args.map.now.entries in let gs = s.new.map.entries in
    let to_gs = ap (λ m. m.entries) s.ensures.links in let at = c.args.at in
    let low = below-at (length es) r.0 at r.1 chain.below in
    let item_at = sym (item-slice_get gs at) ∙ sym c.swap_remove_index.ensures.entry ∙ c.unwrap-key.ensures in
    sym (ap (λ l. pair_at l at) to_gs ∙ pair-skipped es c.args.first c.args.last at at) ∙ ap (option_map (λ f. (f.0, f.1.value))) item_at

pub returns-clause-chain : goal.returns-clause-chain
returns-clause-chain g c =
    let r = c.requires in let chain = r.2 in let s = c.skip-first in let es = c.args.map.now.entries in let gs = s.new.map.entries in
    let to_gs = ap (λ m. m.entries) s.ensures.links in let at = c.args.at in
    let low = below-at (length es) r.0 at r.1 chain.below in
    let hs = c.swap_remove_index.new.self.entries in let e = c.unwrap-key.result in
    let to_hs = subst (λ o. IfSome o (λ p. hs ≡ swap_remove gs at p)) c.unwrap-key.ensures c.swap_remove_index.ensures.entries in
    let d = c.mend-first in
    takes_gap es gs c.args.first c.args.last at s.result.0 s.result.1 to_gs s.ensures.first s.ensures.last hs e to_hs low c.len-was.result d.result.0 d.result.1 d.new.map.entries c.len-was.ensures.len c.if-at-was.false (ap (λ m. m.entries) d.ensures.links) d.ensures.first d.ensures.last

pub returns-clause-distinct : goal.returns-clause-distinct
returns-clause-distinct g c =
    let r = c.requires in let chain = r.2 in let s = c.skip-first in let es = c.args.map.now.entries in let gs = s.new.map.entries in
    let to_gs = ap (λ m. m.entries) s.ensures.links in let at = c.args.at in
    let low = below-at (length es) r.0 at r.1 chain.below in
    let hs = c.swap_remove_index.new.self.entries in let e = c.unwrap-key.result in
    let to_hs = subst (λ o. IfSome o (λ p. hs ≡ swap_remove gs at p)) c.unwrap-key.ensures c.swap_remove_index.ensures.entries in
    let d = c.mend-first in
    subst (IsDistinct g.K.PartialEq.eq) (sym (keys_gap es gs c.args.first c.args.last at s.result.0 s.result.1 to_gs s.ensures.first s.ensures.last hs e to_hs low c.len-was.result d.new.map.entries (ap (λ m. m.entries) d.ensures.links))) c.swap_remove_index.ensures.unique

pub returns-then-at-was-clause-slots : goal.returns-then-at-was-clause-slots
returns-then-at-was-clause-slots g c =
    let r = c.requires in let chain = r.2 in let s = c.skip-first in let es = c.args.map.now.entries in let gs = s.new.map.entries in
    let to_gs = ap (λ m. m.entries) s.ensures.links in let at = c.args.at in
    let low = below-at (length es) r.0 at r.1 chain.below in
    let hs = c.swap_remove_index.new.self.entries in let e = c.unwrap-key.result in
    let to_hs = subst (λ o. IfSome o (λ p. hs ≡ swap_remove gs at p)) c.unwrap-key.ensures c.swap_remove_index.ensures.entries in
    keys_taken es gs c.args.first c.args.last at s.result.0 s.result.1 to_gs s.ensures.first s.ensures.last hs e to_hs low

pub returns-clause-slots : goal.returns-clause-slots
returns-clause-slots g c =
    let r = c.requires in let chain = r.2 in let s = c.skip-first in let es = c.args.map.now.entries in let gs = s.new.map.entries in
    let to_gs = ap (λ m. m.entries) s.ensures.links in let at = c.args.at in
    let low = below-at (length es) r.0 at r.1 chain.below in
    let hs = c.swap_remove_index.new.self.entries in let e = c.unwrap-key.result in
    let to_hs = subst (λ o. IfSome o (λ p. hs ≡ swap_remove gs at p)) c.unwrap-key.ensures c.swap_remove_index.ensures.entries in
    let d = c.mend-first in
    keys_gap es gs c.args.first c.args.last at s.result.0 s.result.1 to_gs s.ensures.first s.ensures.last hs e to_hs low c.len-was.result d.new.map.entries (ap (λ m. m.entries) d.ensures.links)
    ∙ keys_taken es gs c.args.first c.args.last at s.result.0 s.result.1 to_gs s.ensures.first s.ensures.last hs e to_hs low
