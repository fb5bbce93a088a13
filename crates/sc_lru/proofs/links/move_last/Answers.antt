use Rattle.std.proofs.Common.{ap, arith, length}
use Rattle.sc_lru.proofs.Walks.{below-at}
use Rattle.sc_lru.proofs.Chains.{before_bound, after_bound}
use Rattle.sc_lru.proofs.Steps.{already_last, last_bound, long_gs, moves_last, moves_same}
use Rattle.sc_lru.proofs.links.move_last.Goals as goal

pub returns-then-at-last-clause-chain : goal.returns-then-at-last-clause-chain
returns-then-at-last-clause-chain g c = already_last c.args.map.now.entries c.args.first c.args.last c.args.at c.if-at-last.true

pub skip-first-requires-clause-within : goal.skip-first-requires-clause-within
skip-first-requires-clause-within g c = let r = c.requires in let chain = r.2 in below-at (length c.args.map.now.entries) r.0 c.args.at r.1 chain.below

pub skip-first-requires-clause-before : goal.skip-first-requires-clause-before
skip-first-requires-clause-before g c = let r = c.requires in before_bound c.args.map.now.entries c.args.first c.args.last r.0 c.args.at r.1 r.2

pub skip-first-requires-clause-after : goal.skip-first-requires-clause-after
skip-first-requires-clause-after g c = let r = c.requires in after_bound c.args.map.now.entries c.args.first c.args.last r.0 c.args.at r.1 r.2

pub link-requires-clause-last : goal.link-requires-clause-last
link-requires-clause-last g c = let r = c.requires in let s = c.skip-first in
    last_bound c.args.map.now.entries s.new.map.entries c.args.first c.args.last c.args.at s.result.0 s.result.1 (ap (λ m. m.entries) s.ensures.links) s.ensures.first s.ensures.last r.0 r.1 r.2 c.if-at-last.false

pub link-requires-clause-at : goal.link-requires-clause-at
link-requires-clause-at g c = let r = c.requires in let s = c.skip-first in let chain = r.2 in
    let low = below-at (length c.args.map.now.entries) r.0 c.args.at r.1 chain.below in
    omega (arith, low, long_gs c.args.map.now.entries s.new.map.entries c.args.first c.args.last c.args.at s.result.0 s.result.1 (ap (λ m. m.entries) s.ensures.links) s.ensures.first s.ensures.last)

pub returns-clause-chain : goal.returns-clause-chain
returns-clause-chain g c = let s = c.skip-first in
    moves_last c.args.map.now.entries s.new.map.entries c.args.first c.args.last c.args.at s.result.0 s.result.1 (ap (λ m. m.entries) s.ensures.links) s.ensures.first s.ensures.last c.link.new.map.entries (ap (λ m. m.entries) c.link.ensures) c.if-at-last.false

pub returns-clause-same : goal.returns-clause-same
returns-clause-same g c = let s = c.skip-first in
    moves_same c.args.map.now.entries s.new.map.entries c.args.first c.args.last c.args.at s.result.0 s.result.1 (ap (λ m. m.entries) s.ensures.links) s.ensures.first s.ensures.last c.link.new.map.entries (ap (λ m. m.entries) c.link.ensures)
