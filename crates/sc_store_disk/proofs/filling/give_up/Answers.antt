use Rattle.std.proofs.Common.{inl, [], refl}
use Rattle.sc_disk.proofs.Doing.{does-none}
use Rattle.sc_store_disk.proofs.Closings.{either-did, gives-up}
use Rattle.sc_store_disk.proofs.filling.give_up.Goals as goal

pub returns-clause-stays : goal.returns-clause-stays
returns-clause-stays g c = λ mode capacity. (gives-up mode capacity c.args.cache.now.store c.args.cache.now.store c.abandon-removed.new.self.store c.args.entry [] c.requires c.keeps.ensures.sound c.keeps.ensures.distinct c.keeps.ensures.numbers (inl (does-none c.args.cache.now.store.disk)) refl refl
    c.abandon-removed.ensures.index c.abandon-removed.ensures.closed (either-did c.abandon-removed.result c.abandon-removed.ensures.ok c.abandon-removed.ensures.err)).1

pub returns-clause-closed : goal.returns-clause-closed
returns-clause-closed g c = λ mode capacity. (gives-up mode capacity c.args.cache.now.store c.args.cache.now.store c.abandon-removed.new.self.store c.args.entry [] c.requires c.keeps.ensures.sound c.keeps.ensures.distinct c.keeps.ensures.numbers (inl (does-none c.args.cache.now.store.disk)) refl refl
    c.abandon-removed.ensures.index c.abandon-removed.ensures.closed (either-did c.abandon-removed.result c.abandon-removed.ensures.ok c.abandon-removed.ensures.err)).0.1

pub returns-clause-kept : goal.returns-clause-kept
returns-clause-kept g c = λ mode capacity. (gives-up mode capacity c.args.cache.now.store c.args.cache.now.store c.abandon-removed.new.self.store c.args.entry [] c.requires c.keeps.ensures.sound c.keeps.ensures.distinct c.keeps.ensures.numbers (inl (does-none c.args.cache.now.store.disk)) refl refl
    c.abandon-removed.ensures.index c.abandon-removed.ensures.closed (either-did c.abandon-removed.result c.abandon-removed.ensures.ok c.abandon-removed.ensures.err)).0.0
