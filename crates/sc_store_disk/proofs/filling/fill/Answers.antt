use Rattle.std.proofs.Common.{refl, subst, sym}
use Rattle.sc_store_disk.specs.DiskStores.{opened_store}
use Rattle.sc_store_disk.specs.Entries.{FillsBy}
use Rattle.sc_store_disk.specs.declared.filling.Filling.{Filling}
use Rattle.sc_store_disk.proofs.Askings.{if_ok}
use Rattle.sc_store_disk.proofs.Closings.{either-did, fills, gives-up, rose-since}
use Rattle.sc_store_disk.proofs.Lending.{on_err_of}
use Rattle.sc_store_disk.proofs.Rooms.{stays}
use Rattle.sc_store_disk.proofs.filling.fill.Goals as goal

pub returns-in-Ok-clause-filled : goal.returns-in-Ok-clause-filled
returns-in-Ok-clause-filled g c = λ mode capacity. (
  refl,
  fills mode capacity c.args.cache.now.store c.fill.new.self.store c.args.entry c.args.bytes.now c.requires c.keeps.ensures.sound c.keeps.ensures.distinct c.keeps.ensures.numbers
      c.in-Ok.ensures.ok c.fill.ensures.index c.fill.ensures.pending,
)

pub returns-in-Err-clause-filled : goal.returns-in-Err-clause-filled
returns-in-Err-clause-filled g c =
    let old = c.args.cache.now.store in
    let mid = c.fill.new.self.store in
    let new = c.abandon-given_up.new.self.store in
    let gone = either-did c.abandon-given_up.result c.abandon-given_up.ensures.ok c.abandon-given_up.ensures.err in
    if_ok c.refused_fill.result c.refused_fill.ensures (λ how h mode capacity. subst (λ (x : Filling). FillsBy c.args.entry c.args.bytes.now (λ fills. fills) x (opened_store mode capacity old) (opened_store mode capacity new)) (sym h.0)
    (let given = gives-up mode capacity old mid new c.args.entry c.args.bytes.now c.requires c.keeps.ensures.sound c.keeps.ensures.distinct c.keeps.ensures.numbers c.in-Err.ensures.err c.fill.ensures.index c.fill.ensures.pending
    c.abandon-given_up.ensures.index c.abandon-given_up.ensures.closed gone in
    (((rose-since c.in-Err.refused _ _ old.disk mid.disk new.disk h.1 c.in-Err.ensures.cause gone, given.0.0), tt, (λ path. refl), (refl, refl, refl)), given.0.1)))

pub returns-in-Err-clause-closed : goal.returns-in-Err-clause-closed
returns-in-Err-clause-closed g c =
    let old = c.args.cache.now.store in
    let mid = c.fill.new.self.store in
    let new = c.abandon-given_up.new.self.store in
    let gone = either-did c.abandon-given_up.result c.abandon-given_up.ensures.ok c.abandon-given_up.ensures.err in
    on_err_of c.refused_fill.result (λ mode capacity. (gives-up mode capacity old mid new c.args.entry c.args.bytes.now c.requires c.keeps.ensures.sound c.keeps.ensures.distinct c.keeps.ensures.numbers c.in-Err.ensures.err
    c.fill.ensures.index c.fill.ensures.pending c.abandon-given_up.ensures.index c.abandon-given_up.ensures.closed gone).0.1)

pub returns-in-Err-clause-kept : goal.returns-in-Err-clause-kept
returns-in-Err-clause-kept g c =
    let old = c.args.cache.now.store in
    let mid = c.fill.new.self.store in
    let new = c.abandon-given_up.new.self.store in
    let gone = either-did c.abandon-given_up.result c.abandon-given_up.ensures.ok c.abandon-given_up.ensures.err in
    on_err_of c.refused_fill.result (λ mode capacity. (gives-up mode capacity old mid new c.args.entry c.args.bytes.now c.requires c.keeps.ensures.sound c.keeps.ensures.distinct c.keeps.ensures.numbers c.in-Err.ensures.err
    c.fill.ensures.index c.fill.ensures.pending c.abandon-given_up.ensures.index c.abandon-given_up.ensures.closed gone).0.0)

pub returns-in-Ok-clause-stays : goal.returns-in-Ok-clause-stays
returns-in-Ok-clause-stays g c = λ mode capacity. stays mode capacity c.args.cache.now.store c.fill.new.self.store _ c.in-Ok.ensures.ok

pub returns-in-Err-clause-stays : goal.returns-in-Err-clause-stays
returns-in-Err-clause-stays g c =
    let old = c.args.cache.now.store in
    let mid = c.fill.new.self.store in
    let new = c.abandon-given_up.new.self.store in
    let gone = either-did c.abandon-given_up.result c.abandon-given_up.ensures.ok c.abandon-given_up.ensures.err in
    λ mode capacity. (gives-up mode capacity old mid new c.args.entry c.args.bytes.now c.requires c.keeps.ensures.sound c.keeps.ensures.distinct c.keeps.ensures.numbers c.in-Err.ensures.err c.fill.ensures.index c.fill.ensures.pending
    c.abandon-given_up.ensures.index c.abandon-given_up.ensures.closed gone).1
