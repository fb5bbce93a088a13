use Rattle.std.proofs.Common.{rules, ◌≡◌, slice_index_or, sym}
use Rattle.sc_store.specs.Levels.{held_level}
use Rattle.sc_store.proofs.Alone.{alone_tells, held_at}
use Rattle.sc_store.proofs.levels.Layered.get.Goals as goal

pub returns : goal.returns
returns g c =
    let old = c.args.self.now in
    let l = c.args.level in
    let stores = c.self.inside.levels.items in
    let policy = c.self.inside.policy in
    let store = c.index.result.now in
    let here : store ≡ slice_index_or stores l store = search rules in
    let m = held_at held_level old policy stores l store c.self.view_is c.requires here in
    record {
      title = sym m.title_was;
      facts = sym m.facts_were;
      level = sym m.was;
      room = sym m.room_was;
      marks = sym m.marks_were;
      told = m.tells;
      alone = alone_tells held_level old policy stores l store c.self.view_is c.requires here;
    }
