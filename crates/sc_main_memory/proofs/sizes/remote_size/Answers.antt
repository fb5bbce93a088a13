use Rattle.std.proofs.Common.{ap}
use Rattle.sc_model.specs.Levels.{Level}
use Rattle.sc_main_memory.proofs.Sizing.{remote_size}
use Rattle.sc_main_memory.proofs.sizes.remote_size.Goals as goal

pub returns : goal.returns
returns c told =
    let s = c.args.store.now in
    let is = c.remote-remote.ensures.level in
    remote_size s.room.reserved s.level c.remote-remote.result.now.files c.saturating_add.result c.len.result c.size.result c.reserved.result
    (ap (λ (l : Level). l.main) is) (ap (λ (l : Level). l.pre) is) c.size.ensures c.reserved.ensures c.saturating_add.ensures c.len.ensures
