use Rattle.std.proofs.Common.{List, ap, ◌∙◌}
use Rattle.sc_store.specs.Held.{Room, room_in}
use Rattle.sc_server_parts.proofs.making.daemon_over.Goals as goal

pub returns-clause-unreserved : goal.returns-clause-unreserved
returns-clause-unreserved g c l = ap (λ (rs : List Room). (room_in rs l).reserved) c.new-3.ensures.rooms ∙ c.requires.unreserved l
