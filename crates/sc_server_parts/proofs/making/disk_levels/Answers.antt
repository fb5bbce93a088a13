use Rattle.std.proofs.Common.{◌≡◌, [], ◌∷◌, ap, ◌∙◌, rules}
use Rattle.sc_model.specs.declared.level.Policy.TheVariants.{Single}
use Rattle.sc_store.specs.Held.{Held, HeldLevel, held_of, room_in}
use Rattle.sc_server_parts.proofs.Unreserved.{alone_free}
use Rattle.sc_server_parts.proofs.making.disk_levels.Goals as goal

pub returns-clause-unreserved : goal.returns-clause-unreserved
returns-clause-unreserved g c l =
    let store = c.new-store.result in
    let same : c.new.result ≡ held_of (store ∷ []) Single = search rules in
    ap (λ (h : Held). (room_in h.rooms l).reserved) same ∙ alone_free store (ap (λ (h : HeldLevel). h.room.reserved) c.new-store.ensures) l
