use Rattle.std.proofs.Common.{sym, ap, ◌∙◌}
use Rattle.sc_store.proofs.Behind.{each_unreserved, none_reserved}
use Rattle.sc_store.specs.Held.{Held, are_unreserved}
use Rattle.sc_store.specs.Levels.{rooms_of}
use Rattle.sc_store.proofs.levels.Layered.is_unreserved.Goals as goal

pub returns : goal.returns
returns g c =
    let is = c.are_unreserved.ensures ∙ ap (λ ls. are_unreserved (rooms_of ls)) c.deref.ensures.value ∙ ap (λ (h : Held). are_unreserved h.rooms) c.self.view_is in
    (λ free. each_unreserved c.args.self.now.rooms (sym is ∙ free), λ none. is ∙ none_reserved c.args.self.now.rooms none)
