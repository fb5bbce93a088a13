use Rattle.std.proofs.Common.{option_map, sym, ap, ◌∙◌}
use Rattle.sc_disk_pair.specs.Parts.{cut_part}
use Rattle.sc_disk_pair.proofs.Placed.{held-neither}
use Rattle.sc_disk_pair.proofs.two.Two.place.Goals as goal

pub returns-in_default-clause-held : goal.returns-in_default-clause-held
returns-in_default-clause-held g c = held-neither c.args.self.now c.refuse.new.self c.args.path.now c.refuse.ensures.joint
    (sym (ap cut_part c.as_str.ensures) ∙ sym c.cut_part.ensures ∙ ap (option_map (λ p. (p.0, p.1.now))) c.in_default.is) c.refuse.ensures.counted
