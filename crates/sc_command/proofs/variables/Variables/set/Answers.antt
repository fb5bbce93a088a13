use Rattle.std.proofs.Common.{◌≡◌, refl, ap, ◌∙◌, rules}
use Rattle.sc_command.specs.Variables.{named}
use Rattle.sc_command.proofs.Names.{named_insert}
use Rattle.sc_command.proofs.variables.Variables.set.Goals as goal

pub returns-clause-ok : goal.returns-clause-ok
returns-clause-ok c =
    let name : c.into_vec-name.result.items ≡ c.args.name.now = search rules in
    let value : c.in_ok-value.value ≡ c.args.value.now = search rules in
    let whole = named_insert c.self.inside.by_name.entries c.into_vec-name.result c.in_ok-value.value in
    ap named c.in_ok-insert.ensures.entries ∙ whole ∙ rw (name, value, c.self.view_is) refl
