use Rattle.std.proofs.Common.{◌≡◌, None, Some, ◌∙◌, subst, arith}
use Rattle.sc_compile_table.specs.Tables.{first_of}
use Rattle.sc_compile_table.proofs.Places.{found_first, none_first}
use Rattle.sc_compile_table.proofs.table.Table.first.Goals as goal

pub index-requires : goal.index-requires
index-requires g c =
    let found = found_first g.T.Keyed.key c.args.key.now c.self.inside.values.items c.in-Some.place.now (c.in-Some.ensures.value ∙ c.self.invariant c.args.key.now) in
    let high = found.high in
    omega (arith, high)

pub returns-in-None : goal.returns-in-None
returns-in-None g c =
    subst (λ vs. None ≡ first_of g.T.Keyed.key c.args.key.now vs) c.self.view_is
    (none_first g.T.Keyed.key c.args.key.now c.self.inside.values.items (c.in-None.ensures.value ∙ c.self.invariant c.args.key.now))

pub returns-in-Some : goal.returns-in-Some
returns-in-Some g c =
    let found = found_first g.T.Keyed.key c.args.key.now c.self.inside.values.items c.in-Some.place.now (c.in-Some.ensures.value ∙ c.self.invariant c.args.key.now) in
    subst (λ vs. Some c.index.result.now ≡ first_of g.T.Keyed.key c.args.key.now vs) c.self.view_is (found.is c.index.result.now c.index.ensures)
