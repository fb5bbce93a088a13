use Rattle.std.proofs.Common.{◌≡◌, None, Some, sym, ◌∙◌, subst, arith}
use Rattle.sc_compile_table.specs.Books.{count_of, next_value}
use Rattle.sc_compile_table.proofs.Turning.{next_found, next_none}
use Rattle.sc_compile_table.proofs.book.Book.next.Goals as goal

pub returns-in-None : goal.returns-in-None
returns-in-None g c =
    subst (λ b. None ≡ next_value g.T.Keyed.key c.args.key.now b.values b.done) c.self.view_is
    (next_none g.T.Keyed.key c.args.key.now c.self.inside.values.items c.taken_at-taken.result (count_of c.args.key.now c.self.inside.done.items) c.places_at.result.now
    (c.places_at.ensures ∙ c.self.invariant.stand c.args.key.now) (c.taken_at-taken.ensures ∙ c.self.invariant.counted c.args.key.now) (sym c.in-None.ensures))

pub index-requires : goal.index-requires
index-requires g c =
    let found = next_found g.T.Keyed.key c.args.key.now c.self.inside.values.items c.taken_at-taken.result (count_of c.args.key.now c.self.inside.done.items) c.in-Some.place c.places_at.result.now
    (c.places_at.ensures ∙ c.self.invariant.stand c.args.key.now) (c.taken_at-taken.ensures ∙ c.self.invariant.counted c.args.key.now) (sym c.in-Some.ensures) in
    let high = found.high in
    let len = c.self.inside.values.ok.0 in
    omega (arith, high, len)

pub returns-in-Some : goal.returns-in-Some
returns-in-Some g c =
    let found = next_found g.T.Keyed.key c.args.key.now c.self.inside.values.items c.taken_at-taken.result (count_of c.args.key.now c.self.inside.done.items) c.in-Some.place c.places_at.result.now
    (c.places_at.ensures ∙ c.self.invariant.stand c.args.key.now) (c.taken_at-taken.ensures ∙ c.self.invariant.counted c.args.key.now) (sym c.in-Some.ensures) in
    subst (λ b. Some c.index.result.now ≡ next_value g.T.Keyed.key c.args.key.now b.values b.done) c.self.view_is (found.is c.index.result.now c.index.ensures)
