use Rattle.std.proofs.Common.{rules, ◌≡◌, ◌<◌, length, Some, None, ap, sym, ◌∙◌}
use Rattle.sc_store_config.specs.Configs.{place_of}
use Rattle.sc_store_config.proofs.Named.{first_at, left_at, none_left, none_named, place_within}
use Rattle.sc_store_config.proofs.unused.take_remote.Goals as goal

pub returns-in_err-place-clause-taken : goal.returns-in_err-place-clause-taken
returns-in_err-place-clause-taken g c =
    let name = c.args.name.now in
    let absent : place_of name c.args.remotes.now.items ≡ None = ap (λ rs. place_of name rs) (sym c.deref.ensures.value) ∙ sym c.place_of.ensures ∙ c.in_err-place.was in
    c.from_residual.ensures ∙ sym (none_named name c.args.remotes.now.items absent)

pub returns-in_err-place-clause-left : goal.returns-in_err-place-clause-left
returns-in_err-place-clause-left g c =
    let name = c.args.name.now in
    let absent : place_of name c.args.remotes.now.items ≡ None = ap (λ rs. place_of name rs) (sym c.deref.ensures.value) ∙ sym c.place_of.ensures ∙ c.in_err-place.was in
    sym (none_left name c.args.remotes.now.items absent)

pub remove-requires : goal.remove-requires
remove-requires g c =
    let name = c.args.name.now in
    let remotes = c.args.remotes.now.items in
    let here : place_of name remotes ≡ Some c.in_ok-place.place = ap (λ rs. place_of name rs) (sym c.deref.ensures.value) ∙ sym c.place_of.ensures ∙ c.in_ok-place.was in
    let within : c.in_ok-place.place < length remotes = place_within name remotes c.in_ok-place.place here in
    search rules

pub returns-clause-taken : goal.returns-clause-taken
returns-clause-taken g c =
    let name = c.args.name.now in
    let remotes = c.args.remotes.now.items in
    let here : place_of name remotes ≡ Some c.in_ok-place.place = ap (λ rs. place_of name rs) (sym c.deref.ensures.value) ∙ sym c.place_of.ensures ∙ c.in_ok-place.was in
    sym (first_at name remotes c.in_ok-place.place c.remove.result here c.remove.ensures.value)

pub returns-clause-left : goal.returns-clause-left
returns-clause-left g c =
    let name = c.args.name.now in
    let remotes = c.args.remotes.now.items in
    let here : place_of name remotes ≡ Some c.in_ok-place.place = ap (λ rs. place_of name rs) (sym c.deref.ensures.value) ∙ sym c.place_of.ensures ∙ c.in_ok-place.was in
    c.remove.ensures.items ∙ sym (left_at name remotes c.in_ok-place.place here)
