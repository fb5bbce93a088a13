use Rattle.std.proofs.Common.{List, ℕ, ◌≡◌, [], ap, sym, ◌∙◌, rules}
use Rattle.sc_client.specs.Notes.{without_notes}
use Rattle.sc_client.proofs.Noting.{without_notes-nil}
use Rattle.sc_client.proofs.notes.without_notes.Goals as goal

pub returns-then-is_empty : goal.returns-then-is_empty
returns-then-is_empty c =
    let none : c.args.notes ≡ [] = search rules in
    sym (ap (λ (notes : List (List ℕ)). without_notes notes c.args.text) none ∙ without_notes-nil c.args.text)
