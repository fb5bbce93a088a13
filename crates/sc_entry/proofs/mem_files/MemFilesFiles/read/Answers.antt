use Rattle.std.proofs.Common.{◌≡◌, Some, None, inr, ap, sym, ◌∙◌, rules}
use Rattle.sc_entry.proofs.TextMaps.{get_text}
use Rattle.sc_entry.proofs.mem_files.MemFilesFiles.read.Goals as goal

some_not_none : {A : Type 0} (a : A) → Some a ≡ None → ⊥
some_not_none a e = (cc)

pub returns-in_ok-content-in-Some-clause-told : goal.returns-in_ok-content-in-Some-clause-told
returns-in_ok-content-in-Some-clause-told c =
    let same : c.in_ok-content-in-Some.content ≡ c.in-Some.content.now = search rules in
    get_text c.args.self.now.by_path.entries c.args.path.now ∙ sym c.in-Some.ensures.value ∙ ap Some (sym same)

pub returns-in_err-content-in-Some-clause-absent : goal.returns-in_err-content-in-Some-clause-absent
returns-in_err-content-in-Some-clause-absent c = λ none.
    let some = get_text c.args.self.now.by_path.entries c.args.path.now ∙ sym c.in-Some.ensures.value in absurd (some_not_none c.in-Some.content.now (sym some ∙ none))

pub returns-in_ok-content-in-Some-clause-absent : goal.returns-in_ok-content-in-Some-clause-absent
returns-in_ok-content-in-Some-clause-absent c = λ none.
    let some = get_text c.args.self.now.by_path.entries c.args.path.now ∙ sym c.in-Some.ensures.value in absurd (some_not_none c.in-Some.content.now (sym some ∙ none))

pub returns-in-None-clause-only : goal.returns-in-None-clause-only
returns-in-None-clause-only c = λ is. inr (get_text c.args.self.now.by_path.entries c.args.path.now ∙ sym c.in-None.ensures.value)
