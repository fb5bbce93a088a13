use Rattle.std.proofs.Common.{◌≡◌, ◌∙◌, OnOk, subst}
use Rattle.indexmap.proofs.CallerLemmas.{insert_entry-new}
use Rattle.indexmap.specs.IndexMap.{insert_entry}
use Rattle.sc_lru_tests.proofs.shifted.Order.push_last.Goals as goal

pub returns-clause-entries : goal.returns-clause-entries
returns-clause-entries g c =
    let es = c.self.inside.map.entries in
    let put = subst (λ r. OnOk r (c.insert.new.self.entries ≡ insert_entry g.K.PartialEq.eq es c.args.key c.args.value)) c.unwrap.ensures c.insert.ensures.entries in
    let absent = rw (← c.self.view_is) at c.requires.absent in
    rw (← c.self.view_is) (put ∙ insert_entry-new g.K.PartialEq.eq c.self.inside.map c.args.key c.args.value absent)
