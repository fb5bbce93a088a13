use Rattle.std.proofs.Common.{IfOk, ap, subst, sym, ◌∙◌}
use Rattle.sc_store.specs.Asking.{AsksLevel}
use Rattle.sc_store.specs.Levels.{held_level, read_only}
use Rattle.sc_store.specs.declared.level.Level.TheVariants.{ReadOnly as IsReadOnly}
use Rattle.sc_store.proofs.ReadOnly.{if_asked_read}
use Rattle.sc_store.proofs.level.Level.ask.Goals as goal

pub returns-in-ReadOnly-Remote-clause-asked : goal.returns-in-ReadOnly-Remote-clause-asked
returns-in-ReadOnly-Remote-clause-asked g c =
    let here = c.in-ReadOnly-Remote in
    let then = c.ask-in-ReadOnly-Remote in
    subst (λ s. IfOk then.result (λ answer. AsksLevel c.args.key.now c.args.mode answer (held_level s) (read_only then.new.self))) (sym (here.is ∙ ap IsReadOnly here.field-0-is))
    (if_asked_read then.result c.args.key.now c.args.mode here.only.store then.new.self then.ensures.asked)
