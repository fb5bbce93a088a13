use Rattle.std.proofs.Common.{List, ℕ, subst, sym, ◌∙◌}
use Rattle.sc_entry.specs.Entries.{find_object}
use Rattle.sc_entry.specs.Held.{IsFound}
use Rattle.sc_entry.proofs.Placing.{missing_is}
use Rattle.sc_entry.proofs.cache_read.CacheRead.is_missing.Goals as goal

pub returns : goal.returns
returns c =
    missing_is c.args.self.now c.args.source.now c.find.result c.is_none.result (sym c.is_null.ensures ∙ c.if-is_null.false) c.if-source.false
    (subst (λ (name : List ℕ). IsFound (find_object name c.args.self.now) c.find.result) c.as_str.ensures c.find.ensures) c.is_none.ensures
