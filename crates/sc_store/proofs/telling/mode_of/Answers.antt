use Rattle.std.proofs.Common.{true, false, sym, ◌∙◌}
use Rattle.sc_store.proofs.Modes.{levels_mode, no_levels_mode}
use Rattle.sc_store.proofs.telling.mode_of.Goals as goal

pub returns-then-is_empty : goal.returns-then-is_empty
returns-then-is_empty g c = no_levels_mode c.args.levels.now (sym c.is_empty.ensures ∙ c.if-is_empty.true)

pub returns-then-all_read_only : goal.returns-then-all_read_only
returns-then-all_read_only g c = levels_mode c.args.levels.now true (sym c.is_empty.ensures ∙ c.if-is_empty.false) (sym c.if-all_read_only.true ∙ c.all_read_only.ensures)

pub returns-else-all_read_only : goal.returns-else-all_read_only
returns-else-all_read_only g c = levels_mode c.args.levels.now false (sym c.is_empty.ensures ∙ c.if-is_empty.false) (sym c.if-all_read_only.false ∙ c.all_read_only.ensures)
