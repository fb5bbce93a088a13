use Rattle.std.proofs.Common.{[], Some, ap, sym, ◌∙◌}
use Rattle.sc_main_script_words.proofs.PlainTokens.{plain_onto}
use Rattle.sc_main_script_words.proofs.fields.copied.Goals as goal

pub returns-in-Ok : goal.returns-in-Ok
returns-in-Ok c = plain_onto [] c.args.word.now c.requires ∙ ap Some (sym c.in-Ok.ensures)
