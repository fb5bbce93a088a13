use Rattle.std.proofs.Common.{sym, ◌∙◌, arith}
use Rattle.sc_main_script_words.proofs.Escapes.{escape_taken}
use Rattle.sc_main_script_words.proofs.fields.escape.Goals as goal

pub returns-in_ok-byte-in-len3-up-clause-value : goal.returns-in_ok-byte-in-len3-up-clause-value
returns-in_ok-byte-in-len3-up-clause-value c = λ sofar. escape_taken sofar c.args.text.now c.args.first c.in_ok-byte-in-len3-up.byte (omega arith) (omega arith) (omega arith)
    (sym c.byte_of.ensures ∙ c.in_ok-byte-in-len3-up.was)
