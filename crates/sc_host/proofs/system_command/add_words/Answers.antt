use Rattle.std.proofs.Common.{sym, subst, ◌∙◌}
use Rattle.std.specs.Str.{IsUtf8}
use Rattle.sc_host.proofs.system_command.add_words.Goals as goal

pub text_of-requires : goal.text_of-requires
text_of-requires c =
    subst IsUtf8 (sym (c.as_slice.ensures ∙ c.word-item.is)) (c.requires c.loop-word.word-index c.word-item.result c.loop-word-test.true)
