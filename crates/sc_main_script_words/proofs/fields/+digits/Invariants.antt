use Rattle.std.proofs.Common.{length}
use Rattle.sc_main_script_words.proofs.fields.+digits.Given as goal

abbrev pub decreases-digits : goal.decreases-digits
decreases-digits l = length l.word.now
