use Rattle.sc_main_script_words.proofs.NumberLaws.{number_again}
use Rattle.sc_main_script_words.proofs.laws.numbers_are_read_again.Goals as goal

pub returns : goal.returns
returns c = number_again
