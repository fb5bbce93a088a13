use Rattle.sc_main_script_words.proofs.TokenLaws.{token_again}
use Rattle.sc_main_script_words.proofs.laws.tokens_are_read_again.Goals as goal

pub returns : goal.returns
returns c = token_again
