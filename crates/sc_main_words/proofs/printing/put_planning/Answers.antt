use Rattle.sc_main_script_words.proofs.Chains.{then_last}
use Rattle.sc_main_words.proofs.printing.put_planning.Goals as goal

pub returns : goal.returns
returns c = then_last c.put-2.result c.args.out.now.items c.put.new.out.items c.put-2.new.out.items _ _ c.in_ok-put.ensures c.put-2.ensures
