use Rattle.sc_main_script_words.proofs.Chains.{then_last, then_more}
use Rattle.sc_main_words.proofs.printing.put_server.Goals as goal

pub returns : goal.returns
returns c =
    then_last c.put-3.result c.args.out.now.items c.put-2.new.out.items c.put-3.new.out.items _ _ (then_more c.args.out.now.items c.put.new.out.items c.put-2.new.out.items _ _ c.in_ok-put.ensures c.in_ok-put-2.ensures) c.put-3.ensures
