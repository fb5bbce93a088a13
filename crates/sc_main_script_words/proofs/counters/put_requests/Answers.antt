use Rattle.sc_main_script_words.specs.Counters.{request_lines}
use Rattle.sc_main_script_words.proofs.Chains.{then_more, then_last}
use Rattle.sc_main_script_words.proofs.counters.put_requests.Goals as goal

pub returns : goal.returns
unfolding request_lines
returns c =
    then_last c.put_counter-5.result c.args.out.now.items c.put_counter-4.new.out.items c.put_counter-5.new.out.items _ _ (then_more c.args.out.now.items c.put_counter-3.new.out.items c.put_counter-4.new.out.items _ _ (then_more c.args.out.now.items c.put_counter-2.new.out.items c.put_counter-3.new.out.items _ _ (then_more c.args.out.now.items c.put_counter.new.out.items c.put_counter-2.new.out.items _ _ c.in_ok-put_counter.ensures c.in_ok-put_counter-2.ensures) c.in_ok-put_counter-3.ensures) c.in_ok-put_counter-4.ensures) c.put_counter-5.ensures
