use Rattle.sc_main_script_words.specs.Counters.{run_lines}
use Rattle.sc_main_script_words.proofs.Chains.{then_more, then_last}
use Rattle.sc_main_script_words.proofs.counters.put_runs.Goals as goal

pub returns : goal.returns
unfolding run_lines
returns c =
    then_last c.put_counter-3.result c.args.out.now.items c.put_counter-2.new.out.items c.put_counter-3.new.out.items _ _ (then_more c.args.out.now.items c.put_counter.new.out.items c.put_counter-2.new.out.items _ _ c.in_ok-put_counter.ensures c.in_ok-put_counter-2.ensures) c.put_counter-3.ensures
