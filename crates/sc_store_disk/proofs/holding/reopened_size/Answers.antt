use Rattle.std.proofs.Common.{List, rules, subst}
use Rattle.std.proofs.lemmas.Fn.{filter_same}
use Rattle.std.specs.List.Sorted.{IsPermutation}
use Rattle.sc_disk.specs.Opening.{is_kept}
use Rattle.sc_disk.specs.declared.disk.Listed.{Listed}
use Rattle.sc_store_disk.proofs.holding.reopened_size.Goals as goal

pub returns : goal.returns
returns c =
    let kept = filter_same _ (is_kept c.args.capacity) _ (λ x b f' k. search rules) _ _ c.retain.ensures.filtered in
    record {
      order = c.sort.new.self.items;
      same = subst (λ (l : List Listed). IsPermutation l c.sort.new.self.items) kept c.in_ok-sort.ensures.permutation;
      sorted = c.in_ok-sort.ensures.sorted;
      bytes = c.newest_within.ensures.bytes;
      files = c.newest_within.ensures.files;
    }
