use Rattle.std.specs.BTreeMap.{get}
use Rattle.std.specs.Cmp.Lexicographic.{slice_cmp}
use Rattle.std.specs.Ordering.{nat_cmp}
use Rattle.std.proofs.Common.{None}
use Rattle.sc_compile.proofs.Keeping.{set_at}
use Rattle.sc_compile.proofs.map.CompilerMap.forget.Goals as goal

pub returns : goal.returns
returns c = λ other.
    set_at c.args.path.now other None (get (slice_cmp nat_cmp) c.args.self.now.kept other) (get (slice_cmp nat_cmp) c.remove-forgotten.new.self other) (c.remove-forgotten.ensures.updates.0 other)
