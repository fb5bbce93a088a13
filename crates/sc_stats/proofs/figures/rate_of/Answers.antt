use Rattle.std.proofs.Common.{◌≡◌, ◌≤◌, arith, rules}
use Rattle.sc_stats.proofs.Rates.{hit_rate-le}
use Rattle.sc_stats.specs.Figures.{hit_rate}
use Rattle.sc_stats.proofs.figures.rate_of.Goals as goal

pub overflow_cast-result : goal.overflow_cast-result
overflow_cast-result c =
    let is : c.rounded.result ≡ hit_rate c.args.hits c.args.misses = search rules in
    let low : hit_rate c.args.hits c.args.misses ≤ 10001 = hit_rate-le c.args.hits c.args.misses in
    omega (arith, is, low)
