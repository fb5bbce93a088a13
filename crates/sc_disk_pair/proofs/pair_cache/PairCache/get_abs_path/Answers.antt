use Rattle.std.proofs.Common.{Some, ap, bytes_eq, ◌∙◌, subst}
use Rattle.std.specs.Map.{lookup}
use Rattle.sc_disk.proofs.Pairs.{lookup-touched}
use Rattle.sc_disk.specs.Paths.{FindsPath, abs_path}
use Rattle.sc_disk_pair.specs.Pairs.{root_of}
use Rattle.sc_disk_pair.proofs.Changes.{path-absent, path-found}
use Rattle.sc_disk_pair.proofs.pair_cache.PairCache.get_abs_path.Goals as goal

pub returns-in-Some-clause-path : goal.returns-in-Some-clause-path
returns-in-Some-clause-path g c = let old = c.args.self.now in let key = c.args.key.now in let k = c.in_ok-both.both in
    path-found c.args.part key k (root_of c.args.part old.store.disk.root old.pre_root) c.in_ok-path.path c.in-Some.field-0 old.store c.get_abs_path.new.self c.in_ok-both.ensures.key c.in_ok-both.ensures.good
    (c.in_ok-path.ensures ∙ ap (λ r. abs_path r key) c.path.ensures) (subst (λ o. FindsPath k o old.store c.get_abs_path.new.self) c.in-Some.is c.in_ok-get_abs_path.ensures.path)

pub returns-clause-path : goal.returns-clause-path
returns-clause-path g c = let old = c.args.self.now in let key = c.args.key.now in let k = c.in_ok-both.both in
    path-absent c.args.part key k (root_of c.args.part old.store.disk.root old.pre_root) old.store c.get_abs_path.new.self c.in_ok-both.ensures.key c.in_ok-both.ensures.good
    (subst (λ o. FindsPath k o old.store c.get_abs_path.new.self) c.in-None.is c.in_ok-get_abs_path.ensures.path)

pub returns-in-Some-clause-sizes : goal.returns-in-Some-clause-sizes
returns-in-Some-clause-sizes g c = let old = c.args.self.now in let k = c.in_ok-both.both in
    let finds : FindsPath k (Some c.in-Some.field-0) old.store c.get_abs_path.new.self = subst (λ o. FindsPath k o old.store c.get_abs_path.new.self) c.in-Some.is c.in_ok-get_abs_path.ensures.path in
    λ q. ap (lookup (bytes_eq q)) finds.2 ∙ lookup-touched q k old.store.index c.keeps.ensures.distinct
