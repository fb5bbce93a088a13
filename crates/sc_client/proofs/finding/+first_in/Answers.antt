use Rattle.std.proofs.Common.{◌≡◌, List, ℕ, false, Option, sym, subst}
use Rattle.std.specs.Prelude.{is_some}
use Rattle.sc_entry.specs.Causes.{IfTold}
use Rattle.sc_client.specs.Which.{in_folder, is_there}
use Rattle.sc_client.proofs.Found.{finds_next}
use Rattle.sc_client.proofs.finding.+first_in.Goals as goal

pub returns-in-None : goal.returns-in-None
returns-in-None g c d =
    let table = g.P.Probe.table d.args.probe.now in
    let told = subst (λ (o : Option (List ℕ)). IfTold table (λ tools. is_some o ≡ is_there tools (in_folder d.as_slice.result.now d.as_slice-2.result.now))) d.in-None.is d.in_ok-path.ensures.told in
    let named = subst (λ (n : List ℕ). IfTold table (λ tools. false ≡ is_there tools (in_folder n d.as_slice-2.result.now))) d.as_slice.ensures told in
    finds_next table d.args.name.now d.folder-item.result d.args.folders.now d.first_in.result d.in-len1-up.len_at_least (sym d.folder-item.is)
    (subst (λ (folder : List ℕ). IfTold table (λ tools. false ≡ is_there tools (in_folder d.args.name.now folder))) d.as_slice-2.ensures named)
    d.first_in.ensures
