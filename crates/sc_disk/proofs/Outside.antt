-- Whether something stands at an outside path.
use Rattle.std.proofs.Common.{◌≡◌, ℕ, Bool, true, false, not, is_some, List, Option, Some, None, Bor, refl, sym, ap, ◌∙◌}
use Rattle.std.specs.Option.{option_copied}
use Rattle.sc_disk.specs.Disks.{outside_file_at}
use Rattle.sc_disk.specs.Memory.{Memory, lacks_outside, outside_of}

turned : (b s : Bool) → s ≡ not b → b ≡ not s
turned true s e = sym (ap not e)
turned false s e = sym (ap not e)

pub none_copied : {X : Type 0} (o : Option (Bor X)) (p : Option X) (b : Bool) → is_some o ≡ not b → option_copied o ≡ p → b ≡ not (is_some p)
none_copied None p b n e = turned b false n ∙ ap (λ q. not (is_some q)) e
none_copied (Some x) p b n e = turned b true n ∙ ap (λ q. not (is_some q)) e

true_false : true ≡ false → ⊥
true_false e = cc

pub not_lacking : (m : Memory) (path : List ℕ) → outside_file_at (outside_of m.outside) path ≡ None → lacks_outside m path ≡ false → ⊥
not_lacking m path none h = true_false (sym (ap (λ o. not (is_some o)) none) ∙ h)
