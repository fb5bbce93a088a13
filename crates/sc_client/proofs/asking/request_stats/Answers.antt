use Rattle.std.proofs.Common.{◌≡◌, Result, Ok, Err, ap}
use Rattle.std.specs.Prelude.{IsErr, IsErrAnd}
use Rattle.sc_client.proofs.asking.request_stats.Goals as goal

err_is : {A E : Type 0} (r : Result A E) (e : E) → IsErr r × IsErrAnd r (λ x. x ≡ e) → r ≡ Err e
err_is (Ok a) e h = let no = h.0 in absurd (cc)
err_is (Err x) e h = ap Err h.1

pub returns-in_err-mode-clause-asked : goal.returns-in_err-mode-clause-asked
returns-in_err-mode-clause-asked g c = (
  Ok c.in_ok-info.info,
  (
    c.request_info.new.connection,
    c.in_ok-info.ensures.asked,
    (Err c.in_err-mode.field-0.0, c.in_err-mode.ensures.asked, err_is c.from_residual-in_err-mode.result c.in_err-mode.field-0.0 c.from_residual-in_err-mode.ensures),
  ),
)
