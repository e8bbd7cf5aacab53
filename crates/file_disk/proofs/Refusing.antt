-- What a `?` gives on.
use Rattle.std.proofs.Common.{◌≡◌, Result, Ok, Err, IfErr}
use Rattle.std.specs.Prelude.{IsErrAnd}

pub err_is : {T E : Type 0} (P : E → Type 0) (r : Result T E) (e : E) → IsErrAnd r (λ d. d ≡ e) → P e → IfErr r P
err_is P (Ok x) e is holds = absurd is
err_is P (Err d) e is holds = rw is holds
