-- What holds of a result, whichever it is.
use Rattle.std.proofs.Common.{◌≡◌, subst, sym}
use Rattle.std.specs.Prelude.{Result, IfOk, IfErr, IsErrAnd}
use Rattle.std.specs.declared.result.Result.TheVariants.{Ok, Err}

pub if_ok : {X E : Type 0} {P : X → Type 0} (r : Result X E) → ((x : X) → P x) → IfOk r P
if_ok (Ok x) p = p x
if_ok (Err e) p = tt

pub if_err : {X E : Type 0} {P : E → Type 0} (r : Result X E) → ((e : E) → P e) → IfErr r P
if_err (Ok x) p = tt
if_err (Err e) p = p e

pub if_ok_map : {X E : Type 0} {P Q : X → Type 0} (r : Result X E) → IfOk r P → ((x : X) → P x → Q x) → IfOk r Q
if_ok_map (Ok x) holds f = f x holds
if_ok_map (Err e) holds f = tt

-- an error that is v has what v has
pub if_err_same : {X E : Type 0} (P : E → Type 0) (r : Result X E) (v : E) → IsErrAnd r (λ e. e ≡ v) → P v → IfErr r P
if_err_same P (Ok x) v is p = tt
if_err_same P (Err e) v is p = subst P (sym is) p
