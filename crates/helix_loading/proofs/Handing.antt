-- A fault that is handed on by `?`.
use Rattle.std.proofs.Common.{◌≡◌, sym, subst}
use Rattle.std.specs.Prelude.{Result, Ok, Err, IfOk, IfErr, IsErrAnd}

-- what holds of the fault holds of the answer
pub handed : {T F : Type 0} (P : F → Type 0) (result : Result T F) (fault : F) → IsErrAnd result (λ f. f ≡ fault)
    → P fault → IfErr result P
handed P (Ok x) fault none holds = absurd none
handed P (Err f) fault is holds = subst P (sym is) holds

-- and what follows from what holds of an answer
pub ok_gives : {T F : Type 0} (P Q : T → Type 0) (result : Result T F) → ((x : T) → P x → Q x) → IfOk result P
    → IfOk result Q
ok_gives P Q (Ok x) gives holds = gives x holds
ok_gives P Q (Err f) gives holds = tt

pub err_gives : {T F : Type 0} (P Q : F → Type 0) (result : Result T F) → ((f : F) → P f → Q f) → IfErr result P
    → IfErr result Q
err_gives P Q (Ok x) gives holds = tt
err_gives P Q (Err f) gives holds = gives f holds
