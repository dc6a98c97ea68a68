-- What a call's option promises, passed on.
use Rattle.std.proofs.Common.{Option, Some, None, IfSome, IfNone}

pub some_map : {X : Type 0} (P Q : X → Type 0) (r : Option X) → ((x : X) → P x → Q x) → IfSome r P → IfSome r Q
some_map P Q None f h = tt
some_map P Q (Some x) f h = f x h

pub none_map : {X : Type 0} (P Q : Type 0) (r : Option X) → (P → Q) → IfNone r P → IfNone r Q
none_map P Q None f h = f h
none_map P Q (Some x) f h = tt
