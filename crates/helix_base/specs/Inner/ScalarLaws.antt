-- Laws of lists of scalar values: the appended one, each of them, and their UTF-8.
use Rattle.std.proofs.Common.{◌≡◌, ℕ, ◌+◌, ◌<◌, zero, suc, true, List, [], ◌∷◌, ◌++◌, length, get_or, take, refl, ap, arith}
use Rattle.std.specs.Char.{IsScalar, encode_utf8}
use Rattle.std.specs.Str.{all_scalars, encode_utf8_all}
use Rattle.std.proofs.lemmas.Str.{encodes-append, scalars-chars}
use Rattle.std.proofs.lemmas.List.{take_more, append-nil}
use Rattle.std.proofs.lemmas.Bool.{and_parts, and_from}

-- a scalar value after scalar values
pub all_scalars-push : (codes : List ℕ) (code : ℕ) → all_scalars codes ≡ true → IsScalar code
    → all_scalars (codes ++ code ∷ []) ≡ true
all_scalars-push [] code all here = and_from _ true here refl
all_scalars-push (first ∷ codes) code all here =
    let parts : (_ ≡ true) × (_ ≡ true) = and_parts _ (all_scalars codes) all in
    and_from _ _ parts.0 (all_scalars-push codes code parts.1 here)

-- each of them is one
pub scalar_at : (codes : List ℕ) (at : ℕ) → all_scalars codes ≡ true → at < length codes → IsScalar (get_or codes at 0)
scalar_at [] at all within = absurd (omega arith)
scalar_at (first ∷ codes) zero all within = (and_parts _ (all_scalars codes) all).0
scalar_at (first ∷ codes) (suc at) all within = scalar_at codes at (and_parts _ (all_scalars codes) all).1 (omega arith)

-- their UTF-8, one at a time
pub encodes-take_more : (codes : List ℕ) (at : ℕ) → at < length codes
    → encode_utf8_all (take (at + 1) codes) ≡ encode_utf8_all (take at codes) ++ encode_utf8 (get_or codes at 0)
encodes-take_more codes at within =
    rw (take_more codes at 0 within, encodes-append (take at codes) (get_or codes at 0 ∷ []))
    (ap (λ s. encode_utf8_all (take at codes) ++ s) (append-nil _))

-- for a loop that writes scalar values, and for what a text spells
pub ruleset written_steps = (scalar_at, encodes-take_more)

pub ruleset read_steps = (scalars-chars)
