-- Equal prefixes are completed by the same words.
use Rattle.std.specs.Prelude.{◌≡◌, ◌↔◌, ℕ, Bool, true, ◌&&◌, eqb, Option, Some, None, List, IsTrue}
use Rattle.std.proofs.Common.{sym, subst, ap, ◌∙◌}
use Rattle.std.proofs.lemmas.Bool.{and_parts, eqb-true}
use Rattle.std.specs.Option.{option_eq}
use Rattle.helix_values.specs.declared.kind.Code.{Code}
use Rattle.helix_codes.specs.declared.prefix.Prefix.{Prefix}
use Rattle.helix_codes.specs.Inner.Completed.{completed_by}

abbrev pub prefix_of : ℕ → ℕ → ℕ → Prefix
prefix_of count even odd = record { count = count; even = even; odd = odd }

abbrev pub prefix_eq : Prefix → Prefix → Bool
prefix_eq one other = eqb one.count other.count && (eqb one.even other.even && eqb one.odd other.odd)

same_prefix : (one other : Prefix) → prefix_eq one other ≡ true → one ≡ other
same_prefix one other equal =
    let parts = and_parts (eqb one.count other.count) (eqb one.even other.even && eqb one.odd other.odd) equal in
    let sums = and_parts (eqb one.even other.even) (eqb one.odd other.odd) parts.1 in
    ap (λ n. prefix_of n one.even one.odd) (eqb-true one.count other.count parts.0)
    ∙ (ap (λ n. prefix_of other.count n one.odd) (eqb-true one.even other.even sums.0)
    ∙ ap (λ n. prefix_of other.count other.even n) (eqb-true one.odd other.odd sums.1))

pub same_completions : (code : Code) (one other : Option Prefix) → option_eq prefix_eq one other ≡ true
    → (word : List ℕ) → IsTrue (completed_by code one word) ↔ IsTrue (completed_by code other word)
same_completions code None None equal word = ((λ h. h), (λ h. h))
same_completions code None (Some b) equal word = cc
same_completions code (Some a) None equal word = cc
same_completions code (Some a) (Some b) equal word = let same : a ≡ b = same_prefix a b equal in (
  (λ h. subst (λ p. IsTrue (completed_by code (Some p) word)) same h),
  (λ h. subst (λ p. IsTrue (completed_by code (Some p) word)) (sym same) h),
)
