-- Lengths that signed atoms leave.
use Rattle.std.proofs.Common.{◌≡◌, ◌≢◌, ◌↔◌, ℕ, ◌+◌, ◌≤◌, ◌<◌, min, Bool, true, false, Result, Ok, Err, List, [], ◌∷◌, ◌++◌, length, get_or, take, sym, subst, arith, ⊎_elim}
use Rattle.std.specs.List.{All, Contains}
use Rattle.std.specs.Result.{IfOk}
use Rattle.std.proofs.lemmas.Bool.{cases_lt}
use Rattle.std.proofs.lemmas.List.{take_all}
use Rattle.std.proofs.lemmas.List.Elements.{Contains-append_left, Contains-push, Contains-push_cases}
use Rattle.helix_base.specs.declared.memory.Memory.{Memory}
use Rattle.helix_profile.specs.Satisfaction.{Signed}
use Rattle.helix_profile.specs.declared.test.Test.{Test}
use Rattle.helix_domains.specs.declared.atom.SignedAtom.{SignedAtom}
use Rattle.helix_domains.specs.declared.lengths.Lengths.{Lengths}
use Rattle.helix_domains.specs.Inner.Texts.{IsLengthOf, IsLengthFor, PassesLength}
use Rattle.helix_domains.proofs.Walks.{all_more}

-- one more length is refused
pub without_one : (old new : Lengths) (count : ℕ) → new.shortest ≡ old.shortest → new.end ≡ old.end
    → new.refused ≡ old.refused ++ count ∷ [] → (n : ℕ) → IsLengthOf new n ↔ (IsLengthOf old n × (n ≢ count))
without_one old new count shortest end refused n = (
  (λ is. (
    record {
      not_short = omega (arith, is.not_short, shortest);
      not_long = omega (arith, is.not_long, end);
      not_refused = λ has. is.not_refused (subst (λ l. Contains l n) (sym refused)
          (Contains-append_left old.refused (count ∷ []) n has));
    },
    λ same. is.not_refused (subst (λ l. Contains l n) (sym refused)
        (subst (Contains (old.refused ++ count ∷ [])) (sym same) (Contains-push old.refused count))),
  )),
  (λ both. record {
    not_short = omega (arith, both.0.not_short, shortest);
    not_long = omega (arith, both.0.not_long, end);
    not_refused = λ has. ⊎_elim both.0.not_refused (λ last. both.1 (sym last))
        (Contains-push_cases old.refused count n (subst (λ l. Contains l n) refused has));
  }),
)

-- the parts of a length test, of lengths up to 1,000
module _ (lengths : Lengths) (few : lengths.end ≤ 1001) (sign : Bool) (count next : ℕ)
    (after : next ≡ min (count + 1) 4294967295) where
  pub longer_true : sign ≡ true → (new : Lengths) → ((n : ℕ) → IsLengthOf new n ↔ (IsLengthOf lengths n × (next ≤ n)))
      → (n : ℕ) → IsLengthOf new n ↔ (IsLengthOf lengths n × Signed sign (count < n))
  longer_true is new exact n =
      subst (λ s. IsLengthOf new n ↔ (IsLengthOf lengths n × Signed s (count < n))) (sym is) (
        (λ h. let both = (exact n).0 h in (both.0, omega (arith, both.1, both.0.not_long, after, few))),
        (λ h. (exact n).1 (h.0, omega (arith, h.1, after))),
      )

  pub longer_false : sign ≡ false → (new : Lengths) → ((n : ℕ) → IsLengthOf new n ↔ (IsLengthOf lengths n × (n < next)))
      → (n : ℕ) → IsLengthOf new n ↔ (IsLengthOf lengths n × Signed sign (count < n))
  longer_false is new exact n =
      subst (λ s. IsLengthOf new n ↔ (IsLengthOf lengths n × Signed s (count < n))) (sym is) (
        (λ h. let both = (exact n).0 h in (both.0, λ more. absurd (omega (arith, both.1, more, after)))),
        (λ h. (exact n).1 (
          h.0,
          ⊎_elim (λ more. absurd (h.1 more))
              (λ not. let long = h.0.not_long in omega (arith, not, long, after, few)) (cases_lt count n),
        )),
      )

  pub of_length : sign ≡ true → (middle new : Lengths)
      → ((n : ℕ) → IsLengthOf middle n ↔ (IsLengthOf lengths n × (count ≤ n)))
      → ((n : ℕ) → IsLengthOf new n ↔ (IsLengthOf middle n × (n < next)))
      → (n : ℕ) → IsLengthOf new n ↔ (IsLengthOf lengths n × Signed sign (n ≡ count))
  of_length is middle new low high n =
      subst (λ s. IsLengthOf new n ↔ (IsLengthOf lengths n × Signed s (n ≡ count))) (sym is) (
        (λ h. let both = (high n).0 h in let first = (low n).0 both.0 in
            (first.0, omega (arith, first.1, both.1, after))),
        (λ h. let long = h.0.not_long in
            (high n).1 ((low n).1 (h.0, omega (arith, h.1)), omega (arith, h.1, after, long, few))),
      )

-- the same without a next number
module _ (lengths : Lengths) (sign : Bool) (count : ℕ) where
  pub shorter_true : sign ≡ true → (new : Lengths) → ((n : ℕ) → IsLengthOf new n ↔ (IsLengthOf lengths n × (n < count)))
      → (n : ℕ) → IsLengthOf new n ↔ (IsLengthOf lengths n × Signed sign (n < count))
  shorter_true is new exact n =
      subst (λ s. IsLengthOf new n ↔ (IsLengthOf lengths n × Signed s (n < count))) (sym is) (exact n)

  pub shorter_false : sign ≡ false → (new : Lengths)
      → ((n : ℕ) → IsLengthOf new n ↔ (IsLengthOf lengths n × (count ≤ n)))
      → (n : ℕ) → IsLengthOf new n ↔ (IsLengthOf lengths n × Signed sign (n < count))
  shorter_false is new exact n =
      subst (λ s. IsLengthOf new n ↔ (IsLengthOf lengths n × Signed s (n < count))) (sym is) (
        (λ h. let both = (exact n).0 h in (both.0, λ less. absurd (omega (arith, both.1, less)))),
        (λ h. (exact n).1 (h.0, ⊎_elim (λ less. absurd (h.1 less)) (λ not. not) (cases_lt n count))),
      )

  pub not_of_length : sign ≡ false → (result : Result Lengths Memory)
      → IfOk result (λ new. (n : ℕ) → IsLengthOf new n ↔ (IsLengthOf lengths n × (n ≢ count)))
      → IfOk result (λ new. (n : ℕ) → IsLengthOf new n ↔ (IsLengthOf lengths n × Signed sign (n ≡ count)))
  not_of_length is (Err e) exact = tt
  not_of_length is (Ok new) exact = λ n.
      subst (λ s. IsLengthOf new n ↔ (IsLengthOf lengths n × Signed s (n ≡ count))) (sym is) (exact n)

-- what a test with a sign says, as an atom has it
pub as_atom : (signed : SignedAtom) (t : Test) (lengths new : Lengths) → signed.atom.test ≡ t
    → ((n : ℕ) → IsLengthOf new n ↔ (IsLengthOf lengths n × IsLengthFor signed.sign t n)) → (n : ℕ)
    → IsLengthOf new n ↔ (IsLengthOf lengths n × PassesLength signed n)
as_atom signed t lengths new is exact n =
    subst (λ u. IsLengthOf new n ↔ (IsLengthOf lengths n × IsLengthFor signed.sign u n)) (sym is) (exact n)

pub as_atom_ok : (signed : SignedAtom) (t : Test) (lengths : Lengths) (result : Result Lengths Memory)
    → signed.atom.test ≡ t
    → IfOk result (λ new. (n : ℕ) → IsLengthOf new n ↔ (IsLengthOf lengths n × IsLengthFor signed.sign t n))
    → IfOk result (λ new. (n : ℕ) → IsLengthOf new n ↔ (IsLengthOf lengths n × PassesLength signed n))
as_atom_ok signed t lengths (Err e) is exact = tt
as_atom_ok signed t lengths (Ok new) is exact = as_atom signed t lengths new is exact

-- the lengths of all atoms
pub lengths_more : (atoms : List SignedAtom) (i : ℕ) (signed : SignedAtom) → i < length atoms
    → signed ≡ get_or atoms i signed → (lengths new : Lengths)
    → ((n : ℕ) → IsLengthOf lengths n ↔ ((n ≤ 1000) × All (λ s. PassesLength s n) (take i atoms)))
    → ((n : ℕ) → IsLengthOf new n ↔ (IsLengthOf lengths n × PassesLength signed n)) → (n : ℕ)
    → IsLengthOf new n ↔ ((n ≤ 1000) × All (λ s. PassesLength s n) (take (i + 1) atoms))
lengths_more atoms i signed within is lengths new so_far exact n =
    let more = all_more (λ s. PassesLength s n) atoms i signed within is in (
      (λ h. let both = (exact n).0 h in let first = (so_far n).0 both.0 in (first.0, more.1 (first.1, both.1))),
      (λ h. let both = more.0 h.1 in (exact n).1 ((so_far n).1 (h.0, both.0), both.1)),
    )

pub lengths_all : (atoms : List SignedAtom) (i : ℕ) (lengths : Lengths) → length atoms ≤ i
    → ((n : ℕ) → IsLengthOf lengths n ↔ ((n ≤ 1000) × All (λ s. PassesLength s n) (take i atoms))) → (n : ℕ)
    → IsLengthOf lengths n ↔ ((n ≤ 1000) × All (λ s. PassesLength s n) atoms)
lengths_all atoms i lengths past so_far n =
    subst (λ all. IsLengthOf lengths n ↔ ((n ≤ 1000) × All (λ s. PassesLength s n) all)) (take_all i atoms past)
    (so_far n)
