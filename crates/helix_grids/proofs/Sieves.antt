-- The least values of a window that aren't excluded.
use Rattle.std.proofs.Common.{◌≡◌, ℕ, ◌+◌, ◌<◌, ◌≤◌, ℤ, pos, ◌+ℤ◌, ◌≤ℤ◌, ◌<ℤ◌, List, length, get_or, set}
use Rattle.std.proofs.Common.{Option, None, inl, inr, arith, ap, sym, ◌∙◌, subst, ⊎_elim}
use Rattle.std.specs.List.{Contains, HoldsAt}
use Rattle.std.proofs.lemmas.Int.{ints}
use Rattle.std.proofs.lemmas.Bool.{cases_lt, cases_eq}
use Rattle.std.proofs.lemmas.List.{get_or_default, get_or-set_same, get_or-set_other}
use Rattle.helix_ladders.specs.Scale.{Ladder, IsLeast}
use Rattle.helix_grids.specs.declared.window.Window.{Window}
use Rattle.helix_grids.specs.Tests.{IsLeastOf}
use Rattle.helix_grids.specs.Inner.Window.{IsInWindow}
use Rattle.helix_grids.specs.Inner.Sieve.{AreAscending, IsSifted, AreNext, IsItOrNext}
use Rattle.helix_grids.proofs.LeastValues.{least_of_same}
use Rattle.helix_grids.proofs.OnAndOff.{beyond}
use Rattle.helix_grids.proofs.Ascending.{in_order}

-- to each excluded value from an index on, the least value above it that isn't excluded
abbrev pub AreNextFrom : Ladder → Window → List ℤ → List (Option ℤ) → ℕ → Type 0
AreNextFrom ladder window excluded next index =
    (k : ℕ) (d : ℤ) → index ≤ k → k < length excluded →
    IsLeastOf (λ v. IsSifted ladder window excluded v × (get_or excluded k d <ℤ v)) (get_or next k None)

module _ (ladder : Ladder) (window : Window) (excluded : List ℤ) where
  -- the least value of the window is the answer where it isn't excluded
  first_stays : (bound first : ℤ) → IsLeast (λ v. IsInWindow ladder window v × (bound ≤ℤ v)) first →
      ¬ Contains excluded first → IsLeast (λ v. IsSifted ladder window excluded v × (bound ≤ℤ v)) first
  first_stays bound first least kept = record {
    has = ((least.has.0, kept), least.has.1);
    least = λ v has. least.least v (has.0.0, has.1);
  }

  -- where it is excluded, the answer is what is next to it
  first_goes : (next : List (Option ℤ)) (bound first : ℤ) (index : ℕ) →
      IsLeast (λ v. IsInWindow ladder window v × (bound ≤ℤ v)) first → index < length excluded →
      HoldsAt (λ y. y ≡ first) excluded index → AreNext ladder window excluded next bound →
      IsLeastOf (λ v. IsSifted ladder window excluded v × (bound ≤ℤ v)) (get_or next index None)
  first_goes next bound first index least within is right =
      least_of_same (λ v. IsSifted ladder window excluded v × (first <ℤ v)) _ _
      (λ v has. (has.0, omega (arith, ints, has.1, least.has.1)))
      (λ v has. (
        has.0,
        beyond first v (Contains excluded) (
          index,
          within,
          is first,
        ) has.0.1 (least.least v (has.0.0, has.1)),
      ))
      (subst (λ z. IsLeastOf (λ v. IsSifted ladder window excluded v × (z <ℤ v)) (get_or next index None)) (is first)
      (right index first within (subst (λ z. bound ≤ℤ z) (sym (is first)) least.has.1)))

  pub first_or_next : (next : List (Option ℤ)) (bound first : ℤ) (answer : Option ℤ) →
      IsLeast (λ v. IsInWindow ladder window v × (bound ≤ℤ v)) first → AreNext ladder window excluded next bound →
      IsItOrNext excluded next first answer → IsLeastOf (λ v. IsSifted ladder window excluded v × (bound ≤ℤ v)) answer
  first_or_next next bound first answer least right (inl stays) =
      subst (IsLeastOf (λ v. IsSifted ladder window excluded v × (bound ≤ℤ v))) (sym stays.1)
      (first_stays bound first least stays.0)
  first_or_next next bound first answer least right (inr goes) =
      subst (IsLeastOf (λ v. IsSifted ladder window excluded v × (bound ≤ℤ v))) (sym goes.3)
      (first_goes next bound first goes.0 least goes.1 goes.2 right)

  -- what is known after an index is enough from the number above the value at that index on
  pub next_above : (next : List (Option ℤ)) (index after : ℕ) (e : ℤ) → after ≡ index + 1 → AreAscending excluded →
      index < length excluded → AreNextFrom ladder window excluded next after →
      AreNext ladder window excluded next (get_or excluded index e +ℤ pos 1)
  next_above next index after e one ascending within right k d inside reached =
      ⊎_elim (λ later. right k d (omega arith) inside)
      (λ before.
      let low : get_or excluded k d ≤ℤ get_or excluded index d = in_order excluded ascending k index d before within in
      let same : get_or excluded index e ≡ get_or excluded index d = get_or_default excluded index e d within in
      absurd (omega (arith, ints)))
      (cases_lt index k)

  at_index : (next : List (Option ℤ)) (index : ℕ) (e : ℤ) (answer : Option ℤ) → length next ≡ length excluded →
      index < length excluded →
      IsLeastOf (λ v. IsSifted ladder window excluded v × (get_or excluded index e <ℤ v)) answer → (k : ℕ) (d : ℤ) →
      k ≡ index → k < length excluded →
      IsLeastOf (λ v. IsSifted ladder window excluded v
      × (get_or excluded k d <ℤ v)) (get_or (set next index answer) k None)
  at_index next index e answer len within least k d same inside =
      let there : get_or (set next index answer) k None ≡ answer = ap (λ i. get_or (set next index answer) i None) same
      ∙ get_or-set_same next index answer None (omega arith) in
      let value : get_or excluded k d ≡ get_or excluded index e = ap (λ i. get_or excluded i d) same
      ∙ get_or_default excluded index d e within in
      subst (IsLeastOf (λ v. IsSifted ladder window excluded v × (get_or excluded k d <ℤ v))) (sym there)
      (subst (λ z. IsLeastOf (λ v. IsSifted ladder window excluded v × (z <ℤ v)) answer) (sym value) least)

  -- one more value has what is next to it
  pub one_more : (next : List (Option ℤ)) (index after : ℕ) (e : ℤ) (answer : Option ℤ) → after ≡ index + 1 →
      length next ≡ length excluded → index < length excluded →
      IsLeastOf (λ v. IsSifted ladder window excluded v × (get_or excluded index e <ℤ v)) answer →
      AreNextFrom ladder window excluded next after → AreNextFrom ladder window excluded (set next index answer) index
  one_more next index after e answer one len within least right k d from inside =
      ⊎_elim (λ same. at_index next index e answer len within least k d same inside)
      (λ other. subst (IsLeastOf (λ v. IsSifted ladder window excluded v × (get_or excluded k d <ℤ v)))
      (sym (get_or-set_other next index k answer None other)) (right k d (omega arith) inside)) (cases_eq k index)
