-- How the parts of a region change. Lemmas.
use Rattle.std.proofs.Common.{◌≡◌, ◌≢◌, ℕ, zero, suc, ◌<◌, Bool, true, false, ◌==◌, IsTrue, if◌then◌else◌, inl, inr, ⊎_elim, List, [], ◌∷◌, length, slice_index, get_or, set, ◌+◌, refl, sym, ap, ap₂, ◌∙◌, subst, arith}
use Rattle.std.proofs.lemmas.Bool.{cases_eq, eq-eqb, ne_eqb}
use Rattle.std.proofs.lemmas.List.{length-map}
use Rattle.std.proofs.lemmas.List.Kept.{AllPairs-from_increasing}
use Rattle.std.specs.List.{AllByRecursion}
use Rattle.std.specs.List.Sorted.{IsStrictlyIncreasing}
use Rattle.helix_profile.specs.Validity.{IsRelationFor}
use Rattle.helix_profile.specs.declared.relation.Relation.{Relation}
use Rattle.helix_relations.specs.declared.signed.SignedRelation.{SignedRelation}
use Rattle.helix_relations.specs.Region.{RegionField, RegionContent, numbers_of, FieldNumbered, IsLeftEnd, IsRightEnd, JoinsFields, IsRegion}
use Rattle.helix_relations.specs.Change.{with_changed, changed}
use Rattle.helix_relations.specs.GraphLaws.{ordered}
use Rattle.helix_relations.specs.Inner.Parts.{PartNode, field_of, fields_of, IsIndexOf, IsNotBefore}

-- a change that leaves the number, the field, and that null is forbidden
pub record Keeps (change : RegionField → RegionField) : Type 0 where
  pub number : (f : RegionField) → (change f).number ≡ f.number
  pub field : (f : RegionField) → (change f).field ≡ f.field
  pub no_null : (f : RegionField) → IsTrue f.no_null → IsTrue (change f).no_null

module _ (change : RegionField → RegionField) (keeps : Keeps change) (number : ℕ) where
  abbrev one : RegionField → RegionField
  one f = if f.number == number then change f else f

  -- the field is changed or as it was
  one_keeps : (P : RegionField → Type 0) (f : RegionField) → P (change f) → P f → P (one f)
  one_keeps P f changed_is this_is = by (f.number == number)
    where
      by : (b : Bool) → P (if b then change f else f)
      by true = changed_is
      by false = this_is

  one_number : (f : RegionField) → (one f).number ≡ f.number
  one_number f = one_keeps (λ g. g.number ≡ f.number) f (keeps.number f) refl

  one_field : (f : RegionField) → (one f).field ≡ f.field
  one_field f = one_keeps (λ g. g.field ≡ f.field) f (keeps.field f) refl

  one_no_null : (f : RegionField) → IsTrue f.no_null → IsTrue (one f).no_null
  one_no_null f null = one_keeps (λ g. IsTrue g.no_null) f (keeps.no_null f null) null

  same_numbers : (fs : List RegionField) → numbers_of (with_changed change number fs) ≡ numbers_of fs
  same_numbers [] = refl
  same_numbers (f ∷ fs) = ap₂ (λ n ns. n ∷ ns) (one_number f) (same_numbers fs)

  still_numbered : (fs : List RegionField) (n : ℕ) (P Q : RegionField → Type 0) → ((f : RegionField) → P f → Q (one f))
      → FieldNumbered fs n P → FieldNumbered (with_changed change number fs) n Q
  still_numbered [] n P Q on none = none
  still_numbered (f ∷ fs) n P Q on (inl here) = inl (one_number f ∙ here.0, on f here.1)
  still_numbered (f ∷ fs) n P Q on (inr later) = inr (still_numbered fs n P Q on later)

  still_joins : (fs : List RegionField) (r : Relation) → JoinsFields fs r → JoinsFields (with_changed change number fs) r
  still_joins fs r joins = still_numbered fs r.left (IsLeftEnd fs r) (IsLeftEnd (with_changed change number fs) r)
      (λ left is. (
        one_no_null left is.0,
        still_numbered fs r.right (IsRightEnd r left) (IsRightEnd r (one left))
            (λ right too. (
              one_no_null right too.0,
              subst (λ f. IsRelationFor (one left).field f r) (sym (one_field right))
                  (subst (λ f. IsRelationFor f right.field r) (sym (one_field left)) too.1),
            ))
            is.1,
      ))
      joins

  each_joins : (fs : List RegionField) (rs : List SignedRelation)
      → AllByRecursion (λ signed. JoinsFields fs signed.relation) rs
      → AllByRecursion (λ signed. JoinsFields (with_changed change number fs) signed.relation) rs
  each_joins fs [] all = tt
  each_joins fs (signed ∷ rs) all = (still_joins fs signed.relation all.0, each_joins fs rs all.1)

  pub still_region : (region : RegionContent) → IsRegion region → IsRegion (changed region number change)
  still_region region is = record {
    ascending = subst IsStrictlyIncreasing (sym (same_numbers region.fields)) is.ascending;
    ends = each_joins region.fields region.relations is.ends;
    forest = is.forest;
  }

-- one part in the place of another one, as a change of its field
module _ (change : RegionField → RegionField) (number : ℕ) where
  unchanged : (fs : List RegionField) → ((j : ℕ) → j < length fs → slice_index (numbers_of fs) j ≢ number)
      → with_changed change number fs ≡ fs
  unchanged [] none = refl
  unchanged (f ∷ fs) none = ap₂ (λ g gs. g ∷ gs)
      (ap (λ b. if b then change f else f) (ne_eqb f.number number (none 0 (omega arith))))
      (unchanged fs (λ j below. none (suc j) (next (length fs) j below)))
    where
      next : (n j : ℕ) → j < n → suc j < suc n
      next n j below = omega (arith, below)

  replaced_at : (parts : List PartNode) (k : ℕ) (p d : PartNode) → k < length parts
      → slice_index (numbers_of (fields_of parts)) k ≡ number
      → ((j : ℕ) → j < length parts → j ≢ k → slice_index (numbers_of (fields_of parts)) j ≢ number)
      → field_of p ≡ change (field_of (get_or parts k d))
      → fields_of (set parts k p) ≡ with_changed change number (fields_of parts)
  replaced_at [] k p d below is others e = absurd (omega (arith, below))
  replaced_at (q ∷ parts) zero p d below is others e = ap₂ (λ g gs. g ∷ gs)
      (e ∙ sym (ap (λ b. if b then change (field_of q) else field_of q) (eq-eqb q.place number is)))
      (sym (unchanged (fields_of parts) (λ j j_in. others (suc j) (next parts j j_in) (λ same. omega (arith, same)))))
    where
      next : (parts : List PartNode) (j : ℕ) → j < length (fields_of parts) → suc j < length (q ∷ parts)
      next parts j j_in = let same = length-map parts field_of in omega (arith, j_in, same)
  replaced_at (q ∷ parts) (suc k) p d below is others e = ap₂ (λ g gs. g ∷ gs)
      (sym (ap (λ b. if b then change (field_of q) else field_of q)
      (ne_eqb q.place number (others 0 (omega arith) (λ same. omega (arith, same))))))
      (replaced_at parts k p d (omega (arith, below)) is
      (λ j j_in other. others (suc j) (next (length parts) j j_in) (λ same. other (before j k same))) e)
    where
      next : (n j : ℕ) → j < n → suc j < suc n
      next n j below = omega (arith, below)

      before : (j k : ℕ) → suc j ≡ suc k → j ≡ k
      before j k same = omega (arith, same)

  pub part_changed : (parts : List PartNode) (k : ℕ) (p d : PartNode) → IsIndexOf parts number k
      → IsStrictlyIncreasing (numbers_of (fields_of parts)) → field_of p ≡ change (field_of (get_or parts k d))
      → fields_of (set parts k p) ≡ with_changed change number (fields_of parts)
  part_changed parts k p d index ascending e = replaced_at parts k p d index.below index.is
      (λ j j_in other same. other (ordered (numbers_of (fields_of parts))
      (AllPairs-from_increasing (numbers_of (fields_of parts)) ascending) j k (in_numbers j j_in)
      (in_numbers k index.below) (same ∙ sym index.is))) e
    where
      in_numbers : (j : ℕ) → j < length parts → j < length (numbers_of (fields_of parts))
      in_numbers j j_in = let one = length-map parts field_of in
          let two = length-map (fields_of parts) (λ field. field.number) in omega (arith, j_in, one, two)

-- the number at an index
pub number_at : (parts : List PartNode) (k : ℕ) (d : PartNode) → k < length parts
    → slice_index (numbers_of (fields_of parts)) k ≡ (get_or parts k d).place
number_at [] k d below = absurd (omega (arith, below))
number_at (p ∷ parts) zero d below = refl
number_at (p ∷ parts) (suc k) d below = number_at parts k d (omega (arith, below))

pub none_before : (parts : List PartNode) (number k : ℕ) (p : PartNode) → k < length parts → p ≡ get_or parts k p
    → p.place ≢ number → IsNotBefore parts number k → IsNotBefore parts number (k + 1)
none_before parts number k p below is other none j j_in same = ⊎_elim
    (λ here. other (ap (λ x. x.place) is ∙ (sym (number_at parts k p below)
    ∙ subst (λ i. slice_index (numbers_of (fields_of parts)) i ≡ number) here same)))
    (λ before. none j (omega (arith, j_in, before)) same)
    (cases_eq j k)

-- a field that is there has an index
pub has_index : (parts : List PartNode) (number : ℕ) → FieldNumbered (fields_of parts) number (λ field. Unit {0})
    → IsNotBefore parts number (length parts) → ⊥
has_index [] number none before = none
has_index (p ∷ parts) number (inl here) before = before 0 (omega arith) here.0
has_index (p ∷ parts) number (inr later) before =
    has_index parts number later (λ k below. before (suc k) (next (length parts) k below))
  where
    next : (n k : ℕ) → k < n → suc k < suc n
    next n k below = omega (arith, below)

-- a number stands at one index
pub numbers_once : (parts : List PartNode) → IsStrictlyIncreasing (numbers_of (fields_of parts)) → (number j k : ℕ)
    → j < length (numbers_of (fields_of parts)) → slice_index (numbers_of (fields_of parts)) j ≡ number
    → IsIndexOf parts number k → j ≡ k
numbers_once parts ascending number j k j_in at index = ordered (numbers_of (fields_of parts))
    (AllPairs-from_increasing (numbers_of (fields_of parts)) ascending) j k j_in
    (let one = length-map parts field_of in
    let two = length-map (fields_of parts) (λ field. field.number) in
    let three = index.below in omega (arith, one, two, three)) (at ∙ sym index.is)

-- the part that was found
pub index_found : (parts : List PartNode) (number k : ℕ) (p : PartNode) → k < length parts → p ≡ get_or parts k p
    → p.place ≡ number → IsIndexOf parts number k
index_found parts number k p below is found = record {
  below = below;
  is = number_at parts k p below ∙ (ap (λ x. x.place) (sym is) ∙ found);
}
