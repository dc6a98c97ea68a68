-- What is known of the fields of a region when the field of a number changes.
use Rattle.std.proofs.Common.{◌≡◌, ℕ, ◌==◌, Bool, true, false, if◌then◌else◌, IsTrue, inl, inr, List, [], ◌∷◌, refl, ap₂, ◌∙◌}
use Rattle.std.proofs.lemmas.Bool.{false≢true, eq-eqb}
use Rattle.std.specs.List.{AllByRecursion}
use Rattle.helix_profile.specs.Validity.{IsRelationFor}
use Rattle.helix_profile.specs.declared.field.Field.{Field}
use Rattle.helix_profile.specs.declared.relation.Relation.{Relation}
use Rattle.helix_relations.specs.Change.{with_changed, without_null}
use Rattle.helix_relations.specs.Inner.PartLaws.{Keeps}
use Rattle.helix_relations.specs.Inner.PutLaws.{keeps_without_null}
use Rattle.helix_relations.specs.Region.{RegionField, numbers_of, FieldNumbered, JoinsFields}

pub numbered_weaker : (fs : List RegionField) (n : ℕ) (P Q : RegionField → Type 0)
    → ((f : RegionField) → P f → Q f) → FieldNumbered fs n P → FieldNumbered fs n Q
numbered_weaker [] n P Q on none = none
numbered_weaker (f ∷ fs) n P Q on (inl here) = inl (here.0, on f here.1)
numbered_weaker (f ∷ fs) n P Q on (inr later) = inr (numbered_weaker fs n P Q on later)

module _ (change : RegionField → RegionField) (keeps : Keeps change) (n : ℕ) where
  abbrev pub one : RegionField → RegionField
  one f = if f.number == n then change f else f

  -- the field is changed or as it was
  pub one_has : (P : RegionField → Type 0) (f : RegionField) → P (change f) → P f → P (one f)
  one_has P f with_change without = by (f.number == n)
    where
      by : (b : Bool) → P (if b then change f else f)
      by true = with_change
      by false = without

  pub one_number : (f : RegionField) → (one f).number ≡ f.number
  one_number f = one_has (λ g. g.number ≡ f.number) f (keeps.number f) refl

  pub same_numbers : (fs : List RegionField) → numbers_of (with_changed change n fs) ≡ numbers_of fs
  same_numbers [] = refl
  same_numbers (f ∷ fs) = ap₂ (λ k ks. k ∷ ks) (one_number f) (same_numbers fs)

  pub each_still : (P : RegionField → Type 0) → ((f : RegionField) → P f → P (change f)) → (fs : List RegionField)
      → AllByRecursion P fs → AllByRecursion P (with_changed change n fs)
  each_still P on [] all = tt
  each_still P on (f ∷ fs) all = (one_has P f (on f all.0) all.0, each_still P on fs all.1)

  pub still_numbered : (fs : List RegionField) (m : ℕ) (P Q : RegionField → Type 0)
      → ((f : RegionField) → f.number ≡ m → P f → Q (one f)) → FieldNumbered fs m P
      → FieldNumbered (with_changed change n fs) m Q
  still_numbered [] m P Q on none = none
  still_numbered (f ∷ fs) m P Q on (inl here) = inl (one_number f ∙ here.0, on f here.0 here.1)
  still_numbered (f ∷ fs) m P Q on (inr later) = inr (still_numbered fs m P Q on later)

-- null is forbidden at a field of a fact
pub null_forbidden : (fs : List RegionField) (n : ℕ) (X : Field → Type 0) → FieldNumbered fs n (λ f. X f.field)
    → FieldNumbered (with_changed without_null n fs) n (λ f. IsTrue f.no_null × X f.field)
null_forbidden fs n X = still_numbered without_null keeps_without_null n fs n (λ f. X f.field)
    (λ f. IsTrue f.no_null × X f.field) (λ f is x. by f (f.number == n) (eq-eqb f.number n is) x)
  where
    by : (f : RegionField) (b : Bool) → b ≡ true → X f.field
        → IsTrue (if b then without_null f else f).no_null × X (if b then without_null f else f).field
    by f true e x = (refl, x)
    by f false e x = absurd (false≢true e)

still_forbidden : (fs : List RegionField) (m n : ℕ) (X : Field → Type 0)
    → FieldNumbered fs m (λ f. IsTrue f.no_null × X f.field)
    → FieldNumbered (with_changed without_null n fs) m (λ f. IsTrue f.no_null × X f.field)
still_forbidden fs m n X = still_numbered without_null keeps_without_null n fs m (λ f. IsTrue f.no_null × X f.field)
    (λ f. IsTrue f.no_null × X f.field)
    (λ f is x. one_has without_null keeps_without_null n (λ g. IsTrue g.no_null × X g.field) f (refl, x.1) x)

-- a field stays there, whatever is changed
pub still_there : (change : RegionField → RegionField) (keeps : Keeps change) (n : ℕ) (fs : List RegionField) (m : ℕ)
    → FieldNumbered fs m (λ f. Unit {0}) → FieldNumbered (with_changed change n fs) m (λ f. Unit {0})
still_there change keeps n fs m = still_numbered change keeps n fs m (λ f. Unit {0}) (λ f. Unit {0}) (λ f is u. u)

still_field : (fs : List RegionField) (m n : ℕ) (X : Field → Type 0) → FieldNumbered fs m (λ f. X f.field)
    → FieldNumbered (with_changed without_null n fs) m (λ f. X f.field)
still_field fs m n X = still_numbered without_null keeps_without_null n fs m (λ f. X f.field) (λ f. X f.field)
    (λ f is x. one_has without_null keeps_without_null n (λ g. X g.field) f x x)

-- the relation is one for two of the fields
abbrev pub AreEndsOf : List RegionField → Relation → Type 0
AreEndsOf fs r =
    FieldNumbered fs r.left (λ left. FieldNumbered fs r.right (λ right. IsRelationFor left.field right.field r))

-- and with null forbidden at both, it can be added
pub joins_after : (fs : List RegionField) (r : Relation) → AreEndsOf fs r
    → JoinsFields (with_changed without_null r.right (with_changed without_null r.left fs)) r
joins_after fs r ends =
    let first : List RegionField = with_changed without_null r.left fs in
    let both : List RegionField = with_changed without_null r.right first in
    still_forbidden first r.left r.right
    (λ left. FieldNumbered both r.right (λ right. IsTrue right.no_null × IsRelationFor left right.field r))
    (null_forbidden fs r.left
    (λ left. FieldNumbered both r.right (λ right. IsTrue right.no_null × IsRelationFor left right.field r))
    (numbered_weaker fs r.left
    (λ left. FieldNumbered fs r.right (λ right. IsRelationFor left.field right.field r))
    (λ left. FieldNumbered both r.right (λ right. IsTrue right.no_null × IsRelationFor left.field right.field r))
    (λ left right_end. null_forbidden first r.right (λ right. IsRelationFor left.field right r)
    (still_field fs r.right r.left (λ right. IsRelationFor left.field right r) right_end))
    ends))
