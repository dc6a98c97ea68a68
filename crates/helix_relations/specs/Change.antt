-- How a region changes.
use Rattle.std.specs.Prelude.{◌≡◌, ℕ, true, false, ◌==◌, if◌then◌else◌, List, [], ◌∷◌, ◌++◌, Option, None, Some, Contains, slice_get}
use Rattle.std.specs.List.{AllByRecursion}
use Rattle.helix_profile.specs.Content.{Content}
use Rattle.helix_profile.specs.declared.field.Field.{Field}
use Rattle.helix_domains.specs.Domain.{Restricted}
use Rattle.helix_domains.specs.declared.atom.SignedAtom.{SignedAtom}
use Rattle.helix_relations.specs.declared.signed.SignedRelation.{SignedRelation}
use Rattle.helix_relations.specs.Region.{RegionField, RegionContent, FieldNumbered}

-- a field of a profile as a field of a region, as a list of one, where there is one
abbrev pub opened_field : ℕ → Option Field → List RegionField
opened_field number None = []
opened_field number (Some field) =
    record { number = number; field = field; no_null = false; only_null = false; atoms = [] } ∷ []

-- the fields of a profile with these numbers
abbrev pub opened_fields : List Field → List ℕ → List RegionField
opened_fields fields [] = []
opened_fields fields (number ∷ numbers) = opened_field number (slice_get fields number) ++ opened_fields fields numbers

-- the region of these fields, with all their cells and without relations
abbrev pub opened : Content → List ℕ → RegionContent
opened profile numbers = record { fields = opened_fields profile.fields numbers; relations = []; asked = 0 }

-- there is a field of this number
abbrev pub HasField : RegionContent → ℕ → Type 0
HasField region number = FieldNumbered region.fields number (λ field. Unit {0})

-- the field of a number is changed
abbrev pub with_changed : (RegionField → RegionField) → ℕ → List RegionField → List RegionField
with_changed change number [] = []
with_changed change number (field ∷ fields) =
    (if field.number == number then change field else field) ∷ with_changed change number fields

-- the region with the field of a number changed
abbrev pub changed : RegionContent → ℕ → (RegionField → RegionField) → RegionContent
changed region number change = record region { fields = with_changed change number region.fields }

-- null is forbidden
abbrev pub without_null : RegionField → RegionField
without_null field = record field { no_null = true }

-- only null is allowed
abbrev pub with_null_alone : RegionField → RegionField
with_null_alone field = record field { only_null = true }

-- the values pass one more signed atom
abbrev pub with_atom : SignedAtom → RegionField → RegionField
with_atom signed field = record field { atoms = field.atoms ++ signed ∷ [] }

-- the values are those of a domain
abbrev pub with_domain : Restricted → RegionField → RegionField
with_domain domain field = record field { atoms = domain.atoms }

-- a domain of the field whose values pass all atoms of it
pub record IsNarrower (domain : Restricted) (field : RegionField) : Type 0 where
  pub same_field : domain.field ≡ field.field
  pub all_atoms : AllByRecursion (λ signed. Contains domain.atoms signed) field.atoms

-- one more relation
abbrev pub with_relation : RegionContent → SignedRelation → RegionContent
with_relation region signed = record region { relations = region.relations ++ signed ∷ [] }
