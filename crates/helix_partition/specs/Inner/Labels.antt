-- Labels of fields, while constraints are read. Two fields have one label where they are known to be linked, and the
-- label of a field is the least field that has it.
use Rattle.std.specs.Prelude.{◌≡◌, ℕ, ◌<◌, ◌≤◌, true, ◌==◌, if◌then◌else◌, min, max, List, length, map, flat_map, slice_index}
use Rattle.helix_profile.specs.Content.{Content}
use Rattle.helix_profile.specs.Fields.{fields_of}
use Rattle.helix_profile.specs.Width.{is_linked}
use Rattle.helix_profile.specs.declared.constraint.Constraint.{Constraint}
use Rattle.helix_partition.specs.Groups.{numbers_below}
use Rattle.helix_partition.specs.ChainLaws.{IsIn, Names}
use Rattle.helix_partition.specs.declared.partition.Partition.{Partition}

-- the fields that constraints name
abbrev pub fields_of_all : List Constraint → List ℕ
fields_of_all constraints = flat_map fields_of constraints

-- the first field that each constraint names
abbrev pub first_fields : List Constraint → List ℕ
first_fields constraints = map (λ constraint. slice_index (fields_of constraint) 0) constraints

-- another label in place of one
abbrev pub with_label : List ℕ → ℕ → ℕ → List ℕ
with_label labels old new = map (λ label. if label == old then new else label) labels

-- the greater of the labels of two fields becomes the lesser one
abbrev pub relabelled : List ℕ → ℕ → ℕ → List ℕ
relabelled labels a b = with_label labels (max (slice_index labels a) (slice_index labels b))
    (min (slice_index labels a) (slice_index labels b))

-- the first `count` labels are replaced, and the others are as they were
pub record ReplacesUpTo (from to : ℕ) (old new : List ℕ) (count : ℕ) : Type 0 where
  pub same_length : length new ≡ length old
  pub done : (k : ℕ) → k < count → slice_index new k ≡ (if slice_index old k == from then to else slice_index old k)
  pub left : (k : ℕ) → count ≤ k → slice_index new k ≡ slice_index old k

-- the labels say that fields are linked only where they are
pub record IsLabelling (constraints : List Constraint) (labels : List ℕ) : Type 0 where
  pub sound : (a b : ℕ) → a < length labels → b < length labels → slice_index labels a ≡ slice_index labels b
      → is_linked constraints a b ≡ true
  pub low : (a : ℕ) → a < length labels → slice_index labels a ≤ a
  pub own : (a : ℕ) → a < length labels → slice_index labels (slice_index labels a) ≡ slice_index labels a

-- the first `count` fields of a list get one label, and equal labels stay equal
pub record JoinsUpTo (old new fields : List ℕ) (count : ℕ) : Type 0 where
  pub same_length : length new ≡ length old
  pub joined : (i : ℕ) → i < count → slice_index new (slice_index fields i) ≡ slice_index new (slice_index fields 0)
  pub kept : (a b : ℕ) → a < length old → b < length old → slice_index old a ≡ slice_index old b
      → slice_index new a ≡ slice_index new b
  pub labelling : (constraints : List Constraint) (constraint : Constraint) → IsIn constraints constraint
      → fields_of constraint ≡ fields → IsLabelling constraints old → IsLabelling constraints new

-- the fields that each of these constraints names have one label
abbrev pub AreJoined : List ℕ → List Constraint → Type 0
AreJoined labels constraints = (constraint : Constraint) (a b : ℕ) → IsIn constraints constraint
    → Names constraint a → Names constraint b → slice_index labels a ≡ slice_index labels b

-- Labels of all fields, by some constraints. By all of them, the label of each field is the least field that it is
-- linked with.
pub record LabelledBy (profile : Content) (labels : List ℕ) (seen : List Constraint) : Type 0 where
  pub every_field : length labels ≡ length profile.fields
  pub labelling : IsLabelling profile.constraints labels
  pub joined : AreJoined labels seen

-- the group of a label, by the labels of fields and the first fields of constraints
abbrev pub labelled_group : List ℕ → List ℕ → ℕ → Partition
labelled_group labels firsts label = record {
  fields = numbers_below (λ field. slice_index labels field == label) (length labels);
  constraints = numbers_below (λ number. slice_index labels (slice_index firsts number) == label) (length firsts);
}

-- the groups of all labels
abbrev pub labelled_groups : List ℕ → List ℕ → List Partition
labelled_groups labels firsts =
    map (labelled_group labels firsts) (numbers_below (λ field. slice_index labels field == field) (length labels))
