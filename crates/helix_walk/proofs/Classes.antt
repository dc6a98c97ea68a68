-- The classes of a group's regions, and the cells of rows of the right shape.
use Rattle.std.proofs.Common.{◌≡◌, ℕ, zero, suc, ◌<◌, Some, List, [], ◌∷◌, map, length, slice_get, slice_index_or, refl, sym, ap, ap₂, subst, ◌∙◌, arith}
use Rattle.std.proofs.lemmas.Option.{slice_get-map, get_or_from_slice_get, same_Some}
use Rattle.std.proofs.lemmas.List.Elements.{All-contains_itself}
use Rattle.std.specs.List.{All, AllByRecursion}
use Rattle.std.specs.Option.{option_map}
use Rattle.helix_base.specs.Alphabet.{IsCharacterOf}
use Rattle.helix_base.specs.declared.alphabet.Alphabet.TheVariants.{Unicode}
use Rattle.helix_partition.specs.declared.partition.Partition.{Partition}
use Rattle.helix_profile.specs.Content.{Content}
use Rattle.helix_profile.specs.Good.{HasShape, IsShortIfText}
use Rattle.helix_profile.specs.declared.field.Field.{Field}
use Rattle.helix_relations.specs.NumberingLaws.{all_of}
use Rattle.helix_relations.specs.Region.{RegionField, RegionContent, numbers_of}
use Rattle.helix_rows.specs.Parts.{HasClasses, IsRowFor, Walk}
use Rattle.helix_rows.specs.Regions.{IsCellFor, AreCellsTo, cell_at, class_at, number_at}
use Rattle.helix_rows.specs.declared.part.Part.{Part}
use Rattle.helix_values.specs.Class.{Class, booleans, strings, class_of_kind, IsNullOr}
use Rattle.helix_values.specs.Slot.{FitsSlot}
use Rattle.helix_values.specs.declared.cell.Cell.{Cell}
use Rattle.helix_values.specs.declared.cell.Cell.TheVariants as cell
use Rattle.helix_walk.proofs.OnePart.{of_each}
use Rattle.helix_walk.proofs.SharedFields.{each_part}
use Rattle.helix_walk.specs.Fields.{class_in, HasShapeFor}
use Rattle.helix_walk.specs.Parts.{IsPartFor, ArePartsFor}
use Rattle.helix_walk.specs.Classes.{region_classes}

abbrev class_of_field : Field → Class
class_of_field field = class_of_kind field.kind

class_at_number : (fields : List Field) (number : ℕ) (field : Field) → slice_get fields number ≡ Some field
    → class_of_field field ≡ class_in fields number
class_at_number fields number field is =
    sym (get_or_from_slice_get (map class_of_field fields) number (class_of_field field) booleans
    (slice_get-map class_of_field fields number ∙ ap (option_map class_of_field) is))

classes_by_number : (fields : List Field) (own : List RegionField)
    → AllByRecursion (λ field. slice_get fields field.number ≡ Some field.field) own
    → map (λ field. class_of_kind field.field.kind) own ≡ map (class_in fields) (numbers_of own)
classes_by_number fields [] all = refl
classes_by_number fields (field ∷ own) all =
    ap₂ (λ c cs. c ∷ cs) (class_at_number fields field.number field.field all.0) (classes_by_number fields own all.1)

module _ (profile : Content) (regions : List RegionContent) where
  part_classes : (group : Partition) (part : Part) → IsPartFor profile regions group part
      → All (HasClasses region_classes regions (map (class_in profile.fields) part.fields)) part.regions
  part_classes group part is k d below = record {
    are = of_each profile regions group part is
        (λ region. region_classes region ≡ map (class_in profile.fields) part.fields)
        (λ region over. classes_by_number profile.fields region.fields over.fields
        ∙ ap (map (class_in profile.fields)) (over.numbers ∙ sym is.fields))
        (slice_index_or part.regions k d) (All-contains_itself part.regions k d below);
  }

  pub all_classes : (groups : List Partition) (parts : List Part) → ArePartsFor profile regions groups parts
      → All (λ part. All (HasClasses region_classes regions (map (class_in profile.fields) part.fields)) part.regions) parts
  all_classes groups parts are =
      all_of (λ part. All (HasClasses region_classes regions (map (class_in profile.fields) part.fields)) part.regions) parts
      (each_part profile regions
      (λ part. All (HasClasses region_classes regions (map (class_in profile.fields) part.fields)) part.regions) groups
      parts are part_classes)

  pub some_classes : (groups : List Partition) (parts : List Part) → ArePartsFor profile regions groups parts
      → All (λ part. (classes : List Class) × All (HasClasses region_classes regions classes) part.regions) parts
  some_classes groups parts are k d below =
      (map (class_in profile.fields) (slice_index_or parts k d).fields, all_classes groups parts are k d below)

-- Cells of rows of the right shape.

same_class : (class : Class) (codes : List ℕ) → IsNullOr class (cell.Text codes) → class ≡ strings
same_class class codes is = sym (same_Some strings class is)

cell_for : (class : Class) (v : Cell) → IsNullOr class v → IsShortIfText v → IsCellFor class v
cell_for class (cell.Text codes) is short =
    ((same_class class codes is, all_of (IsCharacterOf Unicode) codes short.1), short.0)
cell_for class cell.Null is short = (tt, tt)
cell_for class (cell.Bool truth) is short = (is, tt)
cell_for class (cell.Number units) is short = (is, tt)
cell_for class (cell.Moment at) is short = (is, tt)

cells_for : (fields : List Field) (row : List Cell) → HasShape fields row → (number : ℕ)
    → IsCellFor (class_in fields number) (cell_at row number)
cells_for [] [] shape number = (tt, tt)
cells_for (field ∷ fields) (v ∷ row) shape zero = cell_for (class_of_kind field.kind) v shape.0 shape.1
cells_for (field ∷ fields) (v ∷ row) shape (suc number) = cells_for fields row shape.2 number
cells_for [] (v ∷ row) shape number = absurd shape
cells_for (field ∷ fields) [] shape number = absurd shape

shape_fits : (fields : List Field) (row : List Cell) → HasShape fields row → AllByRecursion FitsSlot row
shape_fits [] [] shape = tt
shape_fits (field ∷ fields) (v ∷ row) shape =
    ((cell_for (class_of_kind field.kind) v shape.0 shape.1).1, shape_fits fields row shape.2)
shape_fits [] (v ∷ row) shape = absurd shape
shape_fits (field ∷ fields) [] shape = absurd shape

shape_count : (fields : List Field) (row : List Cell) → HasShape fields row → length row ≡ length fields
shape_count [] [] shape = refl
shape_count (field ∷ fields) (v ∷ row) shape =
    let others = shape_count fields row shape.2 in omega (arith, others)
shape_count [] (v ∷ row) shape = absurd shape
shape_count (field ∷ fields) [] shape = absurd shape

-- a class of those that numbers are mapped to
mapped_class : (f : ℕ → Class) (numbers : List ℕ) (index : ℕ) → index < length numbers
    → f (number_at numbers index) ≡ class_at (map f numbers) index
mapped_class f [] index within = absurd (omega (arith, within))
mapped_class f (n ∷ numbers) zero within = refl
mapped_class f (n ∷ numbers) (suc index) within = mapped_class f numbers index (omega (arith, within))

pub row_for : (walk : Walk RegionContent) (row : List Cell) → HasShapeFor walk row
    → IsRowFor region_classes walk.regions walk.parts row
row_for walk row has j e within k d below = record {
  are = λ c. subst
      (λ cs. AreCellsTo (length (slice_index_or walk.parts j e).fields) (slice_index_or walk.parts j e).fields cs row)
      (sym ((has.over.classes j e within k d below).are c))
      (λ index inside. subst (λ class. IsCellFor class (cell_at row (number_at (slice_index_or walk.parts j e).fields index)))
      (mapped_class (class_in has.fields) (slice_index_or walk.parts j e).fields index inside)
      (cells_for has.fields row has.shape (number_at (slice_index_or walk.parts j e).fields index)));
}

pub row_count : (walk : Walk RegionContent) (row : List Cell) → HasShapeFor walk row → length row ≡ walk.fields
row_count walk row has = shape_count has.fields row has.shape ∙ sym has.over.count

pub row_fits : (walk : Walk RegionContent) (row : List Cell) → HasShapeFor walk row → All FitsSlot row
row_fits walk row has = all_of FitsSlot row (shape_fits has.fields row has.shape)
