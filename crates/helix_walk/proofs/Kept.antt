-- A walk whose regions keep their rows and classes has the same rows and fields.
use Rattle.std.proofs.Common.{◌↔◌, ℕ, ◌<◌, List, map, length, sym, ◌∙◌, subst, slice_index_or}
use Rattle.std.specs.List.{All}
use Rattle.helix_profile.specs.declared.field.Field.{Field}
use Rattle.helix_relations.specs.Region.{RegionContent, numbers_of}
use Rattle.helix_rows.specs.Parts.{HasAt, IsInParts, HasClasses, KeepRegions, KeepsParts, Walk, InWalk}
use Rattle.helix_rows.specs.Regions.{piece}
use Rattle.helix_rows.specs.declared.part.Part.{Part}
use Rattle.helix_values.specs.declared.cell.Cell.{Cell}
use Rattle.helix_walk.specs.Fields.{class_in, IsWalkOver}
use Rattle.helix_walk.specs.Kept.{KeepsWalk}
use Rattle.helix_relations.specs.Pieces.{IsRegionPiece}
use Rattle.helix_walk.specs.Classes.{region_classes}

abbrev Keep : List RegionContent → List RegionContent → Type 0
Keep old new = KeepRegions (λ region. numbers_of region.fields) region_classes (λ region. region.asked) IsRegionPiece old new

module _ (old new : List RegionContent) (keep : Keep old new) where
  at_new : (number : ℕ) (cells : List Cell) → HasAt IsRegionPiece old number cells
      → HasAt IsRegionPiece new number cells
  at_new number cells has = record {
    within = subst (λ n. number < n) (sym keep.count) has.within;
    has = λ d. (keep.rows number d cells has.within).1 (has.has d);
  }

  at_old : (number : ℕ) (cells : List Cell) → HasAt IsRegionPiece new number cells
      → HasAt IsRegionPiece old number cells
  at_old number cells has =
      let within : number < length old = subst (λ n. number < n) keep.count has.within in record {
        within = within;
        has = λ d. (keep.rows number d cells within).0 (has.has d);
      }

  same_in_parts : (fields : ℕ) (parts : List Part) (row : List Cell)
      → IsInParts (HasAt IsRegionPiece new) fields parts row ↔ IsInParts (HasAt IsRegionPiece old) fields parts row
  same_in_parts fields parts row = (
    (λ has. record {
      count = has.count;
      each = λ k d below. let one = has.each k d below in record {
        number = one.number;
        listed = one.listed;
        has = at_old one.number (piece (slice_index_or parts k d).fields row) one.has;
      };
    }),
    (λ has. record {
      count = has.count;
      each = λ k d below. let one = has.each k d below in record {
        number = one.number;
        listed = one.listed;
        has = at_new one.number (piece (slice_index_or parts k d).fields row) one.has;
      };
    }),
  )

module _ (old new : Walk RegionContent)
    (keep : KeepsParts (λ region. numbers_of region.fields) region_classes (λ region. region.asked) IsRegionPiece old new)
  where
    same_rows : (row : List Cell) → InWalk IsRegionPiece new row ↔ InWalk IsRegionPiece old row
    same_rows row = subst (λ n. IsInParts (HasAt IsRegionPiece new.regions) n new.parts row ↔ InWalk IsRegionPiece old row)
        (sym keep.fields)
        (subst (λ ps. IsInParts (HasAt IsRegionPiece new.regions) old.fields ps row ↔ InWalk IsRegionPiece old row)
        (sym keep.parts) (same_in_parts old.regions new.regions keep.regions old.fields old.parts row))

    same_fields : (fields : List Field) → IsWalkOver fields old → IsWalkOver fields new
    same_fields fields over = record {
      count = keep.fields ∙ over.count;
      within = subst (λ ps. All (λ part. All (λ n. n < length new.regions) part.regions) ps) (sym keep.parts)
          (subst (λ count. All (λ part. All (λ n. n < count) part.regions) old.parts) (sym keep.regions.count)
          over.within);
      classes = subst
          (λ ps. All (λ part. All (HasClasses region_classes new.regions (map (class_in fields) part.fields)) part.regions) ps)
          (sym keep.parts) (λ k d below j e inside. record {
            are = λ r. keep.regions.classes (slice_index_or (slice_index_or old.parts k d).regions j e) r
                (over.within k d below j e inside) ∙ (over.classes k d below j e inside).are r;
          });
    }

    pub keeps_walk : KeepsWalk old new
    keeps_walk = record { parts = keep; rows = same_rows; fields = same_fields }
