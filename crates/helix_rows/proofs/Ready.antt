-- The regions of the parts, and the room for them.
use Rattle.std.proofs.Common.{◌≡◌, ℕ, zero, suc, ◌<◌, ◌≤◌, Bool, true, false, List, [], length, slice_index_or, slice_set, refl, sym, ◌∙◌, subst, arith}
use Rattle.std.proofs.lemmas.List.Elements.{All-set, Contains-get_or}
use Rattle.std.proofs.lemmas.List.{get_or_default, length-set}
use Rattle.std.specs.List.{All, Contains}
use Rattle.helix_rows.proofs.Levels.{over_part}
use Rattle.helix_rows.proofs.Regions.{has_new, over_new}
use Rattle.helix_rows.specs.Inner.Levels.{level_of, part_of, OneIf, among_part, among_at, IsLayout, IsLevel, IsReady, KeepRegions}
use Rattle.helix_rows.specs.Inner.Numbers.{Listed}
use Rattle.helix_rows.specs.Parts.{IsRegionOver, AreRegionsOf}
use Rattle.helix_rows.specs.Regions.{number_at}
use Rattle.helix_rows.specs.declared.layout.Layout.{Layout}
use Rattle.helix_rows.specs.declared.part.Part.{Part}
use Rattle.helix_values.specs.Class.{Class}
use Rattle.helix_values.specs.declared.cell.Cell.{Cell}

-- regions that are kept are those of the parts
pub regions_kept : {R : Type 0} {C : R → List Class} {A : R → ℕ} (F : R → List ℕ)
    (Has : R → List Cell → Type 0) (old new : List R) (parts : List Part)
    → KeepRegions F C A Has old new → AreRegionsOf F C Has old parts → AreRegionsOf F C Has new parts
regions_kept F Has old new parts kept are = record {
  over = λ p d within n e inside. over_new F Has old new kept _ _ (are.over p d within n e inside);
  rows = λ p d within n e inside.
      let row = are.rows p d within n e inside in
      (row.0, has_new F Has old new kept _ _ row.1);
  classes = λ p d within. (
    (are.classes p d within).0,
    λ n e inside. record {
      are = λ r. kept.classes _ r (are.over p d within n e inside).within
          ∙ ((are.classes p d within).1 n e inside).are r;
    },
  );
}

module _ {R : Type 0} {C : R → List Class} (F : R → List ℕ) (Has : R → List Cell → Type 0) (layout : Layout)
    (regions : List R)
    (alive : List Listed) (room fields : ℕ) (ready : IsReady F C Has layout regions alive room fields) where
  pub ready_kept : {A : R → ℕ} (new : List R) → KeepRegions F C A Has regions new → IsReady F C Has layout new alive
      room fields
  ready_kept new kept = record {
    are = regions_kept F Has regions new layout.parts kept ready.are;
    count = ready.count;
    rooms = ready.rooms;
    few = ready.few;
    enough = ready.enough;
    least = ready.least;
  }

  pub ready_set : (field : ℕ) (listed : Listed) → listed.room ≡ room → length listed.items ≤ listed.room
      → IsReady F C Has layout regions (slice_set alive field listed) room fields
  ready_set field listed same few = record {
    are = ready.are;
    count = length-set alive field listed ∙ ready.count;
    rooms = All-set (λ l. l.room ≡ room) alive field listed same ready.rooms;
    few = All-set (λ l. length l.items ≤ l.room) alive field listed few ready.few;
    enough = ready.enough;
    least = ready.least;
  }

  -- at most as many regions are alive as there is room for
  pub among_few : (field : ℕ) → IsLayout layout fields → field < fields
      → length (among_at layout alive field) ≤ room
  among_few field is within = by (level_of layout field).position refl
    where
      by : (position : ℕ) → (level_of layout field).position ≡ position
          → length (among_part (part_of layout field) alive position) ≤ room
      by zero at = ready.enough (level_of layout field).part _ (is.levels field within).part
      by (suc i) at =
          let here : IsLevel layout.parts field (level_of layout field) = is.levels field within in
          let inside : number_at (part_of layout field).fields i < length alive =
          omega (
            arith,
            is.within (level_of layout field).part i here.part (omega (arith, at, here.position)),
            ready.count,
          ) in
          omega (
            arith,
            ready.few _ (record { items = []; room = 0 }) inside,
            ready.rooms _ (record { items = []; room = 0 }) inside,
          )

  -- each field of a part is one of the row
  pub fields_within : (field : ℕ) → IsLayout layout fields → field < fields
      → All (λ f. f < fields) (part_of layout field).fields
  fields_within field is within k d inside =
      subst (λ f. f < fields) (get_or_default (part_of layout field).fields k 0 d inside)
      (is.within (level_of layout field).part k (is.levels field within).part inside)

  pub over_among : (field : ℕ) → IsLayout layout fields → field < fields → (numbers : List ℕ)
      → ((n : ℕ) → Contains numbers n → Contains (part_of layout field).regions n)
      → All (IsRegionOver F regions (part_of layout field).fields) numbers
  over_among field is within numbers only k d inside =
      over_part layout fields is field within F Has regions ready.are (slice_index_or numbers k d)
      (only (slice_index_or numbers k d) (Contains-get_or numbers k d inside))

pub ready_one : {R : Type 0} {C : R → List Class} (F : R → List ℕ) (Has : R → List Cell → Type 0) (layout : Layout)
    (regions : List R)
    (alive : List Listed) (room fields : ℕ) → IsReady F C Has layout regions alive room fields → (yes : Bool)
    (new : List Listed) (field number : ℕ) → field < fields → 1 ≤ room → new ≡ OneIf yes alive field number
    → IsReady F C Has layout regions new room fields
ready_one {C = C} F Has layout regions alive room fields ready true new field number within some are =
    let same = ready.rooms field (record { items = []; room = 0 }) (omega (arith, within, ready.count)) in
    subst (λ ls. IsReady F C Has layout regions ls room fields) (sym are)
    (ready_set F Has layout regions alive room fields ready field _ same (omega (arith, same, some)))
ready_one {C = C} F Has layout regions alive room fields ready false new field number within some are =
    subst (λ ls. IsReady F C Has layout regions ls room fields) (sym are) ready
