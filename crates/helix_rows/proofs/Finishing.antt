-- The row of a place once all of its fields have their cells.
use Rattle.std.proofs.Common.{◌≡◌, ℕ, zero, suc, ◌+◌, ◌<◌, ◌≤◌, Bool, List, [], ◌∷◌, ◌++◌, None, Some, take, length, replicate, slice_index_or, refl, sym, ◌∙◌, ap, subst, arith}
use Rattle.std.proofs.lemmas.List.{append-nil, take_all, get_or_default, length-append, length-map, nil_from_length, length-replicate}
use Rattle.std.proofs.lemmas.List.Elements.{Contains-get_or, All-replicate}
use Rattle.std.specs.List.{All}
use Rattle.helix_rows.proofs.Asked.{some_region}
use Rattle.helix_rows.proofs.Climbing.{member_goes}
use Rattle.helix_rows.proofs.Kept.{alive_now}
use Rattle.helix_rows.proofs.Levels.{up_to_is}
use Rattle.helix_rows.proofs.Regions.{has_new, in_parts_to}
use Rattle.helix_rows.proofs.Rising.{least_row, next_row, changed_new}
use Rattle.helix_rows.specs.Inner.Answers.{IsLeastAt, IsRaised}
use Rattle.helix_rows.specs.Inner.Cells.{HasCells}
use Rattle.helix_rows.specs.Inner.Levels.{part_at, level_of, part_of, AreAliveTo, AreBegunTo, IsLayout, IsReady, Agree}
use Rattle.helix_rows.specs.Inner.Numbers.{Listed}
use Rattle.helix_rows.specs.Inner.Places.{IsGiven, IsWalk, IsEmptyIf}
use Rattle.helix_rows.specs.Parts.{HasAt, IsInPart, IsInParts, AreRegionsOf, KeepRegions, IsNextPlace}
use Rattle.helix_rows.specs.Regions.{cell_at, number_at, piece, class_at, Begins, IsCellFor, IsPieceOf}
use Rattle.helix_rows.specs.declared.layout.Layout.{Layout}
use Rattle.helix_rows.specs.declared.part.Part.{Part}
use Rattle.helix_values.specs.Class.{Class}
use Rattle.helix_values.specs.Slot.{FitsSlot}
use Rattle.helix_rows.specs.declared.walk.Place.{Place}
use Rattle.helix_rows.specs.declared.walk.Place.TheVariants.{Nothing, Given}
use Rattle.helix_values.specs.declared.cell.Cell.{Cell}
use Rattle.helix_values.specs.declared.cell.Cell.TheVariants as cell

-- each beginning of a row of the parts begins rows of each part
pub member_begun : (H : ℕ → List Cell → Type 0) (layout : Layout) (fields : ℕ) → IsLayout layout fields
    → (row : List Cell) → IsInParts H fields layout.parts row → AreBegunTo H layout row fields
member_begun H layout fields is row member field less =
    subst (λ cells. Begins (IsInPart H (part_of layout field).regions) cells)
    (sym (up_to_is layout fields is field less row))
    (member_goes H layout fields is field less row row member (λ f inside. refl))

module _ {R : Type 0} {C : R → List Class} (F : R → List ℕ) (Has : R → List Cell → Type 0)
    (shaped : (r : R) (cells : List Cell) → Has r cells → IsPieceOf (F r) (C r) cells) (regions : List R)
    (layout : Layout)
    (fields : ℕ) (is : IsLayout layout fields) (are : AreRegionsOf F C Has regions layout.parts)
    (some : All (λ part. ¬ (part.regions ≡ [])) layout.parts) (row : List Cell)
    (begun : AreBegunTo (HasAt Has regions) layout row fields) where
  sized : (p : ℕ) → p < length layout.parts → (cells : List Cell)
      → IsInPart (HasAt Has regions) (part_at layout.parts p).regions cells
      → length cells ≡ length (part_at layout.parts p).fields
  sized p inside cells in_part =
      let d : R = some_region regions in_part.number in_part.has.within in
      let over = are.over p (record { fields = []; regions = [] }) inside in_part.listed.0 in_part.number
      in_part.listed.1 in
      (shaped _ cells (in_part.has.has d)).count
      ∙ ap length (ap (λ n. F (slice_index_or regions n d)) (sym in_part.listed.2) ∙ over.over d)

  whole : (p : ℕ) → p < length layout.parts → (cells : List Cell)
      → length cells ≡ length (part_at layout.parts p).fields
      → Begins (IsInPart (HasAt Has regions) (part_at layout.parts p).regions) cells
      → IsInPart (HasAt Has regions) (part_at layout.parts p).regions cells
  unfolding sized
  whole p inside cells long begins =
      let none : begins.rest ≡ [] = nil_from_length begins.rest
      (omega (arith, long, sized p inside (cells ++ begins.rest) begins.has, length-append cells begins.rest)) in
      subst (IsInPart (HasAt Has regions) (part_at layout.parts p).regions)
      (ap (λ rest. cells ++ rest) none ∙ append-nil cells) begins.has

  not_empty : (ns : List ℕ) → ¬ (ns ≡ []) → 0 < length ns
  not_empty [] not = absurd (not refl)
  not_empty (n ∷ ns) not = omega (arith)

  of_part : (p : ℕ) → p < length layout.parts → (count : ℕ) → length (part_at layout.parts p).fields ≡ count
      → IsInPart (HasAt Has regions) (part_at layout.parts p).regions (piece (part_at layout.parts p).fields row)
  unfolding whole not_empty
  of_part p inside zero count =
      let regions_of : List ℕ = (part_at layout.parts p).regions in
      let first : 0 < length (part_at layout.parts p).regions = not_empty _ (some p _ inside) in
      let one = are.rows p (record { fields = []; regions = [] }) inside 0 0 first in
      whole p inside (piece (part_at layout.parts p).fields row)
      (length-map (part_at layout.parts p).fields (λ f. cell_at row f))
      (record {
        rest = one.0;
        has = record {
          number = slice_index_or (part_at layout.parts p).regions 0 0;
          listed = Contains-get_or (part_at layout.parts p).regions 0 0 first;
          has = subst (λ fs. HasAt Has regions (slice_index_or (part_at layout.parts p).regions 0 0)
              (piece fs row ++ one.0))
              (sym (nil_from_length (part_at layout.parts p).fields count)) one.1;
        };
      })
  of_part p inside (suc i) count =
      let last : i < length (part_at layout.parts p).fields = omega (arith, count) in
      let field : ℕ = number_at (part_at layout.parts p).fields i in
      let back : level_of layout (number_at (part_at layout.parts p).fields i) ≡ record { part = p; position = i } =
      is.back p i inside last in
      let begins = begun (number_at (part_at layout.parts p).fields i) (is.within p i inside last) in
      whole p inside (piece (part_at layout.parts p).fields row)
      (length-map (part_at layout.parts p).fields (λ f. cell_at row f))
      (subst (λ fs. Begins (IsInPart (HasAt Has regions) (part_at layout.parts p).regions) (piece fs row))
      (take_all (i + 1) (part_at layout.parts p).fields (omega (arith, count)))
      (subst (λ at. Begins (IsInPart (HasAt Has regions) (part_at layout.parts at.part).regions)
      (piece (take (at.position + 1) (part_at layout.parts at.part).fields) row)) back begins))

  pub begun_member : length row ≡ fields → IsInParts (HasAt Has regions) fields layout.parts row
  unfolding of_part
  begun_member long = record {
    count = long;
    each = λ p d inside. subst (λ part. IsInPart (HasAt Has regions) part.regions (piece part.fields row))
        (get_or_default layout.parts p (record { fields = []; regions = [] }) d inside)
        (of_part p inside (length (part_at layout.parts p).fields) refl);
  }

  -- it is a given row for the regions after the questions
  pub given_after : {A : R → ℕ} (now : List R) → KeepRegions F C A Has regions now → (alive : List Listed)
      → AreAliveTo (HasAt Has regions) layout row alive fields → length row ≡ fields
      → IsGiven (HasAt Has now) layout row alive Given
  unfolding begun_member
  given_after now kept alive are_alive long = (
    in_parts_to (HasAt Has regions) (HasAt Has now) (λ n cells. has_new F Has regions now kept n cells) (length row)
        layout.parts row (subst (λ count. IsInParts (HasAt Has regions) count layout.parts row) (sym long)
        (begun_member long)),
    alive_now F Has regions now kept layout row alive (length row)
        (subst (λ end. AreAliveTo (HasAt Has regions) layout row alive end) (sym long) are_alive),
  )

-- a row that is least there is least in a set of fewer rows
pub least_fewer : (S T : List Cell → Type 0) → ((row : List Cell) → S row → T row) → (row : List Cell) (field : ℕ)
    → IsLeastAt T row field → IsLeastAt S row field
least_fewer S T to row field least other member = least other (to other member)

pub next_from_nothing : (S : List Cell → Type 0) (count : ℕ) → ((row : List Cell) → S row → length row ≡ count)
    → (new : List Cell) → length new ≡ count → S new → ((field : ℕ) → field < count → IsLeastAt S new field)
    → IsNextPlace S None (Some new) 0
next_from_nothing S count long new is member least = record {
  row = new;
  place = refl;
  next = least_row S count long new is member least;
  first = refl;
}

pub next_from_row : (S : List Cell → Type 0) (count : ℕ) → ((row : List Cell) → S row → length row ≡ count)
    → (old mid new : List Cell) (field : ℕ) → length old ≡ count → length mid ≡ count → length new ≡ count
    → IsRaised S old mid field → Agree (field + 1) new mid → S new
    → ((f : ℕ) → field + 1 ≤ f → f < count → IsLeastAt S new f) → IsNextPlace S (Some old) (Some new) field
next_from_row S count long old mid new field long_old long_mid long_new raised agree member least = record {
  row = new;
  place = refl;
  next = next_row S count long old mid new field long_old long_new raised agree long_mid member least;
  first = changed_new S count long old mid new field long_old long_new raised agree long_mid;
}

-- what a walk keeps, after questions
pub walk_after : {R : Type 0} {C : R → List Class} (F : R → List ℕ)
    (Has : R → List Cell → Type 0) (layout : Layout) (count : ℕ)
    → IsLayout layout count → (regions : List R) (alive : List Listed) (row : List Cell) (room : ℕ) (place : Place)
    (empty : Bool) → length row ≡ count → IsReady F C Has layout regions alive room (length row) → IsEmptyIf empty
    layout
    → All FitsSlot row → HasCells C regions layout row → IsGiven (HasAt Has regions) layout row alive place
    → IsWalk F C Has layout regions alive row room place empty
walk_after F Has layout count is regions alive row room place empty long ready emptiness fit cells given = record {
  layout_is = subst (λ n. IsLayout layout n) (sym long) is;
  ready = ready;
  emptiness = emptiness;
  fit = fit;
  cells = cells;
  given = given;
}

-- a given row stays one for the regions after the questions
pub given_stays : {R : Type 0} {C : R → List Class} {A : R → ℕ} (F : R → List ℕ)
    (Has : R → List Cell → Type 0) (old new : List R)
    → KeepRegions F C A Has old new → (layout : Layout) (row same_row : List Cell) (alive same_alive : List Listed)
    → same_row ≡ row → same_alive ≡ alive → IsGiven (HasAt Has old) layout row alive Given
    → IsGiven (HasAt Has new) layout same_row same_alive Given
given_stays F Has old new kept layout row same_row alive same_alive row_is alive_is given =
    subst (λ r. IsGiven (HasAt Has new) layout r same_alive Given) (sym row_is)
    (subst (λ a. IsGiven (HasAt Has new) layout row a Given) (sym alive_is) (
      in_parts_to (HasAt Has old) (HasAt Has new) (λ n cells. has_new F Has old new kept n cells) (length row)
          layout.parts row given.0,
      alive_now F Has old new kept layout row alive (length row) given.1,
    ))

-- a row of nulls
cell_of_nulls : (count field : ℕ) → cell_at (replicate count cell.Null) field ≡ cell.Null
cell_of_nulls zero field = refl
cell_of_nulls (suc count) zero = refl
cell_of_nulls (suc count) (suc field) = cell_of_nulls count field

-- a walk that is opened
pub opened : {R : Type 0} {C : R → List Class} (F : R → List ℕ)
    (Has : R → List Cell → Type 0) (layout : Layout) (fields : ℕ)
    (regions : List R) (parts : List Part) (alive : List Listed) (most room : ℕ) (row : List Cell) (empty : Bool)
    → IsLayout layout fields → layout.parts ≡ parts → AreRegionsOf F C Has regions parts → length alive ≡ fields
    → All (λ listed. listed.room ≡ most) alive → All (λ listed. length listed.items ≤ listed.room) alive
    → All (λ part. length part.regions ≤ most) layout.parts
    → ((bound : ℕ) → All (λ part. length part.regions ≤ bound) layout.parts → most ≤ bound) → room ≡ most → row ≡
    replicate fields cell.Null
    → IsEmptyIf empty layout → IsWalk F C Has layout regions alive row room Nothing empty
opened {C = C} F Has layout fields regions parts alive most room row empty is parts_are are count rooms few enough
    least room_is row_is
    emptiness =
    let long : length row ≡ fields = ap length row_is ∙ length-replicate fields cell.Null in
    walk_after F Has layout fields is regions alive row room Nothing empty long (record {
      are = subst (AreRegionsOf F C Has regions) (sym parts_are) are;
      count = count ∙ sym long;
      rooms = subst (λ r. All (λ listed. listed.room ≡ r) alive) (sym room_is) rooms;
      few = few;
      enough = subst (λ r. All (λ part. length part.regions ≤ r) layout.parts) (sym room_is) enough;
      least = λ bound all. subst (λ r. r ≤ bound) (sym room_is) (least bound all);
    }) emptiness (subst (All FitsSlot) (sym row_is) (All-replicate FitsSlot fields cell.Null tt))
    (subst (HasCells C regions layout) (sym row_is) (λ field less number listed. record {
      is = λ d. subst (IsCellFor (class_at (C (slice_index_or regions number d)) (level_of layout field).position))
          (sym (cell_of_nulls fields field)) (tt, tt);
    })) tt
