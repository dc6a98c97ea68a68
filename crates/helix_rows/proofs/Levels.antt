-- The levels of fields: the cells before them, and the regions over their part.
use Rattle.std.proofs.Common.{◌≡◌, ℕ, suc, ◌+◌, ◌<◌, ◌≤◌, List, [], ◌∷◌, ◌++◌, take, length, slice_index_or, slice_set, refl, sym, ◌∙◌, ap, subst, arith}
use Rattle.std.proofs.lemmas.List.Elements.{All-contains}
use Rattle.std.proofs.lemmas.List.{take_more, map_push, append_assoc, get_or-set_other, length-take-le, get_or-take}
use Rattle.std.specs.List.{Contains}
use Rattle.helix_rows.proofs.Asked.{some_region}
use Rattle.helix_rows.proofs.Classes.{comparable_rows}
use Rattle.helix_rows.specs.Inner.Levels.{level_of, part_of, before_of, up_to, IsLayout, IsLevel, Agree}
use Rattle.helix_rows.specs.Parts.{HasAt, HasClasses, IsInPart, IsRegionOver, AreRegionsOf}
use Rattle.helix_rows.specs.Regions.{cell_at, number_at, piece, Begins, Continues, IsPieceOf}
use Rattle.helix_rows.specs.declared.layout.Layout.{Layout}
use Rattle.helix_values.specs.Class.{Class, AreComparableRows}
use Rattle.helix_values.specs.declared.cell.Cell.TheVariants as cell
use Rattle.helix_values.specs.declared.cell.Cell.{Cell}

-- rows with the same cells of some fields
pub piece_same : (fields : List ℕ) (a b : List Cell)
    → ((i : ℕ) → i < length fields → cell_at a (number_at fields i) ≡ cell_at b (number_at fields i))
    → piece fields a ≡ piece fields b
piece_same [] a b same = refl
piece_same (f ∷ fields) a b same =
    ap (λ c. c ∷ piece fields a) (same 0 (omega arith))
    ∙ ap (λ cs. cell_at b f ∷ cs) (piece_same fields a b (λ i within. same (suc i) (omega (arith, within))))

-- the first fields and the next one
pub piece_more : (fields : List ℕ) (row : List Cell) (i : ℕ) → i < length fields
    → piece (take (i + 1) fields) row ≡ piece (take i fields) row ++ cell_at row (number_at fields i) ∷ []
piece_more fields row i within =
    ap (λ fs. piece fs row) (take_more fields i 0 within)
    ∙ map_push (λ f. cell_at row f) (take i fields) (number_at fields i)

pub first_same : (fields : List ℕ) (a b : List Cell) (count : ℕ) → count ≤ length fields
    → ((i : ℕ) → i < count → cell_at a (number_at fields i) ≡ cell_at b (number_at fields i))
    → piece (take count fields) a ≡ piece (take count fields) b
first_same fields a b count within same =
    piece_same (take count fields) a b (λ i less.
    let less_count : i < count = subst (λ n. i < n) (length-take-le count fields within) less in
    ap (λ f. cell_at a f) (get_or-take count fields i 0 less_count)
    ∙ (same i less_count ∙ ap (λ f. cell_at b f) (sym (get_or-take count fields i 0 less_count))))

-- what cells begin, fewer of them begin
pub begins_fewer : (P : List Cell → Type 0) (cells : List Cell) (c : Cell) → Continues P cells c → Begins P cells
begins_fewer P cells c goes = record {
  rest = c ∷ goes.rest;
  has = subst P (append_assoc cells (c ∷ []) goes.rest) goes.has;
}

-- a cell is set
pub agree_set : (row : List Cell) (field : ℕ) (c : Cell) → Agree field (slice_set row field c) row
agree_set row field c other less = get_or-set_other row field other c cell.Null (λ e. omega (arith, less, e))

module _ (layout : Layout) (fields : ℕ) (is : IsLayout layout fields) (field : ℕ) (within : field < fields) where
  level : IsLevel layout.parts field (level_of layout field)
  level = is.levels field within

  pub up_to_is : (row : List Cell) → up_to layout field row ≡ before_of layout field row ++ cell_at row field ∷ []
  unfolding level
  up_to_is row =
      piece_more (part_of layout field).fields row (level_of layout field).position level.position
      ∙ ap (λ f. before_of layout field row ++ cell_at row f ∷ []) level.is

  pub earlier : (i : ℕ) → i < (level_of layout field).position → number_at (part_of layout field).fields i < field
  unfolding level
  earlier i less =
      subst (λ f. number_at (part_of layout field).fields i < f) level.is
      (is.rising (level_of layout field).part i (level_of layout field).position level.part less level.position)

  pub before_same : (a b : List Cell) → Agree field a b → before_of layout field a ≡ before_of layout field b
  unfolding level
  before_same a b agree =
      first_same (part_of layout field).fields a b (level_of layout field).position (omega (arith, level.position))
      (λ i less. agree (number_at (part_of layout field).fields i) (earlier i less))

  pub up_to_same : (a b : List Cell) → Agree (field + 1) a b → up_to layout field a ≡ up_to layout field b
  up_to_same a b agree =
      up_to_is a ∙ (ap (λ cs. cs ++ cell_at a field ∷ [])
      (before_same a b (λ k less. agree k (omega (arith, less))))
      ∙ (ap (λ c. before_of layout field b ++ c ∷ []) (agree field (omega arith)) ∙ sym (up_to_is b)))

  -- the regions that are asked
  module _ {R : Type 0} {C : R → List Class} (F : R → List ℕ) (Has : R → List Cell → Type 0) (regions : List R)
      (ready : AreRegionsOf F C Has regions layout.parts) where
    pub over_part : (n : ℕ) → Contains (part_of layout field).regions n
        → IsRegionOver F regions (part_of layout field).fields n
    unfolding level
    over_part n listed =
        subst (λ m. IsRegionOver F regions (part_of layout field).fields m) listed.2
        (ready.over (level_of layout field).part _ level.part listed.0 n listed.1)

    -- the regions of the part have the same classes
    pub classes_same : (n m : ℕ) → Contains (part_of layout field).regions n → Contains (part_of layout field).regions m
        → (d : R) → C (slice_index_or regions n d) ≡ C (slice_index_or regions m d)
    unfolding level
    classes_same n m listed also d =
        let classes = ready.classes (level_of layout field).part (record { fields = []; regions = [] }) level.part in
        (All-contains (HasClasses C regions classes.0) (part_of layout field).regions n classes.1 listed).are d
        ∙ sym ((All-contains (HasClasses C regions classes.0) (part_of layout field).regions m classes.1 also).are d)

    pub compared : ((r : R) (cells : List Cell) → Has r cells → IsPieceOf (F r) (C r) cells) → (numbers : List ℕ)
        → ((n : ℕ) → Contains numbers n → Contains (part_of layout field).regions n)
        → (a b : List Cell) → IsInPart (HasAt Has regions) numbers a → IsInPart (HasAt Has regions) numbers b
        → AreComparableRows a b
    compared shaped numbers only a b first second =
        let d : R = some_region regions first.number first.has.within in
        let one = shaped _ a (first.has.has d) in
        let other = shaped _ b (second.has.has d) in
        let same = classes_same second.number first.number (only second.number second.listed)
        (only first.number first.listed) d in
        let over_one = (over_part first.number (only first.number first.listed)).over d in
        let over_other = (over_part second.number (only second.number second.listed)).over d in
        comparable_rows (F (slice_index_or regions first.number d)) (C (slice_index_or regions first.number d)) a b one
        (subst (λ fs. IsPieceOf fs (C (slice_index_or regions first.number d)) b) (over_other ∙ sym over_one)
        (subst (λ cs. IsPieceOf (F (slice_index_or regions second.number d)) cs b) same other))
