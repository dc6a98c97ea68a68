-- Cells that begin rows, and the cells that go on from them.
use Rattle.std.proofs.Common.{◌≡◌, ℕ, zero, suc, ◌+◌, ◌<◌, Bool, true, false, List, [], ◌∷◌, ◌++◌, take, length, slice_index_or, refl, sym, ◌∙◌, ap, subst, arith}
use Rattle.std.proofs.lemmas.List.Elements.{Contains-get_or}
use Rattle.std.proofs.lemmas.List.{append_assoc, length-append, length-map, length-take-le}
use Rattle.std.specs.List.{All}
use Rattle.helix_rows.proofs.Asked.{some_region}
use Rattle.helix_rows.proofs.Levels.{over_part}
use Rattle.helix_rows.specs.Inner.Levels.{part_at, level_of, part_of, before_of, GoesOn, AreBegunTo, IsLayout, IsLevel}
use Rattle.helix_rows.specs.Parts.{HasAt, IsInPart, AreRegionsOf}
use Rattle.helix_rows.specs.Regions.{cell_at, number_at, piece, Begins, IsLeastStep, IsPieceOf}
use Rattle.helix_rows.specs.declared.layout.Layout.{Layout}
use Rattle.helix_rows.specs.declared.layout.Level.{Level}
use Rattle.helix_rows.specs.declared.part.Part.{Part}
use Rattle.helix_rows.specs.declared.region.Question.TheVariants.{Start}
use Rattle.helix_values.specs.Class.{Class}
use Rattle.helix_values.specs.declared.cell.Cell.{Cell}

-- the earlier cells of a field begin rows of its part, and a cell goes on from them
module _ {R : Type 0} {C : R → List Class} (F : R → List ℕ) (Has : R → List Cell → Type 0)
    (shaped : (r : R) (cells : List Cell) → Has r cells → IsPieceOf (F r) (C r) cells) (regions : List R)
    (layout : Layout) (fields : ℕ) (is : IsLayout layout fields) (are : AreRegionsOf F C Has regions layout.parts)
    (some : All (λ part. ¬ (part.regions ≡ [])) layout.parts) (field : ℕ) (within : field < fields)
    (row : List Cell) where
  level_here : IsLevel layout.parts field (level_of layout field)
  level_here = is.levels field within

  BegunAs : Level → Type 0
  BegunAs at = Begins (IsInPart (HasAt Has regions) (part_at layout.parts at.part).regions)
      (piece (take (at.position + 1) (part_at layout.parts at.part).fields) row)

  first_listed : (ns : List ℕ) → ¬ (ns ≡ []) → 0 < length ns
  first_listed [] not = absurd (not refl)
  first_listed (n ∷ ns) not = omega (arith)

  begun_by : AreBegunTo (HasAt Has regions) layout row field → (position : ℕ) → (level_of layout field).position ≡
      position
      → Begins (IsInPart (HasAt Has regions) (part_of layout field).regions)
      (piece (take position (part_of layout field).fields) row)
  unfolding level_here BegunAs
  begun_by begun zero at =
      let part : Part = part_of layout field in
      let inside : 0 < length (part_of layout field).regions =
      first_listed (part_of layout field).regions (some (level_of layout field).part _ level_here.part) in
      let one = are.rows (level_of layout field).part (record { fields = []; regions = [] }) level_here.part 0 0
      inside in
      record {
        rest = one.0;
        has = record {
          number = slice_index_or (part_of layout field).regions 0 0;
          listed = Contains-get_or (part_of layout field).regions 0 0 inside;
          has = one.1;
        };
      }
  begun_by begun (suc i) at =
      let less : i < (level_of layout field).position = omega (arith, at) in
      let before : ℕ = number_at (part_of layout field).fields i in
      let earlier : before < field =
      subst (λ f. number_at (part_of layout field).fields i < f) level_here.is
      (is.rising (level_of layout field).part i (level_of layout field).position level_here.part less
      level_here.position) in
      let back : level_of layout before ≡ record { part = (level_of layout field).part; position = i } =
      is.back (level_of layout field).part i level_here.part (omega (arith, less, level_here.position)) in
      let there : BegunAs (record { part = (level_of layout field).part; position = i }) =
      subst BegunAs back (begun before earlier) in
      let more : i + 1 ≡ suc i = omega arith in
      subst (λ count. Begins (IsInPart (HasAt Has regions) (part_of layout field).regions)
      (piece (take count (part_of layout field).fields) row)) more there

  pub begun_at : AreBegunTo (HasAt Has regions) layout row field
      → Begins (IsInPart (HasAt Has regions) (part_of layout field).regions) (before_of layout field row)
  begun_at begun = begun_by begun (level_of layout field).position refl

  sized : (cells : List Cell) → IsInPart (HasAt Has regions) (part_of layout field).regions cells
      → length cells ≡ length (part_of layout field).fields
  sized cells in_part =
      let d : R = some_region regions in_part.number in_part.has.within in
      (shaped _ cells (in_part.has.has d)).count
      ∙ ap length ((over_part layout fields is field within F Has regions are in_part.number in_part.listed).over d)

  pub goes_somewhere : Begins (IsInPart (HasAt Has regions) (part_of layout field).regions) (before_of layout field row)
      → (c : Cell) × GoesOn (HasAt Has regions) layout field row c
  unfolding level_here
  goes_somewhere begun = by begun.rest begun.has
    where
      by : (rest : List Cell) → IsInPart (HasAt Has regions) (part_of layout field).regions
          (before_of layout field row ++ rest)
          → (c : Cell) × GoesOn (HasAt Has regions) layout field row c
      by [] in_part = absurd (omega (
        arith,
        level_here.position,
        sized _ in_part,
        length-append (before_of layout field row) [],
        length-map (take (level_of layout field).position (part_of layout field).fields) (λ f. cell_at row f),
        length-take-le (level_of layout field).position (part_of layout field).fields
            (omega (arith, level_here.position)),
      ))
      by (c ∷ rest) in_part = (
        c,
        record {
          rest = rest;
          has = subst (IsInPart (HasAt Has regions) (part_of layout field).regions)
              (sym (append_assoc (before_of layout field row) (c ∷ []) rest)) in_part;
        },
      )

-- the first question always has an answer
pub start_answers : (Has : Cell → Type 0) (yes : Bool) (old new : Cell) → (c : Cell) × Has c
    → IsLeastStep Has Start yes old new → yes ≡ true
start_answers Has true old new some answer = refl
start_answers Has false old new some answer = absurd (answer.1 some.0 some.1 tt)
