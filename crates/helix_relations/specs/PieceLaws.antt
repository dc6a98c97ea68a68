-- Rows of a region and their pieces. Lemmas.
use Rattle.std.proofs.Common.{◌≡◌, ◌↔◌, ℕ, zero, suc, ◌<◌, List, [], ◌∷◌, ◌++◌, take, length, slice_index, refl, ap, ap₂, arith}
use Rattle.helix_rows.specs.Regions as rows
use Rattle.helix_rows.specs.Regions.{piece, Continues}
use Rattle.helix_values.specs.declared.cell.Cell.{Cell}
use Rattle.helix_values.specs.declared.cell.Cell.TheVariants as cell
use Rattle.helix_profile.specs.Satisfaction.{cell_at}
use Rattle.helix_relations.specs.Asking.{Begins}
use Rattle.helix_relations.specs.GraphLaws.{as_many}
use Rattle.helix_relations.specs.Pieces.{IsRegionPiece}
use Rattle.helix_relations.specs.Region.{RegionContent, numbers_of, IsRegion, IsRegionRow, AgreeAt, ExtendsTo}
use Rattle.helix_relations.specs.RowLaws.{same_row}

abbrev first_of : List Cell → Cell
first_of [] = cell.Null
first_of (v ∷ cells) = v

abbrev rest_of : List Cell → List Cell
rest_of [] = []
rest_of (v ∷ cells) = cells

-- rows with the same piece agree
agree_of : (numbers : List ℕ) (a b : List Cell) → piece numbers a ≡ piece numbers b → AgreeAt numbers a b
agree_of [] a b e = tt
agree_of (n ∷ numbers) a b e = (ap first_of e, agree_of numbers a b (ap rest_of e))

agree_to : (numbers : List ℕ) (level : ℕ) (a b : List Cell) → AgreeAt (take level numbers) a b
    → (rest : List Cell) × (piece numbers a ≡ piece (take level numbers) b ++ rest)
agree_to [] zero a b agree = ([], refl)
agree_to [] (suc level) a b agree = ([], refl)
agree_to (n ∷ numbers) zero a b agree = (piece (n ∷ numbers) a, refl)
agree_to (n ∷ numbers) (suc level) a b agree = let more = agree_to numbers level a b agree.1 in
    (more.0, ap₂ (λ v cells. v ∷ cells) agree.0 more.1)

agree_back : (numbers : List ℕ) (level : ℕ) (a b rest : List Cell)
    → piece numbers a ≡ piece (take level numbers) b ++ rest → AgreeAt (take level numbers) a b
agree_back [] zero a b rest e = tt
agree_back [] (suc level) a b rest e = tt
agree_back (n ∷ numbers) zero a b rest e = tt
agree_back (n ∷ numbers) (suc level) a b rest e =
    (ap first_of e, agree_back numbers level a b rest (ap rest_of e))

next_to : (numbers : List ℕ) (level : ℕ) → level < length numbers → (a b : List Cell) (v : Cell)
    → AgreeAt (take level numbers) a b → cell_at a (slice_index numbers level) ≡ v
    → (rest : List Cell) × (piece numbers a ≡ (piece (take level numbers) b ++ v ∷ []) ++ rest)
next_to [] level below a b v agree is = absurd (omega (arith, below))
next_to (n ∷ numbers) zero below a b v agree is = (piece numbers a, ap (λ w. w ∷ piece numbers a) is)
next_to (n ∷ numbers) (suc level) below a b v agree is =
    let more = next_to numbers level (omega (arith, below)) a b v agree.1 is in
    (more.0, ap₂ (λ w cells. w ∷ cells) agree.0 more.1)

next_back : (numbers : List ℕ) (level : ℕ) → level < length numbers → (a b : List Cell) (v : Cell) (rest : List Cell)
    → piece numbers a ≡ (piece (take level numbers) b ++ v ∷ []) ++ rest
    → AgreeAt (take level numbers) a b × (cell_at a (slice_index numbers level) ≡ v)
next_back [] level below a b v rest e = absurd (omega (arith, below))
next_back (n ∷ numbers) zero below a b v rest e = (tt, ap first_of e)
next_back (n ∷ numbers) (suc level) below a b v rest e =
    let more = next_back numbers level (omega (arith, below)) a b v rest (ap rest_of e) in
    ((ap first_of e, more.0), more.1)

-- a row's cells at the region's fields are a piece exactly where it is a row
pub piece_is_row : (region : RegionContent) → IsRegion region → (row : List Cell)
    → IsRegionPiece region (piece (numbers_of region.fields) row) ↔ IsRegionRow region row
piece_is_row region is row = (
  (λ some. same_row some.row row region is (agree_of (numbers_of region.fields) some.row row some.is) some.is_row),
  (λ is_row. record { row = row; is_row = is_row; is = refl }),
)

-- a prefix begins a row exactly where its cells begin a piece,
pub begins_piece : (region : RegionContent) (prefix : List Cell) (level : ℕ)
    → Begins region prefix level
    ↔ rows.Begins (IsRegionPiece region) (piece (take level (numbers_of region.fields)) prefix)
begins_piece region prefix level = (
  (λ begun. let more = agree_to (numbers_of region.fields) level begun.0 prefix begun.1.agrees in record {
    rest = more.0;
    has = record { row = begun.0; is_row = begun.1.is_row; is = more.1 };
  }),
  (λ begun. (
    begun.has.row,
    record {
      is_row = begun.has.is_row;
      agrees = agree_back (numbers_of region.fields) level begun.has.row prefix begun.rest begun.has.is;
    },
  )),
)

-- and a cell extends it to a row exactly where the cells continue with it to a piece
pub extends_piece : (region : RegionContent) (prefix : List Cell) (level : ℕ) → level < length region.fields →
    (v : Cell)
    → ExtendsTo region prefix level v
    ↔ Continues (IsRegionPiece region) (piece (take level (numbers_of region.fields)) prefix) v
extends_piece region prefix level below v =
    let numbers : List ℕ = numbers_of region.fields in
    let in_numbers : level < length numbers = let same = as_many region.fields in omega (arith, same, below) in (
      (λ to. let more = next_to numbers level in_numbers to.row prefix v to.begins.agrees to.is in record {
        rest = more.0;
        has = record { row = to.row; is_row = to.begins.is_row; is = more.1 };
      }),
      (λ goes. let both = next_back numbers level in_numbers goes.has.row prefix v goes.rest goes.has.is in record {
        row = goes.has.row;
        begins = record { is_row = goes.has.is_row; agrees = both.0 };
        is = both.1;
      }),
    )
