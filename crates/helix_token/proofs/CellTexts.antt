-- The strings of cells: texts that are marked, and that tell the cell.
use Rattle.std.proofs.Common.{◌≡◌, ℕ, true, false, List, [], ◌∷◌, inl, inr, refl, sym, ap₂, arith}
use Rattle.std.specs.Char.{IsScalar}
use Rattle.std.specs.List.{AllByRecursion}
use Rattle.std.specs.Str.{all_scalars}
use Rattle.std.proofs.lemmas.Bool.{and_from}
use Rattle.std.proofs.lemmas.Bool.Decides.{nat_tests}
use Rattle.helix_values.specs.Universe.{InUniverse}
use Rattle.helix_values.specs.declared.kind.Kind.{Kind}
use Rattle.helix_values.specs.declared.cell.Cell.{Cell}
use Rattle.helix_values.specs.declared.cell.Cell.TheVariants as cell
use Rattle.helix_texts.specs.Texts.{cell_text}
use Rattle.helix_texts.proofs.ScalarTexts.{text_is_scalar}
use Rattle.helix_texts.proofs.TextLaws.{different}
use Rattle.helix_profile.specs.Good.{AreCellsOf, IsCellOf}
use Rattle.helix_profile.specs.declared.field.Field.{Field}
use Rattle.helix_output.specs.Fitting.{FitsFields, FitsKind}
use Rattle.helix_output.proofs.SmallTexts.{decimal_of, moment_inner, units_inner}
use Rattle.helix_output.proofs.Stops.{AllInner, IsInner, same_first, same_rest}
use Rattle.helix_token.specs.Broken.{IsRowString}
use Rattle.helix_token.specs.Token.{cell_string, cell_strings}

inner_is_scalar : (byte : ℕ) → IsInner byte → IsScalar byte
inner_is_scalar byte inner = grind (arith, nat_tests)

inner_scalars : (text : List ℕ) → AllInner text → all_scalars text ≡ true
inner_scalars [] all = refl
inner_scalars (byte ∷ text) all = and_from _ _ (inner_is_scalar byte all.0) (inner_scalars text all.1)

-- the written form of a value is a text
pub value_scalars : (k : Kind) (v : Cell) → InUniverse k v → all_scalars (cell_text k v) ≡ true
value_scalars k cell.Null within = refl
value_scalars k (cell.Bool true) within = refl
value_scalars k (cell.Bool false) within = refl
value_scalars k (cell.Number u) within =
    inner_scalars (cell_text k (cell.Number u)) (units_inner u (decimal_of k u within))
value_scalars k (cell.Moment at) within = inner_scalars (cell_text k (cell.Moment at)) (moment_inner k at)
value_scalars k (cell.Text t) within = text_is_scalar k t within

-- the string of a cell is one of a row
pub string_is_marked : (field : Field) (v : Cell) → FitsKind field.kind v → IsRowString (cell_string field v)
string_is_marked field cell.Null fits = (refl, inl refl)
string_is_marked field v fits = (value_scalars field.kind v fits, inr (cell_text field.kind v, refl))

pub strings_are_marked : (fields : List Field) (row : List Cell) → FitsFields fields row
    → AllByRecursion IsRowString (cell_strings fields row)
strings_are_marked [] [] fits = tt
strings_are_marked (field ∷ fields) (v ∷ row) fits =
    (string_is_marked field v fits.0, strings_are_marked fields row fits.1)
strings_are_marked [] (v ∷ row) fits = absurd fits
strings_are_marked (field ∷ fields) [] fits = absurd fits

-- a cell of a field fits its kind
cell_fits : (field : Field) (v : Cell) → IsCellOf field v → FitsKind field.kind v
cell_fits field cell.Null is = tt
cell_fits field v is = is

pub cells_fit : (fields : List Field) (row : List Cell) → AreCellsOf fields row → FitsFields fields row
cells_fit [] [] cells = tt
cells_fit (field ∷ fields) (v ∷ row) cells = (cell_fits field v cells.0, cells_fit fields row cells.1)
cells_fit [] (v ∷ row) cells = absurd cells
cells_fit (field ∷ fields) [] cells = absurd cells

not_marked : (text : List ℕ) → 110 ∷ [] ≡ 61 ∷ text → ⊥
not_marked text same = omega (arith, same_first 110 61 [] text same)

-- cells of a field are told by their strings
pub cell_told : (field : Field) (v w : Cell) → IsCellOf field v → IsCellOf field w
    → cell_string field v ≡ cell_string field w → v ≡ w
cell_told field cell.Null cell.Null of_v of_w same = refl
cell_told field cell.Null w of_v of_w same = absurd (not_marked (cell_text field.kind w) same)
cell_told field v cell.Null of_v of_w same = absurd (not_marked (cell_text field.kind v) (sym same))
cell_told field v w of_v of_w same =
    different field.kind v w of_v of_w (same_rest 61 61 (cell_text field.kind v) (cell_text field.kind w) same)

pub cells_told : (fields : List Field) (row other : List Cell) → AreCellsOf fields row → AreCellsOf fields other
    → cell_strings fields row ≡ cell_strings fields other → row ≡ other
cells_told [] [] [] of_row of_other same = refl
cells_told (field ∷ fields) (v ∷ row) (w ∷ other) of_row of_other same =
    let here : cell_string field v ≡ cell_string field w = cc in
    let rest : cell_strings fields row ≡ cell_strings fields other = cc in
    ap₂ (λ (x : Cell) (xs : List Cell). x ∷ xs) (cell_told field v w of_row.0 of_other.0 here)
    (cells_told fields row other of_row.1 of_other.1 rest)
cells_told [] (v ∷ row) other of_row of_other same = absurd of_row
cells_told [] [] (w ∷ other) of_row of_other same = absurd of_other
cells_told (field ∷ fields) [] other of_row of_other same = absurd of_row
cells_told (field ∷ fields) (v ∷ row) [] of_row of_other same = absurd of_other
