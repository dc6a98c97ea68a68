-- Tokens have no fault, and bytes have at most one first fault.
use Rattle.std.proofs.Common.{◌≡◌, ℕ, ◌≤◌, List, [], ◌∷◌, length, inl, inr, refl, sym, ◌∙◌, ap, subst, arith, length-append}
use Rattle.std.specs.Prelude.{Result, Ok, Err, IfOk}
use Rattle.std.proofs.lemmas.Bool.{cases_lt}
use Rattle.helix_values.specs.declared.cell.Cell.{Cell}
use Rattle.helix_profile.specs.Good.{AreCellsOf}
use Rattle.helix_profile.specs.declared.field.Field.{Field}
use Rattle.helix_token.specs.Broken.{HasTokenForm, IsFirstFault, IsFirstFaulty}
use Rattle.helix_token.specs.Identity.{IsIdentity}
use Rattle.helix_token.specs.Token.{HoldsText, IsTokenOf, cell_strings, token_of_strings}
use Rattle.helix_token.specs.declared.fault.TokenFault.{TokenFault}
use Rattle.helix_token.specs.declared.fault.TokenFault.TheVariants as fault
use Rattle.helix_token.proofs.CellTexts.{cells_fit, cells_told, strings_are_marked}
use Rattle.helix_token.proofs.Faulty.{faultless}
use Rattle.helix_token.proofs.TextSizes.{token_short}
use Rattle.helix_token.proofs.Told.{form_told, strings_told, texts_same}

-- the strings of a row's cells in a token's form
pub no_fault : (bytes identity : List ℕ) (fields : List Field) (strings : List (List ℕ)) (row : List Cell)
    → HasTokenForm bytes identity strings → AreCellsOf fields row → strings ≡ cell_strings fields row
    → (f : TokenFault) → IsFirstFault bytes identity fields f → ⊥
no_fault bytes identity fields strings row form cells same fault.Form none = none identity strings form
no_fault bytes identity fields strings row form cells same (fault.OtherProfile found wanted)
    (other, of_other, apart, is) =
    apart (form_told bytes found identity other strings of_other form).0
no_fault bytes identity fields strings row form cells same (fault.Cell index) (other, of_other, first) =
    faultless fields row cells index
    (subst (λ (ts : List (List ℕ)). IsFirstFaulty fields ts index)
    ((form_told bytes identity identity other strings of_other form).1 ∙ same) first).here
no_fault bytes identity fields strings row form cells same fault.Memory none = none

held_short : (bytes text : List ℕ) → HoldsText bytes text → length text ≤ 500000 → length bytes ≤ 1048576
held_short bytes text (inl alone) short = omega (arith, ap length alone)
held_short bytes text (inr ended) short = omega (arith, ap length ended, length-append text (10 ∷ []))

pub token_no_fault : (bytes identity : List ℕ) (fields : List Field) (row : List Cell) → IsIdentity identity
    → length fields ≤ 64 → IsTokenOf bytes identity fields row → (f : TokenFault)
    → IsFirstFault bytes identity fields f → ⊥
token_no_fault bytes identity fields row of_identity few token =
    no_fault bytes identity fields (cell_strings fields row) row
    (record {
      size = held_short bytes (token_of_strings identity (cell_strings fields row)) token.text
          (token_short identity fields row of_identity.count few token.cells);
      identified = of_identity;
      marked = strings_are_marked fields row (cells_fit fields row token.cells);
      text = token.text;
    })
    token.cells refl

pub text_tells_row : (identity : List ℕ) (fields : List Field) (row other : List Cell) → AreCellsOf fields row
    → AreCellsOf fields other
    → token_of_strings identity (cell_strings fields row) ≡ token_of_strings identity (cell_strings fields other)
    → row ≡ other
text_tells_row identity fields row other of_row of_other same =
    cells_told fields row other of_row of_other
    (strings_told identity identity (cell_strings fields row) (cell_strings fields other) same)

pub token_tells_row : (bytes identity : List ℕ) (fields : List Field) (row other : List Cell)
    → IsTokenOf bytes identity fields row → IsTokenOf bytes identity fields other → row ≡ other
token_tells_row bytes identity fields row other token of_other =
    text_tells_row identity fields row other token.cells of_other.cells
    (texts_same bytes identity identity (cell_strings fields row) (cell_strings fields other) token.text of_other.text)

same_index : (fields : List Field) (strings : List (List ℕ)) (i j : ℕ) → IsFirstFaulty fields strings i
    → IsFirstFaulty fields strings j → i ≡ j
same_index fields strings i j of_i of_j = elim (cases_lt i j) [
  | inl less ↦ absurd (of_j.before i less of_i.here)
  | inr from ↦ elim (cases_lt j i) [
    | inl less ↦ absurd (of_i.before j less of_j.here)
    | inr too ↦ omega arith
  ]
]

-- bytes have at most one first fault
pub fault_told : (bytes identity : List ℕ) (fields : List Field) (f g : TokenFault)
    → IsFirstFault bytes identity fields f → IsFirstFault bytes identity fields g → f ≡ g
fault_told bytes identity fields fault.Form fault.Form of_f of_g = refl
fault_told bytes identity fields fault.Form (fault.OtherProfile found wanted) of_f (strings, form, _, _) =
    absurd (of_f found strings form)
fault_told bytes identity fields fault.Form (fault.Cell j) of_f (strings, form, _) = absurd (of_f identity strings form)
fault_told bytes identity fields (fault.OtherProfile found wanted) fault.Form (strings, form, _, _) of_g =
    absurd (of_g found strings form)
fault_told bytes identity fields (fault.OtherProfile found wanted) (fault.OtherProfile other second)
    (strings, form, _, is) (others, of_other, _, too) =
    let same : found ≡ other = (form_told bytes found other strings others form of_other).0 in
    let wanted_same : wanted ≡ second = is ∙ sym too in
    cc
fault_told bytes identity fields (fault.OtherProfile found wanted) (fault.Cell j) (strings, form, apart, _)
    (others, of_other, _) =
    absurd (apart (form_told bytes found identity strings others form of_other).0)
fault_told bytes identity fields (fault.Cell i) fault.Form (strings, form, _) of_g = absurd (of_g identity strings form)
fault_told bytes identity fields (fault.Cell i) (fault.OtherProfile found wanted) (strings, form, _)
    (others, of_other, apart, _) =
    absurd (apart (form_told bytes found identity others strings of_other form).0)
fault_told bytes identity fields (fault.Cell i) (fault.Cell j) (strings, form, first) (others, of_other, other_first) =
    let same = (form_told bytes identity identity others strings of_other form).1 in
    ap fault.Cell
    (same_index fields strings i j first (subst (λ (ts : List (List ℕ)). IsFirstFaulty fields ts j) same other_first))
fault_told bytes identity fields fault.Memory g of_f of_g = absurd of_f
fault_told bytes identity fields f fault.Memory of_f of_g = absurd of_g

-- a row that was read from a token's form leaves no fault
pub read_whole : (bytes identity found : List ℕ) (fields : List Field) (strings slice : List (List ℕ))
    (result : Result (List Cell) TokenFault) → HasTokenForm bytes found strings → found ≡ identity → slice ≡ strings
    → IfOk result (λ row. AreCellsOf fields row) → IfOk result (λ row. slice ≡ cell_strings fields row)
    → IfOk result (λ row. (f : TokenFault) → IsFirstFault bytes identity fields f → ⊥)
read_whole bytes identity found fields strings slice (Ok row) form of_found of_slice cells same =
    no_fault bytes identity fields strings row
    (subst (λ (i : List ℕ). HasTokenForm bytes i strings) of_found form) cells (sym of_slice ∙ same)
read_whole bytes identity found fields strings slice (Err f) form of_found of_slice cells same = tt
