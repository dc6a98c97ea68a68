-- The faults of cells, index by index.
use Rattle.std.proofs.Common.{◌≡◌, ℕ, zero, suc, ◌+◌, ◌<◌, ◌≤◌, Some, None, List, [], ◌∷◌, ◌++◌, length, get_or, take, inl, inr, refl, sym, ◌∙◌, ap, ap₂, subst, arith}
use Rattle.std.specs.List.{slice_get}
use Rattle.std.specs.Prelude.{Option, MatchOption}
use Rattle.std.proofs.lemmas.List.{take_more}
use Rattle.std.proofs.lemmas.Option.{slice_get_cases, slice_get_past, slice_get_read}
use borrow.Author.Count.{below_more}
use Rattle.helix_values.specs.declared.cell.Cell.{Cell}
use Rattle.helix_profile.specs.Good.{AreCellsOf, IsCellOf}
use Rattle.helix_profile.specs.declared.field.Field.{Field}
use Rattle.helix_token.specs.Broken.{IsFaulty}
use Rattle.helix_token.specs.Token.{cell_string, cell_strings}

module _ (fields : List Field) (strings : List (List ℕ)) (i : ℕ) where
  abbrev pub IsFaultyAt : Type 0
  IsFaultyAt = IsFaulty (slice_get fields i) (slice_get strings i)

  faulty_as : (field : Option Field) (text : Option (List ℕ)) → slice_get fields i ≡ field
      → slice_get strings i ≡ text → IsFaulty field text → IsFaultyAt
  faulty_as field text of_field of_text faulty =
      subst (λ (f : Option Field). IsFaulty f (slice_get strings i)) (sym of_field)
      (subst (λ (t : Option (List ℕ)). IsFaulty field t) (sym of_text) faulty)

  as_faulty : (field : Option Field) (text : Option (List ℕ)) → slice_get fields i ≡ field
      → slice_get strings i ≡ text → IsFaultyAt → IsFaulty field text
  as_faulty field text of_field of_text faulty =
      subst (λ (t : Option (List ℕ)). IsFaulty field t) of_text
      (subst (λ (f : Option Field). IsFaulty f (slice_get strings i)) of_field faulty)

  pub no_text : length strings ≤ i → i < length fields → IsFaultyAt
  no_text past within = elim ((slice_get_cases fields i).1) [
    | inl found ↦ faulty_as (Some found.0) None found.2 (slice_get_past strings i past) tt
    | inr none ↦ absurd (omega (arith, none.0))
  ]

  module _ (field : Field) (text : List ℕ) (in_fields : i < length fields) (in_strings : i < length strings)
      (of_field : field ≡ get_or fields i field) (of_text : text ≡ get_or strings i text) where
    pub good_here : (v : Cell) → IsCellOf field v → text ≡ cell_string field v → IsFaultyAt → ⊥
    good_here v is same faulty =
        as_faulty (Some field) (Some text) (slice_get_read fields (length fields) i field refl in_fields of_field)
        (slice_get_read strings (length strings) i text refl in_strings of_text) faulty v is same

cells_push : (fields : List Field) (row : List Cell) (field : Field) (v : Cell) → AreCellsOf fields row
    → IsCellOf field v → AreCellsOf (fields ++ field ∷ []) (row ++ v ∷ [])
cells_push [] [] field v cells is = (is, tt)
cells_push (f ∷ fields) (w ∷ row) field v cells is = (cells.0, cells_push fields row field v cells.1 is)
cells_push [] (w ∷ row) field v cells is = absurd cells
cells_push (f ∷ fields) [] field v cells is = absurd cells

strings_push : (fields : List Field) (row : List Cell) (field : Field) (v : Cell) → AreCellsOf fields row
    → cell_strings (fields ++ field ∷ []) (row ++ v ∷ []) ≡ cell_strings fields row ++ cell_string field v ∷ []
strings_push [] [] field v cells = refl
strings_push (f ∷ fields) (w ∷ row) field v cells =
    ap (λ ts. cell_string f w ∷ ts) (strings_push fields row field v cells.1)
strings_push [] (w ∷ row) field v cells = absurd cells
strings_push (f ∷ fields) [] field v cells = absurd cells

-- the first cells, as far as a loop has come
pub record HasRead (fields : List Field) (strings : List (List ℕ)) (row : List Cell) (i : ℕ) : Type 0 where
  pub cells : AreCellsOf (take i fields) row
  pub texts : take i strings ≡ cell_strings (take i fields) row
  pub before : (k : ℕ) → k < i → IsFaultyAt fields strings k → ⊥

item_or : {X : Type 0} (xs : List X) (i : ℕ) (x : X) → i < length xs → x ≡ get_or xs i x
    → take (i + 1) xs ≡ take i xs ++ x ∷ []
item_or xs i x within is = take_more xs i x within ∙ ap (λ y. take i xs ++ y ∷ []) (sym is)

-- one cell more
pub HasRead-more : (fields : List Field) (strings : List (List ℕ)) (row : List Cell) (i : ℕ) (field : Field)
    (text : List ℕ) (v : Cell) → i < length fields → i < length strings → field ≡ get_or fields i field
    → text ≡ get_or strings i text → HasRead fields strings row i → IsCellOf field v → text ≡ cell_string field v
    → HasRead fields strings (row ++ v ∷ []) (i + 1)
HasRead-more fields strings row i field text v in_fields in_strings of_field of_text so_far is same =
    let first = item_or fields i field in_fields of_field in
    record {
      cells = subst (λ (fs : List Field). AreCellsOf fs (row ++ v ∷ [])) (sym first)
          (cells_push (take i fields) row field v so_far.cells is);
      texts = item_or strings i text in_strings of_text
          ∙ ap₂ (λ (ts : List (List ℕ)) (t : List ℕ). ts ++ t ∷ []) so_far.texts same
          ∙ sym (strings_push (take i fields) row field v so_far.cells)
          ∙ ap (λ (fs : List Field). cell_strings fs (row ++ v ∷ [])) (sym first);
      before = below_more (λ k. IsFaultyAt fields strings k → ⊥) i so_far.before
          (good_here fields strings i field text in_fields in_strings of_field of_text v is same);
    }

-- the strings of a row of cells have no fault
pub faultless : (fields : List Field) (row : List Cell) → AreCellsOf fields row → (k : ℕ)
    → IsFaultyAt fields (cell_strings fields row) k → ⊥
faultless [] [] cells k faulty = faulty
faultless (field ∷ fields) (v ∷ row) cells zero faulty = faulty v cells.0 refl
faultless (field ∷ fields) (v ∷ row) cells (suc k) faulty = faultless fields row cells.1 k faulty
faultless [] (v ∷ row) cells k faulty = absurd cells
faultless (field ∷ fields) [] cells k faulty = absurd cells

-- the cell that a string has
pub some_cell : (field : Field) (text : List ℕ) (none : Type 0) (found : Option Cell) (v : Cell) → found ≡ Some v
    → MatchOption found none (λ (value : Cell). IsCellOf field value × (text ≡ cell_string field value))
    → IsCellOf field v × (text ≡ cell_string field v)
some_cell field text none found v is of_found =
    subst
    (λ (o : Option Cell).
    MatchOption o none (λ (value : Cell). IsCellOf field value × (text ≡ cell_string field value)))
    is of_found
