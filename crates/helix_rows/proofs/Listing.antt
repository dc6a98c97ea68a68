-- Rows of two cells in a list, as the tests have them.
use Rattle.std.proofs.Common.{◌≡◌, ◌⊎◌, inl, inr, ℕ, ℤ, ◌+◌, ◌<◌, Bool, true, false, List, [], ◌∷◌, ◌++◌, take, length, slice_index_or, slice_set, Option, None, Some, refl, sym, ◌∙◌, ap, subst, ⊎_elim}
use Rattle.std.proofs.lemmas.List.{take_more, get_or-set_same}
use Rattle.std.proofs.lemmas.List.Elements.{Contains-append_left, Contains-push, Contains-push_cases}
use Rattle.helix_rows.proofs.Asked.{piece_cell}
use Rattle.helix_rows.proofs.CellOrder.{less_less, not_itself}
use Rattle.helix_rows.specs.Inner.Answers.{IsMarkFor}
use Rattle.helix_rows.specs.Inner.Listing.{cell_or_null, cells_of, GoesOn, IsListed, IsOnly, IsTaken, pairs_shaped}
use Rattle.helix_rows.specs.Regions.{cell_at, piece, Continues, IsAskedFor, IsLeastOf}
use Rattle.helix_rows.specs.declared.region.Question.{Question}
use Rattle.helix_values.specs.Class.{numbers}
use Rattle.helix_values.specs.Marks.{IsAdmitted}
use Rattle.helix_values.specs.Order.{CellLess}
use Rattle.helix_values.specs.Slot.{FitsSlot}
use Rattle.helix_values.specs.declared.cell.Cell.{Cell}
use Rattle.helix_values.specs.declared.mark.Mark.{Mark}
use Rattle.helix_words.specs.Questions.{IsLeastAdmitted, IsLeastAnswer}

-- one more pair may have a lesser cell
module _ (P N Q : Cell → Type 0) (mark : Mark) (from : (c : Cell) → Q c → P c ⊎ N c) (old_to : (c : Cell) → P c → Q c)
    (new_to : (c : Cell) → N c → Q c) where
  stays : (found : Bool) (first old : Cell) → ((c : Cell) → N c → ¬ (IsAdmitted mark c))
      → IsLeastAnswer P mark found first old → IsLeastAnswer Q mark found first old
  stays true first old none before = record {
    has = old_to old before.has;
    admitted = before.admitted;
    least = λ other has admitted less. ⊎_elim (λ p. before.least other p admitted less)
        (λ n. none other n admitted) (from other has);
  }
  stays false first old none before = (
    before.0,
    λ other has admitted. ⊎_elim (λ p. before.1 other p admitted) (λ n. none other n admitted)
        (from other has),
  )

  changes : (found : Bool) (first old c : Cell) → N c → ((d : Cell) → N d → d ≡ c) → IsAdmitted mark c
      → (found ≡ false) ⊎ CellLess c old → IsLeastAnswer P mark found first old → IsLeastAdmitted Q mark c
  changes true first old c has only admitted (inl e) before = absurd (cc e)
  changes true first old c has only admitted (inr less) before = record {
    has = new_to c has;
    admitted = admitted;
    least = λ other is other_admitted below. ⊎_elim
        (λ p. before.least other p other_admitted (less_less other c old below less))
        (λ n. not_itself c (subst (λ d. CellLess d c) (only other n) below)) (from other is);
  }
  changes false first old c has only admitted reason before = record {
    has = new_to c has;
    admitted = admitted;
    least = λ other is other_admitted below. ⊎_elim (λ p. before.1 other p other_admitted)
        (λ n. not_itself c (subst (λ d. CellLess d c) (only other n) below)) (from other is);
  }

  same_is : (c old : Cell) → ((d : Cell) → N d → d ≡ c) → ¬ (CellLess c old) → IsLeastAdmitted P mark old
      → IsLeastAdmitted Q mark old
  same_is c old only above before = record {
    has = old_to old before.has;
    admitted = before.admitted;
    least = λ other is admitted below. ⊎_elim (λ p. before.least other p admitted below)
        (λ n. above (subst (λ d. CellLess d old) (only other n) below)) (from other is);
  }

  pub more : (next : Option (Option ℤ)) → IsOnly N next → (found result : Bool) (first old new : Cell)
      → IsTaken (IsAdmitted mark) next found result old new → IsLeastAnswer P mark found first old
      → IsLeastAnswer Q mark result first new
  more None only found result first old new (is, cell) before =
      subst (λ r. IsLeastAnswer Q mark r first new) (sym is) (subst (λ c. IsLeastAnswer Q mark found first c) (sym cell)
      (stays found first old (λ c n admitted. only c n) before))
  more (Some value) only found result first old new (inl (not, is, cell)) before =
      subst (λ r. IsLeastAnswer Q mark r first new) (sym is) (subst (λ c. IsLeastAnswer Q mark found first c) (sym cell)
      (stays found first old (λ c n admitted. not (subst (IsAdmitted mark) (only.1 c n) admitted)) before))
  more (Some value) only found result first old new (inr (admitted, is, inl (had, above, cell))) before =
      subst (λ r. IsLeastAnswer Q mark r first new) (sym is) (subst (λ c. IsLeastAdmitted Q mark c) (sym cell)
      (same_is (cell_or_null value) old only.1 above (subst (λ f. IsLeastAnswer P mark f first old) had before)))
  more (Some value) only found result first old new (inr (admitted, is, inr (reason, cell))) before =
      subst (λ r. IsLeastAnswer Q mark r first new) (sym is) (subst (λ c. IsLeastAdmitted Q mark c) (sym cell)
      (changes found first old (cell_or_null value) only.0 only.1 admitted reason before))

-- the pairs that are listed
module _ (pairs : List (Option ℤ × Option ℤ)) (pair : Option ℤ × Option ℤ) (cells : List Cell) (c : Cell) where
  pub listed_from : Continues (IsListed (pairs ++ pair ∷ [])) cells c → Continues (IsListed pairs) cells c ⊎ GoesOn
      pair cells c
  listed_from is = ⊎_elim
      (λ old. inl (record { rest = is.rest; has = record { pair = is.has.pair; listed = old; are = is.has.are } }))
      (λ same. inr (record { rest = is.rest; has = is.has.are ∙ ap cells_of (sym same) }))
      (Contains-push_cases pairs pair is.has.pair is.has.listed)

  pub listed_old : Continues (IsListed pairs) cells c → Continues (IsListed (pairs ++ pair ∷ [])) cells c
  listed_old is = record {
    rest = is.rest;
    has = record {
      pair = is.has.pair;
      listed = Contains-append_left pairs (pair ∷ []) is.has.pair is.has.listed;
      are = is.has.are;
    };
  }

  pub listed_new : GoesOn pair cells c → Continues (IsListed (pairs ++ pair ∷ [])) cells c
  listed_new is = record {
    rest = is.rest;
    has = record { pair = pair; listed = Contains-push pairs pair; are = is.has };
  }

pub more_pairs : (pairs : List (Option ℤ × Option ℤ)) (index : ℕ) (pair : Option ℤ × Option ℤ) → index < length pairs
    → slice_index_or pairs index pair ≡ pair → (cells : List Cell) (mark : Mark) (next : Option (Option ℤ))
    → IsOnly (GoesOn pair cells) next → (found result : Bool) (first old new : Cell)
    → IsTaken (IsAdmitted mark) next found result old new
    → IsLeastAnswer (Continues (IsListed (take index pairs)) cells) mark found first old
    → IsLeastAnswer (Continues (IsListed (take (index + 1) pairs)) cells) mark result first new
more_pairs pairs index pair within is cells mark next only found result first old new taken before =
    subst (λ ps. IsLeastAnswer (Continues (IsListed ps) cells) mark result first new)
    (ap (λ p. take index pairs ++ p ∷ []) (sym is) ∙ sym (take_more pairs index pair within))
    (more (Continues (IsListed (take index pairs)) cells) (GoesOn pair cells)
    (Continues (IsListed (take index pairs ++ pair ∷ [])) cells) mark
    (λ c. listed_from (take index pairs) pair cells c) (λ c. listed_old (take index pairs) pair cells c)
    (λ c. listed_new (take index pairs) pair cells c) next only found result first old new taken before)

-- the cell of a pair at a level
pub next_first : (pair : Option ℤ × Option ℤ) (row : List Cell) (f g level : ℕ) → level ≡ 0
    → IsOnly (GoesOn pair (piece (take level (f ∷ g ∷ [])) row)) (Some pair.0)
next_first pair row f g level is =
    subst (λ l. IsOnly (GoesOn pair (piece (take l (f ∷ g ∷ [])) row)) (Some pair.0)) (sym is) (
      record { rest = cell_or_null pair.1 ∷ []; has = refl },
      λ other goes. cc goes.has,
    )

-- the row's own cell becomes the least one
pub step_some : (P : Cell → Type 0) (question : Question) (own : Cell) (mark : Mark) → IsMarkFor question own mark
    → (found : Bool) → found ≡ true → (first best : Cell) → IsLeastAnswer P mark found first best → (new : Cell)
    → new ≡ best → IsLeastOf P (IsAskedFor question own) new
step_some P question own mark for found is first best answer new same =
    let least : IsLeastAdmitted P mark best = subst (λ f. IsLeastAnswer P mark f first best) is answer in
    subst (IsLeastOf P (IsAskedFor question own)) (sym same) (record {
      has = least.has;
      admitted = (for best).0 least.admitted;
      least = λ other has asked. least.least other has ((for other).1 asked);
    })

-- the cell of a field after it is set
pub set_at : (row new : List Cell) (field n : ℕ) (v best : Cell) → field ≡ n → n < length row
    → new ≡ slice_set row field v → v ≡ best → cell_at new n ≡ best
set_at row new field n v best same within is v_is =
    ap (λ r. cell_at r n) (is ∙ ap (λ f. slice_set row f v) same) ∙ (get_or-set_same row n v _ within ∙ v_is)

pub best_fits : (pairs : List (Option ℤ × Option ℤ)) (cells : List Cell) (mark : Mark) (found : Bool) → found ≡ true
    → (first best : Cell) → IsLeastAnswer (Continues (IsListed pairs) cells) mark found first best → FitsSlot best
best_fits pairs cells mark found is first best answer =
    let least : IsLeastAdmitted (Continues (IsListed pairs) cells) mark best =
    subst (λ f. IsLeastAnswer (Continues (IsListed pairs) cells) mark f first best) is answer in
    (piece_cell (0 ∷ 0 ∷ []) (numbers ∷ numbers ∷ []) cells best least.has.rest
    (pairs_shaped 0 0 pairs _ least.has.has)).1
