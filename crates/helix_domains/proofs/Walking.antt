-- The first and the next of the cells of a list and of words, with what is kept near them.
use Rattle.std.proofs.Common.{◌≡◌, ℕ, ◌+◌, ◌≤◌, ◌<◌, ◌⊎◌, inl, inr, Bool, true, false, List, length, get_or, sym, ◌∙◌, subst, arith}
use Rattle.std.specs.List.{Contains}
use Rattle.std.specs.Ordering.{is_lt}
use Rattle.std.proofs.lemmas.Bool.{cases_lt}
use Rattle.std.proofs.lemmas.List.{get_or_default}
use Rattle.helix_values.specs.Order.{cell_cmp, CellLess}
use Rattle.helix_values.specs.declared.cell.Cell.{Cell}
use Rattle.helix_values.specs.declared.cell.Cell.TheVariants as cell
use Rattle.helix_values.specs.declared.mark.Mark.TheVariants.{Start}
use Rattle.helix_words.specs.Questions.{IsLeastAnswer, IsLeastAdmitted}
use Rattle.helix_words.specs.Trails.{Along, HoldsLeast, AnyWord, IsWordAbove}
use Rattle.helix_words.specs.Words.{WordSet, IsWord, IsWordCell, HasRoomFor}
use Rattle.helix_domains.specs.Form.{listed, on_grid, spelt, AreAscending}
use Rattle.helix_domains.specs.Near.{HasRoomNear, IsAt, IsLeastAbove, IsNextAnswer}
use Rattle.helix_domains.specs.declared.near.Near.{Near}
use Rattle.helix_domains.specs.declared.near.Near.TheVariants as near
use Rattle.helix_domains.specs.declared.values.Values.{Values}
use Rattle.helix_domains.specs.declared.values.Values.TheVariants.{Listed, Texts}
use Rattle.helix_domains.specs.Inner.Values.{HasValue, form_of}
use Rattle.helix_domains.specs.Inner.Walk.{TakesAt, KeepsAt, index_kept}
use Rattle.helix_domains.proofs.Orders.{least_at, in_order, not_less}

module _ (cells : List Cell) (ascending : AreAscending cells) where
  kept_at : (index : ℕ) (new : Cell) (before after : Near) → after ≡ near.Listed index
      → IsAt (listed cells) (near.Listed index) new → KeepsAt (listed cells) true before after new
  kept_at index new before after is at =
      subst (λ a. HasRoomNear (listed cells) a × IsAt (listed cells) a new) (sym is) (tt, at)

  pub first_taken : (result : Bool) (old new : Cell) (before after : Near)
      → TakesAt cells 0 result old new before after
      → IsLeastAnswer (Contains cells) Start result old new × KeepsAt (listed cells) result before after new
  first_taken true old new before after (is, at) = (
    subst (IsLeastAdmitted (Contains cells) Start) at.1 (least_at cells ascending Start 0
        (λ k d low below. absurd (omega (arith, below))) (λ k d low below. tt) new at.0),
    kept_at 0 new before after is at,
  )
  first_taken false old new before after (past, same, kept) = (
    (same, λ other has admitted. absurd (omega (arith, past, has.1))),
    kept,
  )

  module _ (i : ℕ) (old : Cell) (within : i < length cells) (here : get_or cells i old ≡ old) where
    -- a cell of the list above the one at an index comes later
    comes_later : (other : Cell) (k : ℕ) → get_or cells k other ≡ other → CellLess old other → i < k
    comes_later other k at above = by (cases_lt i k)
      where
        by : (i < k) ⊎ (k ≤ i) → i < k
        by (inl later) = later
        by (inr early) = absurd (not_less (cell_cmp old other)
            (subst (λ c. is_lt (cell_cmp c other) ≡ false) (get_or_default cells i other old within ∙ here)
            (subst (λ c. is_lt (cell_cmp (get_or cells i other) c) ≡ false) at
            (in_order cells ascending k i other early within))) above)

    pub next_taken : (result : Bool) (new : Cell) (before after : Near)
        → TakesAt cells (i + 1) result old new before after
        → IsNextAnswer (Contains cells) result old new × KeepsAt (listed cells) result before after new
    next_taken true new before after (is, at) = (
      record {
        has = (i + 1, at.0, at.1);
        above = subst (λ c. CellLess c new) (get_or_default cells i new old within ∙ here)
            (subst (CellLess (get_or cells i new)) at.1 (ascending i (i + 1) new (omega arith) at.0));
        least = λ other has above less. not_less (cell_cmp other new)
            (subst (λ c. is_lt (cell_cmp c new) ≡ false)
            (get_or_default cells has.0 new other has.1 ∙ has.2)
            (subst (λ c. is_lt (cell_cmp (get_or cells has.0 new) c) ≡ false) at.1
            (in_order cells ascending (i + 1) has.0 new (omega (arith, comes_later other has.0 has.2 above)) has.1)))
            less;
      },
      kept_at (i + 1) new before after is at,
    )
    next_taken false new before after (past, same, kept) = (
      (same, λ other has above. absurd (omega (arith, past, has.1, comes_later other has.0 has.2 above))),
      kept,
    )

-- what is kept at a cell of a list is its index
pub index_within : (cells : List Cell) (kept : Near) (v : Cell) → IsAt (listed cells) kept v
    → (index_kept kept < length cells) × (get_or cells (index_kept kept) v ≡ v)
index_within cells (near.Listed index) v at = at
index_within cells near.OnGrid v at = absurd at
index_within cells (near.Spelt trail) v at = absurd at

pub room_at : (cells : List Cell) (kept : Near) (v : Cell) → IsAt (listed cells) kept v
    → HasRoomNear (listed cells) kept
room_at cells (near.Listed index) v at = tt
room_at cells near.OnGrid v at = absurd at
room_at cells (near.Spelt trail) v at = absurd at

pub next_at : (cells : List Cell) → AreAscending cells → (index : ℕ) (result : Bool) (old new : Cell)
    (before after : Near)
    → index ≡ index_kept before → IsAt (listed cells) before old → TakesAt cells (index + 1) result old new before after
    → IsNextAnswer (Contains cells) result old new × KeepsAt (listed cells) result before after new
next_at cells ascending index result old new before after is at takes =
    let kept = index_within cells before old at in
    next_taken cells ascending (index_kept before) old kept.0 kept.1 result new before after
    (subst (λ i. TakesAt cells (i + 1) result old new before after) is takes)

-- room for all words
pub near_texts : (values : Values) (words : WordSet) (room : ℕ) (trail : Along) → values ≡ Texts words
    → HasRoomFor words room → trail.room ≡ room → HasRoomNear (form_of values) (near.Spelt trail)
near_texts values words room trail is fits same =
    subst (λ v. HasRoomNear (form_of v) (near.Spelt trail)) (sym is) (subst (HasRoomFor words) (sym same) fits)

module _ (words : WordSet) (trail after : Along) (v : Cell) (is : v ≡ cell.Text after.word) where
  pub first_spelt : HoldsLeast words AnyWord trail after → IsLeastAdmitted (IsWordCell words) Start v
  first_spelt found = subst (IsLeastAdmitted (IsWordCell words) Start) (sym is) (record {
    has = found.is_least.is_word;
    admitted = tt;
    least = by;
  })
    where
      by : (other : Cell) → IsWordCell words other → Unit {0} → ¬ CellLess other (cell.Text after.word)
      by (cell.Text word) has admitted less = found.is_least.least word has tt less
      by cell.Null has admitted less = absurd has
      by (cell.Bool truth) has admitted less = absurd has
      by (cell.Number units) has admitted less = absurd has
      by (cell.Moment at) has admitted less = absurd has

  pub next_spelt : (old : Cell) → old ≡ cell.Text trail.word → HoldsLeast words (IsWordAbove trail.word) trail after
      → IsLeastAbove (IsWordCell words) old v
  next_spelt old was found =
      subst (IsLeastAbove (IsWordCell words) old) (sym is)
      (subst (λ c. IsLeastAbove (IsWordCell words) c (cell.Text after.word)) (sym was) (record {
        has = found.is_least.is_word;
        above = found.is_least.admitted;
        least = by;
      }))
    where
      by : (other : Cell) → IsWordCell words other → CellLess (cell.Text trail.word) other
          → ¬ CellLess other (cell.Text after.word)
      by (cell.Text word) has above less = found.is_least.least word has above less
      by cell.Null has above less = absurd has
      by (cell.Bool truth) has above less = absurd has
      by (cell.Number units) has above less = absurd has
      by (cell.Moment at) has above less = absurd has

  pub kept_spelt : (Admits : List ℕ → Type 0) (before : Near) → HasRoomFor words trail.room
      → HoldsLeast words Admits trail after → KeepsAt (spelt words) true before (near.Spelt after) v
  kept_spelt Admits before room found = (
    subst (HasRoomFor words) (sym found.room) room,
    (found.along, is),
  )

-- no word is above a text where no word is admitted
pub none_spelt : (words : WordSet) (old : Cell) (word : List ℕ) → old ≡ cell.Text word
    → ((other : List ℕ) → IsWord words other → ¬ IsWordAbove word other) → (other : Cell) → IsWordCell words other
    → ¬ CellLess old other
none_spelt words old word is none other has above = by other has (subst (λ c. CellLess c other) is above)
  where
    by : (c : Cell) → IsWordCell words c → CellLess (cell.Text word) c → ⊥
    by (cell.Text text) there less = none text there less
    by cell.Null there less = absurd there
    by (cell.Bool truth) there less = absurd there
    by (cell.Number units) there less = absurd there
    by (cell.Moment at) there less = absurd there

-- and none is first where there is none
pub none_first_spelt : (words : WordSet) → ((word : List ℕ) → IsWord words word → ¬ AnyWord word) → (other : Cell)
    → IsWordCell words other → ¬ Unit {0}
none_first_spelt words none other has admitted = by other has
  where
    by : (c : Cell) → IsWordCell words c → ⊥
    by (cell.Text text) there = none text there tt
    by cell.Null there = absurd there
    by (cell.Bool truth) there = absurd there
    by (cell.Number units) there = absurd there
    by (cell.Moment at) there = absurd there

-- on a grid nothing is kept
pub kept_on_grid : (result : Bool) (before after : Near) (v : Cell) → HasRoomNear on_grid before → after ≡ before
    → KeepsAt on_grid result before after v
kept_on_grid false before after v room same = same
kept_on_grid true before after v room same = subst (λ a. HasRoomNear on_grid a × IsAt on_grid a v) (sym same)
    (by before room)
  where
    by : (kept : Near) → HasRoomNear on_grid kept → HasRoomNear on_grid kept × IsAt on_grid kept v
    by near.OnGrid there = (tt, tt)
    by (near.Listed index) there = absurd there
    by (near.Spelt trail) there = absurd there

-- the answers of a list, as those of the values that it holds
module _ (values : Values) (cells slice : List Cell) (is : values ≡ Listed cells) (same : slice ≡ cells) (result : Bool)
    (old new : Cell) where
  pub first_of_list : IsLeastAnswer (Contains slice) Start result old new
      → IsLeastAnswer (HasValue values) Start result old new
  first_of_list answer =
      subst (λ v. IsLeastAnswer (HasValue v) Start result old new) (sym is)
      (subst (λ l. IsLeastAnswer (Contains l) Start result old new) same answer)

  pub next_of_list : IsNextAnswer (Contains slice) result old new → IsNextAnswer (HasValue values) result old new
  next_of_list answer =
      subst (λ v. IsNextAnswer (HasValue v) result old new) (sym is)
      (subst (λ l. IsNextAnswer (Contains l) result old new) same answer)
