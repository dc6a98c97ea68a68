-- Questions to regions that were asked before.
use Rattle.std.proofs.Common.{ℕ, Bool, true, false, List, [], ◌∷◌, ◌++◌}
use Rattle.helix_rows.proofs.Regions.{has_new, has_old, in_part_to, begins_to}
use Rattle.helix_rows.specs.Inner.Levels.{part_of, before_of, GoesOn, AreAliveTo, IsAlive, KeepRegions}
use Rattle.helix_rows.specs.Inner.Numbers.{Listed}
use Rattle.helix_rows.specs.Parts.{HasAt, IsInPart}
use Rattle.helix_rows.specs.Regions.{Begins, IsLeastStep}
use Rattle.helix_rows.specs.declared.layout.Layout.{Layout}
use Rattle.helix_rows.specs.declared.region.Question.{Question}
use Rattle.helix_values.specs.Class.{Class}
use Rattle.helix_values.specs.declared.cell.Cell.{Cell}

-- sets of rows by number that have the same rows
module _ (H G : ℕ → List Cell → Type 0) (layout : Layout) where
  pub alive_same : ((n : ℕ) (cells : List Cell) → G n cells → H n cells) → (row : List Cell) (alive : List Listed)
      (end : ℕ) → AreAliveTo H layout row alive end → AreAliveTo G layout row alive end
  alive_same from row alive end are field less = record {
    all = λ n listed begun. (are field less).all n listed (begins_to (G n) (H n) (from n) _ begun);
    only = (are field less).only;
  }

  pub begun_same : ((n : ℕ) (cells : List Cell) → H n cells → G n cells) → (numbers : List ℕ) (cells : List Cell)
      → Begins (IsInPart H numbers) cells → Begins (IsInPart G numbers) cells
  begun_same to numbers cells begun = begins_to _ _ (in_part_to H G to numbers) cells begun

pub answer_same : (P Q : Cell → Type 0) (question : Question) (yes : Bool) (old new : Cell) → ((c : Cell) → P c → Q c)
    → ((c : Cell) → Q c → P c) → IsLeastStep P question yes old new → IsLeastStep Q question yes old new
answer_same P Q question true old new to from answer = record {
  has = to new answer.has;
  admitted = answer.admitted;
  least = λ other has. answer.least other (from other has);
}
answer_same P Q question false old new to from answer = (answer.0, λ other has. answer.1 other (from other has))

-- a question to regions that were asked before
module _ {R : Type 0} {C : R → List Class} {A : R → ℕ} (F : R → List ℕ) (Has : R → List Cell → Type 0)
    (initial current : List R)
    (kept : KeepRegions F C A Has initial current) (layout : Layout) where
  pub alive_now : (row : List Cell) (alive : List Listed) (end : ℕ)
      → AreAliveTo (HasAt Has initial) layout row alive end → AreAliveTo (HasAt Has current) layout row alive end
  alive_now = alive_same (HasAt Has initial) (HasAt Has current) layout
      (λ n cells. has_old F Has initial current kept n cells)

  pub alive_then : (field : ℕ) (row : List Cell) (numbers : List ℕ) → IsAlive (HasAt Has current) layout row field
      numbers
      → IsAlive (HasAt Has initial) layout row field numbers
  alive_then field row numbers is = record {
    all = λ n listed begun. is.all n listed (begins_to _ _ (has_new F Has initial current kept n) _ begun);
    only = is.only;
  }

  pub begun_now : (numbers : List ℕ) (cells : List Cell) → Begins (IsInPart (HasAt Has initial) numbers) cells
      → Begins (IsInPart (HasAt Has current) numbers) cells
  begun_now = begun_same (HasAt Has initial) (HasAt Has current) layout
      (λ n cells. has_new F Has initial current kept n cells)

  pub begun_then : (numbers : List ℕ) (cells : List Cell) → Begins (IsInPart (HasAt Has current) numbers) cells
      → Begins (IsInPart (HasAt Has initial) numbers) cells
  begun_then = begun_same (HasAt Has current) (HasAt Has initial) layout
      (λ n cells. has_old F Has initial current kept n cells)

  pub answer_then : (field : ℕ) (row : List Cell) (question : Question) (yes : Bool) (old new : Cell)
      → IsLeastStep (GoesOn (HasAt Has current) layout field row) question yes old new
      → IsLeastStep (GoesOn (HasAt Has initial) layout field row) question yes old new
  answer_then field row question is old new =
      answer_same _ _ question is old new
      (λ c. begun_then (part_of layout field).regions (before_of layout field row ++ c ∷ []))
      (λ c. begun_now (part_of layout field).regions (before_of layout field row ++ c ∷ []))
