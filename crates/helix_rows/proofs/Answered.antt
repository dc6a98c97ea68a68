-- What the answer of a question changes.
use Rattle.std.proofs.Common.{◌≡◌, ℕ, ◌<◌, Bool, true, false, List, [], length, slice_index_or, slice_set, refl, sym, ◌∙◌, ap, subst}
use Rattle.std.proofs.lemmas.List.{get_or-set_same, set-get_or, length-set}
use Rattle.helix_rows.proofs.Levels.{agree_set}
use Rattle.helix_rows.specs.Inner.Answers.{Best, IsFound, IsFoundIf, IsMarkFor}
use Rattle.helix_rows.specs.Inner.Levels.{ChangedIf, OneIf, alive_at, Agree}
use Rattle.helix_rows.specs.Inner.Numbers.{Listed}
use Rattle.helix_rows.specs.Regions.{cell_at, IsAskedFor, IsLeastOf, IsLeastStep}
use Rattle.helix_rows.specs.declared.region.Question.{Question}
use Rattle.helix_values.specs.Marks.{IsAdmitted}
use Rattle.helix_values.specs.declared.cell.Cell.TheVariants as cell
use Rattle.helix_values.specs.declared.cell.Cell.{Cell}
use Rattle.helix_values.specs.declared.mark.Mark.{Mark}

-- what a mark admits is asked for
pub found_marked : (H : ℕ → List Cell → Type 0) (asked : List ℕ) (cells : List Cell) (question : Question) (own : Cell)
    (mark : Mark) → IsMarkFor question own mark → (yes : Bool) (best : Best)
    → IsFoundIf H asked cells (IsAdmitted mark) yes best → IsFoundIf H asked cells (IsAskedFor question own) yes best
found_marked H asked cells question own mark is true best found = record {
  least = record {
    has = found.least.has;
    admitted = (is best.cell).0 found.least.admitted;
    least = λ other goes admitted. found.least.least other goes ((is other).1 admitted);
  };
  all = found.all;
  only = found.only;
}
found_marked H asked cells question own mark is false best none = λ other goes admitted. none other goes
    ((is other).1 admitted)

-- a cell that stays leaves the row
pub changed_if : (yes : Bool) (old new : List Cell) (field : ℕ)
    → new ≡ slice_set old field (cell_at new field) → (yes ≡ false → cell_at new field ≡ cell_at old field)
    → new ≡ ChangedIf yes old field (cell_at new field)
changed_if true old new field is stays = is
changed_if false old new field is stays =
    is ∙ (ap (λ c. slice_set old field c) (stays refl) ∙ set-get_or old field cell.Null)

-- what is found moves into the lists of regions
pub found_listed : (H : ℕ → List Cell → Type 0) (asked : List ℕ) (cells : List Cell) (Admitted : Cell → Type 0)
    (numbers : List ℕ) (own : Cell) (alive : List Listed) (field : ℕ) (listed : Listed) → field < length alive
    → listed.items ≡ numbers → IsFound H asked cells Admitted (record { numbers = numbers; cell = own })
    → IsFound H asked cells Admitted (record { numbers = alive_at (slice_set alive field listed) field; cell = own })
found_listed H asked cells Admitted numbers own alive field listed within items found =
    subst (λ ns. IsFound H asked cells Admitted (record { numbers = ns; cell = own }))
    (sym (ap (λ l. l.items) (get_or-set_same alive field listed (record { items = []; room = 0 }) within) ∙ items))
    found

-- and into the row
pub found_set : (H : ℕ → List Cell → Type 0) (asked : List ℕ) (cells : List Cell) (Admitted : Cell → Type 0)
    (numbers : List ℕ) (own : Cell) (field : ℕ) (row new : List Cell) (got : Cell) → field < length row
    → new ≡ slice_set row field got → got ≡ own
    → IsFound H asked cells Admitted (record { numbers = numbers; cell = own })
    → IsFound H asked cells Admitted (record { numbers = numbers; cell = cell_at new field })
found_set H asked cells Admitted numbers own field row new got inside are is found =
    subst (λ c. IsFound H asked cells Admitted (record { numbers = numbers; cell = c }))
    (sym (ap (λ r. cell_at r field) are ∙ (get_or-set_same row field got cell.Null inside ∙ is))) found

-- a step that finds none leaves the cell
pub step_stays : (Has : Cell → Type 0) (question : Question) (yes : Bool) (old new : Cell)
    → IsLeastStep Has question yes old new → yes ≡ false → new ≡ old
step_stays Has question true old new answer is = cc is
step_stays Has question false old new answer is = answer.0

pub step_has : (Has : Cell → Type 0) (question : Question) (yes : Bool) (old new : Cell)
    → IsLeastStep Has question yes old new → yes ≡ true → IsLeastOf Has (IsAskedFor question old) new
step_has Has question true old new answer is = answer
step_has Has question false old new answer is = cc is

pub found_has : (H : ℕ → List Cell → Type 0) (asked : List ℕ) (cells : List Cell) (Admitted : Cell → Type 0)
    (yes : Bool)
    (best : Best) → IsFoundIf H asked cells Admitted yes best → yes ≡ true → IsFound H asked cells Admitted best
found_has H asked cells Admitted true best found is = found
found_has H asked cells Admitted false best found is = cc is

pub one_changed : (yes : Bool) (alive new : List Listed) (field number : ℕ) → field < length alive
    → new ≡ OneIf yes alive field number
    → new ≡ ChangedIf yes alive field (slice_index_or new field (record { items = []; room = 0 }))
one_changed true alive new field number within is =
    is ∙ ap (λ l. slice_set alive field l)
    (sym (ap (λ ls. slice_index_or ls field (record { items = []; room = 0 })) is ∙ get_or-set_same alive field _ _
    within))
one_changed false alive new field number within is = is

pub agree_changed : (yes : Bool) (row new : List Cell) (field : ℕ) (c : Cell) → new ≡ ChangedIf yes row field c
    → Agree field new row
agree_changed true row new field c is = subst (λ r. Agree field r row) (sym is) (agree_set row field c)
agree_changed false row new field c is = λ other less. ap (λ r. cell_at r other) is

pub long_changed : (yes : Bool) (row new : List Cell) (field : ℕ) (c : Cell) → new ≡ ChangedIf yes row field c
    → length new ≡ length row
long_changed true row new field c is = ap length is ∙ length-set row field c
long_changed false row new field c is = ap length is

pub changed_none : {X : Type 0} (yes : Bool) (old new : List X) (index : ℕ) (item : X)
    → new ≡ ChangedIf yes old index item → yes ≡ false → new ≡ old
changed_none true old new index item is not = cc not
changed_none false old new index item is not = is
