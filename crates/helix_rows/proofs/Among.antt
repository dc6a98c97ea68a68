-- The regions of a part that are asked.
use Rattle.std.proofs.Common.{ℕ, ◌<◌, ◌≤◌, List, length}
use Rattle.std.specs.List.{Contains}
use Rattle.helix_rows.proofs.Alive.{among_only}
use Rattle.helix_rows.proofs.Ready.{among_few}
use Rattle.helix_rows.specs.Inner.Among.{asked_at, AreKnown}
use Rattle.helix_rows.specs.Inner.Levels.{level_of, part_of, IsLayout, IsReady}
use Rattle.helix_rows.specs.Inner.Numbers.{Listed}
use Rattle.helix_rows.specs.declared.layout.Layout.{Layout}
use Rattle.helix_rows.specs.declared.state.Candidates.{Candidates}
use Rattle.helix_rows.specs.declared.state.Candidates.TheVariants.{Alive, All}
use Rattle.helix_values.specs.Class.{Class}
use Rattle.helix_values.specs.declared.cell.Cell.{Cell}

-- they are regions of the part
pub asked_only : (layout : Layout) (fields : ℕ) → IsLayout layout fields → (field : ℕ) → field < fields
    → (H : ℕ → List Cell → Type 0) (row : List Cell) (alive : List Listed) (which : Candidates)
    → AreKnown which H layout row alive field → (n : ℕ) → Contains (asked_at which layout alive field) n
    → Contains (part_of layout field).regions n
asked_only layout fields is field within H row alive Alive known n listed =
    among_only layout fields is field within H row alive known n listed
asked_only layout fields is field within H row alive All known n listed = listed

-- there is room for them
pub asked_few : {R : Type 0} {C : R → List Class} (F : R → List ℕ) (Has : R → List Cell → Type 0) (layout : Layout)
    (regions : List R) (alive : List Listed) (room fields : ℕ) → IsReady F C Has layout regions alive room fields
    → (field : ℕ) → IsLayout layout fields → field < fields → (which : Candidates)
    → length (asked_at which layout alive field) ≤ room
asked_few F Has layout regions alive room fields ready field is within Alive =
    among_few F Has layout regions alive room fields ready field is within
asked_few F Has layout regions alive room fields ready field is within All =
    ready.enough (level_of layout field).part _ (is.levels field within).part
