-- The regions of a part that are asked.
use Rattle.std.specs.Prelude.{ℕ, List}
use Rattle.helix_rows.specs.Inner.Levels.{part_of, among_at, AreAliveTo}
use Rattle.helix_rows.specs.Inner.Numbers.{Listed}
use Rattle.helix_rows.specs.declared.layout.Layout.{Layout}
use Rattle.helix_rows.specs.declared.state.Candidates.{Candidates}
use Rattle.helix_rows.specs.declared.state.Candidates.TheVariants.{Alive, All}
use Rattle.helix_values.specs.declared.cell.Cell.{Cell}

-- those that are alive at the level of a field, or all of the field's part
abbrev pub asked_at : Candidates → Layout → List Listed → ℕ → List ℕ
asked_at Alive layout alive field = among_at layout alive field
asked_at All layout alive field = (part_of layout field).regions

-- where those that are alive are asked, they are known
abbrev pub AreKnown : Candidates → (ℕ → List Cell → Type 0) → Layout → List Cell → List Listed → ℕ → Type 0
AreKnown Alive Has layout row alive field = AreAliveTo Has layout row alive field
AreKnown All Has layout row alive field = Unit {0}
