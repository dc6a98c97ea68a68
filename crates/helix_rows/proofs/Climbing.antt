-- Questions at one field after another.
use Rattle.std.proofs.Common.{◌≡◌, ◌⊎◌, inl, inr, ℕ, ◌+◌, ◌<◌, ◌≤◌, Bool, true, false, List, [], ◌∷◌, ◌++◌, take, drop, length, sym, ◌∙◌, ap, subst, arith}
use Rattle.std.proofs.lemmas.List.{take-append-drop, map-append, get_or-set_other}
use Rattle.std.specs.List.{Contains}
use Rattle.helix_rows.proofs.Levels.{begins_fewer, up_to_is, before_same, up_to_same}
use Rattle.helix_rows.proofs.Regions.{same_or_not}
use Rattle.helix_rows.proofs.Rising.{last_down}
use Rattle.helix_rows.specs.Inner.Answers.{IsLeastAt, IsLastFrom, IsRaised}
use Rattle.helix_rows.specs.Inner.Levels.{level_of, part_of, before_of, up_to, GoesOn, alive_at, AreAliveTo, AreBegunTo, IsAlive, IsLayout, IsLevel, Agree, ChangedIf}
use Rattle.helix_rows.specs.Inner.Numbers.{Listed}
use Rattle.helix_rows.specs.Parts.{IsInPart, IsInParts}
use Rattle.helix_rows.specs.Regions.{cell_at, piece, Begins, IsAskedFor, IsLeastOf, IsLeastStep}
use Rattle.helix_rows.specs.declared.layout.Layout.{Layout}
use Rattle.helix_rows.specs.declared.region.Question.TheVariants.{Start, After}
use Rattle.helix_values.specs.Order.{CellLess}
use Rattle.helix_values.specs.declared.cell.Cell.{Cell}

-- fewer fields
pub alive_less : (H : ℕ → List Cell → Type 0) (layout : Layout) (row : List Cell) (alive : List Listed) (end field : ℕ)
    → field ≤ end → AreAliveTo H layout row alive end → AreAliveTo H layout row alive field
alive_less H layout row alive end field within are other less = are other (omega (arith, within, less))

-- a field whose cells begin rows has its earlier cells begin them
pub before_begun : (H : ℕ → List Cell → Type 0) (layout : Layout) (fields : ℕ) → IsLayout layout fields → (field : ℕ)
    → field < fields → (row : List Cell) → Begins (IsInPart H (part_of layout field).regions) (up_to layout field row)
    → Begins (IsInPart H (part_of layout field).regions) (before_of layout field row)
before_begun H layout fields is field within row begun =
    begins_fewer (IsInPart H (part_of layout field).regions) (before_of layout field row) (cell_at row field)
    (subst (λ cells. Begins (IsInPart H (part_of layout field).regions) cells)
    (up_to_is layout fields is field within row) begun)

-- the cells of a row of the parts
pub member_goes : (H : ℕ → List Cell → Type 0) (layout : Layout) (fields : ℕ) → IsLayout layout fields → (field : ℕ)
    → field < fields → (row other : List Cell) → IsInParts H fields layout.parts other → Agree field other row
    → GoesOn H layout field row (cell_at other field)
member_goes H layout fields is field within row other member agree =
    let level : IsLevel layout.parts field (level_of layout field) = is.levels field within in
    let in_part : IsInPart H (part_of layout field).regions (piece (part_of layout field).fields other) =
    member.each (level_of layout field).part (record { fields = []; regions = [] }) level.part in
    let count : ℕ = (level_of layout field).position + 1 in
    let cut : piece (part_of layout field).fields other
    ≡ up_to layout field other ++ piece (drop count (part_of layout field).fields) other =
    ap (λ fs. piece fs other) (sym (take-append-drop count (part_of layout field).fields))
    ∙ map-append (λ f. cell_at other f) (take count (part_of layout field).fields)
    (drop count (part_of layout field).fields) in
    record {
      rest = piece (drop ((level_of layout field).position + 1) (part_of layout field).fields) other;
      has = subst (λ cells. IsInPart H (part_of layout field).regions
          (cells ++ piece (drop ((level_of layout field).position + 1) (part_of layout field).fields) other))
          (up_to_is layout fields is field within other
          ∙ ap (λ cells. cells ++ cell_at other field ∷ []) (before_same layout fields is field within other row agree))
          (subst (IsInPart H (part_of layout field).regions) cut in_part);
    }

-- the levels before a field stay where it is set
module _ (H : ℕ → List Cell → Type 0) (layout : Layout) (fields : ℕ) (is : IsLayout layout fields) (field : ℕ)
    (within : field < fields) (row new : List Cell) (agree : Agree field new row) where
  pub alive_more : (alive more : List Listed) → AreAliveTo H layout row alive field
      → ((other : ℕ) → other < field → alive_at more other ≡ alive_at alive other)
      → IsAlive H layout new field (alive_at more field) → AreAliveTo H layout new more (field + 1)
  alive_more alive more are others here other less = by (same_or_not other field)
    where
      by : (other ≡ field) ⊎ ¬ (other ≡ field) → IsAlive H layout new other (alive_at more other)
      by (inl e) = subst (λ f. IsAlive H layout new f (alive_at more f)) (sym e) here
      by (inr differs) =
          let before : other < field = omega (arith, less, differs) in
          let same : up_to layout other new ≡ up_to layout other row =
          up_to_same layout fields is other (omega (arith, before, within)) new row
          (λ f inside. agree f (omega (arith, inside, before))) in
          record {
            all = λ n listed begun. subst (λ ns. Contains ns n) (sym (others other before))
                ((are other before).all n listed (subst (λ cells. Begins (H n) cells) same begun));
            only = λ n listed. (are other before).only n (subst (λ ns. Contains ns n) (others other before) listed);
          }

  pub begun_more : AreBegunTo H layout row field → GoesOn H layout field row (cell_at new field)
      → AreBegunTo H layout new (field + 1)
  begun_more begun goes other less = by (same_or_not other field)
    where
      by : (other ≡ field) ⊎ ¬ (other ≡ field)
          → Begins (IsInPart H (part_of layout other).regions) (up_to layout other new)
      by (inl e) = subst (λ f. Begins (IsInPart H (part_of layout f).regions) (up_to layout f new)) (sym e)
          (subst (λ cells. Begins (IsInPart H (part_of layout field).regions) cells)
          (sym (up_to_is layout fields is field within new
          ∙ ap (λ cells. cells ++ cell_at new field ∷ []) (before_same layout fields is field within new row agree)))
          goes)
      by (inr differs) =
          let before : other < field = omega (arith, less, differs) in
          subst (λ cells. Begins (IsInPart H (part_of layout other).regions) cells)
          (sym (up_to_same layout fields is other (omega (arith, before, within)) new row
          (λ f inside. agree f (omega (arith, inside, before))))) (begun other before)

-- a changed list of regions keeps those of other fields
pub others_same : (yes : Bool) (alive new : List Listed) (field : ℕ) (listed : Listed)
    → new ≡ ChangedIf yes alive field listed → (other : ℕ) → other < field → alive_at new other ≡ alive_at alive other
others_same true alive new field listed is other less =
    ap (λ ls. alive_at ls other) is
    ∙ ap (λ l. l.items) (get_or-set_other alive field other listed _ (λ e. omega (arith, less, e)))
others_same false alive new field listed is other less = ap (λ ls. alive_at ls other) is

module _ (H : ℕ → List Cell → Type 0) (layout : Layout) (fields : ℕ) (is : IsLayout layout fields) (field : ℕ)
    (within : field < fields) (row : List Cell) (long : length row ≡ fields) where
  long_member : (other : List Cell) → IsInParts H fields layout.parts other → length other ≡ fields
  long_member other member = member.count

  -- no cell above its own
  pub down_none : (new : Cell) → IsLeastStep (GoesOn H layout field row) After false (cell_at row field) new
      → IsLastFrom (IsInParts H fields layout.parts) row (field + 1)
      → IsLastFrom (IsInParts H fields layout.parts) row field
  unfolding long_member
  down_none new answer last =
      last_down (IsInParts H fields layout.parts) fields long_member row field long last
      (λ other member agree. answer.1 (cell_at other field)
      (member_goes H layout fields is field within row other member agree))

  -- the least one above its own
  pub is_raised : (new : List Cell) → length new ≡ fields → Agree field new row
      → IsLeastOf (GoesOn H layout field row) (IsAskedFor After (cell_at row field)) (cell_at new field)
      → IsLastFrom (IsInParts H fields layout.parts) row (field + 1)
      → IsRaised (IsInParts H fields layout.parts) row new field
  is_raised new long_new agree answer last = record {
    change = record {
      within = omega (arith, within, long_new);
      same = λ f less. sym (agree f less);
      above = answer.admitted;
    };
    last = last;
    least = λ other member same above. answer.least (cell_at other field)
        (member_goes H layout fields is field within row other member same) above;
  }

  -- the least one of all
  pub least_at : (new : List Cell) → Agree field new row
      → IsLeastOf (GoesOn H layout field row) (IsAskedFor Start (cell_at row field)) (cell_at new field)
      → IsLeastAt (IsInParts H fields layout.parts) new field
  least_at new agree answer other member same =
      answer.least (cell_at other field)
      (member_goes H layout fields is field within row other member (λ f less. same f less ∙ agree f less)) tt

  -- what was least before the field is so after it
  pub least_before : (new : List Cell) → Agree field new row → (f : ℕ) → f < field
      → IsLeastAt (IsInParts H fields layout.parts) row f → IsLeastAt (IsInParts H fields layout.parts) new f
  least_before new agree f less least other member same below =
      least other member (λ i inside. same i inside ∙ agree i (omega (arith, inside, less)))
      (subst (λ c. CellLess (cell_at other f) c) (agree f less) below)
