-- One more field that is looked at for the last one that can be raised.
use Rattle.std.proofs.Common.{◌≡◌, ◌⊎◌, inl, inr, ℕ, ◌+◌, ◌<◌, ◌≤◌, Bool, true, false, List, [], ◌∷◌, ◌++◌, Option, None, Some, length, slice_set, refl, sym, ◌∙◌, ap, subst, arith}
use Rattle.std.proofs.lemmas.List.{get_or-set_other, get_or-set_same, length-set}
use Rattle.helix_rows.proofs.Climbing.{down_none, is_raised}
use Rattle.helix_rows.proofs.Following.{stuck_last, followed_raised}
use Rattle.helix_rows.proofs.Levels.{agree_set, before_same, up_to_is}
use Rattle.helix_rows.proofs.Regions.{begins_to, in_part_to, in_parts_to, same_or_not}
use Rattle.helix_rows.specs.Inner.Answers.{HasNone, IsFound, IsLastFrom, IsRaised}
use Rattle.helix_rows.specs.Inner.Following.{IsRaisable, IsRaisableAt}
use Rattle.helix_rows.specs.Inner.Levels.{part_of, before_of, up_to, alive_at, Agree, ChangedIf, GoesOn, IsAlive, IsLayout}
use Rattle.helix_rows.specs.Inner.Numbers.{Listed}
use Rattle.helix_rows.specs.Parts.{IsInPart, IsInParts}
use Rattle.helix_rows.specs.Regions.{cell_at, Begins, IsAskedFor, IsLeastOf}
use Rattle.helix_rows.specs.declared.layout.Layout.{Layout}
use Rattle.helix_rows.specs.declared.region.Question.TheVariants.{At, After}
use Rattle.helix_values.specs.Slot.{FitsSlot}
use Rattle.helix_values.specs.declared.cell.Cell.{Cell}
use Rattle.helix_values.specs.declared.cell.Cell.TheVariants as cell

module _ (H : ℕ → List Cell → Type 0) (layout : Layout) (row : List Cell) (is : IsLayout layout (length row))
    (field : ℕ) (within : field < length row) where
  -- what all regions of the field's part found, in a row with that cell
  module _ (Admitted : Cell → Type 0) (numbers : List ℕ) (c : Cell)
      (found : IsFound H (part_of layout field).regions (before_of layout field row) Admitted
      (record { numbers = numbers; cell = c })) (new : List Cell) (agree : Agree field new row)
      (own : cell_at new field ≡ c) where
    up_to_here : up_to layout field new ≡ before_of layout field row ++ c ∷ []
    up_to_here =
        up_to_is layout (length row) is field within new
        ∙ (ap (λ cells. cells ++ cell_at new field ∷ []) (before_same layout (length row) is field within new row agree)
        ∙ ap (λ d. before_of layout field row ++ d ∷ []) own)

    begun_here : Begins (IsInPart H (part_of layout field).regions) (up_to layout field new)
    unfolding up_to_here
    begun_here = subst (Begins (IsInPart H (part_of layout field).regions)) (sym up_to_here) found.least.has

    alive_here : IsAlive H layout new field numbers
    unfolding up_to_here
    alive_here = record {
      all = λ n listed begun. found.all n listed (subst (Begins (H n)) up_to_here begun);
      only = found.only;
    }

  set_own : (c : Cell) → cell_at (slice_set row field c) field ≡ c
  set_own c = get_or-set_same row field c cell.Null within

  only_field : (P : ℕ → Type 0) → P field → (other : ℕ) → field ≤ other → other < field + 1 → P other
  only_field P holds other from less = subst P (omega (arith, from, less)) holds

  raised_by : (Admitted : Cell → Type 0) (c : Cell) (alive : List Listed)
      → IsFound H (part_of layout field).regions (before_of layout field row) Admitted
      (record { numbers = alive_at alive field; cell = c }) → FitsSlot c
      → IsRaised (IsInParts H (length row) layout.parts) row (slice_set row field c) field
      → IsRaisableAt H layout row alive c field field
  unfolding begun_here alive_here set_own only_field
  raised_by Admitted c alive found fits raised = record {
    within = within;
    from = omega arith;
    fits = fits;
    goes = found.least.has;
    raised = raised;
    is_alive = only_field (λ other. IsAlive H layout (slice_set row field c) other (alive_at alive other))
        (alive_here Admitted (alive_at alive field) c found (slice_set row field c) (agree_set row field c)
        (set_own c));
    begun = only_field
        (λ other. Begins (IsInPart H (part_of layout other).regions) (up_to layout other (slice_set row field c)))
        (begun_here Admitted (alive_at alive field) c found (slice_set row field c) (agree_set row field c)
        (set_own c));
  }

  -- the first field that can be raised
  pub raised_first : IsLastFrom (IsInParts H (length row) layout.parts) row (field + 1) → (c : Cell)
      (alive : List Listed)
      → IsFound H (part_of layout field).regions (before_of layout field row) (IsAskedFor After (cell_at row field))
      (record { numbers = alive_at alive field; cell = c }) → FitsSlot c
      → IsRaisableAt H layout row alive c field field
  unfolding raised_by set_own
  raised_first last c alive found fits =
      raised_by (IsAskedFor After (cell_at row field)) c alive found fits
      (is_raised H layout (length row) is field within row refl (slice_set row field c) (length-set row field c)
      (agree_set row field c)
      (subst (IsLeastOf (GoesOn H layout field row) (IsAskedFor After (cell_at row field))) (sym (set_own c))
      found.least)
      last)

  pub not_raised : IsLastFrom (IsInParts H (length row) layout.parts) row (field + 1)
      → HasNone (GoesOn H layout field row) (IsAskedFor After (cell_at row field))
      → IsLastFrom (IsInParts H (length row) layout.parts) row field
  not_raised last none =
      down_none H layout (length row) is field within row refl (cell_at row field) (refl, none) last

  -- the row's own cell doesn't go on, and none above it does
  pub stuck : HasNone (GoesOn H layout field row) (IsAskedFor At (cell_at row field))
      → IsLastFrom (IsInParts H (length row) layout.parts) row field
  stuck none = stuck_last H layout (length row) is field within row refl (cell_at row field) (refl, none)

  -- or one above it does
  pub raised_instead : (c : Cell) (alive : List Listed)
      → IsFound H (part_of layout field).regions (before_of layout field row) (IsAskedFor At (cell_at row field))
      (record { numbers = alive_at alive field; cell = c }) → FitsSlot c → ¬ (c ≡ cell_at row field)
      → IsRaisableAt H layout row alive c field field
  unfolding raised_by set_own
  raised_instead c alive found fits differs =
      raised_by (IsAskedFor At (cell_at row field)) c alive found fits
      (followed_raised H layout (length row) is field within row refl (slice_set row field c) (length-set row field c)
      (agree_set row field c)
      (subst (IsLeastOf (GoesOn H layout field row) (IsAskedFor At (cell_at row field))) (sym (set_own c)) found.least)
      (λ same. differs (sym (set_own c) ∙ same)))

  -- or its own does
  pub raised_still : (c best : Cell) (old new : List Listed) (above : ℕ)
      → IsRaisableAt H layout row old best (field + 1) above
      → IsFound H (part_of layout field).regions (before_of layout field row) (IsAskedFor At (cell_at row field))
      (record { numbers = alive_at new field; cell = c }) → c ≡ cell_at row field
      → ((other : ℕ) → ¬ (other ≡ field) → alive_at new other ≡ alive_at old other)
      → IsRaisableAt H layout row new best field above
  unfolding begun_here alive_here
  raised_still c best old new above still found same others = record {
    within = still.within;
    from = omega (arith, still.from);
    fits = still.fits;
    goes = still.goes;
    raised = still.raised;
    is_alive = λ other from less. alive_by other from less (same_or_not other field);
    begun = λ other from less. begun_by other from less (same_or_not other field);
  }
    where
      agree : Agree field (slice_set row above best) row
      agree other less = agree_set row above best other (omega (arith, less, still.from))

      own : cell_at (slice_set row above best) field ≡ c
      own = agree_set row above best field (omega (arith, still.from)) ∙ sym same

      alive_by : (other : ℕ) → field ≤ other → other < above + 1 → (other ≡ field) ⊎ ¬ (other ≡ field)
          → IsAlive H layout (slice_set row above best) other (alive_at new other)
      alive_by other from less (inl e) =
          subst (λ f. IsAlive H layout (slice_set row above best) f (alive_at new f)) (sym e)
          (alive_here (IsAskedFor At (cell_at row field)) (alive_at new field) c found (slice_set row above best)
          agree own)
      alive_by other from less (inr differs) =
          subst (IsAlive H layout (slice_set row above best) other) (sym (others other differs))
          (still.is_alive other (omega (arith, from, differs)) less)

      begun_by : (other : ℕ) → field ≤ other → other < above + 1 → (other ≡ field) ⊎ ¬ (other ≡ field)
          → Begins (IsInPart H (part_of layout other).regions) (up_to layout other (slice_set row above best))
      begun_by other from less (inl e) =
          subst (λ f. Begins (IsInPart H (part_of layout f).regions) (up_to layout f (slice_set row above best)))
          (sym e)
          (begun_here (IsAskedFor At (cell_at row field)) (alive_at new field) c found (slice_set row above best)
          agree own)
      begun_by other from less (inr differs) = still.begun other (omega (arith, from, differs)) less

-- sets of rows by number that have the same rows
pub raisable_same : (H G : ℕ → List Cell → Type 0) → ((n : ℕ) (cells : List Cell) → H n cells → G n cells)
    → ((n : ℕ) (cells : List Cell) → G n cells → H n cells) → (layout : Layout) (row : List Cell)
    (alive : List Listed) (best : Cell) (start : ℕ) (raised : Option ℕ)
    → IsRaisable H layout row alive best start raised → IsRaisable G layout row alive best start raised
raisable_same H G to back layout row alive best start None last = λ other member agree above.
    last other (in_parts_to G H back (length row) layout.parts other member) agree above
raisable_same H G to back layout row alive best start (Some field) is = record {
  within = is.within;
  from = is.from;
  fits = is.fits;
  goes = begins_to _ _ (in_part_to H G to (part_of layout field).regions) _ is.goes;
  raised = record {
    change = is.raised.change;
    last = λ other member agree above. is.raised.last other
        (in_parts_to G H back (length row) layout.parts other member) agree above;
    least = λ other member agree above. is.raised.least other
        (in_parts_to G H back (length row) layout.parts other member) agree above;
  };
  is_alive = λ other from less. record {
    all = λ n listed begun. (is.is_alive other from less).all n listed (begins_to (G n) (H n) (back n) _ begun);
    only = (is.is_alive other from less).only;
  };
  begun = λ other from less. begins_to _ _ (in_part_to H G to (part_of layout other).regions) _
      (is.begun other from less);
}

-- the lists of other fields stay
pub others_alive : (result : Bool) (alive new : List Listed) (field : ℕ) (listed : Listed)
    → new ≡ ChangedIf result alive field listed → (other : ℕ) → ¬ (other ≡ field)
    → alive_at new other ≡ alive_at alive other
others_alive true alive new field listed is other differs =
    ap (λ ls. alive_at ls other) is ∙ ap (λ l. l.items) (get_or-set_other alive field other listed _ differs)
others_alive false alive new field listed is other differs = ap (λ ls. alive_at ls other) is

pub not_both : (b : Bool) → b ≡ false → b ≡ true → ⊥
not_both true not is = cc not
not_both false not is = cc is
