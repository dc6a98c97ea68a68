-- The least numbers and moments that a mark admits.
use Rattle.std.proofs.Common.{◌≡◌, ◌≢◌, ◌↔◌, ℕ, ◌+◌, ◌<◌, ◌≤◌, List, [], ◌∷◌, ◌++◌, length, get_or, take, inl, inr, ⊎_elim, ℤ, pos, ◌+ℤ◌, ◌≤ℤ◌, ◌<ℤ◌, Option, None, Some, refl, sym, ap, ◌∙◌, subst, arith, Ordering}
use Rattle.std.specs.declared.cmp.Ordering.TheVariants.{Less, Equal, Greater}
use Rattle.std.specs.Ordering.{int_cmp}
use Rattle.std.specs.Cmp.{int_cmp_is}
use Rattle.std.proofs.lemmas.Cmp.{int_ranked}
use Rattle.std.proofs.lemmas.Int.{ints}
use Rattle.std.specs.List.{Contains}
use Rattle.std.specs.Option.{IfNone}
use Rattle.std.proofs.lemmas.List.{take_all}
use Rattle.std.proofs.lemmas.List.Elements.{Contains-append_left, Contains-push, Contains-push_cases}
use Rattle.helix_domains.proofs.Walks.{contains_more}
use Rattle.helix_grids.specs.Tests.{IsLeastOf, IsMember}
use Rattle.helix_grids.specs.declared.test.GridTest.{GridTest}
use Rattle.helix_ladders.specs.Scale.{IsLeast}
use Rattle.helix_values.specs.Counts.{IsMarkBound, IsMarkOf}
use Rattle.helix_values.specs.Marks.{IsAdmitted}
use Rattle.helix_values.specs.Order.{CellLess}
use Rattle.helix_values.specs.Universe.{IsDecimal}
use Rattle.helix_values.specs.View.{cell_of}
use Rattle.helix_values.specs.declared.cell.Cell.{Cell}
use Rattle.helix_values.specs.declared.cell.Cell.TheVariants as cell
use Rattle.helix_values.specs.declared.cell.CellRef.{CellRef}
use Rattle.helix_values.specs.declared.mark.Mark.{Mark}
use Rattle.helix_values.specs.declared.mark.Mark.TheVariants.{Start, At, After}
use Rattle.helix_words.specs.Questions.{IsLeastAdmitted}
use Rattle.helix_domains.specs.declared.line.Line.{Line}
use Rattle.helix_domains.specs.declared.line.Line.TheVariants.{Numbers, Moments}
use Rattle.helix_domains.specs.Inner.Line.{cell_on, class_on, ladder_on, IsOnLine, IsFirstAdmitted, AreNotAdmitted}

int_less : (u v : ℤ) → int_cmp u v ≡ Less → u <ℤ v
int_less u v less = let ranks = int_ranked u v Less (sym less) in ranks

less_int : (u v : ℤ) → u <ℤ v → int_cmp u v ≡ Less
less_int u v less = sym (int_cmp_is u v Less less)

-- the order of cells on a line is that of their numbers
pub less_on : (line : Line) (u v : ℤ) → CellLess (cell_on line u) (cell_on line v) → u <ℤ v
less_on Numbers u v less = int_less u v less
less_on Moments u v less = int_less u v less

pub on_less : (line : Line) (u v : ℤ) → u <ℤ v → CellLess (cell_on line u) (cell_on line v)
on_less Numbers u v less = less_int u v less
on_less Moments u v less = less_int u v less

-- the bound of a mark that isn't on the line is null, which is above all cells
null_only : (line : Line) (c : Cell) → IsMarkBound (class_on line) c → ((units : ℤ) → c ≢ cell_on line units) → c
    ≡ cell.Null
null_only line cell.Null bound off = refl
null_only Numbers (cell.Number units) bound off = absurd (off units refl)
null_only Moments (cell.Moment at) bound off = absurd (off at refl)
null_only Numbers (cell.Bool truth) bound off = cc
null_only Numbers (cell.Moment at) bound off = cc
null_only Numbers (cell.Text codes) bound off = let e = bound.0 in cc
null_only Moments (cell.Bool truth) bound off = cc
null_only Moments (cell.Number units) bound off = cc
null_only Moments (cell.Text codes) bound off = let e = bound.0 in cc

null_above : (line : Line) (u : ℤ) → CellLess (cell_on line u) cell.Null
null_above Numbers u = refl
null_above Moments u = refl

not_above_null : (line : Line) (u : ℤ) → CellLess cell.Null (cell_on line u) → ⊥
not_above_null Numbers u less = cc
not_above_null Moments u less = cc

not_below : (a b : ℤ) → ¬ (b <ℤ a) → a ≤ℤ b
not_below a b not = by (int_cmp b a) refl
  where
    by : (o : Ordering) → int_cmp b a ≡ o → a ≤ℤ b
    by Less e = absurd (not (int_less b a e))
    by Equal e = let ranks : b ≡ a = int_ranked b a Equal (sym e) in omega (arith, ints)
    by Greater e = let ranks : a <ℤ b = int_ranked b a Greater (sym e) in omega (arith, ints)

pub start_admits : (line : Line) (first : ℤ) → ((units : ℤ) → IsDecimal units → first ≤ℤ units)
    → IsFirstAdmitted line Start first
start_admits line first low units small = ((λ admitted. low units small), (λ reached. tt))

pub at_admits : (line : Line) (bound : CellRef) (first : ℤ) → cell_of bound ≡ cell_on line first
    → IsFirstAdmitted line (At bound) first
at_admits line bound first is units small = (
  (λ admitted. not_below first units (λ less. admitted (subst (λ c. CellLess (cell_on line units) c) (sym is)
      (on_less line units first less)))),
  (λ reached less. below_not first units reached (less_on line units first
      (subst (λ c. CellLess (cell_on line units) c) is less))),
)
  where
    below_not : (a b : ℤ) → a ≤ℤ b → b <ℤ a → ⊥
    below_not a b low less = omega (arith, ints)

pub at_admits_none : (line : Line) (bound : CellRef) → IsMarkBound (class_on line) (cell_of bound)
    → ((units : ℤ) → cell_of bound ≢ cell_on line units) → AreNotAdmitted line (At bound)
at_admits_none line bound fits off units small admitted =
    admitted (subst (λ c. CellLess (cell_on line units) c) (sym (null_only line (cell_of bound) fits off))
    (null_above line units))

pub after_admits : (line : Line) (bound : CellRef) (u first : ℤ) → cell_of bound ≡ cell_on line u → first ≡ u +ℤ pos 1
    → IsFirstAdmitted line (After bound) first
after_admits line bound u first is next units small = (
  (λ admitted. up u units first next (less_on line u units (subst (λ c. CellLess c (cell_on line units)) is admitted))),
  (λ reached. subst (λ c. CellLess c (cell_on line units)) (sym is)
      (on_less line u units (down u units first next reached))),
)
  where
    up : (a b c : ℤ) → c ≡ a +ℤ pos 1 → a <ℤ b → c ≤ℤ b
    up a b c e less = omega (arith, ints)

    down : (a b c : ℤ) → c ≡ a +ℤ pos 1 → c ≤ℤ b → a <ℤ b
    down a b c e low = omega (arith, ints)

pub after_admits_none : (line : Line) (bound : CellRef) → IsMarkBound (class_on line) (cell_of bound)
    → ((units : ℤ) → cell_of bound ≢ cell_on line units) → AreNotAdmitted line (After bound)
after_admits_none line bound fits off units small admitted =
    not_above_null line units (subst (λ c. CellLess c (cell_on line units)) (null_only line (cell_of bound) fits off)
    admitted)

pub after_last_admits_none : (line : Line) (bound : CellRef) (u : ℤ) → cell_of bound ≡ cell_on line u
    → ((units : ℤ) → IsDecimal units → ¬ (u <ℤ units)) → AreNotAdmitted line (After bound)
after_last_admits_none line bound u is high units small admitted =
    high units small (less_on line u units (subst (λ c. CellLess c (cell_on line units)) is admitted))

-- between a cell on the line and its number
pub from_line : (line : Line) (Has : ℤ → Type 0) (v : Cell) → IsOnLine line Has v
    → (units : ℤ) × (v ≡ cell_on line units) × Has units
from_line Numbers Has (cell.Number units) has = (units, refl, has)
from_line Moments Has (cell.Moment at) has = (at, refl, has)
from_line Numbers Has cell.Null has = absurd has
from_line Numbers Has (cell.Bool truth) has = absurd has
from_line Numbers Has (cell.Moment at) has = absurd has
from_line Numbers Has (cell.Text codes) has = absurd has
from_line Moments Has cell.Null has = absurd has
from_line Moments Has (cell.Bool truth) has = absurd has
from_line Moments Has (cell.Number units) has = absurd has
from_line Moments Has (cell.Text codes) has = absurd has

pub to_line : (line : Line) (Has : ℤ → Type 0) (units : ℤ) → Has units → IsOnLine line Has (cell_on line units)
to_line Numbers Has units has = has
to_line Moments Has units has = has

pub line_to : (line : Line) (Has : ℤ → Type 0) (units : ℤ) → IsOnLine line Has (cell_on line units) → Has units
line_to Numbers Has units has = has
line_to Moments Has units has = has

module _ (line : Line) (Has : ℤ → Type 0) (small : (units : ℤ) → Has units → IsDecimal units) (mark : Mark) where
  -- the least number from the first admitted one on is the least cell
  pub least_on : (first v : ℤ) → IsFirstAdmitted line mark first → IsLeast (λ units. Has units × (first ≤ℤ units)) v
      → IsLeastAdmitted (IsOnLine line Has) mark (cell_on line v)
  least_on first v admits least = record {
    has = to_line line Has v least.has.0;
    admitted = (admits v (small v least.has.0)).1 least.has.1;
    least = λ other has admitted less.
        let on = from_line line Has other has in
        let reached : first ≤ℤ on.0 = (admits on.0 (small on.0 on.2)).0 (subst (IsAdmitted mark) on.1 admitted) in
        below_not v on.0 (least.least on.0 (on.2, reached)) (less_on line on.0 v
        (subst (λ c. CellLess c (cell_on line v)) on.1 less));
  }
    where
      below_not : (a b : ℤ) → a ≤ℤ b → b <ℤ a → ⊥
      below_not a b low less = omega (arith, ints)

  pub none_on : AreNotAdmitted line mark → (other : Cell) → IsOnLine line Has other → ¬ IsAdmitted mark other
  none_on none other has admitted =
      let on = from_line line Has other has in
      none on.0 (small on.0 on.2) (subst (IsAdmitted mark) on.1 admitted)

  pub none_from : (first : ℤ) → IsFirstAdmitted line mark first → ((units : ℤ) → ¬ (Has units × (first ≤ℤ units)))
      → (other : Cell) → IsOnLine line Has other → ¬ IsAdmitted mark other
  none_from first admits none other has admitted =
      let on = from_line line Has other has in
      none on.0 (on.2, (admits on.0 (small on.0 on.2)).0 (subst (IsAdmitted mark) on.1 admitted))

-- members of a ladder are in the range of decimals
pub small_member : (line : Line) (level : ℕ) (tests : List GridTest) (units : ℤ)
    → IsMember (ladder_on line) level tests units → IsDecimal units
small_member Numbers level tests units member = (member.from_low, member.to_high)
small_member Moments level tests units member =
    (omega (arith, ints, member.from_low), omega (arith, ints, member.to_high))

-- a number is a member where it is the least one from itself on
pub is_member_from : (Has : ℤ → Type 0) (units : ℤ) (answer : Option ℤ)
    → IsLeastOf (λ u. Has u × (units ≤ℤ u)) answer → (answer ≡ Some units) ↔ Has units
is_member_from Has units None none = (
  (λ e. cc),
  (λ has. absurd (none units (has, itself units))),
)
  where
    itself : (u : ℤ) → u ≤ℤ u
    itself u = omega (arith, ints)
is_member_from Has units (Some v) least = (
  (λ e. let same : v ≡ units = cc in subst Has same least.has.0),
  (λ has. ap Some (both v units (least.least units (has, itself units)) least.has.1)),
)
  where
    itself : (u : ℤ) → u ≤ℤ u
    itself u = omega (arith, ints)

    both : (a b : ℤ) → a ≤ℤ b → b ≤ℤ a → a ≡ b
    both a b low high = omega (arith, ints)

-- marks whose bound isn't on the line
pub at_none : (line : Line) (mark : Mark) (bound : CellRef) (result : Option ℤ) → mark ≡ At bound
    → IsMarkOf (class_on line) mark → IfNone result ((units : ℤ) → cell_of bound ≢ cell_on line units)
    → IfNone result (AreNotAdmitted line mark)
at_none line mark bound (Some units) is fits off = tt
at_none line mark bound None is fits off = subst (AreNotAdmitted line) (sym is)
    (at_admits_none line bound (subst (IsMarkOf (class_on line)) is fits) off)

pub after_none : (line : Line) (mark : Mark) (bound : CellRef) → mark ≡ After bound → IsMarkOf (class_on line) mark
    → ((units : ℤ) → cell_of bound ≢ cell_on line units) → AreNotAdmitted line mark
after_none line mark bound is fits off = subst (AreNotAdmitted line) (sym is)
    (after_admits_none line bound (subst (IsMarkOf (class_on line)) is fits) off)

-- one number has one cell
one_cell : (line : Line) (u v : ℤ) → cell_on line u ≡ cell_on line v → u ≡ v
one_cell Numbers u v same = cc
one_cell Moments u v same = cc

-- the numbers of the cells of a list
module _ (line : Line) (cells : List Cell) where
  module _ (i : ℕ) (c : Cell) (within : i < length cells) (is : c ≡ get_or cells i c) (all : List ℤ)
      (so_far : (units : ℤ) → Contains all units ↔ Contains (take i cells) (cell_on line units)) where
    pub units_in : (number : ℤ) → c ≡ cell_on line number → (units : ℤ)
        → Contains (all ++ number ∷ []) units ↔ Contains (take (i + 1) cells) (cell_on line units)
    units_in number here units =
        let more = contains_more cells i c (cell_on line units) within is in (
          (λ has. ⊎_elim (λ old. more.1 (inl ((so_far units).0 old)))
              (λ new. more.1 (inr (here ∙ ap (cell_on line) new))) (Contains-push_cases all number units has)),
          (λ has. ⊎_elim (λ old. Contains-append_left all (number ∷ []) units ((so_far units).1 old))
              (λ new. subst (Contains (all ++ number ∷ [])) (one_cell line number units (sym here ∙ new))
              (Contains-push all number)) (more.0 has)),
        )

    pub units_out : ((units : ℤ) → c ≢ cell_on line units) → (units : ℤ)
        → Contains all units ↔ Contains (take (i + 1) cells) (cell_on line units)
    units_out off units =
        let more = contains_more cells i c (cell_on line units) within is in (
          (λ has. more.1 (inl ((so_far units).0 has))),
          (λ has. ⊎_elim (λ old. (so_far units).1 old) (λ new. absurd (off units new)) (more.0 has)),
        )

  pub units_all : (all : List ℤ) (i : ℕ) → length cells ≤ i
      → ((units : ℤ) → Contains all units ↔ Contains (take i cells) (cell_on line units)) → (units : ℤ)
      → Contains all units ↔ Contains cells (cell_on line units)
  units_all all i past so_far units =
      subst (λ xs. Contains all units ↔ Contains xs (cell_on line units)) (take_all i cells past) (so_far units)
