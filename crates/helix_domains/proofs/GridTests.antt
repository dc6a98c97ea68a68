-- The tests of a grid that signed atoms come to.
use Rattle.std.proofs.Common.{◌≡◌, ◌↔◌, ℕ, ◌+◌, ◌<◌, ◌≤◌, ℤ, Bool, true, false, Result, Ok, Err, List, [], ◌∷◌, ◌++◌, length, get_or, take, refl, sym, subst, arith}
use Rattle.std.proofs.lemmas.Int.{ints}
use Rattle.std.specs.List.{All, Contains}
use Rattle.std.specs.Result.{IfOk}
use Rattle.std.proofs.lemmas.List.{take_all}
use Rattle.helix_base.specs.declared.memory.Memory.{Memory}
use Rattle.helix_grids.specs.Tests.{Passes}
use Rattle.helix_grids.specs.declared.test.GridTest.{GridTest}
use Rattle.helix_profile.specs.Holds.{Holds, Compares, CellsCompare}
use Rattle.helix_profile.specs.Satisfaction.{Signed}
use Rattle.helix_profile.specs.declared.relation.Compare.{Compare}
use Rattle.helix_profile.specs.declared.relation.Compare.TheVariants as compare
use Rattle.helix_domains.proofs.Walks.{all_push, all_more}
use Rattle.helix_values.specs.Class.{class_of_kind}
use Rattle.helix_values.specs.Universe.{IsDecimal}
use Rattle.helix_values.specs.declared.cell.Cell.{Cell}
use Rattle.helix_values.specs.declared.cell.Cell.TheVariants as cell
use Rattle.helix_values.specs.declared.kind.Kind.{Kind}
use Rattle.helix_profile.specs.Validity.{IsTestFor, IsBound, IsLevel}
use Rattle.helix_profile.specs.declared.test.Test.{Test}
use Rattle.helix_profile.specs.declared.test.Test.TheVariants as test
use Rattle.helix_domains.specs.Domain.{IsAtomFor, PassesAtom}
use Rattle.helix_domains.specs.declared.atom.SignedAtom.{SignedAtom}
use Rattle.helix_domains.specs.declared.line.Line.{Line}
use Rattle.helix_domains.specs.declared.line.Line.TheVariants.{Numbers, Moments}
use Rattle.helix_domains.specs.Inner.Line.{cell_on, class_on, ladder_on, IsTestOn}

-- an atom for a kind of the line's class is one for the line
pub test_on : (line : Line) (k : Kind) → class_of_kind k ≡ class_on line → (signed : SignedAtom) → IsAtomFor k signed
    → IsTestOn line signed.atom.test
test_on line k class signed fits = by signed.atom.test fits.for_kind
  where
    by : (t : Test) → IsTestFor k t → IsTestOn line t
    by (test.IsNull wanted) is = tt
    by (test.EqualTo operand) is = tt
    by (test.InSet members) is = tt
    by (test.Matching regex) is = tt
    by (test.Containing regex) is = tt
    by (test.OfLength count) is = tt
    by (test.LongerThan count) is = tt
    by (test.ShorterThan count) is = tt
    by (test.Above bound) is = subst (λ c. IsBound c bound) class is
    by (test.AtLeast bound) is = subst (λ c. IsBound c bound) class is
    by (test.Below bound) is = subst (λ c. IsBound c bound) class is
    by (test.AtMost bound) is = subst (λ c. IsBound c bound) class is
    by (test.OnGrid level) is = subst (λ c. IsLevel c level) class is

-- a bound of the line is the cell of a number in the range of decimals
pub bound_on : (line : Line) (bound : Cell) → IsBound (class_on line) bound
    → (units : ℤ) × (bound ≡ cell_on line units) × IsDecimal units
bound_on Numbers (cell.Number units) is = (units, refl, is)
bound_on Moments (cell.Moment at) is = (at, refl, (omega (arith, ints, is.0), omega (arith, ints, is.1)))
bound_on Numbers cell.Null is = absurd is
bound_on Numbers (cell.Bool truth) is = absurd is
bound_on Numbers (cell.Moment at) is = absurd is
bound_on Numbers (cell.Text codes) is = absurd is
bound_on Moments cell.Null is = absurd is
bound_on Moments (cell.Bool truth) is = absurd is
bound_on Moments (cell.Number units) is = absurd is
bound_on Moments (cell.Text codes) is = absurd is

-- facts that hold of the same values, with a sign
pub signed_same : (sign : Bool) (A B : Type 0) → A ↔ B → Signed sign A ↔ Signed sign B
signed_same true A B same = (same.0, same.1)
signed_same false A B same = ((λ not b. not (same.1 b)), (λ not a. not (same.0 a)))

-- members of a set, or all others
pub members_pass : (line : Line) (sign : Bool) (members : List Cell) (numbers : List ℤ) → sign ≡ true
    → ((units : ℤ) → Contains numbers units ↔ Contains members (cell_on line units)) → (units : ℤ)
    → Contains numbers units ↔ Signed sign (Contains members (cell_on line units))
members_pass line sign members numbers is same units =
    subst (λ s. Contains numbers units ↔ Signed s (Contains members (cell_on line units))) (sym is) (same units)

pub others_pass : (line : Line) (sign : Bool) (members : List Cell) (numbers : List ℤ) → sign ≡ false
    → ((units : ℤ) → Contains numbers units ↔ Contains members (cell_on line units)) → (units : ℤ)
    → (¬ Contains numbers units) ↔ Signed sign (Contains members (cell_on line units))
others_pass line sign members numbers is same units =
    subst (λ s. (¬ Contains numbers units) ↔ Signed s (Contains members (cell_on line units))) (sym is)
    ((λ not has. not ((same units).1 has)), (λ not has. not ((same units).0 has)))

-- a bound that is a cell compares as its number does
compare_on : (line : Line) (how : Compare) (units bound : ℤ)
    → Compares how units bound ↔ CellsCompare how (cell_on line units) (cell_on line bound)
compare_on Numbers how units bound = ((λ h. h), (λ h. h))
compare_on Moments how units bound = ((λ h. h), (λ h. h))

pub compared : (line : Line) (how : Compare) (sign : Bool) (bound : Cell) (number : ℤ) (test : GridTest)
    → bound ≡ cell_on line number
    → ((units : ℤ) → Passes (ladder_on line) test units ↔ Signed sign (Compares how units number)) → (units : ℤ)
    → Passes (ladder_on line) test units ↔ Signed sign (CellsCompare how (cell_on line units) bound)
compared line how sign bound number test is exact units =
    let same = signed_same sign (Compares how units number) (CellsCompare how (cell_on line units) bound)
    (subst (λ b. Compares how units number ↔ CellsCompare how (cell_on line units) b) (sym is)
    (compare_on line how units number)) in
    ((λ passes. same.0 ((exact units).0 passes)), (λ compares. (exact units).1 (same.1 compares)))

-- the tests of sets and bounds, as an atom has them
passes_as : (line : Line) (signed : SignedAtom) (t : Test) (v : Cell) → signed.atom.test ≡ t
    → Signed signed.sign (Holds t v) ↔ PassesAtom signed v
passes_as line signed t v is = subst (λ u. Signed signed.sign (Holds t v) ↔ Signed signed.sign (Holds u v)) (sym is)
    ((λ h. h), (λ h. h))

pub one_of : (operand v : Cell) → Contains (operand ∷ []) v ↔ (v ≡ operand)
one_of operand v = (
  (λ has. sym (one has.0 has.1 has.2)),
  (λ is. (0, omega arith, sym is)),
)
  where
    one : (k : ℕ) → k < length (operand ∷ []) → get_or (operand ∷ []) k v ≡ v → operand ≡ v
    one k within is =
        let first : k ≡ 0 = omega (arith, within) in
        subst (λ j. get_or (operand ∷ []) j v ≡ v) first is

pub equal_passes : (line : Line) (signed : SignedAtom) (operand : Cell) (slice : List Cell)
    (result : Result GridTest Memory)
    → signed.atom.test ≡ test.EqualTo operand → slice ≡ operand ∷ []
    → IfOk result (λ t. (units : ℤ) → Passes (ladder_on line) t units
    ↔ Signed signed.sign (Contains slice (cell_on line units)))
    → IfOk result (λ t. (units : ℤ) → Passes (ladder_on line) t units ↔ PassesAtom signed (cell_on line units))
equal_passes line signed operand slice (Err e) is one exact = tt
equal_passes line signed operand slice (Ok t) is one exact = λ units.
    let v : Cell = cell_on line units in
    let same = signed_same signed.sign (Contains slice v) (v ≡ operand)
    (subst (λ s. Contains s v ↔ (v ≡ operand)) (sym one) (one_of operand v)) in
    let atom = passes_as line signed (test.EqualTo operand) v is in
    ((λ passes. atom.0 (same.0 ((exact units).0 passes))), (λ passes. (exact units).1 (same.1 (atom.1 passes))))

pub set_passes : (line : Line) (signed : SignedAtom) (members slice : List Cell) (result : Result GridTest Memory)
    → signed.atom.test ≡ test.InSet members → slice ≡ members
    → IfOk result (λ t. (units : ℤ) → Passes (ladder_on line) t units
    ↔ Signed signed.sign (Contains slice (cell_on line units)))
    → IfOk result (λ t. (units : ℤ) → Passes (ladder_on line) t units ↔ PassesAtom signed (cell_on line units))
set_passes line signed members slice (Err e) is same exact = tt
set_passes line signed members slice (Ok t) is same exact = λ units.
    let v : Cell = cell_on line units in
    let atom = passes_as line signed (test.InSet members) v is in
    let known = subst (λ s. Passes (ladder_on line) t units ↔ Signed signed.sign (Contains s v)) same (exact units) in
    ((λ passes. atom.0 (known.0 passes)), (λ passes. known.1 (atom.1 passes)))

pub below_passes : (line : Line) (signed : SignedAtom) (bound : Cell) (t : GridTest)
    → signed.atom.test ≡ test.Below bound
    → ((units : ℤ) → Passes (ladder_on line) t units
    ↔ Signed signed.sign (CellsCompare compare.Below (cell_on line units) bound)) → (units : ℤ)
    → Passes (ladder_on line) t units ↔ PassesAtom signed (cell_on line units)
below_passes line signed bound t is exact units =
    let atom = passes_as line signed (test.Below bound) (cell_on line units) is in
    ((λ passes. atom.0 ((exact units).0 passes)), (λ passes. (exact units).1 (atom.1 passes)))

pub at_most_passes : (line : Line) (signed : SignedAtom) (bound : Cell) (t : GridTest)
    → signed.atom.test ≡ test.AtMost bound
    → ((units : ℤ) → Passes (ladder_on line) t units
    ↔ Signed signed.sign (CellsCompare compare.AtMost (cell_on line units) bound)) → (units : ℤ)
    → Passes (ladder_on line) t units ↔ PassesAtom signed (cell_on line units)
at_most_passes line signed bound t is exact units =
    let atom = passes_as line signed (test.AtMost bound) (cell_on line units) is in
    ((λ passes. atom.0 ((exact units).0 passes)), (λ passes. (exact units).1 (atom.1 passes)))

-- the tests of all atoms
module _ (line : Line) (atoms : List SignedAtom) where
  pub tests_more : (i : ℕ) (signed : SignedAtom) → i < length atoms → signed ≡ get_or atoms i signed
      → (tests more : List GridTest) (t : GridTest) → more ≡ tests ++ t ∷ []
      → ((units : ℤ) → All (λ test. Passes (ladder_on line) test units) tests
      ↔ All (λ s. PassesAtom s (cell_on line units)) (take i atoms))
      → ((units : ℤ) → Passes (ladder_on line) t units ↔ PassesAtom signed (cell_on line units)) → (units : ℤ)
      → All (λ test. Passes (ladder_on line) test units) more
      ↔ All (λ s. PassesAtom s (cell_on line units)) (take (i + 1) atoms)
  tests_more i signed within is tests more t pushed so_far exact units =
      let old = all_push (λ test. Passes (ladder_on line) test units) tests t in
      let new = all_more (λ s. PassesAtom s (cell_on line units)) atoms i signed within is in
      subst (λ all. All (λ test. Passes (ladder_on line) test units) all
      ↔ All (λ s. PassesAtom s (cell_on line units)) (take (i + 1) atoms)) (sym pushed) (
        (λ all. let parts = old.0 all in new.1 ((so_far units).0 parts.0, (exact units).0 parts.1)),
        (λ all. let parts = new.0 all in old.1 ((so_far units).1 parts.0, (exact units).1 parts.1)),
      )

  pub tests_all : (i : ℕ) (tests : List GridTest) → length atoms ≤ i
      → ((units : ℤ) → All (λ test. Passes (ladder_on line) test units) tests
      ↔ All (λ s. PassesAtom s (cell_on line units)) (take i atoms)) → (units : ℤ)
      → All (λ test. Passes (ladder_on line) test units) tests ↔ All (λ s. PassesAtom s (cell_on line units)) atoms
  tests_all i tests past so_far units =
      subst (λ all. All (λ test. Passes (ladder_on line) test units) tests
      ↔ All (λ s. PassesAtom s (cell_on line units)) all) (take_all i atoms past) (so_far units)
