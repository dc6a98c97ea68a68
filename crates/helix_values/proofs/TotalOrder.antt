-- The order of cells and of rows is total, and only equal ones tie.
use Rattle.std.proofs.Common.{◌≡◌, ℕ, Bool, true, false, ℤ, pos, List, [], length, refl, sym, ap, ◌∙◌, Ordering}
use Rattle.std.specs.declared.cmp.Ordering.TheVariants.{Less, Equal, Greater}
use Rattle.std.specs.Ordering.{nat_cmp, int_cmp, bool_cmp, ordering_then, ordering_reverse, on, then_cmp}
use Rattle.std.specs.Cmp.{IsTotalOrder, bool_cmp_total}
use Rattle.std.specs.Cmp.Lexicographic.{slice_cmp}
use Rattle.std.proofs.lemmas.Cmp.{nat_cmp_total, int_cmp_total, nat_list_cmp_total, on_total, then_total, lists_total, tied_itself}
use Rattle.std.specs.FinMap.{IsAntisymmetric, nat_cmp-IsAntisymmetric, int_cmp-IsAntisymmetric, slice_cmp-IsAntisymmetric}
use Rattle.helix_values.specs.declared.cell.Cell.{Cell}
use Rattle.helix_values.specs.declared.cell.Cell.TheVariants as cell
use Rattle.helix_values.specs.Order.{text_cmp, rank_of, cell_cmp, row_cmp}

-- an order that answers as a total one is total
total_by : {K : Type 0} {R S : K → K → Ordering} → ((x y : K) → R x y ≡ S x y) → IsTotalOrder S → IsTotalOrder R
total_by same total = record {
  antisymm = λ x y. same x y ∙ total.antisymm x y ∙ ap ordering_reverse (sym (same y x));
  trans = λ x y z below above. same x z ∙ total.trans x y z (sym (same x y) ∙ below) (sym (same y z) ∙ above);
  congr = λ x y z tied. same x z ∙ total.congr x y z (sym (same x y) ∙ tied) ∙ sym (same y z);
}

pub text_cmp_total : IsTotalOrder text_cmp
text_cmp_total = then_total (on_total length nat_cmp_total) nat_list_cmp_total

truth_of : Cell → Bool
truth_of (cell.Bool truth) = truth
truth_of other = false

number_of : Cell → ℤ
number_of (cell.Number units) = units
number_of (cell.Moment at) = at
number_of other = pos 0

codes_of : Cell → List ℕ
codes_of (cell.Text codes) = codes
codes_of other = []

-- the order of cells as a chain of orders: by rank, by truth, by number, by text
chain : Cell → Cell → Ordering
chain =
    then_cmp (on rank_of nat_cmp) (then_cmp (on truth_of bool_cmp)
    (then_cmp (on number_of int_cmp) (on codes_of text_cmp)))

then_equal : (o : Ordering) → o ≡ ordering_then o Equal
then_equal Less = refl
then_equal Equal = refl
then_equal Greater = refl

cell_cmp-chain : (a b : Cell) → cell_cmp a b ≡ chain a b
unfolding chain truth_of number_of codes_of
cell_cmp-chain (cell.Bool a) (cell.Bool b) = then_equal (bool_cmp a b)
cell_cmp-chain (cell.Number a) (cell.Number b) = then_equal (int_cmp a b)
cell_cmp-chain (cell.Moment a) (cell.Moment b) = then_equal (int_cmp a b)
cell_cmp-chain (cell.Text a) (cell.Text b) = refl
cell_cmp-chain cell.Null cell.Null = refl
cell_cmp-chain a b = refl

pub cell_cmp_total : IsTotalOrder cell_cmp
unfolding chain
cell_cmp_total =
    total_by cell_cmp-chain
    (then_total (on_total rank_of nat_cmp_total)
    (then_total (on_total truth_of bool_cmp_total)
    (then_total (on_total number_of int_cmp_total) (on_total codes_of text_cmp_total))))

pub row_cmp_total : IsTotalOrder row_cmp
row_cmp_total = lists_total cell_cmp_total

-- the second of two orders that tie together
then_second : (o p : Ordering) → ordering_then o p ≡ Equal → p ≡ Equal
then_second Less p tied = cc
then_second Equal p tied = tied
then_second Greater p tied = cc

pub text_cmp-IsAntisymmetric : IsAntisymmetric text_cmp
text_cmp-IsAntisymmetric a b tied =
    slice_cmp-IsAntisymmetric nat_cmp-IsAntisymmetric a b
    (then_second (nat_cmp (length a) (length b)) (slice_cmp nat_cmp a b) tied)

bool_cmp-IsAntisymmetric : IsAntisymmetric bool_cmp
bool_cmp-IsAntisymmetric false false tied = refl
bool_cmp-IsAntisymmetric false true tied = cc
bool_cmp-IsAntisymmetric true false tied = cc
bool_cmp-IsAntisymmetric true true tied = refl

pub cell_cmp-IsAntisymmetric : IsAntisymmetric cell_cmp
cell_cmp-IsAntisymmetric (cell.Bool a) (cell.Bool b) tied = ap cell.Bool (bool_cmp-IsAntisymmetric a b tied)
cell_cmp-IsAntisymmetric (cell.Number a) (cell.Number b) tied = ap cell.Number (int_cmp-IsAntisymmetric a b tied)
cell_cmp-IsAntisymmetric (cell.Moment a) (cell.Moment b) tied = ap cell.Moment (int_cmp-IsAntisymmetric a b tied)
cell_cmp-IsAntisymmetric (cell.Text a) (cell.Text b) tied = ap cell.Text (text_cmp-IsAntisymmetric a b tied)
cell_cmp-IsAntisymmetric cell.Null cell.Null tied = refl
cell_cmp-IsAntisymmetric a b tied = cc

pub row_cmp-IsAntisymmetric : IsAntisymmetric row_cmp
row_cmp-IsAntisymmetric = slice_cmp-IsAntisymmetric cell_cmp-IsAntisymmetric

-- a total order puts nothing before itself
pub never_before_itself : {K : Type 0} {R : K → K → Ordering} → IsTotalOrder R → (x : K) → R x x ≡ Less → ⊥
never_before_itself total x before = let tied : _ ≡ Equal = tied_itself total x in cc
