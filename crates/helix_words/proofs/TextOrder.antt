-- The order of texts: shorter ones first, and those of one length by their characters.
use Rattle.std.proofs.Common.{◌≡◌, ◌⊎◌, inl, inr, ℕ, ◌<◌, ◌≤◌, Bool, true, false, List, length, refl, sym, ap, arith, Ordering, nat_cmp}
use Rattle.std.specs.declared.cmp.Ordering.TheVariants.{Less, Equal, Greater}
use Rattle.std.specs.Ordering.{ordering_then, MatchOrdering}
use Rattle.std.specs.Cmp.{nat_cmp_is}
use Rattle.std.specs.Cmp.Lexicographic.{slice_cmp}
use Rattle.std.proofs.lemmas.Cmp.{ranked}
use Rattle.std.proofs.lemmas.Bool.{cases_lt}
use Rattle.helix_values.specs.declared.cell.Cell.TheVariants as cell
use Rattle.helix_values.specs.Order.{text_cmp, CellLess}
use Rattle.helix_words.specs.Inner.Rests.{IsBefore}
use Rattle.helix_words.specs.Inner.Fills.{IsFrom}
use Rattle.helix_words.proofs.Order.{then_less}

-- the shorter text is less
pub shorter_less : (a b : List ℕ) → length a < length b → CellLess (cell.Text a) (cell.Text b)
shorter_less a b less = then_less (nat_cmp (length a) (length b)) (slice_cmp nat_cmp a b)
    (sym (nat_cmp_is (length a) (length b) Less less))

-- texts of one length are compared by their characters
pub alike_cmp : (a b : List ℕ) → length a ≡ length b → text_cmp a b ≡ slice_cmp nat_cmp a b
alike_cmp a b same = ap (λ o. ordering_then o (slice_cmp nat_cmp a b))
    (sym (nat_cmp_is (length a) (length b) Equal same))

-- a text is less that is shorter, or as long and less by its characters
pub less_cases : (a b : List ℕ) → CellLess (cell.Text a) (cell.Text b)
    → (length a < length b) ⊎ ((length a ≡ length b) × IsBefore a b)
less_cases a b less =
    by (nat_cmp (length a) (length b)) (ranked (length a) (length b) (nat_cmp (length a) (length b)) refl) less
  where
    by : (o : Ordering) → MatchOrdering o (length a < length b) (length a ≡ length b) (length b < length a)
        → ordering_then o (slice_cmp nat_cmp a b) ≡ Less
        → (length a < length b) ⊎ ((length a ≡ length b) × IsBefore a b)
    by Less ranks is = inl ranks
    by Equal ranks is = inr (ranks, is)
    by Greater ranks is = cc

pub less_length : (a b : List ℕ) → CellLess (cell.Text a) (cell.Text b) → length a ≤ length b
less_length a b less = elim (less_cases a b less) [
  | inl shorter ↦ omega (arith, shorter)
  | inr alike ↦ omega (arith, alike.0)
]

-- what isn't less is at least as long
pub not_less_length : (a b : List ℕ) → ¬ (CellLess (cell.Text a) (cell.Text b)) → length b ≤ length a
not_less_length a b not = elim (cases_lt (length a) (length b)) [
  | inl less ↦ absurd (not (shorter_less a b less))
  | inr long ↦ long
]

pub from_length : (strict : Bool) (text word : List ℕ) → IsFrom strict (cell.Text text) word → length text ≤ length word
from_length true text word is = less_length text word is
from_length false text word is = not_less_length word text is

-- longer words are from a text on
pub longer_from : (strict : Bool) (text word : List ℕ) → length text < length word → IsFrom strict (cell.Text text) word
longer_from true text word less = shorter_less text word less
longer_from false text word less = λ below. let low = less_length word text below in omega (arith, low, less)
