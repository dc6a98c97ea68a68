-- The region that the literals of a path narrow first: all cells of the fields of a part.
use Rattle.std.proofs.Common.{◌≡◌, ℕ, zero, suc, ◌<◌, Some, List, [], ◌∷◌, ◌++◌, length, slice_get, All, refl, sym, ap, subst, arith}
use Rattle.std.proofs.lemmas.Bool.{false≢true}
use Rattle.std.proofs.lemmas.Option.{same_Some}
use Rattle.std.specs.List.{AllByRecursion}
use Rattle.std.specs.List.Sorted.{IsStrictlyIncreasing}
use Rattle.helix_profile.specs.Content.{Content}
use Rattle.helix_profile.specs.Forest.{IsForest}
use Rattle.helix_profile.specs.Good.{IsCellOf, AreCellsOf}
use Rattle.helix_profile.specs.Satisfaction.{cell_at}
use Rattle.helix_profile.specs.declared.field.Field.{Field}
use Rattle.helix_relations.specs.Change.{opened_field, opened_fields, opened}
use Rattle.helix_relations.specs.Region.{RegionField, numbers_of, IsRegionCell}
use Rattle.helix_values.specs.declared.cell.Cell.{Cell}
use Rattle.helix_options.specs.Inner.Narrowing.{IsRegionOf}

found : {T : Type 0} (xs : List T) (n : ℕ) → n < length xs → (x : T) × (slice_get xs n ≡ Some x)
found [] n below = absurd (omega (arith, below))
found (x ∷ xs) zero below = (x, refl)
found (x ∷ xs) (suc n) below = found xs n (omega (arith, below))

-- a row of cells has a cell of each field
cell_of : (fields : List Field) (row : List Cell) (n : ℕ) (f : Field) → AreCellsOf fields row
    → slice_get fields n ≡ Some f → IsCellOf f (cell_at row n)
cell_of [] row n f own is = cc is
cell_of (g ∷ fields) [] n f own is = absurd own
cell_of (g ∷ fields) (c ∷ row) zero f own is = subst (λ h. IsCellOf h c) (same_Some g f is) own.0
cell_of (g ∷ fields) (c ∷ row) (suc n) f own is = cell_of fields row n f own.1 is

module _ (profile : Content) where
  -- the opened fields have these numbers, are those of the profile, and have all its cells
  record AreOpened (numbers : List ℕ) (fields : List RegionField) : Type 0 where
    same : numbers_of fields ≡ numbers
    known : AllByRecursion (λ f. slice_get profile.fields f.number ≡ Some f.field) fields
    cells : (row : List Cell) → AreCellsOf profile.fields row
        → AllByRecursion (λ f. IsRegionCell f (cell_at row f.number)) fields

  one_opened : (n : ℕ) (field : Field) → slice_get profile.fields n ≡ Some field → (numbers : List ℕ)
      (fields : List RegionField) → AreOpened numbers fields
      → AreOpened (n ∷ numbers) (opened_field n (Some field) ++ fields)
  one_opened n field is numbers fields others = record {
    same = ap (λ ns. n ∷ ns) others.same;
    known = (is, others.known);
    cells = λ row own. (
      record {
        of_field = cell_of profile.fields row n field own is;
        no_null = λ forbidden. absurd (false≢true forbidden);
        only_null = λ alone. absurd (false≢true alone);
        passes = tt;
      },
      others.cells row own,
    );
  }

  all_opened : (numbers : List ℕ) → All (λ n. n < length profile.fields) numbers
      → AreOpened numbers (opened_fields profile.fields numbers)
  all_opened [] all = record { same = refl; known = tt; cells = λ row own. tt }
  all_opened (n ∷ numbers) all =
      let here = found profile.fields n (all 0 0 (omega arith)) in
      subst (λ o. AreOpened (n ∷ numbers) (opened_field n o ++ opened_fields profile.fields numbers)) (sym here.1)
      (one_opened n here.0 here.1 numbers (opened_fields profile.fields numbers)
      (all_opened numbers (λ k d below. all (suc k) d (omega (arith, below)))))

  no_cycle : IsForest []
  no_cycle [] cycle = cycle
  no_cycle (x ∷ []) cycle = cycle
  no_cycle (x ∷ y ∷ []) cycle = cycle
  no_cycle (x ∷ y ∷ z ∷ fields) cycle = cycle.1.0

  pub opened_of : (numbers : List ℕ) → IsStrictlyIncreasing numbers → All (λ n. n < length profile.fields) numbers
      → IsRegionOf profile numbers [] (opened profile numbers)
  opened_of numbers ascending all = let are = all_opened numbers all in record {
    over = record {
      is_region = record {
        ascending = subst IsStrictlyIncreasing (sym are.same) ascending;
        ends = tt;
        forest = no_cycle;
      };
      numbers = are.same;
      known = are.known;
      listed = tt;
    };
    rows = λ row own. ((λ is. tt), (λ holds. record { cells = are.cells row own; relations = tt }));
  }
