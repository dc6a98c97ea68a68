-- The parts of a region's graph: its pairs, and its rows as lists. Lemmas.
use Rattle.std.proofs.Common.{◌≡◌, ℕ, zero, suc, ◌+◌, ◌<◌, Bool, true, ◌&&◌, ◌||◌, eqb, inl, inr, ⊎_elim, List, [], ◌∷◌, length, slice_index, slice_get, AllPairs, Contains, refl, sym, subst, arith}
use Rattle.std.proofs.Math.Path.{subst₂}
use Rattle.std.proofs.lemmas.Bool.{cases_eq, cases_lt, cases_Bool, eq-eqb, eqb-true, or_cases, or_left, or_right, and_parts, and_from, cond-true, cond-false, cond_both, true≢false}
use Rattle.std.proofs.lemmas.List.Elements.{Contains-append_right}
use Rattle.std.proofs.lemmas.Map.Made.{Contains-tail}
use Rattle.std.specs.List.{AllByRecursion}
use Rattle.helix_values.specs.declared.cell.Cell.{Cell}
use Rattle.helix_profile.specs.Forest.{AreJoined}
use Rattle.helix_profile.specs.Satisfaction.{cell_at}
use Rattle.helix_profile.specs.declared.relation.Relation.{Relation}
use Rattle.helix_forest.specs.Closed.{IsAmong}
use Rattle.helix_relations.specs.declared.signed.SignedRelation.{SignedRelation}
use Rattle.helix_relations.specs.Region.{RegionField, numbers_of, IsRegionCell, StandsRelation, FieldNumbered}
use Rattle.helix_relations.specs.RegionGraph.{IsCellIn, StandTogether, are_joined, passing_below}
use Rattle.helix_relations.specs.NumberingLaws.{AreOnce}

-- the test tells whether a relation joins two fields
pub joined_from : (rs : List Relation) (m n : ℕ) → are_joined rs m n ≡ true → AreJoined rs m n
joined_from [] m n e = absurd (true≢false (sym e))
joined_from (r ∷ rs) m n e = ⊎_elim
    (λ one. let both = and_parts (eqb r.left m) (eqb r.right n) one in
    inl (eqb-true r.left m both.0, eqb-true r.right n both.1))
    (λ more. ⊎_elim
    (λ two. let both = and_parts (eqb r.left n) (eqb r.right m) two in
    inr (inl (eqb-true r.left n both.0, eqb-true r.right m both.1)))
    (λ later. inr (inr (joined_from rs m n later)))
    (or_cases (eqb r.left n && eqb r.right m) (are_joined rs m n) more))
    (or_cases (eqb r.left m && eqb r.right n) ((eqb r.left n && eqb r.right m) || are_joined rs m n) e)

pub joined_to : (rs : List Relation) (m n : ℕ) → AreJoined rs m n → are_joined rs m n ≡ true
joined_to [] m n none = absurd none
joined_to (r ∷ rs) m n (inl are) =
    or_left (eqb r.left m && eqb r.right n) ((eqb r.left n && eqb r.right m) || are_joined rs m n)
    (and_from (eqb r.left m) (eqb r.right n) (eq-eqb r.left m are.0) (eq-eqb r.right n are.1))
joined_to (r ∷ rs) m n (inr (inl are)) =
    or_right (eqb r.left m && eqb r.right n) ((eqb r.left n && eqb r.right m) || are_joined rs m n)
    (or_left (eqb r.left n && eqb r.right m) (are_joined rs m n)
    (and_from (eqb r.left n) (eqb r.right m) (eq-eqb r.left n are.0) (eq-eqb r.right m are.1)))
joined_to (r ∷ rs) m n (inr (inr later)) =
    or_right (eqb r.left m && eqb r.right n) ((eqb r.left n && eqb r.right m) || are_joined rs m n)
    (or_right (eqb r.left n && eqb r.right m) (are_joined rs m n) (joined_to rs m n later))

-- the numbers below a bound that pass a test
module _ (test : ℕ → Bool) where
  pub passes : (n c : ℕ) → Contains (passing_below test n) c → (c < n) × (test c ≡ true)
  passes zero c contains = absurd (omega (arith, contains.1))
  passes (suc n) c contains = ⊎_elim
      (λ e. let more : Contains (n ∷ passing_below test n) c =
      subst (λ xs. Contains xs c) (cond-true (test n) (n ∷ passing_below test n) (passing_below test n) e) contains in
      ⊎_elim (λ same. (omega (arith, same), subst (λ k. test k ≡ true) same e))
      (λ other. let found = passes n c (Contains-tail n (passing_below test n) c other more) in
      (omega (arith, found.0), found.1))
      (cases_eq n c))
      (λ e. let found = passes n c
      (subst (λ xs. Contains xs c) (cond-false (test n) (n ∷ passing_below test n) (passing_below test n) e) contains)
      in (omega (arith, found.0), found.1))
      (cases_Bool (test n))

  pub is_passing : (n c : ℕ) → c < n → test c ≡ true → Contains (passing_below test n) c
  is_passing zero c below e = absurd (omega (arith, below))
  is_passing (suc n) c below e = ⊎_elim
      (λ same. subst (λ k. Contains (passing_below test (suc k)) c) same
      (subst (λ xs. Contains xs c) (sym (cond-true (test c) (c ∷ passing_below test c) (passing_below test c) e))
      (0, omega arith, refl)))
      (λ other. let found : Contains (passing_below test n) c = is_passing n c (omega (arith, below, other)) e in
      cond_both (test n) (n ∷ passing_below test n) (passing_below test n) (λ xs. Contains xs c)
      (λ _. Contains-append_right (n ∷ []) (passing_below test n) c found) (λ _. found))
      (cases_eq c n)

-- ascending numbers differ
pub ordered : (xs : List ℕ) → AllPairs (λ x y. x < y) xs → AreOnce xs
ordered xs pairs i j i_in j_in same = ⊎_elim
    (λ less. absurd (apart (slice_index xs i) (slice_index xs j) (pairs i j 0 less j_in) same))
    (λ least. ⊎_elim (λ e. e)
    (λ other. absurd (apart (slice_index xs j) (slice_index xs i) (pairs j i 0 (omega (arith, least, other)) i_in)
    (sym same)))
    (cases_eq i j))
    (cases_lt i j)
  where
    apart : (a b : ℕ) → a < b → a ≡ b → ⊥
    apart a b less e = omega (arith, less, e)

-- what is known of the ends of the relations
pub among_of : (fields : List RegionField) (number : ℕ) (Fact : RegionField → Type 0) → FieldNumbered fields number Fact
    → IsAmong number (numbers_of fields)
among_of [] number Fact none = none
among_of (field ∷ fields) number Fact (inl here) = inl (sym here.0)
among_of (field ∷ fields) number Fact (inr later) = inr (among_of fields number Fact later)

pub fact_of : (fields : List RegionField) (number : ℕ) (Fact : RegionField → Type 0) → FieldNumbered fields number Fact
    → (field : RegionField) × Fact field
fact_of [] number Fact none = absurd none
fact_of (field ∷ fields) number Fact (inl here) = (field, here.1)
fact_of (field ∷ fields) number Fact (inr later) = fact_of fields number Fact later

-- the cells of numbers below a bound, as a list
abbrev pub first_cells : (ℕ → Cell) → ℕ → List Cell
first_cells cell zero = []
first_cells cell (suc n) = cell 0 ∷ first_cells (λ k. cell (suc k)) n

pub first_cell_at : (cell : ℕ → Cell) (n k : ℕ) → k < n → cell_at (first_cells cell n) k ≡ cell k
first_cell_at cell zero k below = absurd (omega (arith, below))
first_cell_at cell (suc n) zero below = refl
first_cell_at cell (suc n) (suc k) below = first_cell_at (λ k. cell (suc k)) n k (omega (arith, below))

-- a bound of all numbers of a list
abbrev pub bound_of : List ℕ → ℕ
bound_of [] = 0
bound_of (n ∷ ns) = suc n + bound_of ns

pub below_bound : (ns : List ℕ) (k : ℕ) → k < length ns → slice_index ns k < bound_of ns
below_bound [] k below = absurd (omega (arith, below))
below_bound (n ∷ ns) zero below = omega arith
below_bound (n ∷ ns) (suc k) below = let rest = below_bound ns k (omega (arith, below)) in omega (arith, rest)

pub among_at : (ns : List ℕ) (k : ℕ) → k < length ns → IsAmong (slice_index ns k) ns
among_at [] k below = absurd (omega (arith, below))
among_at (n ∷ ns) zero below = inl refl
among_at (n ∷ ns) (suc k) below = inr (among_at ns k (omega (arith, below)))

-- as many numbers as fields
pub as_many : (fields : List RegionField) → length (numbers_of fields) ≡ length fields
as_many [] = refl
as_many (field ∷ fields) = let rest = as_many fields in omega (arith, rest)

-- the cells of the fields, one after the other
pub cells_at : (row : List Cell) (fields : List RegionField)
    → AllByRecursion (λ field. IsRegionCell field (cell_at row field.number)) fields → (u : ℕ) → u < length fields
    → IsCellIn (slice_get fields u) (cell_at row (slice_index (numbers_of fields) u))
cells_at row [] all u below = absurd (omega (arith, below))
cells_at row (field ∷ fields) all zero below = all.0
cells_at row (field ∷ fields) all (suc u) below = cells_at row fields all.1 u (omega (arith, below))

pub cells_from : (row : List Cell) (fields : List RegionField)
    → ((u : ℕ) → u < length fields → IsCellIn (slice_get fields u) (cell_at row (slice_index (numbers_of fields) u)))
    → AllByRecursion (λ field. IsRegionCell field (cell_at row field.number)) fields
cells_from row [] each = tt
cells_from row (field ∷ fields) each = (
  each 0 (omega arith),
  cells_from row fields (λ u below. each (suc u) (next (length fields) u below)),
)
  where
    next : (n u : ℕ) → u < n → suc u < suc n
    next n u below = omega (arith, below)

pub stand_in : (row : List Cell) (relations : List SignedRelation)
    → AllByRecursion
    (λ signed. StandsRelation signed (cell_at row signed.relation.left) (cell_at row signed.relation.right)) relations
    → (m n : ℕ) → StandTogether relations m n (cell_at row m) (cell_at row n)
stand_in row [] all m n = tt
stand_in row (signed ∷ relations) all m n = (
  (
    (λ left right. subst₂ (λ a b. StandsRelation signed (cell_at row a) (cell_at row b)) left right all.0),
    (λ left right. subst₂ (λ a b. StandsRelation signed (cell_at row a) (cell_at row b)) left right all.0),
  ),
  stand_in row relations all.1 m n,
)

pub stand_back : (relations : List SignedRelation) (m n : ℕ) (v w : Cell) → StandTogether relations m n v w
    → StandTogether relations n m w v
stand_back [] m n v w all = tt
stand_back (signed ∷ relations) m n v w all = ((all.0.1, all.0.0), stand_back relations m n v w all.1)
