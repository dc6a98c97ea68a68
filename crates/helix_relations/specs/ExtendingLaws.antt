-- What it means that a cell extends, over forests: it is in some good row. Lemmas.
use Rattle.std.proofs.Common.{◌≡◌, ℕ, zero, suc, ◌<◌, ◌≤◌, is_some, ⊎_elim, ◌↔◌, List, [], ◌∷◌, Option, None, Some, refl, sym, ap, subst, arith}
use Rattle.std.proofs.lemmas.Bool.{cases_eq, true≢false}
use Rattle.helix_values.specs.declared.cell.Cell.{Cell}
use Rattle.helix_values.specs.declared.cell.Cell.TheVariants.{Null}
use Rattle.helix_profile.specs.declared.relation.Relation.{Relation}
use Rattle.helix_profile.specs.Forest.{AreJoined, IsPathTo}
use Rattle.helix_search.specs.Extending.{Graph, Extends}
use Rattle.helix_relations.specs.Rows.{IsForestOf, IsGoodRow, HasFixed, IsInSomeRow, IsFirstOfTree}
use Rattle.helix_relations.specs.TrailLaws.{ArePlaced, placed, row_extends}
use Rattle.helix_relations.specs.MixingLaws.{Setting, IsRow, AllStand}
use Rattle.helix_relations.specs.MergingLaws.{whole_row}

none_some : {A : Type 0} (x : A) → None ≡ Some x → ⊥
none_some x e = true≢false (sym (ap is_some e))

module _ (graph : Graph) (rs : List Relation) (nodes : ℕ) (is : IsForestOf graph rs nodes) (depth : ℕ)
    (enough : nodes ≤ depth) where
  all_joined : (row : ℕ → Cell) → IsGoodRow graph nodes row → (x y : ℕ) → AreJoined rs x y
      → graph.Joined x y (row x) (row y)
  all_joined row good x y joined = let at : ArePlaced nodes x y = placed nodes rs is.ends x y joined in
      good.joined x y at.left ((is.neighbours x y at.left).1 joined)

  -- rows of cells
  module _ (fixed : ℕ → Option Cell) where
    abbrev cells : Setting
    cells = record {
      graph = graph;
      relations = rs;
      nodes = nodes;
      is = is;
      fixed = fixed;
      Entry = Cell;
      entry = λ v. v;
      Has = graph.Has;
      Joined = graph.Joined;
      has = λ u v h. h;
      joined = λ u c v w j. j;
      inverse = is.inverse;
    }

    row_of_cell : (row : ℕ → Cell) → IsGoodRow graph nodes row → HasFixed fixed row → (u : ℕ) (v : Cell) → u < nodes
        → fixed u ≡ None → Extends graph fixed depth None u v → IsInSomeRow graph nodes fixed u v
    row_of_cell row good has_fixed u v below free extends =
        let found = whole_row cells row (record { has = good.has; fixes = has_fixed }) (all_joined row good) depth u v
        below free extends in
        record {
          row = found.0;
          good = record {
            has = found.1.has;
            joined = λ x y x_in contains. found.2 x y ((is.neighbours x y x_in).0 contains);
          };
          has_fixed = found.1.fixes;
          is = found.3;
        }

    cell_of_row : (u : ℕ) (v : Cell) → u < nodes → IsInSomeRow graph nodes fixed u v → Extends graph fixed depth None u v
    cell_of_row u v below some = subst (λ w. Extends graph fixed depth None u w) some.is
        (row_extends graph rs nodes is fixed some.row some.good some.has_fixed depth enough u below)

    -- where there is a good row with the fixed cells, the cells that extend are those of such rows
    pub extending_is_exact : (row : ℕ → Cell) → IsGoodRow graph nodes row → HasFixed fixed row → (u : ℕ) (v : Cell)
        → u < nodes → fixed u ≡ None → Extends graph fixed depth None u v ↔ IsInSomeRow graph nodes fixed u v
    extending_is_exact row good has_fixed u v below free = (
      (λ extends. row_of_cell row good has_fixed u v below free extends),
      (λ some. cell_of_row u v below some),
    )

  -- rows in which some nodes have no cell yet: a pair has two cells or none
  abbrev HasOrNone : ℕ → Option Cell → Type 0
  HasOrNone u None = Unit {0}
  HasOrNone u (Some v) = graph.Has u v

  abbrev JoinedOrNone : ℕ → ℕ → Option Cell → Option Cell → Type 0
  JoinedOrNone u c None None = Unit {0}
  JoinedOrNone u c (Some v) (Some w) = graph.Joined u c v w
  JoinedOrNone u c p v = ⊥

  inverse_or_none : (u c : ℕ) (p v : Option Cell) → AreJoined rs u c → HasOrNone u p → HasOrNone c v
      → JoinedOrNone u c p v → JoinedOrNone c u v p
  inverse_or_none u c None None pair p_has v_has joined = tt
  inverse_or_none u c None (Some v) pair p_has v_has joined = absurd joined
  inverse_or_none u c (Some p) None pair p_has v_has joined = absurd joined
  inverse_or_none u c (Some p) (Some v) pair p_has v_has joined = is.inverse u c p v pair p_has v_has joined

  abbrev nothing_fixed : ℕ → Option Cell
  nothing_fixed u = None

  abbrev partial : Setting
  partial = record {
    graph = graph;
    relations = rs;
    nodes = nodes;
    is = is;
    fixed = nothing_fixed;
    Entry = Option Cell;
    entry = λ v. Some v;
    Has = HasOrNone;
    Joined = JoinedOrNone;
    has = λ u v h. h;
    joined = λ u c v w j. j;
    inverse = inverse_or_none;
  }

  abbrev IsGiven : Option Cell → Type 0
  IsGiven None = ⊥
  IsGiven (Some v) = Unit {0}

  given_on : (u c : ℕ) (p v : Option Cell) → JoinedOrNone u c p v → IsGiven p → IsGiven v
  given_on u c None v joined given = absurd given
  given_on u c (Some p) None joined given = joined
  given_on u c (Some p) (Some v) joined given = tt

  given_along : (row : ℕ → Option Cell) → AllStand partial row → (between : List ℕ) (last x : ℕ)
      → IsPathTo rs last x between → IsGiven (row x) → IsGiven (row last)
  given_along row all [] last x path given = given_on x last (row x) (row last) (all x last path) given
  given_along row all (next ∷ between) last x path given = given_along row all between last next path.1
      (given_on x next (row x) (row next) (all x next path.0) given)

  -- the cells of one row where it has some, else those of another one
  abbrev either : Option Cell → Option Cell → Option Cell
  either None b = b
  either (Some v) b = Some v

  either_has : (u : ℕ) (a b : Option Cell) → HasOrNone u a → HasOrNone u b → HasOrNone u (either a b)
  either_has u None b one two = two
  either_has u (Some v) b one two = one

  either_joined : (u c : ℕ) (p v q w : Option Cell) → JoinedOrNone u c p v → JoinedOrNone u c q w
      → JoinedOrNone u c (either p q) (either v w)
  either_joined u c None None q w one two = two
  either_joined u c None (Some v) q w one two = absurd one
  either_joined u c (Some p) None q w one two = absurd one
  either_joined u c (Some p) (Some v) q w one two = one

  given_first : (a b : Option Cell) → IsGiven a → IsGiven (either a b)
  given_first None b given = absurd given
  given_first (Some v) b given = tt

  given_second : (a b : Option Cell) → IsGiven b → IsGiven (either a b)
  given_second None b given = given
  given_second (Some v) b given = tt

  given_by : (a : Option Cell) (v : Cell) → a ≡ Some v → IsGiven a
  given_by a v e = subst IsGiven (sym e) tt

  -- a row that has a cell at the first nodes, and where pairs stand
  record IsUpTo (k : ℕ) (row : ℕ → Option Cell) : Type 0 where
    is_row : IsRow partial row
    all : AllStand partial row
    given : (x : ℕ) → x < k → IsGiven (row x)

  abbrev FirstsExtend : Type 0
  FirstsExtend = (u : ℕ) → u < nodes → IsFirstOfTree rs u → (v : Cell) × Extends graph nothing_fixed depth None u v

  one_more : (row : ℕ → Option Cell) (k : ℕ) → k < nodes → IsUpTo k row → (o : Option Cell) → row k ≡ o → FirstsExtend
      → (new : ℕ → Option Cell) × IsUpTo (suc k) new
  one_more row k below up_to (Some v) is_some firsts = (
    row,
    record {
      is_row = up_to.is_row;
      all = up_to.all;
      given = λ x x_in. ⊎_elim (λ e. subst (λ j. IsGiven (row j)) (sym e) (given_by (row k) v is_some))
          (λ other. up_to.given x (omega (arith, x_in, other))) (cases_eq x k);
    },
  )
  one_more row k below up_to None is_none firsts =
      let first : IsFirstOfTree rs k = λ x x_in link. subst IsGiven is_none
      (given_along row up_to.all link.0 k x link.1 (up_to.given x x_in)) in
      let start = firsts k below first in
      let tree = whole_row partial row up_to.is_row up_to.all depth k start.0 below refl start.1 in (
        (λ x. either (row x) (tree.0 x)),
        record {
          is_row = record {
            has = λ x x_in. either_has x (row x) (tree.0 x) (up_to.is_row.has x x_in) (tree.1.has x x_in);
            fixes = λ x w e. absurd (none_some w e);
          };
          all = λ x y pair. either_joined x y (row x) (row y) (tree.0 x) (tree.0 y) (up_to.all x y pair)
              (tree.2 x y pair);
          given = λ x x_in. ⊎_elim
              (λ e. given_second (row x) (tree.0 x)
              (subst (λ j. IsGiven (tree.0 j)) (sym e) (given_by (tree.0 k) start.0 tree.3)))
              (λ other. given_first (row x) (tree.0 x) (up_to.given x (omega (arith, x_in, other))))
              (cases_eq x k);
        },
      )

  rows_up_to : FirstsExtend → (k : ℕ) → k ≤ nodes → (row : ℕ → Option Cell) × IsUpTo k row
  rows_up_to firsts zero below = (
    (λ x. None),
    record {
      is_row = record { has = λ x x_in. tt; fixes = λ x w e. absurd (none_some w e) };
      all = λ x y pair. tt;
      given = λ x x_in. absurd (omega (arith, x_in));
    },
  )
  rows_up_to firsts (suc k) below = let old = rows_up_to firsts k (omega (arith, below)) in
      one_more old.0 k below old.1 (old.0 k) refl firsts

  abbrev cell_or : Option Cell → Cell
  cell_or None = Null
  cell_or (Some v) = v

  given_has : (u : ℕ) (o : Option Cell) → IsGiven o → HasOrNone u o → graph.Has u (cell_or o)
  given_has u None given has = absurd given
  given_has u (Some v) given has = has

  given_joined : (u c : ℕ) (p v : Option Cell) → IsGiven p → JoinedOrNone u c p v
      → graph.Joined u c (cell_or p) (cell_or v)
  given_joined u c None v given joined = absurd given
  given_joined u c (Some p) None given joined = absurd joined
  given_joined u c (Some p) (Some v) given joined = joined

  whole_of : FirstsExtend → (row : ℕ → Cell) × IsGoodRow graph nodes row
  whole_of firsts = let found = rows_up_to firsts nodes (omega arith) in (
    (λ x. cell_or (found.0 x)),
    record {
      has = λ x x_in. given_has x (found.0 x) (found.1.given x x_in) (found.1.is_row.has x x_in);
      joined = λ x y x_in contains. given_joined x y (found.0 x) (found.0 y) (found.1.given x x_in)
          (found.1.all x y ((is.neighbours x y x_in).0 contains));
    },
  )

  firsts_of : (row : ℕ → Cell) × IsGoodRow graph nodes row → FirstsExtend
  firsts_of good u below first = (
    good.0 u,
    row_extends graph rs nodes is nothing_fixed good.0 good.1 (λ x w e. absurd (none_some w e)) depth enough u below,
  )

  -- there is a good row exactly where some cell of the first node of each tree extends
  pub trees_have_rows : ((u : ℕ) → u < nodes → IsFirstOfTree rs u
      → (v : Cell) × Extends graph (λ x. None) depth None u v)
      ↔ ((row : ℕ → Cell) × IsGoodRow graph nodes row)
  trees_have_rows = (whole_of, firsts_of)
