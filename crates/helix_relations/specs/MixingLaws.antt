-- Rows of some kind over a forest, and one row on each side of a bridge. Lemmas.
use Rattle.std.proofs.Common.{◌≡◌, ◌≢◌, ℕ, ◌<◌, Bool, true, false, cond, is_some, ◌⊎◌, inl, inr, ⊎_elim, List, Option, None, Some, sym, ap, ◌∙◌, subst}
use Rattle.std.proofs.Math.Path.{subst₂}
use Rattle.std.proofs.lemmas.Bool.{cases_eq, cases_Bool, cond-true, cond-false, cond_both, true≢false}
use Rattle.std.proofs.lemmas.Option.{same_Some}
use Rattle.helix_values.specs.declared.cell.Cell.{Cell}
use Rattle.helix_profile.specs.declared.relation.Relation.{Relation}
use Rattle.helix_profile.specs.Forest.{AreJoined}
use Rattle.helix_forest.specs.Joins.{joined_back}
use Rattle.helix_search.specs.Extending.{Graph}
use Rattle.helix_relations.specs.Rows.{IsForestOf}
use Rattle.helix_relations.specs.Bridges.{IsBridge}
use Rattle.helix_relations.specs.TrailLaws.{ArePlaced, placed}

-- a graph with its relations and fixed cells, and rows of some kind whose entries stand for its cells
pub record Setting : Type 1 where
  pub graph : Graph
  pub relations : List Relation
  pub nodes : ℕ
  pub is : IsForestOf graph relations nodes
  pub fixed : ℕ → Option Cell
  pub Entry : Type 0
  pub entry : Cell → Entry
  pub Has : ℕ → Entry → Type 0
  pub Joined : ℕ → ℕ → Entry → Entry → Type 0
  pub has : (u : ℕ) (v : Cell) → graph.Has u v → Has u (entry v)
  pub joined : (u c : ℕ) (v w : Cell) → graph.Joined u c v w → Joined u c (entry v) (entry w)
  pub inverse : (u c : ℕ) (p v : Entry) → AreJoined relations u c → Has u p → Has c v → Joined u c p v → Joined c u v p

-- each node has one of its entries, and each fixed node that of its cell
pub record IsRow (s : Setting) (row : ℕ → s.Entry) : Type 0 where
  pub has : (x : ℕ) → x < s.nodes → s.Has x (row x)
  pub fixes : (x : ℕ) (w : Cell) → s.fixed x ≡ Some w → row x ≡ s.entry w

abbrev pub Stands : (s : Setting) → (ℕ → s.Entry) → ℕ → ℕ → Type 0
Stands s row x y = s.Joined x y (row x) (row y)

-- each pair that is joined stands
abbrev pub AllStand : (s : Setting) → (ℕ → s.Entry) → Type 0
AllStand s row = (x y : ℕ) → AreJoined s.relations x y → Stands s row x y

-- a row with this entry at u, in which all pairs without u stand, and those of u with some nodes
pub record IsAround (s : Setting) (u : ℕ) (v : s.Entry) (Done : ℕ → Type 0) (row : ℕ → s.Entry) : Type 0 where
  pub is_row : IsRow s row
  pub is : row u ≡ v
  pub apart : (x y : ℕ) → AreJoined s.relations x y → x ≢ u → y ≢ u → Stands s row x y
  pub done : (y : ℕ) → Done y → Stands s row u y

pub none_some : {A : Type 0} (x : A) → None ≡ Some x → ⊥
none_some x e = true≢false (sym (ap is_some e))

module _ (s : Setting) where
  pub place : (x y : ℕ) → AreJoined s.relations x y → ArePlaced s.nodes x y
  place x y joined = placed s.nodes s.relations s.is.ends x y joined

  pub stands_back : (row : ℕ → s.Entry) → IsRow s row → (x y : ℕ) → AreJoined s.relations x y → Stands s row x y
      → Stands s row y x
  stands_back row is_row x y joined stands = let at : ArePlaced s.nodes x y = place x y joined in
      s.inverse x y (row x) (row y) joined (is_row.has x at.left) (is_row.has y at.right) stands

  pub fewer : (u : ℕ) (v : s.Entry) (D E : ℕ → Type 0) (row : ℕ → s.Entry) → IsAround s u v D row
      → ((y : ℕ) → E y → D y) → IsAround s u v E row
  fewer u v D E row around of = record {
    is_row = around.is_row;
    is = around.is;
    apart = around.apart;
    done = λ y e. around.done y (of y e);
  }

  -- what is joined with u, but for the node before it
  abbrev pub Beyond : Option ℕ → ℕ → ℕ → Type 0
  Beyond from u y = AreJoined s.relations u y × (from ≢ Some y)

  -- in the row of a branch behind u all pairs without u stand
  pub branch_stands : (u c : ℕ) (w : s.Entry) (row : ℕ → s.Entry) → IsAround s c w (Beyond (Some u) c) row → (x y : ℕ)
      → AreJoined s.relations x y → x ≢ u → y ≢ u → Stands s row x y
  branch_stands u c w row around x y joined x_off y_off = ⊎_elim
      (λ x_is. subst (λ k. Stands s row k y) (sym x_is)
      (around.done y (subst (λ k. AreJoined s.relations k y) x_is joined, λ e. y_off (sym (same_Some u y e)))))
      (λ x_other. ⊎_elim
      (λ y_is. stands_back row around.is_row y x (joined_back s.relations x y joined)
      (subst (λ k. Stands s row k x) (sym y_is)
      (around.done x (
        subst (λ k. AreJoined s.relations k x) y_is (joined_back s.relations x y joined),
        λ e. x_off (sym (same_Some u x e)),
      ))))
      (λ y_other. around.apart x y joined x_other y_other)
      (cases_eq y c))
      (cases_eq x c)

  -- a row with which a neighbour c of u comes
  pub record IsWith (u c : ℕ) (v : s.Entry) (row : ℕ → s.Entry) : Type 0 where
    pub is_row : IsRow s row
    pub joined : s.Joined u c v (row c)
    pub stands : (x y : ℕ) → AreJoined s.relations x y → x ≢ u → y ≢ u → Stands s row x y

  -- one row on the far side of a bridge, and another one on the near side
  module _ (u c : ℕ) (v : s.Entry) (side : ℕ → Bool) (between : IsBridge s.relations u c side) (a b : ℕ → s.Entry) where
    abbrev pub mixed : ℕ → s.Entry
    mixed x = cond (side x) (b x) (a x)

    far : (x : ℕ) → side x ≡ true → b x ≡ mixed x
    far x e = sym (cond-true (side x) (b x) (a x) e)

    near : (x : ℕ) → side x ≡ false → a x ≡ mixed x
    near x e = sym (cond-false (side x) (b x) (a x) e)

    mixed_row : IsRow s a → IsRow s b → IsRow s mixed
    mixed_row one two = record {
      has = λ x below. cond_both (side x) (b x) (a x) (s.Has x) (λ _. two.has x below) (λ _. one.has x below);
      fixes = λ x w is. cond_both (side x) (b x) (a x) (λ z. z ≡ s.entry w) (λ _. two.fixes x w is)
          (λ _. one.fixes x w is);
    }

    on_near : (x y : ℕ) → side x ≡ false → side y ≡ false → Stands s a x y → Stands s mixed x y
    on_near x y x_near y_near stands = subst₂ (s.Joined x y) (near x x_near) (near y y_near) stands

    on_far : (x y : ℕ) → side x ≡ true → side y ≡ true → Stands s b x y → Stands s mixed x y
    on_far x y x_far y_far stands = subst₂ (s.Joined x y) (far x x_far) (far y y_far) stands

    module _ (Done : ℕ → Type 0) (around : IsAround s u v Done a) (beside : IsWith u c v b)
        (are_joined : (y : ℕ) → Done y → AreJoined s.relations u y) where
      mixed_apart : (x y : ℕ) → AreJoined s.relations x y → x ≢ u → y ≢ u → Stands s mixed x y
      mixed_apart x y joined x_off y_off = ⊎_elim
          (λ pair. absurd (⊎_elim (λ e. x_off (sym e.0)) (λ e. y_off (sym e.0)) pair))
          (λ e. ⊎_elim
          (λ x_far. on_far x y x_far (sym e ∙ x_far) (beside.stands x y joined x_off y_off))
          (λ x_near. on_near x y x_near (sym e ∙ x_near) (around.apart x y joined x_off y_off))
          (cases_Bool (side x)))
          (between.same x y joined)

      mixed_here : Stands s mixed u c
      mixed_here = subst₂ (s.Joined u c) (sym around.is ∙ near u between.here) (far c between.there) beside.joined

      mixed_done : (y : ℕ) → (c ≡ y) ⊎ Done y → Stands s mixed u y
      mixed_done y (inl here) = subst (Stands s mixed u) here mixed_here
      mixed_done y (inr done) = let joined : AreJoined s.relations u y = are_joined y done in ⊎_elim
          (λ pair. ⊎_elim (λ e. subst (Stands s mixed u) e.1 mixed_here)
          (λ e. absurd ((place u y joined).different e.0)) pair)
          (λ e. on_near u y between.here (sym e ∙ between.here) (around.done y done))
          (between.same u y joined)

      pub with_branch : IsAround s u v (λ y. (c ≡ y) ⊎ Done y) mixed
      with_branch = record {
        is_row = mixed_row around.is_row beside.is_row;
        is = sym (near u between.here) ∙ around.is;
        apart = mixed_apart;
        done = mixed_done;
      }
