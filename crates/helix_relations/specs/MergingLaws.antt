-- A cell that extends is that of some good row, merged from those of the branches. Lemmas over any kind of rows.
use Rattle.std.proofs.Common.{◌≡◌, ◌≢◌, ℕ, zero, suc, ◌<◌, true, cond, eqb, ◌⊎◌, inl, inr, ⊎_elim, List, [], ◌∷◌, Option, None, Some, Contains, refl, sym, ap, ◌∙◌, subst, arith}
use Rattle.std.proofs.Math.Path.{subst₂}
use Rattle.std.proofs.lemmas.Bool.{cases_eq, eq-eqb, eqb-true, ne_eqb, cond-true, cond-false, cond_both}
use Rattle.std.proofs.lemmas.List.Elements.{Contains-append_right}
use Rattle.std.proofs.lemmas.Map.Made.{Contains-tail}
use Rattle.std.proofs.lemmas.Option.{same_Some}
use Rattle.helix_values.specs.declared.cell.Cell.{Cell}
use Rattle.helix_profile.specs.Forest.{AreJoined}
use Rattle.helix_forest.specs.Joins.{joined_back}
use Rattle.helix_search.specs.Extending.{HasPartner, Extends}
use Rattle.helix_relations.specs.Bridges.{bridge}
use Rattle.helix_relations.specs.MixingLaws.{Setting, IsRow, Stands, AllStand, IsAround, none_some, place, stands_back, fewer, Beyond, branch_stands, IsWith, mixed, with_branch}

module _ (s : Setting) where
  module _ (base : ℕ → s.Entry) (is_row : IsRow s base) (all : AllStand s base) where
    -- another entry at a node that isn't fixed
    module _ (u : ℕ) (v : s.Entry) (has : s.Has u v) (free : s.fixed u ≡ None) where
      abbrev changed : ℕ → s.Entry
      changed x = cond (eqb x u) v (base x)

      at_other : (x : ℕ) → x ≢ u → base x ≡ changed x
      at_other x other = sym (cond-false (eqb x u) v (base x) (ne_eqb x u other))

      changed_row : IsRow s changed
      changed_row = record {
        has = λ x below. cond_both (eqb x u) v (base x) (s.Has x)
            (λ e. subst (λ k. s.Has k v) (sym (same_number x u e)) has) (λ _. is_row.has x below);
        fixes = λ x w is. cond_both (eqb x u) v (base x) (λ z. z ≡ s.entry w)
            (λ e. absurd (none_some w (sym free ∙ (ap s.fixed (sym (same_number x u e)) ∙ is))))
            (λ _. is_row.fixes x w is);
      }
        where
          same_number : (x u : ℕ) → eqb x u ≡ true → x ≡ u
          same_number x u e = eqb-true x u e

      start : (Done : ℕ → Type 0) → ((y : ℕ) → Done y → ⊥) → IsAround s u v Done changed
      start Done none = record {
        is_row = changed_row;
        is = cond-true (eqb u u) v (base u) (eq-eqb u u refl);
        apart = λ x y joined x_off y_off. subst₂ (s.Joined x y) (at_other x x_off) (at_other y y_off) (all x y joined);
        done = λ y done. absurd (none y done);
      }

      abbrev Comes : ℕ → Type 0
      Comes c = (row : ℕ → s.Entry) × IsWith s u c v row

      came_from : (from : Option ℕ) (c : ℕ) → (from ≡ Some c) ⊎ (from ≢ Some c)
      came_from None c = inr (none_some c)
      came_from (Some f) c = ⊎_elim (λ e. inl (ap Some e)) (λ other. inr (λ e. other (same_Some f c e))) (cases_eq f c)

      abbrev Among : Option ℕ → List ℕ → ℕ → Type 0
      Among from cs y = Contains cs y × (from ≢ Some y)

      abbrev Merged : Option ℕ → List ℕ → Type 0
      Merged from cs = (row : ℕ → s.Entry) × IsAround s u v (Among from cs) row

      later : (c y : ℕ) (cs : List ℕ) → Contains cs y → Contains (c ∷ cs) y
      later c y cs contains = Contains-append_right (c ∷ []) cs y contains

      here_or_later : (from : Option ℕ) (c y : ℕ) (cs : List ℕ) → Among from (c ∷ cs) y → (c ≡ y) ⊎ Among from cs y
      here_or_later from c y cs among = ⊎_elim (λ here. inl here)
          (λ other. inr (Contains-tail c cs y other among.0, among.1)) (cases_eq c y)

      -- the rows of the neighbours in a list, but for the node before u
      neighbours_merged : (from : Option ℕ) (cs : List ℕ) → ((c : ℕ) → Contains cs c → AreJoined s.relations u c)
          → ((c : ℕ) → Contains cs c → from ≢ Some c → Comes c) → Merged from cs
      neighbours_merged from [] joined comes =
          (changed, start (Among from []) (λ y among. absurd (omega (arith, among.0.1))))
      neighbours_merged from (c ∷ cs) joined comes =
          let rest : Merged from cs = neighbours_merged from cs (λ y in_cs. joined y (later c y cs in_cs))
          (λ y in_cs other. comes y (later c y cs in_cs) other) in
          ⊎_elim
          (λ here. (
            rest.0,
            fewer s u v (Among from cs) (Among from (c ∷ cs)) rest.0 rest.1
                (λ y among. ⊎_elim (λ e. absurd (among.1 (here ∙ ap Some e))) (λ after. after)
                (here_or_later from c y cs among)),
          ))
          (λ other.
          let first : Contains (c ∷ cs) c = (0, omega arith, refl) in
          let with_row : Comes c = comes c first other in
          let crossing = bridge s.relations u c (joined c first) s.is.forest (place s u c (joined c first)).different in (
            mixed s u c v crossing.0 crossing.1 rest.0 with_row.0,
            fewer s u v (λ y. (c ≡ y) ⊎ Among from cs y) (Among from (c ∷ cs))
                (mixed s u c v crossing.0 crossing.1 rest.0 with_row.0)
                (with_branch s u c v crossing.0 crossing.1 rest.0 with_row.0 (Among from cs) rest.1 with_row.1
                (λ y among. joined y (later c y cs among.0)))
                (λ y among. here_or_later from c y cs among),
          ))
          (came_from from c)

    abbrev Branch : Option ℕ → ℕ → Cell → Type 0
    Branch from u v = (row : ℕ → s.Entry) × IsAround s u (s.entry v) (Beyond s from u) row

    -- the row with which a neighbour comes: the given one where it is fixed, else that of its branch
    comes_by : (u c : ℕ) (v : Cell) (o : Option Cell) (Extended : Cell → Type 0) → s.fixed c ≡ o
        → HasPartner (λ w. s.graph.Joined u c v w) Extended o
        → (o ≡ None → (w : Cell) → Extended w → Branch (Some u) c w)
        → (row : ℕ → s.Entry) × IsWith s u c (s.entry v) row
    comes_by u c v (Some w) Extended is_fixed joined branch = (
      base,
      record {
        is_row = is_row;
        joined = subst (s.Joined u c (s.entry v)) (sym (is_row.fixes c w is_fixed)) (s.joined u c v w joined);
        stands = λ x y pair x_off y_off. all x y pair;
      },
    )
    comes_by u c v None Extended free partner branch =
        let w : Cell = partner.0 in
        let found : Branch (Some u) c w = branch refl w partner.1 in (
          found.0,
          record {
            is_row = found.1.is_row;
            joined = subst (s.Joined u c (s.entry v)) (sym found.1.is) (s.joined u c v w partner.2);
            stands = branch_stands s u c (s.entry w) found.0 found.1;
          },
        )

    branch_of : (depth : ℕ) (from : Option ℕ) (u : ℕ) (v : Cell) → u < s.nodes → s.fixed u ≡ None
        → Extends s.graph s.fixed depth from u v → Branch from u v
    branch_of zero from u v below free none = absurd none
    branch_of (suc depth) from u v below free extends =
        let row : Merged u (s.entry v) (s.has u v extends.0) free from (s.graph.neighbours u) =
        neighbours_merged u (s.entry v) (s.has u v extends.0) free from (s.graph.neighbours u)
        (λ c contains. (s.is.neighbours u c below).0 contains)
        (λ c contains other. comes_by u c v (s.fixed c) (λ w. Extends s.graph s.fixed depth (Some u) c w) refl
        (extends.1 c contains other)
        (λ none w extended. branch_of depth (Some u) c w (place s u c ((s.is.neighbours u c below).0 contains)).right
        none extended)) in (
          row.0,
          fewer s u (s.entry v) (Among u (s.entry v) (s.has u v extends.0) free from (s.graph.neighbours u))
              (Beyond s from u) row.0 row.1
              (λ y beyond. ((s.is.neighbours u y below).1 beyond.0, beyond.1)),
        )

    -- a cell that extends from a node that isn't fixed is that of a row in which all pairs stand
    pub whole_row : (depth : ℕ) (u : ℕ) (v : Cell) → u < s.nodes → s.fixed u ≡ None
        → Extends s.graph s.fixed depth None u v
        → (row : ℕ → s.Entry) × IsRow s row × AllStand s row × (row u ≡ s.entry v)
    whole_row depth u v below free extends =
        let found : Branch None u v = branch_of depth None u v below free extends in
        let at : (y : ℕ) → AreJoined s.relations u y → Stands s found.0 u y =
        λ y joined. found.1.done y (joined, none_some y) in (
          found.0,
          found.1.is_row,
          (λ x y joined. ⊎_elim
              (λ x_is. subst (λ k. Stands s found.0 k y) (sym x_is)
              (at y (subst (λ k. AreJoined s.relations k y) x_is joined)))
              (λ x_off. ⊎_elim
              (λ y_is. stands_back s found.0 found.1.is_row y x (joined_back s.relations x y joined)
              (subst (λ k. Stands s found.0 k x) (sym y_is)
              (at x (subst (λ k. AreJoined s.relations k x) y_is (joined_back s.relations x y joined)))))
              (λ y_off. found.1.apart x y joined x_off y_off)
              (cases_eq y u))
              (cases_eq x u)),
          found.1.is,
        )
