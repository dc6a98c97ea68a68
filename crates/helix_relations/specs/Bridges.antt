-- A relation of a forest parts its nodes into two sides.
use Rattle.std.proofs.Common.{◌≡◌, ◌≢◌, ℕ, Bool, true, false, ◌&&◌, ◌||◌, eqb, ◌⊎◌, inl, inr, ⊎_elim, List, [], ◌∷◌, ◌++◌, pos, refl, sym, ap, ◌∙◌, subst}
use Rattle.std.proofs.Math.Path.{subst₂}
use Rattle.std.proofs.lemmas.Bool.{cases_eq, eq-eqb, ne_eqb, or_left, or_right, or_from, and_from, and_left, and_right}
use Rattle.helix_ladders.specs.declared.offset.Offset.TheVariants.{Plain}
use Rattle.helix_profile.specs.declared.relation.Compare.TheVariants.{Equal}
use Rattle.helix_profile.specs.declared.relation.Relation.{Relation}
use Rattle.helix_profile.specs.Forest.{AreJoined, IsForest}
use Rattle.helix_forest.specs.Closing.{AreLinked}
use Rattle.helix_forest.specs.Joins.{AreEnds, joined_back, joined_or_last, no_new_cycle, still_linked, linked_on}
use Rattle.helix_forest.specs.Closed.{closed}

-- a node, or one to which relations lead from it
abbrev IsReached : List Relation → ℕ → ℕ → Type 0
IsReached relations u c = (u ≡ c) ⊎ AreLinked relations u c

-- each node is on the side of the one or of the other, and relations join nodes of one side alone
record AreApart (relations : List Relation) (u c : ℕ) : Type 0 where
  side : ℕ → Bool
  here : side u ≡ false
  there : side c ≡ true
  same : (x y : ℕ) → AreJoined relations x y → side x ≡ side y

module _ (r : Relation) (rs : List Relation) where
  later : (x y : ℕ) → AreJoined rs x y → AreJoined (r ∷ rs) x y
  later x y joined = inr (inr joined)

  linked_later : (x y : ℕ) → AreLinked rs x y → AreLinked (r ∷ rs) x y
  linked_later x y link = still_linked rs (r ∷ rs) later x y link

  reached_later : (x y : ℕ) → IsReached rs x y → IsReached (r ∷ rs) x y
  reached_later x y (inl same) = inl same
  reached_later x y (inr link) = inr (linked_later x y link)

  link_to : (p q c : ℕ) → AreJoined (r ∷ rs) p q → IsReached rs q c → AreLinked (r ∷ rs) p c
  link_to p q c joined (inl same) = ([], subst (AreJoined (r ∷ rs) p) same joined)
  link_to p q c joined (inr link) = linked_on (r ∷ rs) p q c ([], joined) (linked_later q c link)

  link_over : (u p q c : ℕ) → IsReached rs u p → AreJoined (r ∷ rs) p q → IsReached rs q c → AreLinked (r ∷ rs) u c
  link_over u p q c (inl same) joined after =
      subst (λ x. AreLinked (r ∷ rs) x c) (sym same) (link_to p q c joined after)
  link_over u p q c (inr link) joined after =
      linked_on (r ∷ rs) u p c (linked_later u p link) (link_to p q c joined after)

  -- one more relation within a side
  within : (side : ℕ → Bool) → ((x y : ℕ) → AreJoined rs x y → side x ≡ side y) → side r.left ≡ side r.right
      → (x y : ℕ) → AreJoined (r ∷ rs) x y → side x ≡ side y
  within side same ends x y (inl are) = sym (ap side are.0) ∙ (ends ∙ ap side are.1)
  within side same ends x y (inr (inl are)) = sym (ap side are.1) ∙ (sym ends ∙ ap side are.0)
  within side same ends x y (inr (inr joined)) = same x y joined

  still_apart : (u c : ℕ) (apart : AreApart rs u c) → apart.side r.left ≡ apart.side r.right → AreApart (r ∷ rs) u c
  still_apart u c apart ends = record {
    side = apart.side;
    here = apart.here;
    there = apart.there;
    same = within apart.side apart.same ends;
  }

  -- one more relation from the one side to the other
  module _ (u c p q : ℕ) (joined : AreJoined (r ∷ rs) p q)
      (ends : (side : ℕ → Bool) → side p ≡ side q → side r.left ≡ side r.right) (apart : AreApart rs u c)
      (p_here : apart.side p ≡ false) (q_there : apart.side q ≡ true) where
    near_end : (end : AreApart rs u p) → AreApart (r ∷ rs) u c
    near_end end = let both : ℕ → Bool = λ x. apart.side x || end.side x in record {
      side = both;
      here = or_from (apart.side u) (end.side u) apart.here end.here;
      there = or_left (apart.side c) (end.side c) apart.there;
      same = within both (λ x y j. ap (λ b. b || end.side x) (apart.same x y j) ∙ ap (λ b. apart.side y || b) (end.same x y j))
          (ends both (or_right (apart.side p) (end.side p) end.there
          ∙ sym (or_left (apart.side q) (end.side q) q_there)));
    }

    far_end : (end : AreApart rs q c) → AreApart (r ∷ rs) u c
    far_end end = let both : ℕ → Bool = λ x. apart.side x && end.side x in record {
      side = both;
      here = and_left (apart.side u) (end.side u) apart.here;
      there = and_from (apart.side c) (end.side c) apart.there end.there;
      same = within both (λ x y j. ap (λ b. b && end.side x) (apart.same x y j) ∙ ap (λ b. apart.side y && b) (end.same x y j))
          (ends both (and_left (apart.side p) (end.side p) p_here
          ∙ sym (and_right (apart.side q) (end.side q) end.here)));
    }

    across : IsReached rs u p ⊎ AreApart rs u p → IsReached rs q c ⊎ AreApart rs q c
        → IsReached (r ∷ rs) u c ⊎ AreApart (r ∷ rs) u c
    across (inr end) other = inr (near_end end)
    across (inl before) (inr end) = inr (far_end end)
    across (inl before) (inl after) = inl (inr (link_over u p q c before joined after))

  -- the four ways in which the ends are on the two sides
  by_sides : (u c : ℕ) (apart : AreApart rs u c) (a b : Bool) → apart.side r.left ≡ a → apart.side r.right ≡ b
      → IsReached rs u r.left ⊎ AreApart rs u r.left → IsReached rs u r.right ⊎ AreApart rs u r.right
      → IsReached rs r.left c ⊎ AreApart rs r.left c → IsReached rs r.right c ⊎ AreApart rs r.right c
      → IsReached (r ∷ rs) u c ⊎ AreApart (r ∷ rs) u c
  by_sides u c apart false false left right to_left to_right from_left from_right =
      inr (still_apart u c apart (left ∙ sym right))
  by_sides u c apart true true left right to_left to_right from_left from_right =
      inr (still_apart u c apart (left ∙ sym right))
  by_sides u c apart false true left right to_left to_right from_left from_right =
      across u c r.left r.right (inl (refl, refl)) (λ side e. e) apart left right to_left from_right
  by_sides u c apart true false left right to_left to_right from_left from_right =
      across u c r.right r.left (inr (inl (refl, refl))) (λ side e. sym e) apart right left to_right from_left

-- relations lead from one node to the other, or the nodes can be parted
reached_or_apart : (rs : List Relation) (u c : ℕ) → IsReached rs u c ⊎ AreApart rs u c
reached_or_apart [] u c = ⊎_elim (λ same. inl (inl same)) (λ other. inr (record {
  side = λ x. eqb x c;
  here = ne_eqb u c other;
  there = eq-eqb c c refl;
  same = λ x y none. absurd none;
})) (cases_eq u c)
reached_or_apart (r ∷ rs) u c = ⊎_elim
    (λ reached. inl (reached_later r rs u c reached))
    (λ apart. by_sides r rs u c apart (apart.side r.left) (apart.side r.right) refl refl
    (reached_or_apart rs u r.left) (reached_or_apart rs u r.right)
    (reached_or_apart rs r.left c) (reached_or_apart rs r.right c))
    (reached_or_apart rs u c)

-- some relation between two nodes
abbrev line : ℕ → ℕ → Relation
line u c = record { left = u; compare = Equal; right = c; offset = Plain (pos 0) }

-- the two are u and c, one way or the other
abbrev pub ArePair : ℕ → ℕ → ℕ → ℕ → Type 0
ArePair u c x y = ((u ≡ x) × (c ≡ y)) ⊎ ((u ≡ y) × (c ≡ x))

same_pair : (r : Relation) (u c x y : ℕ) → AreEnds r u c → AreEnds r x y → ArePair u c x y
same_pair r u c x y (inl one) (inl two) = inl (sym one.0 ∙ two.0, sym one.1 ∙ two.1)
same_pair r u c x y (inl one) (inr two) = inr (sym one.0 ∙ two.0, sym one.1 ∙ two.1)
same_pair r u c x y (inr one) (inl two) = inr (sym one.1 ∙ two.1, sym one.0 ∙ two.0)
same_pair r u c x y (inr one) (inr two) = inl (sym one.1 ∙ two.1, sym one.0 ∙ two.0)

ends_or_not : (r : Relation) (u c : ℕ) → AreEnds r u c ⊎ ¬ AreEnds r u c
ends_or_not r u c = by_ends (cases_eq r.left u) (cases_eq r.right c) (cases_eq r.left c) (cases_eq r.right u)
  where
    by_ends : (r.left ≡ u) ⊎ (r.left ≢ u) → (r.right ≡ c) ⊎ (r.right ≢ c) → (r.left ≡ c) ⊎ (r.left ≢ c)
        → (r.right ≡ u) ⊎ (r.right ≢ u) → AreEnds r u c ⊎ ¬ AreEnds r u c
    by_ends (inl a) (inl b) c d = inl (inl (a, b))
    by_ends a b (inl c) (inl d) = inl (inr (c, d))
    by_ends (inr a) b (inr c) d = inr (λ ends. ⊎_elim (λ e. a e.0) (λ e. c e.0) ends)
    by_ends (inr a) b c (inr d) = inr (λ ends. ⊎_elim (λ e. a e.0) (λ e. d e.1) ends)
    by_ends a (inr b) (inr c) d = inr (λ ends. ⊎_elim (λ e. b e.1) (λ e. c e.0) ends)
    by_ends a (inr b) c (inr d) = inr (λ ends. ⊎_elim (λ e. b e.1) (λ e. d e.1) ends)

-- the relations other than those between u and c
record Others (relations : List Relation) (u c : ℕ) : Type 0 where
  others : List Relation
  of : (x y : ℕ) → AreJoined others x y → AreJoined relations x y
  to : (x y : ℕ) → AreJoined relations x y → ArePair u c x y ⊎ AreJoined others x y
  none : ¬ AreJoined others u c

module _ (r : Relation) (rs : List Relation) (u c : ℕ) (rest : Others rs u c) where
  left_out : AreEnds r u c → Others (r ∷ rs) u c
  left_out ends = record {
    others = rest.others;
    of = λ x y joined. inr (inr (rest.of x y joined));
    to = to_others;
    none = rest.none;
  }
    where
      to_others : (x y : ℕ) → AreJoined (r ∷ rs) x y → ArePair u c x y ⊎ AreJoined rest.others x y
      to_others x y (inl are) = inl (same_pair r u c x y ends (inl are))
      to_others x y (inr (inl are)) = inl (same_pair r u c x y ends (inr are))
      to_others x y (inr (inr joined)) = rest.to x y joined

  kept : ¬ AreEnds r u c → Others (r ∷ rs) u c
  kept other = record { others = r ∷ rest.others; of = of_others; to = to_others; none = none_of }
    where
      of_others : (x y : ℕ) → AreJoined (r ∷ rest.others) x y → AreJoined (r ∷ rs) x y
      of_others x y (inl are) = inl are
      of_others x y (inr (inl are)) = inr (inl are)
      of_others x y (inr (inr joined)) = inr (inr (rest.of x y joined))

      to_others : (x y : ℕ) → AreJoined (r ∷ rs) x y → ArePair u c x y ⊎ AreJoined (r ∷ rest.others) x y
      to_others x y (inl are) = inr (inl are)
      to_others x y (inr (inl are)) = inr (inr (inl are))
      to_others x y (inr (inr joined)) =
          ⊎_elim (λ pair. inl pair) (λ later. inr (inr (inr later))) (rest.to x y joined)

      none_of : AreJoined (r ∷ rest.others) u c → ⊥
      none_of (inl are) = other (inl are)
      none_of (inr (inl are)) = other (inr are)
      none_of (inr (inr joined)) = rest.none joined

others_of : (rs : List Relation) (u c : ℕ) → Others rs u c
others_of [] u c = record {
  others = [];
  of = λ x y none. none;
  to = λ x y none. absurd none;
  none = λ none. none;
}
others_of (r ∷ rs) u c = ⊎_elim (λ ends. left_out r rs u c (others_of rs u c) ends)
    (λ other. kept r rs u c (others_of rs u c) other) (ends_or_not r u c)

-- u is on the one side and c on the other, and no other pair is on two sides
pub record IsBridge (relations : List Relation) (u c : ℕ) (side : ℕ → Bool) : Type 0 where
  pub here : side u ≡ false
  pub there : side c ≡ true
  pub same : (x y : ℕ) → AreJoined relations x y → ArePair u c x y ⊎ (side x ≡ side y)

module _ (rs : List Relation) (u c : ℕ) (joined : AreJoined rs u c) where
  joined_pair : (x y : ℕ) → ArePair u c x y → AreJoined rs x y
  joined_pair x y (inl are) = subst₂ (AreJoined rs) are.0 are.1 joined
  joined_pair x y (inr are) = joined_back rs y x (subst₂ (AreJoined rs) are.0 are.1 joined)

  no_other_way : (rest : Others rs u c) → IsForest rs → u ≢ c → IsReached rest.others u c → ⊥
  no_other_way rest forest differ (inl same) = differ same
  no_other_way rest forest differ (inr link) = closed rest.others (line u c) rest.none differ link
      (no_new_cycle (rest.others ++ line u c ∷ []) rs
      (λ x y j. ⊎_elim (λ other. rest.of x y other) (λ ends. joined_pair x y ends)
      (joined_or_last rest.others (line u c) x y j)) forest)

  pub bridge : IsForest rs → u ≢ c → (side : ℕ → Bool) × IsBridge rs u c side
  bridge forest differ = let rest : Others rs u c = others_of rs u c in ⊎_elim
      (λ reached. absurd (no_other_way rest forest differ reached))
      (λ apart. (
        apart.side,
        record {
          here = apart.here;
          there = apart.there;
          same = λ x y j. ⊎_elim (λ pair. inl pair) (λ other. inr (apart.same x y other)) (rest.to x y j);
        },
      ))
      (reached_or_apart rest.others u c)
