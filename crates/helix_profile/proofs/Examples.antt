-- Known values of the definitions that no function computes.
use Rattle.std.proofs.Common.{◌≡◌, ℕ, [], ◌∷◌, None, true, false, inl, inr, refl}
use Rattle.helix_ladders.specs.declared.offset.Offset.TheVariants as offset
use Rattle.std.specs.Prelude.{pos}
use Rattle.helix_profile.specs.Forest.{IsCycle}
use Rattle.helix_profile.specs.Violation.{negated_at}
use Rattle.helix_profile.specs.Width.{width, complement_width, is_chained, widest_group}
use Rattle.helix_profile.specs.declared.constraint.Constraint.{Constraint, Atom, Related}
use Rattle.helix_profile.specs.declared.constraint.Constraint.TheViews.{Not, AnyOf, If}
use Rattle.helix_profile.specs.declared.relation.Compare.TheVariants as compare
use Rattle.helix_profile.specs.declared.relation.Relation.{Relation}
use Rattle.helix_profile.specs.declared.test.Test.TheVariants as test

-- a test of a field
abbrev on : ℕ → Constraint
on field = Atom (record { field = field; test = test.IsNull true })

abbrev above : ℕ → ℕ → Relation
above left right = record { left = left; compare = compare.Above; right = right; offset = offset.Plain (pos 0) }

-- a choice of two tests has two disjoint options, and one where both fail
choice_width : width (AnyOf (on 0 ∷ on 1 ∷ [])) true ≡ 2
unfolding Rattle.helix_profile.specs.declared.constraint.Constraint.TheBlock.hidden-the_row-Constraint-1
    denote.Hole.Carrier.hidden
choice_width = refl

choice_complement : complement_width (AnyOf (on 0 ∷ on 1 ∷ [])) true ≡ 1
unfolding Rattle.helix_profile.specs.declared.constraint.Constraint.TheBlock.hidden-the_row-Constraint-1
    denote.Hole.Carrier.hidden
choice_complement = refl

-- a relation has three: the left end null, the right end null alone, both values
relation_width : width (Related (above 0 1)) true ≡ 3
relation_width = refl

-- a condition counts as any of: both parts, or the negated condition
condition_width : width (If (on 0) (on 1) None) true ≡ 3
unfolding Rattle.helix_profile.specs.declared.constraint.Constraint.TheBlock.hidden-the_row-Constraint-0
    denote.Hole.Carrier.hidden
condition_width = refl

negated_condition_width : width (If (on 0) (on 1) None) false ≡ 1
unfolding Rattle.helix_profile.specs.declared.constraint.Constraint.TheBlock.hidden-the_row-Constraint-0
    denote.Hole.Carrier.hidden
negated_condition_width = refl

-- three relations round three fields are a cycle
round : IsCycle (above 0 1 ∷ above 1 2 ∷ above 2 0 ∷ []) (0 ∷ 1 ∷ 2 ∷ [])
round = (
  (((λ e. cc e), ((λ e. cc e), tt)), (((λ e. cc e), tt), (tt, tt))),
  (inl (refl, refl), (inr (inr (inl (refl, refl))), inr (inr (inr (inr (inl (refl, refl))))))),
)

-- the constraint of number 2 is negated, and one that isn't there changes nothing
second_negated : negated_at (on 0 ∷ on 1 ∷ []) 2 ≡ on 0 ∷ Not (on 1) ∷ []
second_negated = refl

none_negated : negated_at (on 0 ∷ on 1 ∷ []) 3 ≡ on 0 ∷ on 1 ∷ []
none_negated = refl

abbrev choice : ℕ → ℕ → Constraint
choice one other = AnyOf (on one ∷ on other ∷ [])

-- two choices of different fields are two groups, and a relation between them makes them one
apart : widest_group (choice 0 1 ∷ choice 2 3 ∷ []) 4 ≡ 2
unfolding Rattle.helix_profile.specs.declared.constraint.Constraint.TheBlock.hidden-the_row-Constraint-1
    denote.Hole.Carrier.hidden widest_group is_chained
apart = refl

joined : widest_group (choice 0 1 ∷ Related (above 1 2) ∷ choice 2 3 ∷ []) 4 ≡ 12
unfolding Rattle.helix_profile.specs.declared.constraint.Constraint.TheBlock.hidden-the_row-Constraint-1
    denote.Hole.Carrier.hidden widest_group is_chained
joined = refl
