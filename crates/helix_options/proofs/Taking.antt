-- What is taken from the paths that are left, and with which premises.
use Rattle.std.proofs.Common.{◌≡◌, Option, None, Some, MatchOption, List, [], ◌∷◌, refl, subst, sym}
use Rattle.std.specs.List.{AllByRecursion}
use Rattle.helix_profile.specs.Content.{Content}
use Rattle.helix_profile.specs.Fields.{all_relations}
use Rattle.helix_partition.specs.declared.partition.Partition.{Partition}
use Rattle.helix_relations.specs.Region.{RegionContent}
use Rattle.helix_tree.specs.declared.literal.Literal.{Literal}
use Rattle.std.specs.Prelude.{ℕ}
use Rattle.helix_options.proofs.Finding.{AreFoundOf, valid_next, next_found}
use Rattle.helix_options.specs.Literals.{IsLiteralOf}
use Rattle.helix_options.specs.Paths.{IsExactFor, AreValidFor}
use Rattle.helix_options.specs.Inner.Keeping.{AddsRegion}

pub taken_from : (o : Option (List Literal)) (old new : List (List Literal))
    → MatchOption o ((old ≡ []) × (new ≡ [])) (λ path. old ≡ path ∷ new) → (path : List Literal) → o ≡ Some path
    → old ≡ path ∷ new
taken_from o old new matches path is =
    subst (λ p. MatchOption p ((old ≡ []) × (new ≡ [])) (λ first. old ≡ first ∷ new)) is matches

pub none_taken_from : (o : Option (List Literal)) (old new : List (List Literal))
    → MatchOption o ((old ≡ []) × (new ≡ [])) (λ path. old ≡ path ∷ new) → ((path : List Literal) → ¬ (o ≡ Some path))
    → old ≡ []
none_taken_from None old new matches none = matches.0
none_taken_from (Some path) old new matches none = absurd (none path refl)

module _ (profile : Content) (part : Partition) (all before left : List (List Literal)) (regions : List RegionContent)
    (so_far : AreFoundOf profile part all before regions) (o : Option (List Literal))
    (matches : MatchOption o ((before ≡ []) × (left ≡ [])) (λ path. before ≡ path ∷ left)) (path : List Literal)
    (is : o ≡ Some path) (fields : List ℕ) (fields_is : fields ≡ part.fields) (slice : List Literal)
    (slice_is : slice ≡ path) where
  pub valid_taken : AreValidFor profile part all
      → AllByRecursion (IsLiteralOf profile.fields fields (all_relations profile.constraints)) slice
  valid_taken valid =
      subst (λ ns. AllByRecursion (IsLiteralOf profile.fields ns (all_relations profile.constraints)) slice)
      (sym fields_is)
      (subst (λ p. AllByRecursion (IsLiteralOf profile.fields part.fields (all_relations profile.constraints)) p)
      (sym slice_is)
      (valid_next profile part all before regions valid so_far path left (taken_from o before left matches path is)))

  pub found_taken : IsExactFor profile part all → (new : List RegionContent)
      → AddsRegion profile fields slice regions new → AreFoundOf profile part all left new
  found_taken exact new adds = next_found profile part all exact path before left regions new so_far
      (taken_from o before left matches path is)
      (subst (λ p. AddsRegion profile part.fields p regions new) slice_is
      (subst (λ ns. AddsRegion profile ns slice regions new) fields_is adds))
