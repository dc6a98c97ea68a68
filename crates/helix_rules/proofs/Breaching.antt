-- The rules, tried one after the other.
use Rattle.std.proofs.Common.{◌≡◌, ℕ, zero, suc, ◌+◌, ◌<◌, ◌≤◌, List, [], ◌∷◌, length, Option, Some, None, Result, IfOk, get_or, refl, sym, subst, arith}
use Rattle.std.proofs.lemmas.Option.{slice_get_read}
use Rattle.helix_base.specs.declared.memory.Memory.{Memory}
use Rattle.helix_json.specs.declared.value.Json.{Json}
use Rattle.helix_json.specs.Values.{HasNoRepeatedKey}
use Rattle.helix_places.specs.declared.place.Step.{Step}
use Rattle.helix_places.specs.KeyLaws.{NoneBefore, none_at_all, none_more}
use Rattle.helix_places.specs.PartLaws.{Named, Says}
use Rattle.helix_places.specs.Places.{Finds}
use Rattle.helix_profile.specs.declared.field.Field.{Field}
use Rattle.helix_rules.specs.declared.rule.Rule.{Rule}
use Rattle.helix_rules.specs.declared.breach.Breach.{Breach}
use Rattle.helix_rules.specs.Breaches.{FindsBreach}
use Rattle.helix_rules.specs.Broken.{Broken}

get_or_read : (rules : List Rule) (i : ℕ) (d : Rule) → i < length rules
    → get_or rules i d ≡ get_or rules i (get_or rules i d)
get_or_read [] i d within = absurd (omega arith)
get_or_read (rule ∷ rules) zero d within = refl
get_or_read (rule ∷ rules) (suc i) d within = get_or_read rules i d (omega arith)

abbrev IsBroken : List Field → Json → Rule → Type 0
IsBroken fields v rule = Named (Broken fields rule) v

-- none of the first rules is broken
abbrev pub NoneBroken : List Field → List Rule → Json → ℕ → Type 0
NoneBroken fields rules v i = HasNoRepeatedKey v → NoneBefore (IsBroken fields v) rules i

-- what a search for the breach says
abbrev pub SaysBreach : List Field → List Rule → Json → Option Breach → Type 0
SaysBreach fields rules v found = HasNoRepeatedKey v → FindsBreach fields rules v found

module _ (fields : List Field) (rules : List Rule) (v : Json) (i : ℕ) where
  pub no_more_rules : length rules ≤ i → NoneBroken fields rules v i → SaysBreach fields rules v None
  no_more_rules all none keys k rule is place h =
      none_at_all (IsBroken fields v) rules i k rule all (none keys) is (place, h)

  module _ (d : Rule) (within : i < length rules) (none : NoneBroken fields rules v i) (found : Option (List Step))
      (says : Says (Broken fields (get_or rules i d)) v found)
    where
      rule : Rule
      rule = get_or rules i d

      is_read : rule ≡ get_or rules i rule
      unfolding rule
      is_read = get_or_read rules i d within

      nowhere : (o : Option (List Step)) → found ≡ o → ((place : List Step) → found ≡ Some place → ⊥)
          → HasNoRepeatedKey v → ¬ (IsBroken fields v rule)
      unfolding rule
      nowhere None is not_found keys named =
          let Q : Option (List Step) → Type 0 = λ o. Finds v (Broken fields (get_or rules i d) v) o in
          subst Q is (says keys) named.0 named.1
      nowhere (Some place) is not_found keys named = not_found place is

      pub next_rule : ((place : List Step) → found ≡ Some place → ⊥) → NoneBroken fields rules v (i + 1)
      next_rule not_found keys = none_more (IsBroken fields v) rules i rule within is_read (none keys)
          (nowhere found refl not_found keys)

      pub found_rule : (place : List Step) → found ≡ Some place
          → SaysBreach fields rules v (Some (record { rule = get_or rules i d; place = place }))
      unfolding rule
      found_rule place is keys = record {
        index = i;
        listed = slice_get_read rules (length rules) i rule refl within is_read;
        earlier = λ k below other other_is there h. none keys k below other other_is (there, h);
        first = let Q : Option (List Step) → Type 0 = λ o. Finds v (Broken fields (get_or rules i d) v) o in
            subst Q is (says keys);
      }

-- what was found for one rule
pub by_rule : (fields : List Field) (v : Json) (one which : Rule) (r : Result (Option (List Step)) Memory) → which ≡ one
    → IfOk r (Says (Broken fields one) v) → IfOk r (Says (Broken fields which) v)
by_rule fields v one which r is says = let Q : Rule → Type 0 = λ n. IfOk r (Says (Broken fields n) v) in
    subst Q (sym is) says
