-- Where none of the rules finds a breach, each rule is broken nowhere.
use Rattle.std.proofs.Common.{List, [], ◌∷◌, None, refl}
use Rattle.helix_json.specs.declared.value.Json.{Json}
use Rattle.helix_profile.specs.declared.field.Field.{Field}
use Rattle.helix_rules.specs.Breaches.{FindsBreach}
use Rattle.helix_rules.specs.declared.rule.Rule.TheVariants as rule
use Rattle.helix_validity.specs.Unbroken.{IsUnbrokenProfile, profile_rules}

module _ (fields : List Field) (v : Json) (first : FindsBreach fields (rule.S1 ∷ []) v None)
    (rest : FindsBreach fields profile_rules v None)
  where
    pub unbroken : IsUnbrokenProfile fields v
    unbroken rule.S1 = first 0 rule.S1 refl
    unbroken rule.J1 = λ place broken. broken
    unbroken rule.J2 = λ place broken. broken
    unbroken rule.J3 = λ place broken. broken
    unbroken rule.J4 = λ place broken. broken
    unbroken rule.J5 = λ place broken. broken
    unbroken rule.L1 = λ place broken. broken
    unbroken rule.L2 = λ place broken. broken
    unbroken rule.L3 = λ place broken. broken
    unbroken rule.L4 = λ place broken. broken
    unbroken rule.S2 = rest 0 rule.S2 refl
    unbroken rule.S3 = rest 1 rule.S3 refl
    unbroken rule.S4 = rest 2 rule.S4 refl
    unbroken rule.S5 = rest 3 rule.S5 refl
    unbroken rule.S6 = rest 4 rule.S6 refl
    unbroken rule.S7 = rest 5 rule.S7 refl
    unbroken rule.S8 = rest 6 rule.S8 refl
    unbroken rule.S9 = rest 7 rule.S9 refl
    unbroken rule.S10 = rest 8 rule.S10 refl
    unbroken rule.S11 = rest 9 rule.S11 refl
    unbroken rule.S12 = rest 10 rule.S12 refl
    unbroken rule.S13 = rest 11 rule.S13 refl
    unbroken rule.S14 = rest 12 rule.S14 refl
    unbroken rule.S15 = rest 13 rule.S15 refl
    unbroken rule.S16 = rest 14 rule.S16 refl
    unbroken rule.S17 = rest 15 rule.S17 refl
    unbroken rule.S18 = rest 16 rule.S18 refl
    unbroken rule.S19 = rest 17 rule.S19 refl
    unbroken rule.S20 = rest 18 rule.S20 refl
    unbroken rule.S21 = rest 19 rule.S21 refl
    unbroken rule.S22 = λ place broken. broken
    unbroken rule.S23 = λ place broken. broken
