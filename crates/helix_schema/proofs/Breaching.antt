-- The first rule that is broken, S1 before the others.
use Rattle.std.proofs.Common.{◌≡◌, ℕ, zero, suc, ◌<◌, List, [], ◌∷◌, Option, None, Some, Result, Ok, Err, slice_get, arith}
use Rattle.std.specs.Result.{IfOk}
use Rattle.helix_base.specs.declared.memory.Memory.{Memory}
use Rattle.helix_fields.specs.Fields.{IsNowhere}
use Rattle.helix_json.specs.declared.value.Json.{Json}
use Rattle.helix_profile.specs.declared.field.Field.{Field}
use Rattle.helix_rules.specs.Breaches.{FindsBreach}
use Rattle.helix_rules.specs.Broken.{Broken}
use Rattle.helix_rules.specs.declared.breach.Breach.{Breach}
use Rattle.helix_rules.specs.declared.rule.Rule.{Rule}

module _ (fields : List Field) (v : Json) (first : Rule) (rules : List Rule) where
  -- of the first rule alone
  pub breach_first : (breach : Breach) → FindsBreach fields (first ∷ []) v (Some breach)
      → FindsBreach fields (first ∷ rules) v (Some breach)
  breach_first breach finds = record {
    index = zero;
    listed = listed_first finds.index finds.listed;
    earlier = λ k before. absurd (omega arith);
    first = finds.first;
  }
    where
      listed_first : (i : ℕ) → slice_get (first ∷ []) i ≡ Some breach.rule → Some first ≡ Some breach.rule
      listed_first zero is = is
      listed_first (suc i) is = absurd (let none : None ≡ Some breach.rule = is in cc)

  -- of the others
  pub breach_later : (found : Option Breach) → FindsBreach fields (first ∷ []) v None
      → FindsBreach fields rules v found → FindsBreach fields (first ∷ rules) v found
  breach_later None none finds = no_breach
    where
      no_breach : (k : ℕ) (rule : Rule) → slice_get (first ∷ rules) k ≡ Some rule → IsNowhere (Broken fields rule) v
      no_breach zero rule is = none zero rule is
      no_breach (suc k) rule is = finds k rule is
  breach_later (Some breach) none finds = record {
    index = suc finds.index;
    listed = finds.listed;
    earlier = earlier_rules;
    first = finds.first;
  }
    where
      earlier_rules : (k : ℕ) → k < suc finds.index → (rule : Rule) → slice_get (first ∷ rules) k ≡ Some rule
          → IsNowhere (Broken fields rule) v
      earlier_rules zero before rule is = none zero rule is
      earlier_rules (suc k) before rule is = finds.earlier k (omega (arith, before)) rule is

  -- where none is broken, the first isn't, nor are the others
  pub none_of_first : FindsBreach fields (first ∷ rules) v None → FindsBreach fields (first ∷ []) v None
  none_of_first finds zero rule is = finds zero rule is
  none_of_first finds (suc k) rule is = absurd (let none : None ≡ Some rule = is in cc)

  pub none_of_others : FindsBreach fields (first ∷ rules) v None → FindsBreach fields rules v None
  none_of_others finds k rule is = finds (suc k) rule is

  -- as code finds it
  pub found_later : {Keys : Type 0} (r : Result (Option Breach) Memory) → Keys → FindsBreach fields (first ∷ []) v None
      → IfOk r (λ found. Keys → FindsBreach fields rules v found) → IfOk r (FindsBreach fields (first ∷ rules) v)
  found_later (Ok found) keys none finds = breach_later found none (finds keys)
  found_later (Err fault) keys none finds = finds
