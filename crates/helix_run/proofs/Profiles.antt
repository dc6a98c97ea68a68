-- What is found in the bytes of a profile file is what they say, and where nothing is found they are refused.
use Rattle.std.proofs.Common.{◌≡◌, ◌≢◌, ℕ, ◌≤◌, Bool, List, [], length, refl, sym, ◌∙◌}
use Rattle.std.specs.Prelude.{Option, Some, None, IfNone}
use Rattle.helix_run.specs.Profile.{Field, Follows, SaysNullable, ReadsProfile, IsRefused, IsFlagName, before_name, after_name, quoted_before}
use Rattle.helix_run.specs.Inner.Pattern.{after}
use Rattle.helix_run.proofs.Patterns.{Follows-from_after, after-from_Follows}
use Rattle.helix_run.proofs.Names.{same_quoted}

if_none : {X : Type 0} (o : Option X) (P : Type 0) → P → IfNone o P
if_none None P p = p
if_none (Some x) P p = tt

-- the before_name is found where the bytes say that there is a field
opened : (bytes : List ℕ) (field : Field) (reads : ReadsProfile bytes field)
    → after before_name bytes ≡ Some (quoted_before field.name reads.rest)
opened bytes field reads = after-from_Follows before_name bytes (quoted_before field.name reads.rest) reads.opens refl

module _ {X : Type 0} (bytes : List ℕ) (result : Option X) where
  pub refused_opening : None ≡ after before_name bytes → IfNone result (IsRefused bytes)
  refused_opening none =
      if_none result (IsRefused bytes) (λ field reads. let e : None ≡ Some (quoted_before field.name reads.rest) = none
      ∙ opened bytes field reads in absurd (cc))

  pub refused_name : (prefix : List ℕ) → Some prefix ≡ after before_name bytes
      → ((name rest : List ℕ) → IsFlagName name → prefix ≢ quoted_before name rest) → IfNone result (IsRefused bytes)
  refused_name prefix found none = if_none result (IsRefused bytes) (λ field reads.
      let e : Some prefix ≡ Some (quoted_before field.name reads.rest) = found ∙ opened bytes field reads in
      none field.name reads.rest reads.name (cc))

  pub refused_closing : (prefix name rest : List ℕ) → Some prefix ≡ after before_name bytes → IsFlagName name
      → prefix ≡ quoted_before name rest
      → ((written : Option Bool) → ¬ Follows (after_name written) rest []) → IfNone result (IsRefused bytes)
  refused_closing prefix name rest found is spelled none = if_none result (IsRefused bytes) (λ field reads.
      let e : Some prefix ≡ Some (quoted_before field.name reads.rest) = found ∙ opened bytes field reads in
      let same : (name ≡ field.name)
      × (rest ≡ reads.rest) = same_quoted name rest field.name reads.rest is reads.name (sym spelled ∙ cc) in
      none reads.closes.written (rw same.1 reads.closes.closes))

-- what was found
pub ReadsProfile-found : (bytes prefix : List ℕ) (field : Field) (rest : List ℕ) → length bytes ≤ 1048576
    → Some prefix ≡ after before_name bytes
    → IsFlagName field.name → prefix ≡ quoted_before field.name rest → SaysNullable rest field.nullable
    → ReadsProfile bytes field
ReadsProfile-found bytes prefix field rest size found is spelled closes = record {
  size = size;
  name = is;
  rest = rest;
  opens = Follows-from_after before_name bytes (quoted_before field.name rest) (sym found
      ∙ let e : Some prefix ≡ Some (quoted_before field.name rest) = cc in e);
  closes = closes;
}
