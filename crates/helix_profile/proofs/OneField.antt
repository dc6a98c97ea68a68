-- A profile of one field with a short name and no constraints is valid.
use Rattle.std.proofs.Common.{◌≡◌, zero, suc, List, [], ◌∷◌, ◌++◌, ◌∙◌, arith, sym, subst}
use Rattle.std.proofs.lemmas.Str.{chars-IsAscii}
use Rattle.std.specs.Str.{chars, IsAscii}
use Rattle.helix_profile.specs.Forest.{IsForest}
use Rattle.helix_profile.specs.Validity.{IsName, IsValidProfile}
use Rattle.helix_profile.specs.declared.constraint.Constraint.{Constraint}
use Rattle.helix_profile.specs.declared.field.Field.{Field}

-- where no fields are related, none are in a cycle
no_lines : IsForest []
no_lines [] cycle = cycle
no_lines (a ∷ []) cycle = cycle
no_lines (a ∷ b ∷ []) cycle = cycle
no_lines (a ∷ b ∷ c ∷ fields) cycle = cycle.1.0

named_a : IsName (97 ∷ [])
named_a = record { not_empty = omega arith; short = omega arith; printable = ((omega arith, (λ e. omega arith)), tt) }

ascii_a : IsAscii (97 ∷ [])
ascii_a zero = omega arith
ascii_a (suc later) = omega arith

pub one_field_is_valid : (fields before : List Field) (constraints : List Constraint) (field : Field)
    → fields ≡ before ++ (field ∷ []) → before ≡ [] → field.name ≡ chars (97 ∷ []) → constraints ≡ []
    → IsValidProfile (record { fields = fields; constraints = constraints })
one_field_is_valid fields before constraints field are fresh is none =
    subst (λ fs. IsValidProfile (record { fields = fs; constraints = constraints })) (sym are)
    (subst (λ bs. IsValidProfile (record { fields = bs ++ (field ∷ []); constraints = constraints })) (sym fresh)
    (subst (λ cs. IsValidProfile (record { fields = field ∷ []; constraints = cs })) (sym none)
    (record {
      some_field = omega arith;
      few_fields = omega arith;
      names = (subst IsName (sym (is ∙ chars-IsAscii (97 ∷ []) ascii_a)) named_a, tt);
      different_names = (tt, tt);
      few_constraints = omega arith;
      constraints_fit = tt;
      no_cycle = no_lines;
    })))
