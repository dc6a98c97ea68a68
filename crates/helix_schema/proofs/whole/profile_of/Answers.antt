use Rattle.std.proofs.Common.{◌≡◌, List, Option, Some, sym, subst}
use Rattle.helix_fields.specs.Fields.{fields_of}
use Rattle.helix_operands.specs.Values.{Reads}
use Rattle.helix_profile.specs.Validity.{IsValidProfile}
use Rattle.helix_profile.specs.declared.constraint.Constraint.{Constraint}
use Rattle.helix_profile.specs.declared.field.Field.{Field}
use Rattle.helix_readings.specs.Whole.{GivesConstraints}
use Rattle.helix_readings.specs.declared.sets.SetMembers.{SetMembers}
use Rattle.helix_json.specs.declared.value.Json.{Json}
use Rattle.helix_schema.proofs.whole.profile_of.Goals as goal

valid_when : (own fields slice : List Field) (sets : List SetMembers) (v : Json) (found : Option (List Constraint))
    (cs : List Constraint) → fields ≡ own → slice ≡ fields → found ≡ Some cs
    → Reads (GivesConstraints slice sets v) found
    → ((ds : List Constraint) → GivesConstraints own sets v ds
    → IsValidProfile (record { fields = own; constraints = ds }))
    → IsValidProfile (record { fields = fields; constraints = cs })
valid_when own fields slice sets v found cs is slice_is found_is reads valid =
    let P : Option (List Constraint) → Type 0 = λ o. Reads (GivesConstraints slice sets v) o in
    let gives : GivesConstraints slice sets v cs = subst P found_is reads in
    let Q : List Field → Type 0 = λ fs. GivesConstraints fs sets v cs in
    let own_gives : GivesConstraints own sets v cs = subst Q is (subst Q slice_is gives) in
    let R : List Field → Type 0 = λ fs. IsValidProfile (record { fields = fs; constraints = cs }) in
    subst R (sym is) (valid cs own_gives)

pub new-requires : goal.new-requires
new-requires c = valid_when (fields_of c.args.alphabet c.args.v.now) c.in_ok-fields.fields c.as_slice.result.now
    c.args.sets.now c.args.v.now c.in_ok-constraints.field-0 c.in-Some.constraints c.in_ok-fields.ensures.fields
    c.as_slice.ensures c.in-Some.is c.in_ok-constraints.ensures
    (λ ds. c.profile_is_valid.ensures c.args.alphabet c.args.sets.now c.args.v.now ds c.requires.keys
    c.requires.unbroken c.requires.filled)
