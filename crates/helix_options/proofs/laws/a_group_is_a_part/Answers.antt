use Rattle.helix_options.proofs.laws.a_group_is_a_part.Goals as goal

pub returns : goal.returns
returns c = λ profile group is. record {
  some_field = is.some_field;
  ascending_fields = is.ascending_fields;
  ascending_constraints = is.ascending_constraints;
  fields_in_range = is.fields_in_range;
  constraints_in_range = is.constraints_in_range;
  own_fields = is.own_fields;
}
