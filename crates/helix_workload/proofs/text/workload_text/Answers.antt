use Rattle.std.proofs.Common.{ap, ◌∙◌}
use Rattle.helix_workload.specs.Workload.{text_field, date_fields, number_fields, flag_field, first_part, members, last_part, text_with}
use Rattle.helix_workload.specs.Inner.{draws_in}
use Rattle.helix_workload.proofs.Members.{assembled}
use Rattle.helix_workload.proofs.text.workload_text.Goals as goal

pub returns : goal.returns
returns c = let drawn = c.draws_of-draws.result in
    c.from_vec.ensures
    ∙ assembled c.new-text.result.items text_field date_fields number_fields flag_field (first_part (draws_in drawn))
    (members drawn.least 2000) (last_part drawn.least) c.push_text_field.new.text.items
    c.push_date_fields.new.text.items c.push_number_fields.new.text.items c.push_flag_field.new.text.items
    c.push_first.new.text.items c.push_members.new.text.items c.push_last.new.text.items c.new-text.ensures.items
    c.in_ok-push_text_field.ensures c.in_ok-push_date_fields.ensures c.in_ok-push_number_fields.ensures
    c.in_ok-push_flag_field.ensures c.in_ok-push_first.ensures c.in_ok-push_members.ensures
    c.in_ok-push_last.ensures
    ∙ ap text_with c.draws_of-draws.ensures
