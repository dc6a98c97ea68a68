use Rattle.std.proofs.Common.{◌≡◌, false, codes}
use Rattle.helix_places.specs.Places.{Here}
use Rattle.helix_fields.specs.Whole.{is_list_within}
use Rattle.helix_fields.specs.RefusalLaws.{false_refused}
use Rattle.helix_fields.specs.SearchLaws.{none_under}
use Rattle.helix_fields.proofs.whole.constraint_list_fault.Goals as goal

pub returns-in-Some : goal.returns-in-Some
returns-in-Some c = false_refused c.args.v.now c.in-Some.constraints.now (codes "constraints") (is_list_within 0 1000)
    c.in-Some.ensures c.is_list_within.result c.is_list_within.ensures c.refused_at.result c.refused_at.ensures

pub returns-in-None : goal.returns-in-None
returns-in-None c = none_under c.args.v.now (codes "constraints")
    (Here (λ constraints. is_list_within 0 1000 constraints ≡ false)) c.in-None.ensures
