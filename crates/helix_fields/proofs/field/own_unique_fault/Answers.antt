use Rattle.std.proofs.Common.{◌≡◌, true, codes}
use Rattle.helix_places.specs.Places.{Here}
use Rattle.helix_fields.specs.FieldRules.{is_true}
use Rattle.helix_fields.specs.RefusalLaws.{true_refused}
use Rattle.helix_fields.specs.SearchLaws.{none_under}
use Rattle.helix_fields.proofs.field.own_unique_fault.Goals as goal

pub returns-in-Some : goal.returns-in-Some
returns-in-Some c = true_refused c.args.field.now c.in-Some.value.now (codes "unique") is_true
    c.in-Some.ensures c.is_true.result c.is_true.ensures c.refused_at.result c.refused_at.ensures

pub returns-in-None : goal.returns-in-None
returns-in-None c = none_under c.args.field.now (codes "unique") (Here (λ v. is_true v ≡ true)) c.in-None.ensures
