use Rattle.std.proofs.Common.{subst}
use Rattle.helix_fields.specs.Fields.{fields_of}
use Rattle.helix_rules.specs.Breaches.{FindsBreach}
use Rattle.helix_rules.specs.declared.rule.Rule.TheVariants as rule
use Rattle.helix_validity.specs.Unbroken.{profile_rules}
use Rattle.std.proofs.Common.{[], ◌∷◌}
use Rattle.helix_schema.proofs.Breaching.{found_later}
use Rattle.helix_schema.proofs.read.breach_of.Goals as goal

pub returns-in-None : goal.returns-in-None
returns-in-None c = found_later (fields_of c.args.alphabet c.args.value.now) c.args.value.now rule.S1 profile_rules
    c.first_breach-in-None.result c.requires
    (subst (FindsBreach (fields_of c.args.alphabet c.args.value.now) (rule.S1 ∷ []) c.args.value.now) c.in-None.is
    (c.in_ok-breach.ensures c.requires)) c.first_breach-in-None.ensures
