use Rattle.std.proofs.Common.{◌∷◌, None, subst}
use Rattle.helix_fields.specs.Fields.{fields_of}
use Rattle.helix_rules.specs.Breaches.{FindsBreach}
use Rattle.helix_rules.specs.declared.rule.Rule.TheVariants as rule
use Rattle.helix_validity.specs.Unbroken.{profile_rules}
use Rattle.helix_schema.proofs.Breaching.{none_of_first, none_of_others}
use Rattle.helix_schema.proofs.read.read_today.Goals as goal

pub accepted-requires-clause-unbroken : goal.accepted-requires-clause-unbroken
accepted-requires-clause-unbroken c =
    let finds : FindsBreach (fields_of c.args.alphabet c.args.value) (rule.S1 ∷ profile_rules) c.args.value None =
    subst (FindsBreach (fields_of c.args.alphabet c.args.value) (rule.S1 ∷ profile_rules) c.args.value) c.in-None.is
    c.in_ok-breach.ensures in
    c.no_breach.ensures (fields_of c.args.alphabet c.args.value) c.args.value
    (none_of_first (fields_of c.args.alphabet c.args.value) c.args.value rule.S1 profile_rules finds)
    (none_of_others (fields_of c.args.alphabet c.args.value) c.args.value rule.S1 profile_rules finds)
