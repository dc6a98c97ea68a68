use Rattle.std.proofs.Common.{Option, Some, None, IfNone, IsSome, refl}
use Rattle.helix_profile.specs.declared.relation.Relation.{Relation}
use Rattle.helix_references.specs.RefusalLaws.{not_refused}
use Rattle.helix_references.specs.UniqueLaws.{refused_gives_none}
use Rattle.helix_references.proofs.relation.read_relation.Goals as goal

given : (o : Option Relation) (P : Type 0) → IfNone o P → ¬ P → IsSome o
given None P none not_so = absurd (not_so none)
given (Some r) P none not_so = refl

pub returns-clause-complete : goal.returns-clause-complete
returns-clause-complete c = λ has unbroken. given c.relation_in.result _ c.relation_in.ensures.refused
    (not_refused c.args.fields.now c.args.members.now c.args.keyword has unbroken)

none_given : (o : Option Relation) (P Q : Type 0) → IfNone o P → (P → Q) → IfNone o Q
none_given None P Q none so = so none
none_given (Some r) P Q none so = tt

pub returns-clause-none : goal.returns-clause-none
returns-clause-none c = none_given c.relation_in.result _ _ c.relation_in.ensures.refused
    (refused_gives_none c.args.fields.now c.args.members.now c.args.keyword)
