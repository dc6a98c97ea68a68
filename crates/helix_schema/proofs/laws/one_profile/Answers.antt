use Rattle.std.proofs.Common.{◌≡◌, [], ◌∷◌, codes, sym, ◌∙◌, ap}
use Rattle.helix_fields.specs.Fields.{constraints_of, fields_of}
use Rattle.helix_places.specs.declared.place.Step.TheVariants as step
use Rattle.helix_profile.specs.Content.{Content}
use Rattle.helix_readings.specs.UniqueLaws.{one_given}
use Rattle.helix_schema.specs.Drafts.{Drafted, IsProfileOf, sets_of}
use Rattle.helix_schema.proofs.laws.one_profile.Goals as goal

same : (draft : Drafted) (first second : Content) → IsProfileOf draft first → IsProfileOf draft second → first ≡ second
same draft first second one two =
    let fields : first.fields ≡ second.fields = one.fields ∙ sym two.fields in
    let constraints : first.constraints ≡ second.constraints = one_given (fields_of draft.alphabet draft.value)
    (sets_of draft.wishes) (step.Member (codes "constraints") ∷ []) 0 (constraints_of draft.value) first.constraints
    second.constraints one.constraints two.constraints in
    ap (λ fs. record { fields = fs; constraints = first.constraints }) fields
    ∙ ap (λ cs. record { fields = second.fields; constraints = cs }) constraints

pub returns : goal.returns
returns c = λ draft first second one two. same draft first second one two
