-- Only constraints within which there is none break the rules on fields and on operands.
use Rattle.std.proofs.Common.{◌≡◌, ◌⊎◌, inr, ℕ, true, List, [], ◌∷◌, Option, Some, None, refl}
use Rattle.std.specs.Option.{IsSomeAnd}
use Rattle.helix_json.specs.declared.value.Json.{Json}
use Rattle.helix_json.specs.declared.value.Member.{Member}
use Rattle.helix_keywords.specs.declared.form.Form.{Form}
use Rattle.helix_keywords.specs.declared.form.Form.TheVariants as form
use Rattle.helix_constraints.specs.AloneLaws.{alone_by_form}
use Rattle.helix_constraints.specs.Rules.{form_in}
use Rattle.helix_constraints.specs.Visited.{IsAlone, role_by_form}
use Rattle.helix_operands.specs.declared.rule.OperandRule.{OperandRule}
use Rattle.helix_places.specs.declared.place.Step.{Step}
use Rattle.helix_places.specs.declared.place.Step.TheVariants as step
use Rattle.helix_places.specs.Members.{members_of, value_of}
use Rattle.helix_profile.specs.declared.field.Field.{Field}
use Rattle.helix_references.specs.declared.rule.ReferenceRule.{ReferenceRule}
use Rattle.helix_references.specs.declared.rule.ReferenceRule.TheVariants as rule
use Rattle.helix_references.specs.Rules.{Breaks, IsFaulty, IsFaultyIn, is_misused, is_relation_key, names_field}
use Rattle.helix_values.specs.declared.kind.Kind.{Kind}
use Rattle.helix_rules.specs.declared.atom.Atom.{Atom}
use Rattle.helix_rules.specs.Atoms.{BreaksAtom, InOperand, atom_in, atom_of}

some_of : {A : Type 0} (o : Option A) (P : A → Type 0) → IsSomeAnd o P → (x : A) × (o ≡ Some x) × P x
some_of None P h = absurd h
some_of (Some x) P h = (x, refl, h)

-- forms that have no constraints in them
names_alone : (f : Option Form) (key : List ℕ) → names_field f key ≡ true → role_by_form f ≡ None
names_alone None key e = refl
names_alone (Some (form.Atom keyword)) key e = refl
names_alone (Some (form.Related keyword)) key e = refl
names_alone (Some form.Not) key e = absurd (cc)
names_alone (Some form.AnyOf) key e = absurd (cc)
names_alone (Some form.AllOf) key e = absurd (cc)
names_alone (Some form.If) key e = absurd (cc)
names_alone (Some form.IfElse) key e = absurd (cc)

misused_alone : (f : Option Form) (kind : Option Kind) (key : List ℕ) → is_misused f kind key ≡ true
    → role_by_form f ≡ None
misused_alone None kind key e = refl
misused_alone (Some (form.Atom keyword)) kind key e = refl
misused_alone (Some (form.Related keyword)) kind key e = refl
misused_alone (Some form.Not) kind key e = absurd (cc)
misused_alone (Some form.AnyOf) kind key e = absurd (cc)
misused_alone (Some form.AllOf) kind key e = absurd (cc)
misused_alone (Some form.If) kind key e = absurd (cc)
misused_alone (Some form.IfElse) kind key e = absurd (cc)

relation_alone : (f : Option Form) (key : List ℕ) → is_relation_key f key ≡ true → role_by_form f ≡ None
relation_alone None key e = refl
relation_alone (Some (form.Atom keyword)) key e = refl
relation_alone (Some (form.Related keyword)) key e = refl
relation_alone (Some form.Not) key e = absurd (cc)
relation_alone (Some form.AnyOf) key e = absurd (cc)
relation_alone (Some form.AllOf) key e = absurd (cc)
relation_alone (Some form.If) key e = absurd (cc)
relation_alone (Some form.IfElse) key e = absurd (cc)

offset_alone : (fields : List Field) (members : List Member) (f : Option Form) (key : List ℕ) (w : Json)
    → IsFaultyIn fields members f key w → role_by_form f ≡ None
offset_alone fields members None key w h = refl
offset_alone fields members (Some (form.Atom keyword)) key w h = refl
offset_alone fields members (Some (form.Related keyword)) key w h = refl
offset_alone fields members (Some form.Not) key w h = absurd h
offset_alone fields members (Some form.AnyOf) key w h = absurd h
offset_alone fields members (Some form.AllOf) key w h = absurd h
offset_alone fields members (Some form.If) key w h = absurd h
offset_alone fields members (Some form.IfElse) key w h = absurd h

faulty_alone : (which : ReferenceRule) (fields : List Field) (members : List Member) (f : Option Form) (key : List ℕ)
    (w : Json) → IsFaulty which fields members f key w → role_by_form f ≡ None
unfolding IsFaulty
faulty_alone rule.Reference fields members f key w h = names_alone f key h.0
faulty_alone rule.Class fields members f key w h = misused_alone f _ key h
faulty_alone rule.OneClass fields members f key w h = relation_alone f key h.0
faulty_alone rule.TwoFields fields members f key w h = relation_alone f key h.0
faulty_alone rule.Offset fields members f key w h = offset_alone fields members f key w h

-- S9, S10, S18, S19 and S20
pub reference_alone : (which : ReferenceRule) (fields : List Field) (v : Json) (place : List Step)
    → Breaks which fields v place → (place ≡ []) ⊎ IsAlone v
reference_alone which fields v [] h = absurd h
reference_alone which fields v (step.Item index ∷ place) h = absurd h
reference_alone which fields v (step.Member key ∷ place) h =
    let there = some_of (value_of key (members_of v)) (IsFaulty which fields (members_of v) (form_in v) key) h.1 in
    inr (alone_by_form v (faulty_alone which fields (members_of v) (form_in v) key there.0 there.2))

atom_alone : (f : Option Form) (kind : Option Kind) (atom : Atom) → atom_of f kind ≡ Some atom → role_by_form f ≡ None
atom_alone None kind atom e = refl
atom_alone (Some (form.Atom keyword)) kind atom e = refl
atom_alone (Some (form.Related keyword)) kind atom e = refl
atom_alone (Some form.Not) kind atom e = absurd (cc)
atom_alone (Some form.AnyOf) kind atom e = absurd (cc)
atom_alone (Some form.AllOf) kind atom e = absurd (cc)
atom_alone (Some form.If) kind atom e = absurd (cc)
atom_alone (Some form.IfElse) kind atom e = absurd (cc)

-- S11 to S16
pub operand_alone : (which : OperandRule) (fields : List Field) (v : Json) (place : List Step)
    → BreaksAtom which fields v place → (place ≡ []) ⊎ IsAlone v
operand_alone which fields v place h =
    let there = some_of (atom_in fields v) (λ atom. InOperand which atom v place) h in
    inr (alone_by_form v (atom_alone (form_in v) _ there.0 there.1))
