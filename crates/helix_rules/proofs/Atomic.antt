-- The operand of an atomic constraint.
use Rattle.std.proofs.Common.{◌≡◌, ℕ, List, [], ◌∷◌, Option, Some, None, Result, IfOk, codes, refl, sym, ◌∙◌, ap, subst}
use Rattle.std.specs.Option.{option_map}
use Rattle.helix_base.specs.declared.memory.Memory.{Memory}
use Rattle.helix_json.specs.declared.value.Json.{Json}
use Rattle.helix_json.specs.declared.value.Json.TheViews as view
use Rattle.helix_json.specs.declared.value.Member.{Member}
use Rattle.helix_keywords.specs.declared.form.Form.{Form}
use Rattle.helix_keywords.specs.Forms.{form_of, has_form, key_sets}
use Rattle.helix_keywords.specs.Keywords.{word_of}
use Rattle.helix_fields.specs.SearchLaws.{if_ok, member_says, none_is, none_under}
use Rattle.helix_operands.specs.declared.rule.OperandRule.{OperandRule}
use Rattle.helix_operands.specs.Rules.{BreaksOperand}
use Rattle.helix_places.specs.declared.place.Step.{Step}
use Rattle.helix_places.specs.declared.place.Step.TheVariants as step
use Rattle.helix_places.specs.Members.{members_of, value_of}
use Rattle.helix_places.specs.Places.{Finds, InMember}
use Rattle.helix_places.specs.PartLaws.{Says}
use Rattle.helix_places.specs.PlaceLaws.{finds_same, some_and, and_some}
use Rattle.helix_places.specs.ViewLaws.{members_of_object}
use Rattle.helix_profile.specs.declared.field.Field.{Field}
use Rattle.helix_references.specs.Naming.{kind_by}
use Rattle.helix_values.specs.declared.kind.Kind.{Kind}
use Rattle.helix_rules.specs.declared.atom.Atom.{Atom}
use Rattle.helix_rules.specs.Atoms.{BreaksAtom, InOperand, atom_in, atom_of}

module _ (which : OperandRule) (fields : List Field) (v : Json) where
  pub atom_says : (atom : Atom) (o : Option Atom) (r : Result (Option (List Step)) Memory) → o ≡ atom_in fields v
      → o ≡ Some atom → IfOk r (Says (InOperand which atom) v) → IfOk r (Says (BreaksAtom which fields) v)
  atom_says atom o r o_is some =
      let is : atom_in fields v ≡ Some atom = sym o_is ∙ some in
      if_ok r _ _ (λ found says keys. finds_same v (InOperand which atom v) (BreaksAtom which fields v) found
      (λ place. (
        (λ h. and_some (atom_in fields v) (λ a. InOperand which a v place) atom is h),
        (λ h. some_and (atom_in fields v) (λ a. InOperand which a v place) atom is h),
      )) (says keys))

  pub no_atom_says : (o : Option Atom) → o ≡ atom_in fields v → o ≡ None → Says (BreaksAtom which fields) v None
  no_atom_says o o_is none keys place h =
      none_is (atom_in fields v) (λ a. InOperand which a v place) (sym o_is ∙ none) h

module _ (which : OperandRule) (atom : Atom) (v : Json) (key : List ℕ) (key_is : key ≡ word_of atom.keyword) where
  pub operand_says : (w : Json) (found : Option (List Step)) (r : Result (Option (List Step)) Memory)
      → Some w ≡ value_of key (members_of v) → Finds w (BreaksOperand which atom.kind atom.keyword w) found
      → IfOk r (λ outer. outer ≡ option_map (λ place. step.Member key ∷ place) found)
      → IfOk r (Says (InOperand which atom) v)
  operand_says w found r is finds outer =
      let Q : List ℕ → Type 0 = λ k. IfOk r (Says (InMember k (BreaksOperand which atom.kind atom.keyword)) v) in
      subst Q key_is (member_says v w key (BreaksOperand which atom.kind atom.keyword) is found r (λ keys. finds) outer)

  pub no_operand_says : None ≡ value_of key (members_of v) → Says (InOperand which atom) v None
  no_operand_says none =
      let Q : List ℕ → Type 0 = λ k. Says (InMember k (BreaksOperand which atom.kind atom.keyword)) v None in
      subst Q key_is (none_under v key (BreaksOperand which atom.kind atom.keyword) none)

-- the atom of an object
abbrev atom_among : List Field → List Member → Option Atom
atom_among fields members = atom_of (form_of members) (kind_by fields (value_of (codes "field") members))

pub atom_in_object : (fields : List Field) (v : Json) (members : List Member) (f : Option Form) (kind : Option Kind)
    (o : Option Atom) → v ≡ view.Object members → f ≡ form_of members
    → kind ≡ kind_by fields (value_of (codes "field") members) → o ≡ atom_of f kind → o ≡ atom_in fields v
atom_in_object fields v members f kind o is f_is kind_is o_is =
    o_is ∙ (ap (λ g. atom_of g kind) f_is ∙ (ap (atom_of (form_of members)) kind_is
    ∙ ap (atom_among fields) (sym (ap members_of is ∙ members_of_object members))))

no_form : form_of [] ≡ None
unfolding form_of has_form key_sets
no_form = refl

pub no_atom_in : (fields : List Field) (v : Json) → members_of v ≡ [] → None ≡ atom_in fields v
no_atom_in fields v none = sym (ap (atom_among fields) none
    ∙ ap (λ f. atom_of f (kind_by fields (value_of (codes "field") []))) no_form)
