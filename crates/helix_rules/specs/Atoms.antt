-- The rules on operands, in an atomic constraint: where each is broken in the constraint itself.
use Rattle.std.specs.Prelude.{List, Option, Some, None, IsSomeAnd, codes}
use Rattle.helix_json.specs.declared.value.Json.{Json}
use Rattle.helix_keywords.specs.declared.form.Form.{Form}
use Rattle.helix_keywords.specs.declared.form.Form.TheVariants as form
use Rattle.helix_keywords.specs.Forms.{form_of}
use Rattle.helix_keywords.specs.Keywords.{word_of}
use Rattle.helix_operands.specs.declared.rule.OperandRule.{OperandRule}
use Rattle.helix_operands.specs.Rules.{BreaksOperand}
use Rattle.helix_places.specs.declared.place.Step.{Step}
use Rattle.helix_places.specs.Members.{members_of, value_of}
use Rattle.helix_places.specs.Places.{InMember}
use Rattle.helix_profile.specs.declared.field.Field.{Field}
use Rattle.helix_references.specs.Naming.{kind_by}
use Rattle.helix_values.specs.declared.kind.Kind.{Kind}
use Rattle.helix_rules.specs.declared.atom.Atom.{Atom}

-- the keyword of an atomic form, for a field of a kind
abbrev pub atom_of : Option Form → Option Kind → Option Atom
atom_of (Some (form.Atom keyword)) (Some kind) = Some (record { kind = kind; keyword = keyword })
atom_of other kind = None

-- the keyword of an atomic constraint, and the kind of the declared field that it names
abbrev pub atom_in : List Field → Json → Option Atom
atom_in fields v = atom_of (form_of (members_of v)) (kind_by fields (value_of (codes "field") (members_of v)))

-- the rule is broken in the operand
abbrev pub InOperand : OperandRule → Atom → Json → List Step → Type 0
InOperand rule atom = InMember (word_of atom.keyword) (BreaksOperand rule atom.kind atom.keyword)

-- Where an atomic constraint breaks the rule: in the operand of its keyword. Where it names no declared field, nothing
-- is broken.
abbrev pub BreaksAtom : OperandRule → List Field → Json → List Step → Type 0
BreaksAtom rule fields v place = IsSomeAnd (atom_in fields v) (λ atom. InOperand rule atom v place)
