-- Which values a domain has: those of a field's universe that pass signed atoms.
use Rattle.std.specs.Prelude.{List}
use Rattle.std.specs.List.{All}
use Rattle.helix_values.specs.Universe.{InUniverse}
use Rattle.helix_values.specs.declared.cell.Cell.{Cell}
use Rattle.helix_values.specs.declared.kind.Kind.{Kind}
use Rattle.helix_profile.specs.Holds.{Holds}
use Rattle.helix_profile.specs.Satisfaction.{Signed}
use Rattle.helix_profile.specs.Validity.{IsTestFor}
use Rattle.helix_profile.specs.declared.field.Field.{Field}
use Rattle.helix_profile.specs.declared.test.Test.{Test}
use Rattle.helix_profile.specs.declared.test.Test.TheVariants as test
use Rattle.helix_domains.specs.declared.atom.SignedAtom.{SignedAtom}
use Rattle.helix_domains.specs.Form.{Form}

-- a field, the signed atoms that its values pass, and the form in which they are at hand
pub record Restricted : Type 0 where
  pub field : Field
  pub atoms : List SignedAtom
  pub form : Form

-- the atom's test holds of a value, or with a false sign doesn't
abbrev pub PassesAtom : SignedAtom → Cell → Type 0
PassesAtom signed v = Signed signed.sign (Holds signed.atom.test v)

-- a value of a kind that passes each signed atom
pub record IsAllowed (kind : Kind) (atoms : List SignedAtom) (v : Cell) : Type 0 where
  pub in_universe : InUniverse kind v
  pub passes : All (λ signed. PassesAtom signed v) atoms

-- a value of a domain
abbrev pub IsInDomain : Restricted → Cell → Type 0
IsInDomain domain v = IsAllowed domain.field.kind domain.atoms v

-- the test looks at a value, and not at whether there is one
abbrev pub IsTestOfValue : Test → Type 0
IsTestOfValue (test.IsNull wanted) = ⊥
IsTestOfValue other = Unit {0}

-- an atom for a field of this kind, other than that of null
pub record IsAtomFor (kind : Kind) (signed : SignedAtom) : Type 0 where
  pub of_value : IsTestOfValue signed.atom.test
  pub for_kind : IsTestFor kind signed.atom.test
