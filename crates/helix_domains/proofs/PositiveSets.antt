-- Positive sets: the values that pass their atoms are their members.
use Rattle.std.proofs.Common.{◌≡◌, ◌↔◌, ℕ, ◌<◌, true, Some, List, [], ◌∷◌, length, get_or, sym, ◌∙◌, subst}
use Rattle.std.specs.List.{Contains}
use Rattle.std.proofs.lemmas.List.{get_or_default}
use Rattle.helix_values.specs.declared.cell.Cell.{Cell}
use Rattle.helix_values.specs.declared.kind.Kind.{Kind}
use Rattle.helix_profile.specs.Holds.{Holds}
use Rattle.helix_profile.specs.Satisfaction.{Signed}
use Rattle.helix_profile.specs.declared.test.Test.{Test}
use Rattle.helix_profile.specs.declared.test.Test.TheVariants as test
use Rattle.helix_domains.specs.Domain.{PassesAtom, IsAllowed}
use Rattle.helix_domains.specs.declared.atom.SignedAtom.{SignedAtom}
use Rattle.helix_domains.specs.Inner.Ready.{PassesChosen}
use Rattle.helix_domains.proofs.GridTests.{one_of}

-- an atom with a true sign says what its test says
plainly : (signed : SignedAtom) (t : Test) (v : Cell) → signed.sign ≡ true → signed.atom.test ≡ t
    → PassesAtom signed v ↔ Holds t v
plainly signed t v sign is =
    subst (λ s. Signed s (Holds signed.atom.test v) ↔ Holds t v) (sym sign)
    (subst (λ u. Holds u v ↔ Holds t v) (sym is) ((λ h. h), (λ h. h)))

pub equal_set : (signed : SignedAtom) (operand : Cell) (slice : List Cell) → signed.sign ≡ true
    → signed.atom.test ≡ test.EqualTo operand → slice ≡ operand ∷ [] → (v : Cell)
    → PassesAtom signed v ↔ Contains slice v
equal_set signed operand slice sign is one v =
    let says = plainly signed (test.EqualTo operand) v sign is in
    subst (λ l. PassesAtom signed v ↔ Contains l v) (sym one) (
      (λ passes. (one_of operand v).1 (says.0 passes)),
      (λ has. says.1 ((one_of operand v).0 has)),
    )

pub member_set : (signed : SignedAtom) (members slice : List Cell) → signed.sign ≡ true
    → signed.atom.test ≡ test.InSet members → slice ≡ members → (v : Cell) → PassesAtom signed v ↔ Contains slice v
member_set signed members slice sign is same v =
    subst (λ l. PassesAtom signed v ↔ Contains l v) (sym same) (plainly signed (test.InSet members) v sign is)

module _ (atoms : List SignedAtom) (index : ℕ) (signed : SignedAtom) (members : List Cell)
    (within : index < length atoms)
    (is : signed ≡ get_or atoms index signed) (exact : (v : Cell) → PassesAtom signed v ↔ Contains members v) where
  pub all_in_set : (k : Kind) (v : Cell) → IsAllowed k atoms v → Contains members v
  all_in_set k v allowed = (exact v).0 (subst (λ s. PassesAtom s v) (sym is) (allowed.passes index signed within))

  pub set_passes : (v : Cell) → Contains members v → PassesChosen atoms (Some index) v
  set_passes v has j d same below =
      let here : index ≡ j = cc in
      subst (λ i. PassesAtom (get_or atoms i d) v) here
      (subst (λ s. PassesAtom s v) (is ∙ get_or_default atoms index signed d within) ((exact v).1 has))
