-- What is made of what is given.
use Rattle.std.proofs.Common.{◌≡◌, refl, sym, ◌∙◌, ap, subst}
use Rattle.helix_operands.specs.Tests.{Makes}
use Rattle.helix_profile.specs.declared.test.Test.{Test}

-- nothing is given where nothing is made
pub none_given : {X : Type 0} (Given : X → Type 0) (make : X → Test) → ((t : Test) → ¬ (Makes Given make t)) → (x : X)
    → ¬ (Given x)
none_given Given make none x given = none (make x) (x, given, refl)

-- what holds of all that is made
pub of_made : {X : Type 0} (Given : X → Type 0) (make : X → Test) (Q : Test → Type 0)
    → ((x : X) → Given x → Q (make x)) → (t : Test) → Makes Given make t → Q t
of_made Given make Q each t made = subst Q (sym made.2) (each made.0 made.1)

-- one thing makes one test
pub one_made : {X : Type 0} (Given : X → Type 0) (make : X → Test) → ((x y : X) → Given x → Given y → x ≡ y)
    → (s t : Test) → Makes Given make s → Makes Given make t → s ≡ t
one_made Given make one s t first second =
    first.2 ∙ (ap make (one first.0 second.0 first.1 second.1) ∙ sym second.2)
