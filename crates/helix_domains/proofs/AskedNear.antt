-- What a domain keeps near its values, from the form in which it has them.
use Rattle.std.proofs.Common.{◌≡◌, ◌↔◌, Bool, true, false, List, sym, subst}
use Rattle.std.specs.Bool.{OnTrue, OnFalse}
use Rattle.helix_values.specs.Class.{class_of_kind}
use Rattle.helix_values.specs.Order.{CellLess}
use Rattle.helix_values.specs.declared.cell.Cell.{Cell}
use Rattle.helix_values.specs.declared.mark.Mark.TheVariants.{Start}
use Rattle.helix_profile.specs.declared.field.Field.{Field}
use Rattle.helix_words.specs.Questions.{IsLeastAnswer}
use Rattle.helix_domains.specs.Domain.{Restricted, IsAllowed, IsInDomain}
use Rattle.helix_domains.specs.Form.{HasForm}
use Rattle.helix_domains.specs.Near.{HasRoomNear, IsAt, IsNear, IsNextAnswer}
use Rattle.helix_domains.specs.declared.atom.SignedAtom.{SignedAtom}
use Rattle.helix_domains.specs.declared.near.Near.{Near}
use Rattle.helix_domains.specs.declared.values.Values.{Values}
use Rattle.helix_domains.specs.declared.values.Values.TheVariants as values
use Rattle.helix_domains.specs.Inner.Values.{AreValuesOf, HasValue, form_of}
use Rattle.helix_domains.specs.Inner.Walk.{KeepsAt}

-- the domain with these values
abbrev pub domain_with : Field → List SignedAtom → Values → Restricted
domain_with field atoms all = record { field = field; atoms = atoms; form = form_of all }

module _ (field : Field) (atoms : List SignedAtom) (domain : Restricted) where
  pub has_form : (all : Values) → AreValuesOf field.kind atoms all → domain_with field atoms all ≡ domain
      → HasForm (IsInDomain domain) domain.form
  has_form all are is = subst (λ d. HasForm (IsInDomain d) d.form) is (by all are)
    where
      by : (v : Values) → AreValuesOf field.kind atoms v → HasForm (IsAllowed field.kind atoms) (form_of v)
      by (values.Listed cells) of = (of.in_form.0, of.exact)
      by (values.Numbers grid) of = tt
      by (values.Moments grid) of = tt
      by (values.Texts words) of = of.exact

  module _ (all : Values) (are : AreValuesOf field.kind atoms all) (is : domain_with field atoms all ≡ domain)
      (old new : Cell) (before after : Near) where
    at_answer : HasValue all new → KeepsAt (form_of all) true before after new → IsNear domain after new
    at_answer has kept = subst (λ d. IsNear d after new) is
        (record { has = (are.exact new).1 has; room = kept.0; at = kept.1 })

    pub first_near : (result : Bool) → IsLeastAnswer (HasValue all) Start result old new
        → KeepsAt (form_of all) result before after new → OnTrue result (IsNear domain after new)
    first_near true answer kept = at_answer answer.has kept
    first_near false answer kept = tt

    pub first_room : (result : Bool) → HasRoomNear domain.form before → KeepsAt (form_of all) result before after new
        → HasRoomNear domain.form after
    first_room true room kept = subst (λ d. HasRoomNear d.form after) is kept.0
    first_room false room kept = subst (HasRoomNear domain.form) (sym kept) room

    pub stays_near : (result : Bool) → KeepsAt (form_of all) result before after new → OnFalse result (after ≡ before)
    stays_near true kept = tt
    stays_near false kept = kept

    pub next_near : (result : Bool) → IsNear domain before old → IsNextAnswer (HasValue all) result old new
        → KeepsAt (form_of all) result before after new → IsNear domain after new
    next_near true near answer kept = at_answer answer.has kept
    next_near false near answer kept =
        subst (λ v. IsNear domain after v) (sym answer.0) (subst (λ k. IsNear domain k old) (sym kept) near)

    pub next_answer : (result : Bool) → IsNextAnswer (HasValue all) result old new
        → IsNextAnswer (IsInDomain domain) result old new
    next_answer result answer = subst (λ d. IsNextAnswer (IsInDomain d) result old new) is (by result answer)
      where
        by : (b : Bool) → IsNextAnswer (HasValue all) b old new → IsNextAnswer (IsAllowed field.kind atoms) b old new
        by true found = record {
          has = (are.exact new).1 found.has;
          above = found.above;
          least = λ other has above less. found.least other ((are.exact other).0 has) above less;
        }
        by false none = (none.0, λ other has above. none.1 other ((are.exact other).0 has) above)

  -- what a question for the next value needs
  pub value_near : (all : Values) → AreValuesOf field.kind atoms all → domain_with field atoms all ≡ domain
      → (kept : Near)
      (v : Cell) → IsNear domain kept v → HasValue all v × HasRoomNear (form_of all) kept × IsAt (form_of all) kept v
  value_near all are is kept v near =
      let at = subst (λ d. IsNear d kept v) (sym is) near in ((are.exact v).0 at.has, at.room, at.at)
