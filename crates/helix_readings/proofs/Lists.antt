-- The constraints that the items of a list give, one after the other.
use Rattle.std.proofs.Common.{◌≡◌, ◌≢◌, ◌↔◌, ℕ, zero, suc, ◌+◌, ◌<◌, ◌≤◌, List, [], ◌∷◌, ◌++◌, length, take, Option, Some, None, slice_get, get_or, Result, IfOk, refl, sym, ◌∙◌, ap, subst, arith, Bool, true, false, IsTrue, codes}
use Rattle.std.proofs.lemmas.List.{take_more}
use Rattle.std.proofs.lemmas.Option.{slice_get_read}
use Rattle.helix_base.specs.declared.memory.Memory.{Memory}
use Rattle.helix_fields.specs.Fields.{constraints_of}
use Rattle.helix_fields.specs.SearchLaws.{if_ok}
use Rattle.helix_json.specs.declared.value.Json.{Json}
use Rattle.helix_json.specs.declared.value.Json.TheViews as view
use Rattle.helix_operands.specs.Values.{Reads}
use Rattle.helix_places.specs.Members.{is_list}
use Rattle.helix_places.specs.declared.place.Step.{Step}
use Rattle.helix_places.specs.declared.place.Step.TheVariants as step
use Rattle.helix_profile.specs.declared.constraint.Constraint.{Constraint}
use Rattle.helix_profile.specs.declared.field.Field.{Field}
use Rattle.helix_readings.proofs.Giving.{reads_same}
use Rattle.helix_readings.specs.Given.{AreGiven, GivesConstraint, GivesList, at_index}
use Rattle.helix_readings.specs.Whole.{GivesConstraints}
use Rattle.helix_readings.specs.GivenLaws.{list_gives, no_list_gives}
use Rattle.helix_readings.specs.declared.sets.SetMembers.{SetMembers}

take_length : {A : Type 0} (xs : List A) (i : ℕ) → i < length xs → length (take i xs) ≡ i
take_length [] i within = absurd (omega arith)
take_length (x ∷ xs) zero within = refl
take_length (x ∷ xs) (suc i) within = ap suc (take_length xs i (omega arith))

take_whole : {A : Type 0} (xs : List A) (i : ℕ) → length xs ≤ i → take i xs ≡ xs
take_whole [] zero all = refl
take_whole [] (suc i) all = refl
take_whole (x ∷ xs) zero all = absurd (omega arith)
take_whole (x ∷ xs) (suc i) all = ap (λ l. x ∷ l) (take_whole xs i (omega arith))

module _ (fields : List Field) (sets : List SetMembers) (place : List Step) where
  abbrev At : ℕ → Json → Constraint → Type 0
  At index v c = GivesConstraint fields sets (at_index place index) v c

  abbrev Given : ℕ → List Json → List Constraint → Type 0
  Given index items parts = AreGiven fields sets place index items parts

  one_more : (from : ℕ) (items : List Json) (parts : List Constraint) (item : Json) (part : Constraint)
      → Given from items parts → At (from + length items) item part
      → Given from (items ++ item ∷ []) (parts ++ part ∷ [])
  one_more from [] [] item part given gives =
      let same : from + 0 ≡ from = omega arith in (subst (λ n. At n item part) same gives, tt)
  one_more from [] (first ∷ parts) item part given gives = absurd given
  one_more from (first ∷ items) [] item part given gives = absurd given
  one_more from (first ∷ items) (other ∷ parts) item part given gives =
      let same : from + suc (length items) ≡ (from + 1) + length items = omega arith in
      (given.0, one_more (from + 1) items parts item part given.1 (subst (λ n. At n item part) same gives))

  part_at : (from : ℕ) (items : List Json) (parts : List Constraint) (i : ℕ) (item : Json) → Given from items parts
      → slice_get items i ≡ Some item → (part : Constraint) × At (from + i) item part
  part_at from [] parts i item given at = absurd (let none : None ≡ Some item = at in cc)
  part_at from (first ∷ items) [] i item given at = absurd given
  part_at from (first ∷ items) (part ∷ parts) zero item given at =
      let same : first ≡ item = cc in let here : from ≡ from + 0 = omega arith in
      (part, subst (λ n. At n item part) here (subst (λ v. At from v part) same given.0))
  part_at from (first ∷ items) (part ∷ parts) (suc i) item given at =
      let later = part_at (from + 1) items parts i item given.1 at in
      let same : (from + 1) + i ≡ from + suc i = omega arith in
      (later.0, subst (λ n. At n item later.0) same later.1)

  module _ (items : List Json) (i : ℕ) (item : Json) (within : i < length items) (read : item ≡ get_or items i item)
      (inner : List Step) (inner_is : inner ≡ at_index place i)
    where
      pub next_part : (found : Option Constraint) (part : Constraint) (parts more : List Constraint)
          → Given 0 (take i items) parts → Reads (GivesConstraint fields sets inner item) found → found ≡ Some part
          → more ≡ parts ++ part ∷ [] → Given 0 (take (i + 1) items) more
      next_part found part parts more given reads some pushed =
          let whole : take (i + 1) items ≡ take i items ++ item ∷ [] =
          take_more items i item within ∙ ap (λ j. take i items ++ j ∷ []) (sym read) in
          let gives : GivesConstraint fields sets inner item part =
          subst (λ o. Reads (GivesConstraint fields sets inner item) o) some reads in
          let here : At i item part = subst (λ p. GivesConstraint fields sets p item part) inner_is gives in
          let count : i ≡ 0 + length (take i items) = omega (arith, take_length items i within) in
          subst (λ l. Given 0 l more) (sym whole) (subst (λ m. Given 0 (take i items ++ item ∷ []) m) (sym pushed)
          (one_more 0 (take i items) parts item part given (subst (λ n. At n item part) count here)))

      pub no_part : (found : Option Constraint) → Reads (GivesConstraint fields sets inner item) found → found ≡ None
          → (parts : List Constraint) → ¬ (Given 0 items parts)
      no_part found reads none parts given =
          let there = part_at 0 items parts i item given
          (slice_get_read items (length items) i item refl within read) in
          let same : 0 + i ≡ i = omega arith in
          let here : At i item there.0 = subst (λ n. At n item there.0) same there.1 in
          subst (λ o. Reads (GivesConstraint fields sets inner item) o) none reads there.0
          (subst (λ p. GivesConstraint fields sets p item there.0) (sym inner_is) here)

  pub all_parts : (items : List Json) (i : ℕ) (parts : List Constraint) → length items ≤ i
      → Given 0 (take i items) parts → Given 0 items parts
  all_parts items i parts all given = subst (λ l. Given 0 l parts) (take_whole items i all) given

  -- a list
  some_parts : (items : List Json) (parts : List Constraint) → items ≢ [] → Given 0 items parts → parts ≢ []
  some_parts [] parts some given none = some refl
  some_parts (item ∷ items) [] some given none = given
  some_parts (item ∷ items) (part ∷ parts) some given none = cc

  pub list_reads : (v : Json) (items : List Json) (r : Result (Option (List Constraint)) Memory)
      → v ≡ view.List items → items ≢ [] → IfOk r (Reads (Given 0 items))
      → IfOk r (Reads (GivesList fields sets place v))
  list_reads v items r is some reads =
      let P : Json → Type 0 = λ w. IfOk r (Reads (GivesList fields sets place w)) in
      subst P (sym is) (if_ok r _ _ (λ found. reads_same (Given 0 items)
      (GivesList fields sets place (view.List items)) found (λ parts. (
        (λ given. subst (λ T. T) (sym (list_gives fields sets place items parts))
            (some_parts items parts some given, given)),
        (λ gives. (subst (λ T. T) (list_gives fields sets place items parts) gives).1),
      ))) reads)

  none_of : (parts : List Constraint) → (parts ≢ []) × Given 0 [] parts → ⊥
  none_of [] h = h.0 refl
  none_of (part ∷ parts) h = h.1

  pub empty_list : (v : Json) (items : List Json) → v ≡ view.List items → items ≡ [] → (parts : List Constraint)
      → ¬ (GivesList fields sets place v parts)
  empty_list v items is empty parts gives =
      let here : GivesList fields sets place (view.List []) parts =
      subst (λ w. GivesList fields sets place w parts) (is ∙ ap view.List empty) gives in
      none_of parts (subst (λ T. T) (list_gives fields sets place [] parts) here)

  pub no_list : (v : Json) → false ≡ is_list v → (parts : List Constraint) → ¬ (GivesList fields sets place v parts)
  no_list v none parts = no_list_gives fields sets place v parts (sym none)

pub not_empty : (items : List Json) (b : Bool) → (IsTrue b ↔ (items ≡ [])) → b ≡ false → items ≢ []
not_empty items b same not_is empty = let both : true ≡ false = sym (same.1 empty) ∙ not_is in cc

-- the whole profile
pub whole_read : (fields : List Field) (sets slice : List SetMembers) (v : Json) (place : List Step) (items : List Json)
    (r : Result (Option (List Constraint)) Memory) → slice ≡ sets → place ≡ step.Member (codes "constraints") ∷ []
    → items ≡ constraints_of v → IfOk r (Reads (AreGiven fields slice place 0 items))
    → IfOk r (Reads (GivesConstraints fields sets v))
whole_read fields sets slice v place items r same place_is items_is reads =
    let P : List SetMembers → List Step → List Json → Type 0 =
    λ s p l. IfOk r (Reads (AreGiven fields s p 0 l)) in
    subst (λ s. P s (step.Member (codes "constraints") ∷ []) (constraints_of v)) same
    (subst (λ p. P slice p (constraints_of v)) place_is (subst (λ l. P slice place l) items_is reads))
