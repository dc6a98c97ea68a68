-- The constraints of a profile that breaks no rule are given.
use Rattle.std.proofs.Common.{◌≡◌, ◌≢◌, inr, ℕ, suc, ◌+◌, Bool, true, not, ◌&&◌, ◌==◌, if◌then◌else◌, List, [], ◌∷◌, length, Option, Some, None, IsSome, slice_get, codes, refl, sym, ◌∙◌, ap, subst, arith}
use Rattle.helix_constraints.specs.Rules.{AtOperand, BreaksForm, BreaksSize, form_in, is_empty_list, is_no_list, list_key}
use Rattle.helix_constraints.specs.Visited.{role_by_form, role_of_parts}
use Rattle.helix_constraints.specs.declared.role.Role.TheVariants as role
use Rattle.helix_fields.specs.FieldLaws.{not_false}
use Rattle.helix_fields.specs.Under.{items_of_some}
use Rattle.helix_json.specs.declared.value.Json.{Json}
use Rattle.helix_keywords.specs.FormLaws.{has_form_of}
use Rattle.helix_keywords.specs.declared.form.Form.{Form}
use Rattle.helix_keywords.specs.declared.form.Form.TheVariants as form
use Rattle.helix_operands.specs.Values.{Reads}
use Rattle.helix_places.specs.Members.{has_key, is_list, items_of, members_of, value_of}
use Rattle.helix_places.specs.PlaceLaws.{and_some}
use Rattle.helix_places.specs.Places.{Here, InMember}
use Rattle.helix_places.specs.declared.place.Step.{Step}
use Rattle.helix_places.specs.declared.place.Step.TheVariants as step
use Rattle.helix_profile.specs.declared.constraint.Constraint.{Constraint, Atom, Related}
use Rattle.helix_profile.specs.declared.constraint.Constraint.TheViews.{Not, AllOf, AnyOf, If}
use Rattle.helix_profile.specs.declared.field.Field.{Field}
use Rattle.helix_readings.specs.Given.{AreGiven, GivesAtom, GivesConstraint, GivesList, at_index, at_key}
use Rattle.helix_readings.specs.Inner.Operands.{MembersGive, OperandGives, OperandsGive}
use Rattle.helix_readings.specs.Whole.{GivesConstraints}
use Rattle.helix_readings.specs.declared.sets.SetMembers.{SetMembers}
use Rattle.helix_references.specs.RefusalLaws.{some_value}
use Rattle.helix_references.specs.Relations.{GivesRelation}
use Rattle.helix_validity.proofs.First.{IsSomewhere}
use Rattle.helix_validity.proofs.Gives.{gives_items, gives_members}
use Rattle.helix_validity.proofs.Keys.{all_of_keys, any_of_keys, else_keys, first_key, if_keys, not_keys}
use Rattle.helix_validity.proofs.Leaves.{and_then, atom_given, relation_given, some_there}
use Rattle.helix_validity.proofs.Parts.{OfParts, by_parts}
use Rattle.helix_validity.proofs.Sound.{IsSound, its_form, itself, sound_item, sound_part}
use Rattle.helix_validity.specs.Mentions.{AreFilled}
use Rattle.helix_validity.specs.Unbroken.{IsUnbrokenProfile}

module _ (fields : List Field) (sets : List SetMembers) where
  -- items one after the other
  each_there : (place : List Step) (index : ℕ) (items : List Json)
      → ((i n : ℕ) (item : Json) → slice_get items i ≡ Some item → n ≡ index + i
      → IsSomewhere (GivesConstraint fields sets (at_index place n) item))
      → IsSomewhere (AreGiven fields sets place index items)
  each_there place index [] each = some_there (AreGiven fields sets place index []) [] tt
  each_there place index (item ∷ items) each =
      and_then (GivesConstraint fields sets (at_index place index) item)
      (AreGiven fields sets place index (item ∷ items)) (each 0 index item refl (omega arith))
      (λ c first. and_then (AreGiven fields sets place (index + 1) items)
      (AreGiven fields sets place index (item ∷ items))
      (each_there place (index + 1) items (λ i n other at is. each (suc i) n other at (omega arith)))
      (λ cs rest. some_there (AreGiven fields sets place index (item ∷ items)) (c ∷ cs) (first, rest)))

  some_given : (place : List Step) (index : ℕ) (items : List Json) (cs : List Constraint) → items ≢ []
      → AreGiven fields sets place index items cs → cs ≢ []
  some_given place index [] cs some given = absurd (some refl)
  some_given place index (item ∷ items) [] some given = absurd given
  some_given place index (item ∷ items) (c ∷ cs) some given = λ none. absurd (cc)

  abbrev OneThere : List Step → Json → Type 0
  OneThere prefix v = IsSound fields sets prefix role.One v → IsSomewhere (GivesConstraint fields sets prefix v)

  abbrev ManyThere : List Step → Json → Type 0
  ManyThere prefix v = IsSound fields sets prefix role.Many v → is_list v ≡ true → items_of v ≢ []
      → IsSomewhere (GivesList fields sets prefix v)

  abbrev AreThere : Json → Type 0
  AreThere v = (prefix : List Step) → OneThere prefix v × ManyThere prefix v

  module _ (v : Json) (parts : OfParts AreThere v) (prefix : List Step) where
    module _ (sound : IsSound fields sets prefix role.One v) where
      abbrev One : List ℕ → Constraint → Type 0
      One = OperandGives fields sets prefix (members_of v)

      abbrev Many : List ℕ → List Constraint → Type 0
      Many = OperandsGive fields sets prefix (members_of v)

      one_there : (key : List ℕ) → role_of_parts role.One v ≡ Some role.One → has_key key (members_of v) ≡ true
          → IsSomewhere (One key)
      one_there key role_is has =
          let there = some_value (value_of key (members_of v)) has in
          and_then (GivesConstraint fields sets (at_key prefix key) there.0) (One key)
          ((parts (step.Member key) there.0 there.1 (at_key prefix key)).0
          (sound_part fields sets prefix role.One role.One v there.0 (step.Member key) role_is there.1 sound))
          (λ c gives. some_there (One key) c
          (and_some (value_of key (members_of v)) (λ w. GivesConstraint fields sets (at_key prefix key) w c) there.0
          there.1 gives))

      at_operand : (test : Json → Bool) (key : List ℕ) (w : Json) → list_key (form_in v) ≡ Some key
          → value_of key (members_of v) ≡ Some w → test w ≡ true → AtOperand test v (step.Member key ∷ [])
      at_operand test key w key_is is passes = and_some (list_key (form_in v))
          (λ k. InMember k (Here (λ u. test u ≡ true)) v (step.Member key ∷ [])) key key_is (
            refl,
            and_some (value_of key (members_of v)) (λ u. Here (λ x. test x ≡ true) u []) w is (refl, passes),
          )

      is_a_list : (key : List ℕ) (w : Json) → list_key (form_in v) ≡ Some key
          → value_of key (members_of v) ≡ Some w → is_list w ≡ true
      is_a_list key w key_is is = not_false (is_list w) (λ none. sound.form (step.Member key ∷ [])
          (itself BreaksForm v (step.Member key ∷ []) (inr (at_operand is_no_list key w key_is is (ap not none)))))

      has_items : (key : List ℕ) (w : Json) → list_key (form_in v) ≡ Some key
          → value_of key (members_of v) ≡ Some w → items_of w ≢ []
      has_items key w key_is is none =
          let empty : is_empty_list w ≡ true =
          ap (λ b. b && (length (items_of w) == 0)) (is_a_list key w key_is is) ∙ ap (λ l. length l == 0) none in
          sound.size (step.Member key ∷ [])
          (itself BreaksSize v (step.Member key ∷ []) (at_operand is_empty_list key w key_is is empty))

      many_there : (key : List ℕ) → list_key (form_in v) ≡ Some key → role_of_parts role.One v ≡ Some role.Many
          → has_key key (members_of v) ≡ true → IsSomewhere (Many key)
      many_there key key_is role_is has =
          let there = some_value (value_of key (members_of v)) has in
          and_then (GivesList fields sets (at_key prefix key) there.0) (Many key)
          ((parts (step.Member key) there.0 there.1 (at_key prefix key)).1
          (sound_part fields sets prefix role.One role.Many v there.0 (step.Member key) role_is there.1 sound)
          (is_a_list key there.0 key_is there.1) (has_items key there.0 key_is there.1))
          (λ cs give. some_there (Many key) cs
          (and_some (value_of key (members_of v)) (λ w. GivesList fields sets (at_key prefix key) w cs) there.0
          there.1 give))

      abbrev Made : Option Form → Constraint → Type 0
      Made = MembersGive fields sets prefix (members_of v)

      condition_there : form_in v ≡ Some form.If → IsSomewhere (Made (Some form.If))
      condition_there is =
          let keys = first_key (codes "if") (codes "then" ∷ []) (members_of v)
          (if_keys (members_of v) (has_form_of (members_of v) form.If is)) in
          let other = first_key (codes "then") [] (members_of v) keys.1 in
          and_then (One (codes "if")) (Made (Some form.If)) (one_there (codes "if") (ap role_by_form is) keys.0)
          (λ c first. and_then (One (codes "then")) (Made (Some form.If))
          (one_there (codes "then") (ap role_by_form is) other.0)
          (λ d second. some_there (Made (Some form.If)) (If c d None) (c, first, (d, second, refl))))

      else_there : form_in v ≡ Some form.IfElse → IsSomewhere (Made (Some form.IfElse))
      else_there is =
          let keys = first_key (codes "if") (codes "then" ∷ codes "else" ∷ []) (members_of v)
          (else_keys (members_of v) (has_form_of (members_of v) form.IfElse is)) in
          let other = first_key (codes "then") (codes "else" ∷ []) (members_of v) keys.1 in
          let last = first_key (codes "else") [] (members_of v) other.1 in
          and_then (One (codes "if")) (Made (Some form.IfElse))
          (one_there (codes "if") (ap role_by_form is) keys.0)
          (λ c first. and_then (One (codes "then")) (Made (Some form.IfElse))
          (one_there (codes "then") (ap role_by_form is) other.0)
          (λ d second. and_then (One (codes "else")) (Made (Some form.IfElse))
          (one_there (codes "else") (ap role_by_form is) last.0)
          (λ e third. some_there (Made (Some form.IfElse)) (If c d (Some e))
          (c, first, (d, second, (e, third, refl))))))

      made : (f : Form) → form_in v ≡ Some f → IsSomewhere (Made (Some f))
      made (form.Atom keyword) is = and_then (GivesAtom fields sets prefix (members_of v) keyword)
          (Made (Some (form.Atom keyword))) (atom_given fields sets prefix v sound keyword is)
          (λ a gives. some_there (Made (Some (form.Atom keyword))) (Atom a) (a, gives, refl))
      made (form.Related keyword) is = and_then (GivesRelation fields (members_of v) keyword)
          (Made (Some (form.Related keyword))) (relation_given fields sets prefix v sound keyword is)
          (λ r gives. some_there (Made (Some (form.Related keyword))) (Related r) (r, gives, refl))
      made form.Not is = and_then (One (codes "not")) (Made (Some form.Not))
          (one_there (codes "not") (ap role_by_form is) (first_key (codes "not") [] (members_of v)
          (not_keys (members_of v) (has_form_of (members_of v) form.Not is))).0)
          (λ c gives. some_there (Made (Some form.Not)) (Not c) (c, gives, refl))
      made form.AllOf is = and_then (Many (codes "allOf")) (Made (Some form.AllOf))
          (many_there (codes "allOf") (ap list_key is) (ap role_by_form is)
          (first_key (codes "allOf") [] (members_of v)
          (all_of_keys (members_of v) (has_form_of (members_of v) form.AllOf is))).0)
          (λ cs give. some_there (Made (Some form.AllOf)) (AllOf cs) (cs, give, refl))
      made form.AnyOf is = and_then (Many (codes "anyOf")) (Made (Some form.AnyOf))
          (many_there (codes "anyOf") (ap list_key is) (ap role_by_form is)
          (first_key (codes "anyOf") [] (members_of v)
          (any_of_keys (members_of v) (has_form_of (members_of v) form.AnyOf is))).0)
          (λ cs give. some_there (Made (Some form.AnyOf)) (AnyOf cs) (cs, give, refl))
      made form.If is = condition_there is
      made form.IfElse is = else_there is

    of_one : OneThere prefix v
    of_one sound =
        let its = its_form fields sets prefix v sound in
        and_then (MembersGive fields sets prefix (members_of v) (Some its.0)) (GivesConstraint fields sets prefix v)
        (made sound its.0 its.1)
        (λ c gives. some_there (GivesConstraint fields sets prefix v) c ((gives_members fields sets prefix v c).1
        (subst (λ o. MembersGive fields sets prefix (members_of v) o c) (sym its.1) gives)))

    of_many : ManyThere prefix v
    of_many sound list some =
        and_then (AreGiven fields sets prefix 0 (items_of v)) (GivesList fields sets prefix v)
        (each_there prefix 0 (items_of v) (λ i n item at is.
        let same : i ≡ n = omega arith in
        subst (λ k. IsSomewhere (GivesConstraint fields sets (at_index prefix k) item)) same
        ((parts (step.Item i) item at (at_index prefix i)).0
        (sound_part fields sets prefix role.Many role.One v item (step.Item i)
        (ap (λ b. if b then Some role.One else None) list) at sound))))
        (λ cs given. some_there (GivesList fields sets prefix v) cs ((gives_items fields sets prefix v cs).1
        (list, some_given prefix 0 (items_of v) cs some given, given)))

  are_there : (v : Json) → AreThere v
  are_there = by_parts AreThere (λ v parts prefix. (of_one v parts prefix, of_many v parts prefix))

  module _ (v : Json) (unbroken : IsUnbrokenProfile fields v) (filled : AreFilled fields sets v) where
    under : (o : Option Json) → value_of (codes "constraints") (members_of v) ≡ o
        → IsSomewhere (AreGiven fields sets (step.Member (codes "constraints") ∷ []) 0 (items_of_some o))
    under None is = each_there (step.Member (codes "constraints") ∷ []) 0 []
        (λ i n item at same. absurd (let none : None ≡ Some item = at in cc))
    under (Some w) is = each_there (step.Member (codes "constraints") ∷ []) 0 (items_of w)
        (λ i n item at index.
        let same : i ≡ n = omega arith in
        subst (λ k. IsSomewhere (GivesConstraint fields sets (step.Member (codes "constraints") ∷ step.Item k ∷ [])
        item)) same
        ((are_there item (step.Member (codes "constraints") ∷ step.Item i ∷ [])).0
        (sound_item fields sets v unbroken filled w item i is at)))

    pub profile_there : IsSomewhere (GivesConstraints fields sets v)
    profile_there = under (value_of (codes "constraints") (members_of v)) refl

    -- so a reading finds them
    pub reading_finds : (found : Option (List Constraint)) → Reads (GivesConstraints fields sets v) found
        → IsSome found
    reading_finds None reads = absurd (profile_there reads)
    reading_finds (Some cs) reads = refl
