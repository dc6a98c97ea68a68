-- The first broken rule, by what each search found.
use Rattle.std.proofs.Common.{◌≡◌, ℕ, ◌<◌, inl, true, false, List, [], ◌∷◌, Option, Some, None, is_some, IsTrue, codes, refl, sym, ◌∙◌, ap, subst, arith}
use Rattle.std.specs.Option.{IsSomeAnd}
use Rattle.helix_json.specs.declared.value.Json.{Json}
use Rattle.helix_json.specs.declared.value.Json.TheViews as view
use Rattle.helix_json.specs.declared.value.Member.{Member}
use Rattle.helix_json.specs.Values.{HasNoRepeatedKey}
use Rattle.helix_json.specs.ValueLaws.{keys_of_members}
use Rattle.helix_legacy.specs.declared.breach.Breach.{Breach}
use Rattle.helix_legacy.specs.declared.fault.LegacyRule.{LegacyRule}
use Rattle.helix_legacy.specs.declared.fault.LegacyRule.TheVariants as rule
use Rattle.helix_places.specs.declared.place.Step.{Step}
use Rattle.helix_places.specs.declared.place.Step.TheVariants as step
use Rattle.helix_places.specs.Members.{members_of, value_of, has_key}
use Rattle.helix_legacy.specs.Broken.{Broken, is_older, HasConstraints, BreaksForm, BreaksName, BreaksATest, IsFirstBroken, IsUnbroken, rank}
use Rattle.helix_places.specs.Places.{Finds, IsFirstPlace, InMember, Here}
use Rattle.helix_legacy.specs.Inner.Parts.{IsBreach}
use Rattle.helix_places.specs.PlaceLaws.{and_some, none_in_member, first_in_member}
use Rattle.helix_places.specs.KeyLaws.{Leads, leads, all_at}
use Rattle.helix_places.specs.ViewLaws.{members_of_object}

pub none_is : {A : Type 0} (o : Option A) (P : A → Type 0) → o ≡ None → ¬ (IsSomeAnd o P)
none_is o P is h = let Q : Option _ → Type 0 = λ q. IsSomeAnd q P in subst Q is h

no_key : (o : Option Json) → is_some o ≡ false → o ≡ None
no_key None e = refl
no_key (Some w) e = absurd (cc)

a_key : (o : Option Json) → is_some o ≡ true → (w : Json) × (o ≡ Some w)
a_key None e = absurd (cc)
a_key (Some w) e = (w, refl)

in_it : (o : Option Json) (place : List Step) → IsSomeAnd o (λ w. Here (λ v. Unit {0}) w place) → place ≡ []
in_it None place h = absurd h
in_it (Some w) place h = h.0

-- no rule is before the first
none_before_first : (P : LegacyRule → Type 0) (other : LegacyRule) → rank other < 1 → P other
none_before_first P rule.L1 less = absurd (omega arith)
none_before_first P rule.L2 less = absurd (omega arith)
none_before_first P rule.L3 less = absurd (omega arith)
none_before_first P rule.L4 less = absurd (omega arith)

-- the value under a key repeats no key
pub value_keys : (members : List Member) (key : List ℕ) (w : Json) → HasNoRepeatedKey (view.Object members)
    → value_of key members ≡ Some w → HasNoRepeatedKey w
value_keys members key w keys is =
    let found : Leads key members w = leads key members w is in
    let has : HasNoRepeatedKey found.member.value = all_at (λ n. HasNoRepeatedKey n.value) members found.index
    found.member
    ((keys_of_members members).0 keys).1 found.at in
    subst HasNoRepeatedKey found.value_is has

module _ (members : List Member) where
  its : (key : List ℕ) → value_of key (members_of (view.Object members)) ≡ value_of key members
  its key = ap (value_of key) (members_of_object members)

  pub none_beside : has_key (codes "constraints") members ≡ false → (place : List Step)
      → ¬ (HasConstraints (view.Object members) place)
  none_beside none [] h = h
  none_beside none (step.Item index ∷ place) h = h
  none_beside none (step.Member key ∷ place) h =
      none_is (value_of (codes "constraints") (members_of (view.Object members))) (λ w. Here (λ v. Unit {0}) w place)
      (its (codes "constraints") ∙ no_key (value_of (codes "constraints") members) none) h.1

  only_one : (place : List Step) → HasConstraints (view.Object members) place
      → place ≡ step.Member (codes "constraints") ∷ []
  only_one [] h = absurd h
  only_one (step.Item index ∷ place) h = absurd h
  only_one (step.Member key ∷ place) h =
      ap (λ k. step.Member k ∷ place) h.0
      ∙ ap (λ p. step.Member (codes "constraints") ∷ p)
      (in_it (value_of (codes "constraints") (members_of (view.Object members))) place h.1)

  pub beside : has_key (codes "constraints") members ≡ true → (place : List Step)
      → place ≡ step.Member (codes "constraints") ∷ [] → IsFirstBroken (view.Object members) rule.L1 place
  unfolding Broken
  beside has place is =
      let there : (w : Json) × (value_of (codes "constraints") members ≡ Some w) =
      a_key (value_of (codes "constraints") members) has in
      let here : HasConstraints (view.Object members) (step.Member (codes "constraints") ∷ []) = (
        refl,
        and_some (value_of (codes "constraints") (members_of (view.Object members)))
            (λ w. Here (λ v. Unit {0}) w []) there.0 (its (codes "constraints") ∙ there.1) (refl, tt),
      ) in
      record {
        first = record {
          named = let Q : List Step → Type 0 = HasConstraints (view.Object members) in subst Q (sym is) here;
          first = λ other h. inl (only_one other h ∙ sym is);
        };
        earlier = λ other less. none_before_first (λ r. (there : List Step)
            → ¬ (Broken r (view.Object members) there)) other less;
      }

  -- in `rules`
  module _ (rules : Json) (is : value_of (codes "rules") members ≡ Some rules) where
    rules_are : value_of (codes "rules") (members_of (view.Object members)) ≡ Some rules
    rules_are = its (codes "rules") ∙ is

    pub none_of : (P : Json → List Step → Type 0) (found : Option (List Step))
        → ((place : List Step) → found ≡ Some place → ⊥) → Finds rules (P rules) found
        → Finds (view.Object members) (InMember (codes "rules") P (view.Object members)) None
    none_of P None not_some finds = none_in_member (view.Object members) rules (codes "rules") P rules_are finds
    none_of P (Some place) not_some finds = absurd (not_some place refl)

    pub first_of : (P : Json → List Step → Type 0) (found : Option (List Step)) (place outer : List Step)
        → found ≡ Some place → outer ≡ step.Member (codes "rules") ∷ place → Finds rules (P rules) found
        → IsFirstPlace (view.Object members) (InMember (codes "rules") P (view.Object members)) outer
    first_of P found place outer some outer_is finds =
        let Q : Option (List Step) → Type 0 = λ o. Finds rules (P rules) o in
        let R : List Step → Type 0 =
        λ p. IsFirstPlace (view.Object members) (InMember (codes "rules") P (view.Object members)) p in
        subst R (sym outer_is)
        (first_in_member (view.Object members) rules (codes "rules") P rules_are place (subst Q some finds))

abbrev Nowhere : (Json → List Step → Type 0) → Json → Type 0
Nowhere P v = (place : List Step) → ¬ (P v place)

module _ (v : Json) (alone : Nowhere HasConstraints v) where
  breach_is : (breach : Breach) (r : LegacyRule) → breach.rule ≡ r → IsFirstBroken v r breach.place
      → IsFirstBroken v breach.rule breach.place
  breach_is breach r is first = let Q : LegacyRule → Type 0 = λ s. IsFirstBroken v s breach.place in subst Q
      (sym is) first

  earlier_form : (other : LegacyRule) → rank other < 2 → (there : List Step) → ¬ (Broken other v there)
  unfolding Broken
  earlier_form rule.L1 less = alone
  earlier_form rule.L2 less = absurd (omega arith)
  earlier_form rule.L3 less = absurd (omega arith)
  earlier_form rule.L4 less = absurd (omega arith)

  earlier_name : Nowhere (InMember (codes "rules") BreaksForm) v → (other : LegacyRule) → rank other < 3
      → (there : List Step) → ¬ (Broken other v there)
  unfolding Broken
  earlier_name form rule.L1 less = alone
  earlier_name form rule.L2 less = form
  earlier_name form rule.L3 less = absurd (omega arith)
  earlier_name form rule.L4 less = absurd (omega arith)

  earlier_test : Nowhere (InMember (codes "rules") BreaksForm) v → Nowhere (InMember (codes "rules") BreaksName) v
      → (other : LegacyRule) → rank other < 4 → (there : List Step) → ¬ (Broken other v there)
  unfolding Broken
  earlier_test form name rule.L1 less = alone
  earlier_test form name rule.L2 less = form
  earlier_test form name rule.L3 less = name
  earlier_test form name rule.L4 less = absurd (omega arith)

  pub first_form : (breach : Breach) → breach.rule ≡ rule.L2
      → IsFirstPlace v (InMember (codes "rules") BreaksForm v) breach.place → IsBreach v (Some breach)
  unfolding Broken
  first_form breach is first = breach_is breach rule.L2 is (record { first = first; earlier = earlier_form })

  pub first_name : (breach : Breach) → breach.rule ≡ rule.L3 → Nowhere (InMember (codes "rules") BreaksForm) v
      → IsFirstPlace v (InMember (codes "rules") BreaksName v) breach.place → IsBreach v (Some breach)
  unfolding Broken
  first_name breach is form first = breach_is breach rule.L3 is (record { first = first; earlier = earlier_name form })

  pub first_test : (breach : Breach) → breach.rule ≡ rule.L4 → Nowhere (InMember (codes "rules") BreaksForm) v
      → Nowhere (InMember (codes "rules") BreaksName) v
      → IsFirstPlace v (InMember (codes "rules") BreaksATest v) breach.place → IsBreach v (Some breach)
  unfolding Broken
  first_test breach is form name first =
      breach_is breach rule.L4 is (record { first = first; earlier = earlier_test form name })

  pub no_breach : Nowhere (InMember (codes "rules") BreaksForm) v → Nowhere (InMember (codes "rules") BreaksName) v
      → Nowhere (InMember (codes "rules") BreaksATest) v → IsUnbroken v
  unfolding Broken
  no_breach form name test rule.L1 = alone
  no_breach form name test rule.L2 = form
  no_breach form name test rule.L3 = name
  no_breach form name test rule.L4 = test

-- a value of the older form has rules
pub older_rules : (members : List Member) (found : Option Json) → IsTrue (is_older (view.Object members))
    → found ≡ value_of (codes "rules") members → found ≡ None → ⊥
older_rules members found older is none =
    let has : is_some (value_of (codes "rules") (members_of (view.Object members))) ≡ true = older in
    let lacks : value_of (codes "rules") (members_of (view.Object members)) ≡ None =
    its members (codes "rules") ∙ (sym is ∙ none) in
    let lacks_it : is_some (value_of (codes "rules") (members_of (view.Object members))) ≡ false =
    ap (λ o. is_some o) lacks in cc

pub older_object : (v : Json) → IsTrue (is_older v) → members_of v ≡ [] → ⊥
older_object v older none =
    let has : is_some (value_of (codes "rules") (members_of v)) ≡ true = older in
    let lacks : is_some (value_of (codes "rules") (members_of v)) ≡ false =
    ap (λ l. is_some (value_of (codes "rules") l)) none in cc
