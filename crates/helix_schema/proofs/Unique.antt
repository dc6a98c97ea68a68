-- A value is refused by one rule at one place, or it has one draft.
use Rattle.std.proofs.Common.{◌≡◌, ◌⊎◌, inl, inr, ⊎_elim, ℕ, ◌<◌, List, [], ◌∷◌, Some, slice_get, refl, sym, ◌∙◌, ap, subst, arith}
use Rattle.std.proofs.lemmas.Bool.{cases_lt}
use Rattle.helix_base.specs.declared.alphabet.Alphabet.{Alphabet}
use Rattle.helix_fields.specs.Fields.{fields_of}
use Rattle.helix_json.specs.declared.value.Json.{Json}
use Rattle.helix_legacy.specs.Broken.{Broken as BrokenOlder, IsFirstBroken, rank}
use Rattle.helix_legacy.specs.Today.{today_of}
use Rattle.helix_legacy.specs.declared.fault.LegacyRule.{LegacyRule}
use Rattle.helix_legacy.specs.declared.fault.LegacyRule.TheVariants as legacy
use Rattle.helix_places.specs.PlaceLaws.{some_and}
use Rattle.helix_places.specs.Places.{IsFirstPlace, Precedes, index_of_part, part}
use Rattle.helix_places.specs.declared.place.Step.{Step}
use Rattle.helix_profile.specs.declared.field.Field.{Field}
use Rattle.helix_references.specs.RefusalLaws.{some_of}
use Rattle.helix_rules.specs.Breaches.{IsFirstBreach}
use Rattle.helix_rules.specs.Broken.{Broken}
use Rattle.helix_rules.specs.declared.breach.Breach.{Breach}
use Rattle.helix_rules.specs.declared.rule.Rule.{Rule}
use Rattle.helix_rules.specs.declared.rule.Rule.TheVariants as rule
use Rattle.helix_schema.specs.Drafts.{Drafted}
use Rattle.helix_schema.specs.Refusals.{IsDraftOf, IsRefused, IsRefusedAsOlder, IsRefusedToday, IsSoundIfOlder, refusal, rule_of}
use Rattle.helix_schema.specs.declared.refusal.Refusal.{Refusal}
use Rattle.helix_validity.specs.Unbroken.{profile_rules}

-- of two places one comes first
not_both : (a b : List Step) (v : Json) → Precedes v a b → Precedes v b a → ⊥
not_both [] [] v one two = one
not_both [] (next ∷ b) v one two = two
not_both (step ∷ a) [] v one two = one
not_both (step ∷ a) (next ∷ b) v (inl one) (inl two) = absurd (omega (arith, one, two))
not_both (step ∷ a) (next ∷ b) v (inl one) (inr two) =
    let same : index_of_part v next ≡ index_of_part v step = ap (index_of_part v) two.0 in
    absurd (omega (arith, one, same))
not_both (step ∷ a) (next ∷ b) v (inr one) (inl two) =
    let same : index_of_part v step ≡ index_of_part v next = ap (index_of_part v) one.0 in
    absurd (omega (arith, two, same))
not_both (step ∷ a) (next ∷ b) v (inr one) (inr two) =
    let at = some_of (part v step) (λ w. Precedes w a b) one.1 in
    not_both a b at.0 at.2 (some_and (part v next) (λ w. Precedes w b a) at.0 (ap (part v) (sym one.0) ∙ at.1) two.1)

one_place : (v : Json) (Named : List Step → Type 0) (a b : List Step) → IsFirstPlace v Named a → IsFirstPlace v Named b
    → a ≡ b
one_place v Named a b one two = ⊎_elim (λ same. sym same)
    (λ before. ⊎_elim (λ same. same) (λ after. absurd (not_both a b v before after)) (two.first a one.named))
    (one.first b two.named)

-- of today's form
module _ (fields : List Field) (rules : List Rule) (v : Json) (a b : Breach) where
  not_earlier : (one : IsFirstBreach fields rules v a) (two : IsFirstBreach fields rules v b) → one.index < two.index → ⊥
  not_earlier one two before = two.earlier one.index before a.rule one.listed a.place one.first.named

  same_rule : (one : IsFirstBreach fields rules v a) (two : IsFirstBreach fields rules v b) → one.index ≡ two.index
      → a.rule ≡ b.rule
  same_rule one two same =
      let both : Some a.rule ≡ Some b.rule = sym one.listed ∙ (ap (slice_get rules) same ∙ two.listed) in cc

  breach_by : (one : IsFirstBreach fields rules v a) (two : IsFirstBreach fields rules v b) → a.rule ≡ b.rule
      → refusal a.rule a.place ≡ refusal b.rule b.place
  breach_by one two same =
      let place : a.place ≡ b.place = one_place v (Broken fields b.rule v) a.place b.place
      (subst (λ r. IsFirstPlace v (Broken fields r v) a.place) same one.first) two.first in
      ap (λ r. refusal r a.place) same ∙ ap (refusal b.rule) place

  pub one_breach : IsFirstBreach fields rules v a → IsFirstBreach fields rules v b
      → refusal a.rule a.place ≡ refusal b.rule b.place
  one_breach one two = ⊎_elim (λ before. absurd (not_earlier one two before))
      (λ from. ⊎_elim (λ after. absurd (not_later after)) (λ same. breach_by one two (same_rule one two same)) from)
      (three one.index two.index)
    where
      not_later : two.index < one.index → ⊥
      not_later after = one.earlier two.index after b.rule two.listed b.place two.first.named

      three : (i j : ℕ) → (i < j) ⊎ ((j < i) ⊎ (i ≡ j))
      three i j = ⊎_elim (λ before. inl before)
          (λ from. inr (⊎_elim (λ after. inl after) (λ to. inr (omega (arith, from, to))) (cases_lt j i))) (cases_lt i j)

-- of the older form
same_rank : (a b : LegacyRule) → rank a ≡ rank b → a ≡ b
same_rank legacy.L1 legacy.L1 is = refl
same_rank legacy.L1 legacy.L2 is = absurd (omega (arith, is))
same_rank legacy.L1 legacy.L3 is = absurd (omega (arith, is))
same_rank legacy.L1 legacy.L4 is = absurd (omega (arith, is))
same_rank legacy.L2 legacy.L1 is = absurd (omega (arith, is))
same_rank legacy.L2 legacy.L2 is = refl
same_rank legacy.L2 legacy.L3 is = absurd (omega (arith, is))
same_rank legacy.L2 legacy.L4 is = absurd (omega (arith, is))
same_rank legacy.L3 legacy.L1 is = absurd (omega (arith, is))
same_rank legacy.L3 legacy.L2 is = absurd (omega (arith, is))
same_rank legacy.L3 legacy.L3 is = refl
same_rank legacy.L3 legacy.L4 is = absurd (omega (arith, is))
same_rank legacy.L4 legacy.L1 is = absurd (omega (arith, is))
same_rank legacy.L4 legacy.L2 is = absurd (omega (arith, is))
same_rank legacy.L4 legacy.L3 is = absurd (omega (arith, is))
same_rank legacy.L4 legacy.L4 is = refl

one_older : (v : Json) (a b : LegacyRule) (p q : List Step) → IsFirstBroken v a p → IsFirstBroken v b q
    → refusal (rule_of a) p ≡ refusal (rule_of b) q
one_older v a b p q one two = ⊎_elim (λ before. absurd (two.earlier a before p one.first.named))
    (λ from. ⊎_elim (λ after. absurd (one.earlier b after q two.first.named))
    (λ to. same (same_rank a b (omega (arith, from, to)))) (cases_lt (rank b) (rank a))) (cases_lt (rank a) (rank b))
  where
    same : a ≡ b → refusal (rule_of a) p ≡ refusal (rule_of b) q
    same is =
        let place : p ≡ q = one_place v (BrokenOlder b v) p q
        (subst (λ r. IsFirstPlace v (BrokenOlder r v) p) is one.first) two.first in
        ap (λ r. refusal (rule_of r) p) is ∙ ap (refusal (rule_of b)) place

module _ (alphabet : Alphabet) (v : Json) where
  today_one : (first second : Refusal) → IsRefusedToday alphabet (today_of v) first
      → IsRefusedToday alphabet (today_of v) second → first ≡ second
  today_one first second one two = one.2 ∙ (one_breach (fields_of alphabet (today_of v)) (rule.S1 ∷ profile_rules)
      (today_of v) one.0 two.0 one.1 two.1 ∙ sym two.2)

  not_older : (refused : Refusal) → IsRefusedAsOlder v refused → ¬ (IsSoundIfOlder v)
  not_older refused (older, (broken, (place, (first, is)))) sound = sound older broken place first.first.named

  pub one_refused : (first second : Refusal) → IsRefused alphabet v first → IsRefused alphabet v second
      → first ≡ second
  one_refused first second (inl (older, (a, (p, (one, is))))) (inl (also, (b, (q, (two, other))))) =
      is ∙ (one_older v a b p q one two ∙ sym other)
  one_refused first second (inl one) (inr two) = absurd (not_older first one two.0)
  one_refused first second (inr one) (inl two) = absurd (not_older second two one.0)
  one_refused first second (inr one) (inr two) = today_one first second one.1 two.1

  pub not_drafted : (refused : Refusal) (draft : Drafted) → IsRefused alphabet v refused
      → ¬ (IsDraftOf alphabet v draft)
  not_drafted refused draft (inl one) is = not_older refused one is.older
  not_drafted refused draft (inr one) is =
      is.today.unbroken one.1.0.rule one.1.0.place one.1.1.first.named

  pub same_drafts : (first second : Drafted) → IsDraftOf alphabet v first → IsDraftOf alphabet v second
      → first ≡ second
  same_drafts first second one two =
      let value : first.value ≡ second.value = one.today.value ∙ sym two.today.value in
      let names : first.alphabet ≡ second.alphabet = one.today.alphabet_is ∙ sym two.today.alphabet_is in
      let wishes : first.wishes ≡ second.wishes = one.today.wishes ∙ sym two.today.wishes in
      ap (λ a. record { alphabet = a; value = first.value; wishes = first.wishes }) names
      ∙ (ap (λ w. record { alphabet = second.alphabet; value = w; wishes = first.wishes }) value
      ∙ ap (λ ws. record { alphabet = second.alphabet; value = second.value; wishes = ws }) wishes)
