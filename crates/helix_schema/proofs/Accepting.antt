-- The draft of a value that breaks no rule.
use Rattle.std.proofs.Common.{◌≡◌, List, [], ◌∷◌, map, refl, sym, ◌∙◌, ap, subst}
use Rattle.std.specs.List.{AllByRecursion}
use Rattle.helix_base.specs.declared.alphabet.Alphabet.{Alphabet}
use Rattle.helix_fields.specs.Fields.{fields_of}
use Rattle.helix_json.specs.Values.{HasNoRepeatedKey}
use Rattle.helix_json.specs.declared.value.Json.{Json}
use Rattle.helix_profile.specs.declared.field.Field.{Field}
use Rattle.helix_validity.specs.Unbroken.{IsUnbrokenProfile}
use Rattle.helix_schema.specs.Drafts.{IsDraft, IsGoodWish, Drafted, unfilled}
use Rattle.helix_schema.specs.Mentions.{mentions_of}
use Rattle.helix_schema.specs.Refusals.{IsDraftToday}
use Rattle.helix_schema.specs.declared.mention.Mention.{Mention}
use Rattle.helix_schema.specs.declared.wish.Wish.{Wish}

same_mentions : (mentions : List Mention) → map (λ wish. wish.mention) (map unfilled mentions) ≡ mentions
same_mentions [] = refl
same_mentions (mention ∷ mentions) = ap (λ l. mention ∷ l) (same_mentions mentions)

all_good : (mentions : List Mention) → AllByRecursion IsGoodWish (map unfilled mentions)
all_good [] = tt
all_good (mention ∷ mentions) = (tt, all_good mentions)

module _ (alphabet : Alphabet) (value : Json) (fields slice : List Field) (mentions : List Mention) (wishes : List Wish)
    (fields_are : fields ≡ fields_of alphabet value) (slice_is : slice ≡ fields)
    (mentions_are : mentions ≡ mentions_of slice value) (wishes_are : wishes ≡ map unfilled mentions)
    (unbroken : IsUnbrokenProfile (fields_of alphabet value) value)
  where
    own_mentions : mentions ≡ mentions_of (fields_of alphabet value) value
    own_mentions = mentions_are ∙ ap (λ fs. mentions_of fs value) (slice_is ∙ fields_are)

    pub is_draft : HasNoRepeatedKey value → IsDraft (record { alphabet = alphabet; value = value; wishes = wishes })
    is_draft keys = record {
      keys = keys;
      unbroken = unbroken;
      mentions = ap (map (λ wish. wish.mention)) wishes_are ∙ (same_mentions mentions ∙ own_mentions);
      good = all_are_good;
    }
      where
        all_are_good : AllByRecursion IsGoodWish wishes
        all_are_good = subst (AllByRecursion IsGoodWish) (sym wishes_are) (all_good mentions)

    pub draft_is : (draft : Drafted) → draft ≡ record { alphabet = alphabet; value = value; wishes = wishes }
        → IsDraftToday alphabet value draft
    draft_is draft is = record {
      unbroken = unbroken;
      alphabet_is = ap (λ d. d.alphabet) is;
      value = ap (λ d. d.value) is;
      wishes = ap (λ d. d.wishes) is ∙ (wishes_are ∙ ap (map unfilled) own_mentions);
    }
