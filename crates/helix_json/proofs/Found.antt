-- A repeated key, found among the tokens of a text, said of the text.
use Rattle.std.proofs.Common.{◌≡◌, ℕ, ◌+◌, ◌<◌, Option, Some, IfSome, List, ◌∷◌, length, get_or, sym, ◌∙◌, ap, subst, arith, length-append}
use Rattle.std.proofs.lemmas.List.{get_or_read}
use Rattle.helix_json.specs.declared.fault.JsonFault.TheVariants as fault
use Rattle.helix_json.specs.declared.value.Json.{Json}
use Rattle.helix_json.specs.declared.token.Token.{Token}
use Rattle.helix_json.specs.Broken.{BeginsAt, BeginsTooDeep, First, FirstIn, RepeatsKey, byte_offset}
use Rattle.helix_json.specs.Inner.Reading.{BreaksRule}
use Rattle.helix_json.specs.Inner.Rules.{IsFirstAt, HoldsNowhere}
use Rattle.helix_json.specs.Inner.Scanned.{AreTokensOf}

module _ (text : List ℕ) (v : Json) (ts : List Token) (offsets : List ℕ) (scanned : AreTokensOf text v ts offsets) where
  has_offset : (i : ℕ) → IsFirstAt RepeatsKey ts i → i < length offsets
  has_offset i (before, t, rest, first, at) =
      let n : length ts ≡ length before + length (t ∷ rest) = ap length first.is ∙ length-append before (t ∷ rest) in
      let m = scanned.each in omega arith

  found_in : (i : ℕ) → IsFirstAt RepeatsKey ts i → FirstIn RepeatsKey text v (get_or offsets i 0)
  found_in i (before, t, rest, first, at) = (
    before,
    t,
    rest,
    subst (λ l. First RepeatsKey l before t rest) (sym scanned.are) first,
    subst (λ j. BeginsAt text before t rest (get_or offsets j 0)) (sym at) (scanned.begin before t rest first.is),
  )

  repeated : (i offset at : ℕ) → HoldsNowhere BeginsTooDeep ts → IsFirstAt RepeatsKey ts i
      → offset ≡ get_or offsets i offset → at ≡ byte_offset text offset → BreaksRule text (fault.DuplicateKey at)
  repeated i offset at shallow first is offset_is = (
    v,
    offset,
    scanned.spells,
    λ before t rest e. shallow before t rest (sym scanned.are ∙ e),
    subst (FirstIn RepeatsKey text v) (sym (get_or_read offsets i offset (has_offset i first) is 0)) (found_in i first),
    offset_is,
  )

  pub repeated_key : (others again : List Token) (i offset at : ℕ) (found : Option ℕ) → others ≡ ts
      → HoldsNowhere BeginsTooDeep others → again ≡ ts → found ≡ Some i
      → IfSome found (IsFirstAt RepeatsKey again) → offset ≡ get_or offsets i offset → at ≡ byte_offset text offset
      → BreaksRule text (fault.DuplicateKey at)
  repeated_key others again i offset at found a shallow b some first is offset_is =
      repeated i offset at (subst (HoldsNowhere BeginsTooDeep) a shallow)
      (subst (λ l. IsFirstAt RepeatsKey l i) b (subst (λ o. IfSome o (IsFirstAt RepeatsKey again)) some first)) is
      offset_is
