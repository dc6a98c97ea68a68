-- Where reading begins, and what it has found at the end of the text.
use Rattle.std.proofs.Common.{◌≡◌, ℕ, ◌≤◌, true, Some, List, [], ◌∷◌, zero, suc, length, take, drop, slice_range, ◌-◌, refl, sym, ◌∙◌, ap, subst, arith}
use Rattle.std.proofs.lemmas.Bool.{and_parts}
use Rattle.std.specs.Str.{all_scalars}
use Rattle.helix_json.specs.declared.value.Json.{Json}
use Rattle.helix_json.specs.declared.token.Token.{Token}
use Rattle.helix_json.specs.declared.need.Need.TheVariants as need
use Rattle.helix_json.specs.declared.need.Container.TheVariants as container
use Rattle.helix_json.specs.declared.nest.Nest.{Nest}
use Rattle.helix_json.specs.Tokens.{tokens}
use Rattle.helix_json.specs.Broken.{IsJsonText}
use Rattle.helix_base.specs.Syntax.{IsViablePrefix, IsSyntaxErrorAt}
use Rattle.helix_json.specs.Inner.Lexer.{between, lex}
use Rattle.helix_json.specs.Inner.Machine.{Reading, value, first_item, first_key, key, colon, after, in_list, in_object, run}
use Rattle.helix_json.specs.Inner.Need.{need_of, opened, containers}
use Rattle.helix_json.specs.Inner.Progress.{IsWhole, IsReadTo, AllBegin, HoldsSoFar}
use Rattle.helix_json.specs.Inner.Scanned.{AreTokensOf}
use Rattle.helix_json.proofs.StringBack.{two_true}
use Rattle.helix_json.proofs.Machine.{run_tokens}
use Rattle.helix_json.proofs.TokensRead.{tokens_from}
use Rattle.helix_json.proofs.Lexing.{lexes_value}
use Rattle.helix_json.proofs.Sound.{some_is}
use Rattle.helix_json.proofs.Viable.{spells_from}
use Rattle.helix_json.proofs.Tracking.{no_push}
use Rattle.helix_json.proofs.SyntaxErrors.{whole_text, fails_at_end}
use Rattle.helix_json.proofs.ReadingOn.{read_to_start}
use Rattle.helix_json.proofs.TokenOffsets.{each_offset, offset_of_each}

pub holds_same : (text : List ℕ) (at : ℕ) (ts us : List Token) (ps qs : List ℕ) (old new : Nest) → us ≡ ts → qs ≡ ps
    → new ≡ old → HoldsSoFar text at ts ps old → HoldsSoFar text at us qs new
holds_same text at ts us ps qs old new e f g holds =
    subst (λ l. HoldsSoFar text at l qs new) (sym e)
    (subst (λ l. HoldsSoFar text at ts l new) (sym f) (subst (λ n. HoldsSoFar text at ts ps n) (sym g) holds))

pub holds_start : (text : List ℕ) (ts : List Token) (ps : List ℕ) (nest : Nest) → ts ≡ [] → ps ≡ []
    → nest.need ≡ need.Value → nest.containers.items ≡ [] → HoldsSoFar text 0 ts ps nest
holds_start text ts ps nest no_tokens no_offsets needs holds = record {
  reading = value [];
  is_read = subst (λ l. IsReadTo text 0 l (value [])) (sym no_tokens) (read_to_start text);
  tracks = (needs, holds);
  begin = subst (λ l. AllBegin text [] l ps) (sym no_tokens) (subst (λ l. AllBegin text [] [] l) (sym no_offsets) tt);
}

whole_reading : (r : Reading) → need.After ≡ need_of r → [] ≡ containers r → (v : Json) × (r ≡ after v [])
whole_reading (value fs) e f = cc
whole_reading (first_item fs) e f = cc
whole_reading (first_key fs) e f = cc
whole_reading (key ms fs) e f = cc
whole_reading (colon ms k fs) e f = cc
whole_reading (after x []) e f = (x, refl)
whole_reading (after x (in_list xs ∷ fs)) e f = absurd (no_push (opened fs) container.List (sym f))
whole_reading (after x (in_object ms k ∷ fs)) e f = absurd (no_push (opened fs) container.Object (sym f))

module _ (text : List ℕ) (at : ℕ) (ts : List Token) (ps : List ℕ) (nest : Nest) (past : length text ≤ at)
    (holds : HoldsSoFar text at ts ps nest) where
  at_end : at ≡ length text
  at_end = omega (arith, holds.is_read.within)

  reads_all : lex text between ≡ Some ts
  reads_all = ap (λ t. lex t between) (sym (whole_text text at at_end)) ∙ holds.is_read.alone

  pub spells_whole : IsWhole nest → (v : Json) × AreTokensOf text v ts ps
  spells_whole whole =
      let (v, is) = whole_reading holds.reading (sym whole.0 ∙ holds.tracks.0) (sym whole.1 ∙ holds.tracks.1) in
      let leads : run (value []) ts ≡ Some (after v []) = holds.is_read.leads ∙ ap (λ r. Some r) is in (
        v,
        record {
          spells = spells_from text ts v reads_all leads;
          are = tokens_from ts v leads;
          each = each_offset text [] ts ps holds.begin;
          begin = offset_of_each text ts ps holds.begin reads_all;
        },
      )

  pub fails_open : ¬ (IsWhole nest) → IsSyntaxErrorAt IsJsonText text (length text)
  fails_open open_one = fails_at_end text (length text) refl
      (subst (λ k. IsViablePrefix IsJsonText (take k text)) at_end holds.is_read.viable) (λ v spells.
      let same : ts ≡ tokens v = some_is ts (tokens v) (sym reads_all ∙ lexes_value text v spells) in
      let both : Some holds.reading ≡ Some (after v []) = sym holds.is_read.leads
      ∙ (ap (run (value [])) same ∙ run_tokens v) in
      let is : holds.reading ≡ after v [] = cc in
      open_one (holds.tracks.0 ∙ ap need_of is, holds.tracks.1 ∙ ap containers is))

-- a part of scalar values
scalars_drop : (n : ℕ) (text : List ℕ) → all_scalars text ≡ true → all_scalars (drop n text) ≡ true
scalars_drop zero text e = e
scalars_drop (suc n) [] e = e
scalars_drop (suc n) (c ∷ cs) e = scalars_drop n cs (and_parts _ (all_scalars cs) e).1

scalars_take : (n : ℕ) (text : List ℕ) → all_scalars text ≡ true → all_scalars (take n text) ≡ true
scalars_take zero text e = refl
scalars_take (suc n) [] e = refl
scalars_take (suc n) (c ∷ cs) e = let parts : (_ ≡ true) × (all_scalars cs ≡ true) = and_parts _ (all_scalars cs) e in
    two_true _ _ parts.0 (scalars_take n cs parts.1)

pub scalars_slice : (text : List ℕ) (from to : ℕ) → all_scalars text ≡ true
    → all_scalars (slice_range text from to) ≡ true
scalars_slice text from to e = scalars_take (to - from) (drop from text) (scalars_drop from text e)
