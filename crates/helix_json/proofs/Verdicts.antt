-- What is found in a text of characters, said of its bytes.
use Rattle.std.proofs.Common.{◌≡◌, ◌≢◌, ℕ, ◌≤◌, Result, Ok, Err, IfOk, IfErr, OnOk, List, length, refl, sym, ◌∙◌, ap, subst, arith}
use Rattle.std.specs.Str.{IsUtf8, chars}
use Rattle.std.proofs.lemmas.Str.{encodes_same, encodes-chars, scalars-chars, length-le-encodes}
use Rattle.helix_json.specs.declared.fault.JsonFault.{JsonFault}
use Rattle.helix_json.specs.declared.fault.JsonFault.TheVariants as fault
use Rattle.helix_json.specs.declared.value.Json.{Json}
use Rattle.helix_json.specs.declared.token.Token.{Token}
use Rattle.helix_json.specs.Tokens.{tokens}
use Rattle.helix_json.specs.Text.{SpellsText}
use Rattle.helix_json.specs.Broken.{AreBytesOf, SpellsJson, FirstIn, FirstBroken, IsShort, Nowhere}
use Rattle.helix_json.specs.Inner.Reading.{BreaksRule, IsSound}
use Rattle.helix_json.specs.Values.{HasNoRepeatedKey, nesting}
use Rattle.helix_json.proofs.KeyRules.{keyed_value}
use Rattle.helix_json.proofs.Lexing.{one_value}
use Rattle.helix_json.proofs.Nesting.{shallow_value}

pub are_bytes : (bytes text : List ℕ) → IsUtf8 bytes → text ≡ chars bytes → AreBytesOf text bytes
are_bytes bytes text h e = subst (λ t. AreBytesOf t bytes) (sym e) (scalars-chars bytes h, sym (encodes-chars bytes h))

pub short_text : (bytes text : List ℕ) (most : ℕ) → AreBytesOf text bytes → length bytes ≤ most → length text ≤ most
short_text bytes text most are short = let n = length-le-encodes text in let m = ap length are.1 in omega arith

one_text : (bytes a b : List ℕ) → AreBytesOf a bytes → AreBytesOf b bytes → a ≡ b
one_text bytes a b are others = encodes_same a b (sym are.1 ∙ others.1)

-- a value that breaks a rule is another one
not_in : (P : List Token → Token → List Token → Type 0) (text : List ℕ) (v w : Json) (count : ℕ) → SpellsText text v
    → SpellsText text w → Nowhere P v → ¬ (FirstIn P text w count)
not_in P text v w count spells others none (before, t, rest, first, begins) =
    none before t rest (ap tokens (one_value text v w spells others) ∙ first.is) first.holds

-- what is sound breaks no rule
pub unbroken : (bytes text : List ℕ) (v : Json) → IsShort bytes → AreBytesOf text bytes → IsSound text v
    → (f : JsonFault) → ¬ (FirstBroken bytes f)
unbroken bytes text v short are sound fault.TooLong h = absurd (omega arith)
unbroken bytes text v short are sound (fault.NotUtf8 at) (_, bad, offset) = bad (text, (are.0, sym are.1))
unbroken bytes text v short are sound (fault.Grammar at) (_, (other, count, others, fails, offset)) =
    fails.no_member (v, subst (λ t. SpellsText t v) (one_text bytes text other are others) sound.spells)
unbroken bytes text v short are sound (fault.TooDeep at) (_, (other, w, count, others, spells, first, offset)) =
    not_in _ other v w count (subst (λ t. SpellsText t v) (one_text bytes text other are others) sound.spells) spells
    sound.shallow first
unbroken bytes text v short are sound (fault.DuplicateKey at) (
  _,
  (other, w, count, others, spells, shallow, first, offset),
) =
    not_in _ other v w count (subst (λ t. SpellsText t v) (one_text bytes text other are others) sound.spells) spells
    sound.keyed first
unbroken bytes text v short are sound fault.Memory h = h

broken : (bytes text : List ℕ) → IsShort bytes → AreBytesOf text bytes → (f : JsonFault) → BreaksRule text f
    → f ≢ fault.Memory → FirstBroken bytes f
broken bytes text short are fault.TooLong b ne = absurd b
broken bytes text short are (fault.NotUtf8 at) b ne = absurd b
broken bytes text short are (fault.Grammar at) (count, fails, offset) ne = (short, (text, count, are, fails, offset))
broken bytes text short are (fault.TooDeep at) (v, count, spells, first, offset) ne =
    (short, (text, v, count, are, spells, first, offset))
broken bytes text short are (fault.DuplicateKey at) (v, count, spells, shallow, first, offset) ne =
    (short, (text, v, count, are, spells, shallow, first, offset))
broken bytes text short are fault.Memory b ne = absurd (ne refl)

-- a value that breaks no rule keeps the rules as a value
pub on_keys : (text : List ℕ) (r : Result Json JsonFault) → IfOk r (IsSound text) → IfOk r HasNoRepeatedKey
on_keys text (Ok v) sound = keyed_value v sound.keyed
on_keys text (Err f) sound = tt

pub on_depth : (text : List ℕ) (r : Result Json JsonFault) → IfOk r (IsSound text) → IfOk r (λ v. nesting v ≤ 64)
on_depth text (Ok v) sound = shallow_value v sound.shallow
on_depth text (Err f) sound = tt

module _ (bytes text : List ℕ) (short : IsShort bytes) (are : AreBytesOf text bytes) where
  pub on_value : (r : Result Json JsonFault) → IfOk r (IsSound text) → IfOk r (SpellsJson bytes)
  on_value (Ok v) sound = (text, are, sound.spells)
  on_value (Err f) sound = tt

  pub on_unbroken : (r : Result Json JsonFault) → IfOk r (IsSound text)
      → OnOk r ((f : JsonFault) → ¬ (FirstBroken bytes f))
  on_unbroken (Ok v) sound = unbroken bytes text v short are sound
  on_unbroken (Err f) sound = tt

  pub on_broken : (r : Result Json JsonFault) → IfErr r (BreaksRule text)
      → IfErr r (λ f. f ≢ fault.Memory → FirstBroken bytes f)
  on_broken (Ok v) b = tt
  on_broken (Err f) b = broken bytes text short are f b
