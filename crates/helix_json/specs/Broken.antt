-- The rules of JSON text, and the first that is broken.
use Rattle.std.specs.Prelude.{◌≡◌, ℕ, zero, suc, ◌+◌, ◌-◌, ◌<◌, ◌≤◌, ◌==◌, Bool, false, IsTrue, List, [], ◌∷◌, ◌++◌, length, take}
use Rattle.std.specs.Str.{IsUtf8, IsValidUpTo, all_scalars, encode_utf8_all}
use Rattle.helix_json.specs.declared.fault.JsonFault.{JsonFault}
use Rattle.helix_json.specs.declared.fault.JsonFault.TheVariants as fault
use Rattle.helix_json.specs.declared.value.Json.{Json}
use Rattle.helix_json.specs.declared.token.Token.{Token}
use Rattle.helix_json.specs.declared.token.Token.TheVariants as token
use Rattle.helix_json.specs.Tokens.{tokens}
use Rattle.helix_base.specs.Syntax.{IsSyntaxErrorAt}
use Rattle.helix_json.specs.Text.{Cuts, SpellsToken, SpellsText}

-- the maximum length of a text in bytes, and the greatest nesting of its lists and objects
abbrev pub max_bytes : ℕ
max_bytes = 1048576

-- the greatest nesting of lists and objects
abbrev pub max_depth : ℕ
max_depth = 64

-- the bytes are these characters in UTF-8
abbrev pub AreBytesOf : List ℕ → List ℕ → Type 0
AreBytesOf text bytes = IsTrue (all_scalars text) × (bytes ≡ encode_utf8_all text)

-- the bytes spell the value
abbrev pub SpellsJson : List ℕ → Json → Type 0
SpellsJson bytes value = (text : List ℕ) × AreBytesOf text bytes × SpellsText text value

-- the offset in bytes of the character at an offset in characters
abbrev pub byte_offset : List ℕ → ℕ → ℕ
byte_offset text count = length (encode_utf8_all (take count text))

-- the text spells some value: the grammar of JSON text
abbrev pub IsJsonText : List ℕ → Type 0
IsJsonText text = (value : Json) × SpellsText text value

-- how many lists and objects are open after tokens, where `level` were open before
abbrev pub level_after : ℕ → List Token → ℕ
level_after level [] = level
level_after level (token.OpenList ∷ ts) = level_after (level + 1) ts
level_after level (token.OpenObject ∷ ts) = level_after (level + 1) ts
level_after level (token.CloseList ∷ ts) = level_after (level - 1) ts
level_after level (token.CloseObject ∷ ts) = level_after (level - 1) ts
level_after level (t ∷ ts) = level_after level ts

-- the token opens a list or an object
abbrev pub Opens : Token → Type 0
Opens token.OpenList = Unit {0}
Opens token.OpenObject = Unit {0}
Opens _ = ⊥

-- tokens in which each container that opens closes again, and no other closes
abbrev pub stays : ℕ → List Token → Bool
stays level [] = level == 0
stays level (token.OpenList ∷ ts) = stays (suc level) ts
stays level (token.OpenObject ∷ ts) = stays (suc level) ts
stays zero (token.CloseList ∷ ts) = false
stays zero (token.CloseObject ∷ ts) = false
stays (suc level) (token.CloseList ∷ ts) = stays level ts
stays (suc level) (token.CloseObject ∷ ts) = stays level ts
stays level (t ∷ ts) = stays level ts

-- a bracket after these tokens begins level 65
abbrev pub BeginsTooDeep : List Token → Token → List Token → Type 0
BeginsTooDeep before t rest = Opens t × (level_after 0 before ≡ max_depth)

-- a string after these tokens is a key, and an earlier key of its object is the same
abbrev pub RepeatsKey : List Token → Token → List Token → Type 0
RepeatsKey before t rest = (key : List ℕ) × (earlier between more : List Token) × (t ≡ token.Str key)
    × (rest ≡ token.Colon ∷ more)
    × (before ≡ earlier ++ token.Str key ∷ token.Colon ∷ between) × IsTrue (stays 0 between)

-- the first token of which something holds: those before it, itself, those after it
pub record First (P : List Token → Token → List Token
    → Type 0) (all before : List Token) (t : Token) (rest : List Token) : Type 0 where
  pub is : all ≡ before ++ t ∷ rest
  pub holds : P before t rest
  pub least : (prefix : List Token) (u : Token) (more : List Token) → all ≡ prefix ++ u ∷ more → P prefix u more
      → length before ≤ length prefix

-- the text of those tokens, where the token itself begins at the offset
abbrev pub BeginsAt : List ℕ → List Token → Token → List Token → ℕ → Type 0
BeginsAt text before t rest count = (prefix piece others : List ℕ) × (text ≡ prefix ++ (piece ++ others))
    × (count ≡ length prefix)
    × Cuts prefix before × SpellsToken piece t × Cuts others rest

-- something holds of the value's tokens, first of the one that begins at the offset
abbrev pub FirstIn : (List Token → Token → List Token → Type 0) → List ℕ → Json → ℕ → Type 0
FirstIn P text value count = (before : List Token) × (t : Token) × (rest : List Token)
    × First P (tokens value) before t rest × BeginsAt text before t rest count

-- it holds of none
abbrev pub Nowhere : (List Token → Token → List Token → Type 0) → Json → Type 0
Nowhere P value = (before : List Token) (t : Token) (rest : List Token) → tokens value ≡ before ++ t ∷ rest
    → ¬ (P before t rest)

-- the text has at most the maximum length
abbrev pub IsShort : List ℕ → Type 0
IsShort bytes = length bytes ≤ max_bytes

-- the first of the rules J1 to J5 that is broken, with its offset in bytes; running out of memory breaks none
abbrev pub FirstBroken : List ℕ → JsonFault → Type 0
FirstBroken bytes fault.TooLong = max_bytes < length bytes
FirstBroken bytes (fault.NotUtf8 at) = IsShort bytes × ¬ (IsUtf8 bytes) × IsValidUpTo bytes at
FirstBroken bytes (fault.Grammar at) = IsShort bytes
    × ((text : List ℕ) × (count : ℕ) × AreBytesOf text bytes × IsSyntaxErrorAt IsJsonText text count
    × (at ≡ byte_offset text count))
FirstBroken bytes (fault.TooDeep at) = IsShort bytes
    × ((text : List ℕ) × (value : Json) × (count : ℕ) × AreBytesOf text bytes
    × SpellsText text value × FirstIn BeginsTooDeep text value count × (at ≡ byte_offset text count))
FirstBroken bytes (fault.DuplicateKey at) = IsShort bytes
    × ((text : List ℕ) × (value : Json) × (count : ℕ) × AreBytesOf text bytes
    × SpellsText text value × Nowhere BeginsTooDeep value × FirstIn RepeatsKey text value count
    × (at ≡ byte_offset text count))
FirstBroken bytes fault.Memory = ⊥
