-- What a reader takes from the tokens of a token's text.
use Rattle.std.proofs.Common.{◌≡◌, ℕ, Bool, true, false, List, [], ◌∷◌, ◌++◌, codes, drop, map, sym, ◌∙◌, ap, subst, refl}
use Rattle.std.specs.Prelude.{Option, None, Some, MatchOption, IsSomeAnd, ◌↔◌}
use Rattle.std.specs.List.{AllByRecursion}
use Rattle.std.specs.Str.{chars}
use Rattle.std.proofs.lemmas.Bool.{false≢true}
use Rattle.std.proofs.lemmas.Option.{same_Some}
use Rattle.hex.specs.Hex.{encode_lower}
use Rattle.json.specs.Token.{Token, begin_array, key, string}
use Rattle.helix_token.specs.Broken.{HasTokenForm, IsRowString}
use Rattle.helix_token.specs.Identity.{IsIdentity}
use Rattle.helix_token.specs.Inner.Strings.{first_strings, last_tokens, string_tokens, token_tokens}
use Rattle.helix_token.specs.Token.{HoldsText, token_of_strings}
use Rattle.helix_token.specs.declared.seeming.Parts.{Parts}
use Rattle.helix_token.proofs.TextTokens.{text_ends}
use Rattle.helix_token.proofs.Told.{strings_decoded, strings_read}

-- a token is passed, where there is one
pub passed : {T : Type 0} (view : T → Token) (taken : Option T) (old new : List Token)
    → MatchOption taken ((old ≡ []) × (new ≡ [])) (λ t. old ≡ view t ∷ new) → new ≡ drop 1 old
passed view None old new is = is.1 ∙ sym (ap (drop 1) is.0)
passed view (Some t) old new is = sym (ap (drop 1) is)

-- no string comes first
pub none_first : (ts : List Token) → ((text : List ℕ) (rest : List Token) → ts ≡ string text ∷ rest → ⊥)
    → first_strings ts ≡ []
none_first [] none = refl
none_first (string text ∷ ts) none = absurd (none text ts refl)
none_first (other ∷ ts) none = refl

-- what comes after the head
abbrev strings_on : List (List ℕ) → List Token
strings_on strings = key (codes "row") ∷ begin_array ∷ (string_tokens strings ++ last_tokens)

-- the parts, as they are read
pub parts_read : (identity : List ℕ) (strings : List (List ℕ)) (given at after rest : List Token)
    (digits found : List ℕ) (read : List (List ℕ)) → IsIdentity identity → AllByRecursion IsRowString strings
    → given ≡ token_tokens identity strings → at ≡ drop 4 given → at ≡ string digits ∷ after
    → ((i : List ℕ) → IsIdentity i → digits ≡ encode_lower i → Some found ≡ Some i) → rest ≡ drop 2 after
    → read ≡ map chars (first_strings rest) → (found ≡ identity) × (read ≡ strings)
parts_read identity strings given at after rest digits found read of_identity marked of_given of_at is tell of_rest
    of_read =
    let here : string digits ∷ after ≡ string (encode_lower identity) ∷ strings_on strings =
    sym is ∙ of_at ∙ ap (drop 4) of_given in
    let digits_same : digits ≡ encode_lower identity = cc in
    let after_same : after ≡ strings_on strings = cc in (
      same_Some found identity (tell identity of_identity digits_same),
      of_read
          ∙ ap (λ ts. map chars (first_strings ts)) (of_rest ∙ ap (drop 2) after_same)
          ∙ ap (map chars) (strings_read strings)
          ∙ strings_decoded strings marked,
    )

-- without a line feed, the bytes are the text
pub body_is : (bytes body : List ℕ)
    → ((front : List ℕ) → HoldsText bytes (front ++ 125 ∷ []) → body ≡ front ++ 125 ∷ [])
    → (identity : List ℕ) (strings : List (List ℕ)) → HoldsText bytes (token_of_strings identity strings)
    → body ≡ token_of_strings identity strings
body_is bytes body told identity strings held =
    let ends = text_ends identity strings in
    told ends.0 (subst (HoldsText bytes) ends.1 held) ∙ sym ends.1

-- parts that are those of a token
abbrev pub AreParts : List ℕ → List (List ℕ) → Parts → Type 0
AreParts identity strings parts = (parts.identity ≡ identity) × (parts.strings ≡ strings)

pub no_parts : (identity : List ℕ) (strings : List (List ℕ)) (found : Option Parts) → found ≡ None
    → IsSomeAnd found (AreParts identity strings) → ⊥
no_parts identity strings found is some =
    subst (λ (o : Option Parts). IsSomeAnd o (AreParts identity strings)) is some

pub some_parts : (identity : List ℕ) (strings : List (List ℕ)) (found : Option Parts) (parts : Parts)
    → found ≡ Some parts → IsSomeAnd found (AreParts identity strings) → AreParts identity strings parts
some_parts identity strings found parts is some =
    subst (λ (o : Option Parts). IsSomeAnd o (AreParts identity strings)) is some

-- a test that is false of what holds
pub refuted : (test : Bool) (P : Type 0) → test ≡ false → ((test ≡ true) ↔ P) → P → ⊥
refuted test P off decides holds = false≢true (sym off ∙ decides.1 holds)

-- the form of the parts that were found
pub some_form : (bytes : List ℕ) (none : Type 0) (found : Option Parts) (parts : Parts) → found ≡ Some parts
    → MatchOption found none (λ (p : Parts). HasTokenForm bytes p.identity p.strings)
    → HasTokenForm bytes parts.identity parts.strings
some_form bytes none found parts is of_found =
    subst (λ (o : Option Parts). MatchOption o none (λ (p : Parts). HasTokenForm bytes p.identity p.strings)) is
    of_found
