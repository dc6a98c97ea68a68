-- A token's text tells its identity and its strings.
use Rattle.std.proofs.Common.{◌≡◌, ℕ, List, [], ◌∷◌, ◌++◌, drop, map, inl, inr, refl, sym, ◌∙◌, ap, ap₂, subst}
use Rattle.std.specs.Prelude.{encode_utf8_all}
use Rattle.std.specs.Str.{chars}
use Rattle.std.specs.List.{AllByRecursion}
use Rattle.std.proofs.lemmas.List.{append_cancel_right, same_from_push}
use Rattle.std.proofs.lemmas.Str.{encodes_same, chars-encodes}
use Rattle.hex.specs.Hex.{decode_of, encode_lower}
use Rattle.hex.proofs.HexLemmas.{decode_of-encode_lower}
use Rattle.json.specs.Lex.{tokens}
use Rattle.helix_token.specs.Broken.{HasTokenForm, IsRowString}
use Rattle.helix_token.specs.Identity.{IsIdentity}
use Rattle.helix_token.specs.Inner.Strings.{first_strings, last_tokens, string_tokens, token_tokens}
use Rattle.helix_token.specs.Token.{HoldsText, token_of_strings}
use Rattle.helix_token.proofs.TextTokens.{text_ends, text_tokens}

-- the strings that are read
pub strings_read : (strings : List (List ℕ))
    → first_strings (string_tokens strings ++ last_tokens) ≡ map encode_utf8_all strings
strings_read [] = refl
strings_read (text ∷ strings) = ap (λ l. encode_utf8_all text ∷ l) (strings_read strings)

-- as characters they are the strings
pub strings_decoded : (strings : List (List ℕ)) → AllByRecursion IsRowString strings
    → map chars (map encode_utf8_all strings) ≡ strings
strings_decoded [] all = refl
strings_decoded (text ∷ strings) all =
    ap₂ (λ (t : List ℕ) (ts : List (List ℕ)). t ∷ ts) (chars-encodes text all.0.0) (strings_decoded strings all.1)

encodings_same : (a b : List (List ℕ)) → map encode_utf8_all a ≡ map encode_utf8_all b → a ≡ b
encodings_same [] [] same = refl
encodings_same [] (u ∷ b) same = absurd (cc)
encodings_same (t ∷ a) [] same = absurd (cc)
encodings_same (t ∷ a) (u ∷ b) same =
    let here : encode_utf8_all t ≡ encode_utf8_all u = cc in
    let rest : map encode_utf8_all a ≡ map encode_utf8_all b = cc in
    ap₂ (λ (x : List ℕ) (xs : List (List ℕ)). x ∷ xs) (encodes_same t u here) (encodings_same a b rest)

module _ (i j : List ℕ) (a b : List (List ℕ)) (same : token_of_strings i a ≡ token_of_strings j b) where
  tokens_same : token_tokens i a ≡ token_tokens j b
  tokens_same = sym (text_tokens i a) ∙ ap tokens same ∙ text_tokens j b

  pub strings_told : a ≡ b
  strings_told =
      encodings_same a b
      (sym (strings_read a) ∙ ap (λ ts. first_strings (drop 7 ts)) tokens_same ∙ strings_read b)

  digits_told : encode_lower i ≡ encode_lower j
  digits_told =
      let alone : encode_lower i ∷ [] ≡ encode_lower j ∷ [] = ap (λ ts. first_strings (drop 4 ts)) tokens_same in
      cc

  pub identity_told : IsIdentity i → IsIdentity j → i ≡ j
  identity_told of_i of_j =
      let read = sym (decode_of-encode_lower i of_i.bytes) ∙ ap decode_of digits_told
      ∙ decode_of-encode_lower j of_j.bytes in
      cc

-- a brace is no line feed
no_brace : (a b : List ℕ) → a ++ 125 ∷ [] ≡ b ++ 10 ∷ [] → ⊥
no_brace a b same = let last = (same_from_push a b 125 10 same).1 in absurd (cc)

held_same : (bytes a b : List ℕ) → HoldsText bytes (a ++ 125 ∷ []) → HoldsText bytes (b ++ 125 ∷ [])
    → a ++ 125 ∷ [] ≡ b ++ 125 ∷ []
held_same bytes a b (inl of_a) (inl of_b) = sym of_a ∙ of_b
held_same bytes a b (inr of_a) (inr of_b) =
    append_cancel_right (a ++ 125 ∷ []) (b ++ 125 ∷ []) (10 ∷ []) (sym of_a ∙ of_b)
held_same bytes a b (inl of_a) (inr of_b) = absurd (no_brace a (b ++ 125 ∷ []) (sym of_a ∙ of_b))
held_same bytes a b (inr of_a) (inl of_b) = absurd (no_brace b (a ++ 125 ∷ []) (sym of_b ∙ of_a))

-- bytes hold one token's text
pub texts_same : (bytes i j : List ℕ) (a b : List (List ℕ)) → HoldsText bytes (token_of_strings i a)
    → HoldsText bytes (token_of_strings j b) → token_of_strings i a ≡ token_of_strings j b
texts_same bytes i j a b of_a of_b =
    let front = text_ends i a in
    let other = text_ends j b in
    front.1
    ∙ held_same bytes front.0 other.0 (subst (HoldsText bytes) front.1 of_a) (subst (HoldsText bytes) other.1 of_b)
    ∙ sym other.1

-- the form tells its parts
pub form_told : (bytes i j : List ℕ) (a b : List (List ℕ)) → HasTokenForm bytes i a → HasTokenForm bytes j b
    → (i ≡ j) × (a ≡ b)
form_told bytes i j a b of_a of_b =
    let same = texts_same bytes i j a b of_a.text of_b.text in
    (identity_told i j a b same of_a.identified of_b.identified, strings_told i j a b same)
