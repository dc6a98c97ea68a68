-- Characters between quotes, byte by byte of their UTF-8.
use Rattle.std.proofs.Common.{◌≡◌, ℕ, ◌+◌, ◌<◌, ◌≤◌, suc, if◌then◌else◌, List, [], ◌∷◌, ◌++◌, length, get_or, take, inl, inr, refl, sym, ◌∙◌, ap, ap₂, arith, append_assoc}
use Rattle.std.specs.Prelude.{flat_map, encode_utf8, encode_utf8_all}
use Rattle.std.proofs.lemmas.Bool.{cases_lt, ne_eqb}
use Rattle.std.proofs.lemmas.Grind.{flat_map-append}
use Rattle.std.proofs.lemmas.List.{append-nil}
use Rattle.std.proofs.lemmas.Str.{encode_ascii, inside_one}
use Rattle.json.specs.Print.{escape, escape_byte}
use Rattle.json.proofs.Printed.Strings.{escape_byte_plain}
use Rattle.helix_base.specs.Inner.ScalarLaws.{encodes-take_more}
use Rattle.helix_output.specs.Csv.{doubled}

-- what leaves each byte from 128 on as it is leaves a longer character as it is
module _ (f : ℕ → List ℕ) (plain : (b : ℕ) → 128 ≤ b → f b ≡ b ∷ []) where
  high_bytes : (bs : List ℕ) → ((k : ℕ) → k < length bs → 128 ≤ get_or bs k 0) → flat_map f bs ≡ bs
  high_bytes [] high = refl
  high_bytes (b ∷ bs) high =
      ap₂ (λ (x y : List ℕ). x ++ y) (plain b (high 0 (omega arith)))
      (high_bytes bs (λ k below. high (suc k) (omega arith)))

  long_character : (c : ℕ) → 128 ≤ c → flat_map f (encode_utf8 c) ≡ encode_utf8 c
  long_character c long =
      high_bytes (encode_utf8 c)
      (λ k below. elim (cases_lt (get_or (encode_utf8 c) k 0) 128) [
        | inl low ↦ absurd (omega (arith, inside_one c [] (encode_utf8 c) k (sym (append-nil _)) below low))
        | inr high ↦ high
      ])

  -- and where it leaves a shorter one too, each of them
  pub plain_character : (c : ℕ) → f c ≡ c ∷ [] → flat_map f (encode_utf8 c) ≡ encode_utf8 c
  plain_character c is = elim (cases_lt c 128) [
    | inl short ↦ rw (encode_ascii c short) (ap (λ l. l ++ []) is)
    | inr long ↦ long_character c long
  ]

  -- a character of one byte
  pub short_character : (c : ℕ) (text : List ℕ) → c < 128 → f c ≡ text → flat_map f (encode_utf8 c) ≡ text
  short_character c text short is =
      ap (λ l. flat_map f l) (encode_ascii c short) ∙ (append-nil (f c) ∙ is)

pub doubled_plain : (b : ℕ) → (b ≡ 34 → ⊥) → doubled b ≡ b ∷ []
doubled_plain b apart = ap (λ t. if t then 34 ∷ 34 ∷ [] else b ∷ []) (ne_eqb b 34 apart)

-- any character but a quote stays
pub doubled_character : (c : ℕ) → (c ≡ 34 → ⊥) → flat_map doubled (encode_utf8 c) ≡ encode_utf8 c
doubled_character c apart =
    plain_character doubled (λ b high. doubled_plain b (λ e. omega arith)) c (doubled_plain c apart)

-- a quote is doubled
pub doubled_quote : (c : ℕ) → c ≡ 34 → flat_map doubled (encode_utf8 c) ≡ 34 ∷ 34 ∷ []
doubled_quote c is =
    short_character doubled (λ b high. doubled_plain b (λ e. omega arith)) c (34 ∷ 34 ∷ []) (omega arith)
    (ap doubled is)

-- any character from the space on, but a quote and a backslash, stays
pub escaped_character : (c : ℕ) → 32 ≤ c → (c ≡ 34 → ⊥) → (c ≡ 92 → ⊥) → escape (encode_utf8 c) ≡ encode_utf8 c
escaped_character c from no_quote no_backslash =
    plain_character escape_byte
    (λ b high. escape_byte_plain b (λ e. omega arith) (λ e. omega arith) (omega arith)) c
    (escape_byte_plain c no_quote no_backslash from)

escaped_quote : escape_byte 34 ≡ 92 ∷ 34 ∷ []
unfolding escape_byte
escaped_quote = refl

escaped_backslash : escape_byte 92 ≡ 92 ∷ 92 ∷ []
unfolding escape_byte
escaped_backslash = refl

escaped_as : (c mark : ℕ) → c ≡ mark → mark < 128 → escape_byte mark ≡ 92 ∷ mark ∷ []
    → escape (encode_utf8 c) ≡ 92 ∷ mark ∷ []
escaped_as c mark is short escaped =
    short_character escape_byte
    (λ b high. escape_byte_plain b (λ e. omega arith) (λ e. omega arith) (omega arith)) c (92 ∷ mark ∷ [])
    (omega arith) (ap escape_byte is ∙ escaped)

-- a quote and a backslash have a backslash before them
pub quote_escaped : (c : ℕ) → c ≡ 34 → escape (encode_utf8 c) ≡ 92 ∷ 34 ∷ []
quote_escaped c is = escaped_as c 34 is (omega arith) escaped_quote

pub backslash_escaped : (c : ℕ) → c ≡ 92 → escape (encode_utf8 c) ≡ 92 ∷ 92 ∷ []
backslash_escaped c is = escaped_as c 92 is (omega arith) escaped_backslash

-- one character more of a text
pub text_further : (f : ℕ → List ℕ) (start now next text : List ℕ) (i : ℕ) → i < length text
    → now ≡ start ++ flat_map f (encode_utf8_all (take i text))
    → next ≡ now ++ flat_map f (encode_utf8 (get_or text i 0))
    → next ≡ start ++ flat_map f (encode_utf8_all (take (i + 1) text))
text_further f start now next text i within so_far more =
    more
    ∙ ap (λ l. l ++ flat_map f (encode_utf8 (get_or text i 0))) so_far
    ∙ append_assoc start (flat_map f (encode_utf8_all (take i text))) (flat_map f (encode_utf8 (get_or text i 0)))
    ∙ ap (λ l. start ++ l)
    (sym (ap (λ l. flat_map f l) (encodes-take_more text i within)
    ∙ flat_map-append f (encode_utf8_all (take i text)) (encode_utf8 (get_or text i 0))))
