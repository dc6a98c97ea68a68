-- Texts between quotes are told by what is written, and by where they end.
use Rattle.std.proofs.Common.{◌≡◌, ℕ, List, [], ◌∷◌, ◌++◌, inl, inr, refl, sym, ◌∙◌, ap, ap₂, append_assoc}
use Rattle.std.specs.Prelude.{flat_map, encode_utf8_all}
use Rattle.std.proofs.lemmas.Bool.{cases_eq}
use Rattle.std.proofs.lemmas.List.{append_cancel_left}
use Rattle.std.proofs.lemmas.Option.{same_Some}
use Rattle.std.proofs.lemmas.Str.{encodes_same}
use Rattle.json.specs.Print.{escape}
use Rattle.json.specs.Text.{content, plain}
use Rattle.json.proofs.Printed.Strings.{content-escape}
use Rattle.helix_output.specs.Csv.{csv_string, doubled}
use Rattle.helix_output.specs.JsonLines.{json_string}
use Rattle.helix_output.proofs.Characters.{doubled_plain}
use Rattle.helix_output.proofs.Stops.{same_first, same_rest}

doubled_itself : (b : ℕ) → b ≡ 34 → doubled b ≡ 34 ∷ 34 ∷ []
doubled_itself b is = ap doubled is

-- a closing quote is no doubled byte
no_quote : (c p : ℕ) (x y : List ℕ) → (p ≡ 34 → ⊥) → 34 ∷ p ∷ x ≡ doubled c ++ y → ⊥
no_quote c p x y apart same = elim (cases_eq c 34) [
  | inl is ↦
      let twice : 34 ∷ p ∷ x ≡ 34 ∷ 34 ∷ y = same ∙ ap (λ d. d ++ y) (doubled_itself c is) in
      apart (same_first p 34 x y (same_rest 34 34 (p ∷ x) (34 ∷ y) twice))
  | inr other ↦
      let once : 34 ∷ p ∷ x ≡ c ∷ y = same ∙ ap (λ d. d ++ y) (doubled_plain c other) in
      other (sym (same_first 34 c (p ∷ x) y once))
]

-- the first byte is told
one_byte : (c d : ℕ) (x y : List ℕ) → doubled c ++ x ≡ doubled d ++ y → (c ≡ d) × (x ≡ y)
one_byte c d x y same = elim (cases_eq c 34) [
  | inl is ↦ elim (cases_eq d 34) [
    | inl too ↦
        let twice : 34 ∷ 34 ∷ x ≡ 34 ∷ 34 ∷ y =
        ap (λ l. l ++ x) (sym (doubled_itself c is)) ∙ same ∙ ap (λ l. l ++ y) (doubled_itself d too) in
        (is ∙ sym too, same_rest 34 34 x y (same_rest 34 34 (34 ∷ x) (34 ∷ y) twice))
    | inr other ↦
        let unlike : 34 ∷ 34 ∷ x ≡ d ∷ y =
        ap (λ l. l ++ x) (sym (doubled_itself c is)) ∙ same ∙ ap (λ l. l ++ y) (doubled_plain d other) in
        absurd (other (sym (same_first 34 d (34 ∷ x) y unlike)))
  ]
  | inr other ↦ elim (cases_eq d 34) [
    | inl is ↦
        let unlike : c ∷ x ≡ 34 ∷ 34 ∷ y =
        ap (λ l. l ++ x) (sym (doubled_plain c other)) ∙ same ∙ ap (λ l. l ++ y) (doubled_itself d is) in
        absurd (other (same_first c 34 x (34 ∷ y) unlike))
    | inr too ↦
        let once : c ∷ x ≡ d ∷ y =
        ap (λ l. l ++ x) (sym (doubled_plain c other)) ∙ same ∙ ap (λ l. l ++ y) (doubled_plain d too) in
        (same_first c d x y once, same_rest c d x y once)
  ]
]

csv_bytes_told : (a b : List ℕ) (p q : ℕ) (x y : List ℕ) → (p ≡ 34 → ⊥) → (q ≡ 34 → ⊥)
    → flat_map doubled a ++ 34 ∷ p ∷ x ≡ flat_map doubled b ++ 34 ∷ q ∷ y → (a ≡ b) × (p ∷ x ≡ q ∷ y)
csv_bytes_told [] [] p q x y of_p of_q same = (refl, same_rest 34 34 (p ∷ x) (q ∷ y) same)
csv_bytes_told [] (d ∷ b) p q x y of_p of_q same =
    absurd (no_quote d p x (flat_map doubled b ++ 34 ∷ q ∷ y) of_p
    (same ∙ append_assoc (doubled d) (flat_map doubled b) (34 ∷ q ∷ y)))
csv_bytes_told (c ∷ a) [] p q x y of_p of_q same =
    absurd (no_quote c q y (flat_map doubled a ++ 34 ∷ p ∷ x) of_q
    (sym same ∙ append_assoc (doubled c) (flat_map doubled a) (34 ∷ p ∷ x)))
csv_bytes_told (c ∷ a) (d ∷ b) p q x y of_p of_q same =
    let one : (c ≡ d) × (flat_map doubled a ++ 34 ∷ p ∷ x ≡ flat_map doubled b ++ 34 ∷ q ∷ y) =
    one_byte c d (flat_map doubled a ++ 34 ∷ p ∷ x) (flat_map doubled b ++ 34 ∷ q ∷ y)
    (sym (append_assoc (doubled c) (flat_map doubled a) (34 ∷ p ∷ x))
    ∙ same
    ∙ append_assoc (doubled d) (flat_map doubled b) (34 ∷ q ∷ y)) in
    let rest : (a ≡ b) × (p ∷ x ≡ q ∷ y) = csv_bytes_told a b p q x y of_p of_q one.1 in
    (ap₂ (λ (e : ℕ) (r : List ℕ). e ∷ r) one.0 rest.0, rest.1)

-- a text as its bytes between quotes, and what is after them
after_quotes : (body x : List ℕ) (p : ℕ) → (34 ∷ (body ++ 34 ∷ [])) ++ p ∷ x ≡ 34 ∷ (body ++ 34 ∷ p ∷ x)
after_quotes body x p = ap (λ l. 34 ∷ l) (append_assoc body (34 ∷ []) (p ∷ x))

pub csv_string_told : (t u : List ℕ) (p q : ℕ) (x y : List ℕ) → (p ≡ 34 → ⊥) → (q ≡ 34 → ⊥)
    → csv_string t ++ p ∷ x ≡ csv_string u ++ q ∷ y → (t ≡ u) × (p ∷ x ≡ q ∷ y)
csv_string_told t u p q x y of_p of_q same =
    let written = flat_map doubled (encode_utf8_all t) in
    let other = flat_map doubled (encode_utf8_all u) in
    let told : (encode_utf8_all t ≡ encode_utf8_all u) × (p ∷ x ≡ q ∷ y) =
    csv_bytes_told (encode_utf8_all t) (encode_utf8_all u) p q x y of_p of_q
    (same_rest 34 34 (written ++ 34 ∷ p ∷ x) (other ++ 34 ∷ q ∷ y)
    (sym (after_quotes written x p) ∙ same ∙ after_quotes other y q)) in
    (encodes_same t u told.0, told.1)

pub json_string_told : (t u : List ℕ) (p q : ℕ) (x y : List ℕ)
    → json_string t ++ p ∷ x ≡ json_string u ++ q ∷ y → (t ≡ u) × (p ∷ x ≡ q ∷ y)
json_string_told t u p q x y same =
    let bytes = encode_utf8_all t in
    let others = encode_utf8_all u in
    let body : escape bytes ++ 34 ∷ p ∷ x ≡ escape others ++ 34 ∷ q ∷ y =
    same_rest 34 34 (escape bytes ++ 34 ∷ p ∷ x) (escape others ++ 34 ∷ q ∷ y)
    (sym (after_quotes (escape bytes) x p) ∙ same ∙ after_quotes (escape others) y q) in
    let read : bytes ≡ others =
    same_Some bytes others
    (sym (content-escape bytes (p ∷ x)) ∙ ap (content plain) body ∙ content-escape others (q ∷ y)) in
    let rest : 34 ∷ p ∷ x ≡ 34 ∷ q ∷ y =
    append_cancel_left (escape bytes) (34 ∷ p ∷ x) (34 ∷ q ∷ y)
    (body ∙ ap (λ b. escape b ++ 34 ∷ q ∷ y) (sym read)) in
    (encodes_same t u read, same_rest 34 34 (p ∷ x) (q ∷ y) rest)
