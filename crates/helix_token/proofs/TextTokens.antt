-- A token's text is what a writer of JSON gives for its tokens, and it is read back as those.
use Rattle.std.proofs.Common.{◌≡◌, ℕ, Bool, true, false, fold, ltb-true, List, [], ◌∷◌, ◌++◌, codes, append_assoc, IsUtf8, refl, sym, ◌∙◌, ap}
use Rattle.std.specs.Prelude.{encode_utf8_all}
use Rattle.std.specs.List.{AllByRecursion}
use Rattle.std.proofs.lemmas.Str.{IsUtf8-append, IsUtf8-nil, IsUtf8-from_ascii}
use Rattle.std.specs.Str.{IsAscii}
use Rattle.std.proofs.lemmas.Bool.{and_parts}
use Rattle.std.proofs.lemmas.Str.Ascii.{IsAscii-cons, IsAscii-nil}
use Rattle.hex.specs.Hex.{encode_lower, lower_digits}
use Rattle.hex.proofs.HexLemmas.{IsAscii-encode_with}
use Rattle.json.specs.Token.{Token, end_object, end_array, string}
use Rattle.json.specs.Lex.{tokens}
use Rattle.json.specs.Print.{ArePrintable, ends, print, print_from, separator, token_text}
use Rattle.json.specs.Tree.{json_tokens, items_tokens}
use Rattle.json.proofs.Printed.Tokens.{tokens-print, print_from_push}
use Rattle.json.proofs.Printed.Utf8.{are_ascii, IsUtf8-are_ascii, IsUtf8-key, IsUtf8-quoted, IsUtf8-separator}
use Rattle.serde_json.specs.Written.{outline, items_outline}
use Rattle.serde_json.proofs.Texts.{print-outline}
use Rattle.helix_token.specs.Broken.{IsRowString}
use Rattle.helix_token.specs.Inner.Strings.{head_tokens, last_tokens, string_tokens, token_tokens}
use Rattle.helix_token.specs.Token.{string_items, token_object, token_of_strings}

items_are : (texts : List (List ℕ)) (ts : List Token)
    → items_tokens (items_outline (string_items texts)) ++ ts ≡ string_tokens texts ++ end_array ∷ ts
items_are [] ts = refl
items_are (text ∷ texts) ts = ap (λ l. string (encode_utf8_all text) ∷ l) (items_are texts ts)

-- the tokens of the object
object_tokens : (identity : List ℕ) (strings : List (List ℕ))
    → json_tokens (outline (token_object identity strings)) ≡ token_tokens identity strings
object_tokens identity strings = ap (λ l. head_tokens identity ++ l) (items_are strings (end_object ∷ []))

pub text_is_print : (identity : List ℕ) (strings : List (List ℕ))
    → token_of_strings identity strings ≡ print (token_tokens identity strings)
unfolding token_of_strings
text_is_print identity strings =
    sym (print-outline (token_object identity strings)) ∙ ap print (object_tokens identity strings)

strings_printable : (strings : List (List ℕ)) → ArePrintable (string_tokens strings ++ last_tokens)
unfolding ArePrintable
strings_printable [] = (tt, (tt, tt))
strings_printable (text ∷ strings) = (tt, strings_printable strings)

printable : (identity : List ℕ) (strings : List (List ℕ)) → ArePrintable (token_tokens identity strings)
unfolding ArePrintable
printable identity strings = (tt, (tt, (tt, (tt, (tt, (tt, (tt, strings_printable strings)))))))

-- what a reader finds in a token's text
pub text_tokens : (identity : List ℕ) (strings : List (List ℕ))
    → tokens (token_of_strings identity strings) ≡ token_tokens identity strings
text_tokens identity strings =
    ap tokens (text_is_print identity strings)
    ∙ tokens-print (token_tokens identity strings) (printable identity strings)

ascii_from : (bytes : List ℕ) → are_ascii bytes ≡ true → IsAscii bytes
ascii_from [] test = IsAscii-nil
ascii_from (byte ∷ bytes) test =
    let parts = and_parts _ _ test in
    IsAscii-cons byte bytes (ltb-true _ _ parts.0) (ascii_from bytes parts.1)

ascii_digits : IsAscii lower_digits
ascii_digits = ascii_from lower_digits refl

abbrev AreUtf8 : List Token → Type 0
AreUtf8 ts = AllByRecursion (λ (t : Token). IsUtf8 (token_text t)) ts

print_utf8 : (later : Bool) (ts : List Token) → AreUtf8 ts → IsUtf8 (print_from later ts)
unfolding print_from
print_utf8 later [] all = IsUtf8-nil
print_utf8 later (t ∷ ts) all =
    IsUtf8-append (separator later t) (token_text t ++ print_from (ends t) ts) (IsUtf8-separator later t)
    (IsUtf8-append (token_text t) (print_from (ends t) ts) all.0 (print_utf8 (ends t) ts all.1))

strings_utf8 : (strings : List (List ℕ)) → AllByRecursion IsRowString strings
    → AreUtf8 (string_tokens strings ++ last_tokens)
strings_utf8 [] all = (IsUtf8-are_ascii (93 ∷ []) refl, (IsUtf8-are_ascii (125 ∷ []) refl, tt))
strings_utf8 (text ∷ strings) all = (
  IsUtf8-quoted (encode_utf8_all text) (text, (all.0.0, refl)),
  strings_utf8 strings all.1,
)

-- a token's text is UTF-8
pub text_utf8 : (identity : List ℕ) (strings : List (List ℕ)) → AllByRecursion IsRowString strings
    → IsUtf8 (token_of_strings identity strings)
text_utf8 identity strings all =
    rw (text_is_print identity strings)
    (print_utf8 _ (token_tokens identity strings) (
      IsUtf8-are_ascii (123 ∷ []) refl,
      (
        IsUtf8-key (codes "format") (IsUtf8-are_ascii (codes "format") refl),
        (
          IsUtf8-quoted (codes "helix-token-1") (IsUtf8-are_ascii (codes "helix-token-1") refl),
          (
            IsUtf8-key (codes "identity") (IsUtf8-are_ascii (codes "identity") refl),
            (
              IsUtf8-quoted (encode_lower identity)
                  (IsUtf8-from_ascii (encode_lower identity) (IsAscii-encode_with lower_digits identity ascii_digits)),
              (
                IsUtf8-key (codes "row") (IsUtf8-are_ascii (codes "row") refl),
                (IsUtf8-are_ascii (91 ∷ []) refl, strings_utf8 strings all),
              ),
            ),
          ),
        ),
      ),
    ))

-- a brace ends it
pub text_ends : (identity : List ℕ) (strings : List (List ℕ))
    → (front : List ℕ) × (token_of_strings identity strings ≡ front ++ 125 ∷ [])
text_ends identity strings =
    let first = head_tokens identity ++ (string_tokens strings ++ end_array ∷ []) in
    let split : token_tokens identity strings ≡ first ++ end_object ∷ [] =
    ap (λ l. head_tokens identity ++ l) (sym (append_assoc (string_tokens strings) (end_array ∷ []) (end_object ∷ [])))
    in
    let between = separator (fold (λ _ (u : Token). ends u) false first) end_object in (
      print first ++ between,
      text_is_print identity strings
          ∙ ap print split
          ∙ print_from_push false first end_object
          ∙ sym (append_assoc (print first) between (125 ∷ [])),
    )

-- tokens that are written one after the other
pub written_whole : (identity : List ℕ) (strings : List (List ℕ)) (head body listed whole : List Token)
    (before bytes : List ℕ) → head ≡ head_tokens identity → body ≡ head ++ string_tokens strings
    → listed ≡ body ++ end_array ∷ [] → whole ≡ listed ++ end_object ∷ [] → before ≡ []
    → bytes ≡ before ++ print whole → bytes ≡ token_of_strings identity strings
written_whole identity strings head body listed whole before bytes of_head of_body of_listed of_whole none is =
    is
    ∙ ap (λ l. l ++ print whole) none
    ∙ ap print
    (of_whole
    ∙ ap (λ ts. ts ++ end_object ∷ [])
    (of_listed ∙ ap (λ ts. ts ++ end_array ∷ []) (of_body ∙ ap (λ ts. ts ++ string_tokens strings) of_head))
    ∙ append_assoc (head_tokens identity ++ string_tokens strings) (end_array ∷ []) (end_object ∷ [])
    ∙ append_assoc (head_tokens identity) (string_tokens strings) last_tokens)
    ∙ sym (text_is_print identity strings)
