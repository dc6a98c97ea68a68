-- The tokens of patterns one after the other.
use Rattle.std.proofs.Common.{◌≡◌, ℕ, ◌+◌, ◌*◌, ◌-◌, min, Bool, List, [], ◌∷◌, ◌++◌, length, refl, sym, ◌∙◌, ap, append_assoc, arith, length-append, add-zero}
use Rattle.std.proofs.lemmas.List.{append-nil}
use Rattle.helix_regex.specs.declared.token.Token.{Token}
use Rattle.helix_regex.specs.declared.token.Token.TheVariants as token
use Rattle.helix_regex.specs.Pattern.{Item, Count, once, times, Pattern, end, bar, caret, dollar, one, group, item_text, items_text, single_text, quant_text, opening, pattern_text}
use Rattle.helix_regex.specs.Meaning.{number_of, number_after}
use Rattle.helix_regex.specs.Faults.{piece_text, group_text}
use Rattle.helix_regex.proofs.Machine.{append, Atom, alone, grouped, piece, Frame}
use Rattle.helix_regex.specs.Inner.Tokens.{item_token, item_tokens, single_tokens, count_token, quant_tokens, tokens, capped}
use Rattle.helix_regex.specs.Inner.Lexing.{with_digit}
use Rattle.helix_regex.proofs.Texts.{atom_text}
use Rattle.helix_regex.proofs.Sound.{frames_text}

-- an offset after two texts
after_two : (at : ℕ) (s t : List ℕ) → at + length (s ++ t) ≡ at + length s + length t
after_two at s t = omega (arith, length-append s t)

after_one : (at : ℕ) (c : ℕ) (t : List ℕ) → at + 1 + length t ≡ at + length (c ∷ t)
after_one at c t = omega arith

join : (a b c d : List Token) → a ++ (b ++ (c ++ d)) ≡ (a ++ (b ++ c)) ++ d
join a b c d = simp append_assoc

join_group : (a b c d : List Token) → a ++ token.Close ∷ (b ++ (c ++ d)) ≡ (a ++ token.Close ∷ (b ++ c)) ++ d
join_group a b c d = simp append_assoc

group_joined : (o i q p : List ℕ) → (o ++ (i ++ 41 ∷ q)) ++ p ≡ o ++ (i ++ 41 ∷ (q ++ p))
group_joined o i q p = simp append_assoc

pub tokens-append : (p q : Pattern) (at : ℕ)
    → tokens at (append p q) ≡ tokens at p ++ tokens (at + length (pattern_text p)) q
tokens-append end q at = ap (λ n. tokens n q) (sym (add-zero at))
tokens-append (bar p) q at = ap (λ t. token.Bar at ∷ t) (tokens-append p q (at + 1)
    ∙ ap (λ n. tokens (at + 1) p ++ tokens n q) (after_one at 124 (pattern_text p)))
tokens-append (caret p) q at = ap (λ t. token.Caret at ∷ t) (tokens-append p q (at + 1)
    ∙ ap (λ n. tokens (at + 1) p ++ tokens n q) (after_one at 94 (pattern_text p)))
tokens-append (dollar p) q at = ap (λ t. token.Dollar at ∷ t) (tokens-append p q (at + 1)
    ∙ ap (λ n. tokens (at + 1) p ++ tokens n q) (after_one at 36 (pattern_text p)))
tokens-append (one s k p) q at =
    let n : ℕ = at + length (piece_text s k) in
    let place : n + length (pattern_text p) ≡ at + length (single_text s ++ (quant_text k ++ pattern_text p)) =
    sym (after_two at (piece_text s k) (pattern_text p))
    ∙ ap (λ t. at + length t) (append_assoc (single_text s) (quant_text k) (pattern_text p)) in
    ap (λ t. single_tokens at s ++ (quant_tokens (at + length (single_text s)) k ++ t)) (tokens-append p q n
    ∙ ap (λ m. tokens n p ++ tokens m q) place)
    ∙ join (single_tokens at s) (quant_tokens (at + length (single_text s)) k) (tokens n p) _
tokens-append (group bare inner k p) q at =
    let n : ℕ = at + length (group_text bare inner k) in
    let place : n + length (pattern_text p)
    ≡ at + length (opening bare ++ (pattern_text inner ++ 41 ∷ (quant_text k ++ pattern_text p))) =
    sym (after_two at (group_text bare inner k) (pattern_text p))
    ∙ ap (λ t. at + length t) (group_joined (opening bare) (pattern_text inner) (quant_text k) (pattern_text p)) in
    ap (λ t. token.Open ∷ (tokens (at + length (opening bare)) inner
    ++ token.Close ∷ (quant_tokens (at + length (group_text bare inner once)) k ++ t)))
    (tokens-append p q n ∙ ap (λ m. tokens n p ++ tokens m q) place)
    ∙ ap (λ t. token.Open ∷ t) (join_group (tokens (at + length (opening bare)) inner)
    (quant_tokens (at + length (group_text bare inner once)) k) (tokens n p) _)

pub item_tokens-push : (is : List Item) (i : Item) (at : ℕ)
    → item_tokens at (is ++ i ∷ []) ≡ item_tokens at is ++ item_token (at + length (items_text is)) i ∷ []
item_tokens-push [] i at = ap (λ n. item_token n i ∷ []) (sym (add-zero at))
item_tokens-push (j ∷ is) i at = ap (λ t. item_token at j ∷ t) (item_tokens-push is i (at + length (item_text j))
    ∙ ap (λ n. item_tokens (at + length (item_text j)) is ++ item_token n i ∷ [])
    (sym (after_two at (item_text j) (items_text is))))

-- a quantifier after an atom
pub piece-tokens : (a : Atom) (count : Count) (lazy : Bool) (at : ℕ)
    → tokens at (piece a (times count lazy))
    ≡ tokens at (piece a once) ++ count_token (at + length (atom_text a)) count ∷ []
piece-tokens (alone s) count lazy at = ap (λ t. t ++ count_token (at + length (single_text s)) count ∷ [])
    (sym (append-nil (single_tokens at s)))
piece-tokens (grouped bare inner) count lazy at =
    ap (λ t. token.Open ∷ t) (sym (append_assoc (tokens (at + length (opening bare)) inner) (token.Close ∷ [])
    (count_token (at + length (atom_text (grouped bare inner))) count ∷ [])))

-- the tokens of what is before a group
abbrev pub frames_tokens : List Frame → List Token
frames_tokens [] = []
frames_tokens ((b, bare) ∷ fs) = frames_tokens fs ++ (tokens (length (frames_text fs)) b ++ token.Open ∷ [])

-- and of what is in the innermost
abbrev pub body : List Frame → Pattern → List Token
body fs b = frames_tokens fs ++ tokens (length (frames_text fs)) b

-- how many characters those are
abbrev pub size : List Frame → Pattern → ℕ
size fs b = length (frames_text fs ++ pattern_text b)

pub body-append : (fs : List Frame) (b m : Pattern) → body fs (append b m) ≡ body fs b ++ tokens (size fs b) m
body-append fs b m = ap (λ t. frames_tokens fs ++ t) (tokens-append b m (length (frames_text fs))
    ∙ ap (λ n. tokens (length (frames_text fs)) b ++ tokens n m)
    (sym (length-append (frames_text fs) (pattern_text b))))
    ∙ sym (append_assoc (frames_tokens fs) (tokens (length (frames_text fs)) b) (tokens (size fs b) m))

pub body-counted : (fs : List Frame) (b : Pattern) (a : Atom) (count : Count) (lazy : Bool)
    → body fs (append b (piece a (times count lazy)))
    ≡ body fs (append b (piece a once)) ++ count_token (size fs b + length (atom_text a)) count ∷ []
body-counted fs b a count lazy = body-append fs b (piece a (times count lazy))
    ∙ (ap (λ t. body fs b ++ t) (piece-tokens a count lazy (size fs b))
    ∙ (sym (append_assoc (body fs b) (tokens (size fs b) (piece a once))
    (count_token (size fs b + length (atom_text a)) count ∷ []))
    ∙ ap (λ t. t ++ count_token (size fs b + length (atom_text a)) count ∷ []) (sym (body-append fs b (piece a once)))))

-- one more digit of a number
number_after-push : (ds : List ℕ) (c prefix : ℕ)
    → number_after prefix (ds ++ c ∷ []) ≡ number_after prefix ds * 10 + (c - 48)
number_after-push [] c prefix = refl
number_after-push (d ∷ ds) c prefix = number_after-push ds c (prefix * 10 + (d - 48))

cap_more : (x d : ℕ) → min (x * 10 + d) 1001 ≡ min (min x 1001 * 10 + d) 1001
cap_more x d = omega arith

pub capped-push : (ds : List ℕ) (c : ℕ) → with_digit (capped ds) c ≡ capped (ds ++ c ∷ [])
capped-push ds c = sym (ap (λ x. min x 1001) (number_after-push ds c 0) ∙ cap_more (number_of ds) (c - 48))
