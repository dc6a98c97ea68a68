-- The positions of a pattern are those that its tokens add up to.
use Rattle.std.proofs.Common.{◌≡◌, ℕ, zero, suc, ◌+◌, ◌*◌, ◌≤◌, ◌<◌, inl, inr, max, Bool, true, false, ◌||◌, nat_lt, List, [], ◌∷◌, ◌++◌, length, refl, sym, ◌∙◌, ap, append_assoc, arith}
use Rattle.std.proofs.lemmas.Bool.{cases_lt, lt-ltb, le-ltb}
use Rattle.std.proofs.Math.Nat.{mul-le-mul_left}
use Rattle.helix_regex.specs.declared.token.Token.{Token}
use Rattle.helix_regex.specs.declared.token.Token.TheVariants as token
use Rattle.helix_regex.specs.Pattern.{Item, single, range, set_item, dash, Single, literal, dot, escape, set, class, star, plus, question, exactly, at_least, between, Quant, once, times, Pattern, end, bar, caret, dollar, one, group, item_text, single_text, opening}
use Rattle.helix_regex.specs.Meaning.{number_of}
use Rattle.helix_regex.specs.Faults.{offset_if, piece_text, group_text, is_bad_count, bad_counts, factor, positions, depth, is_too_large}
use Rattle.helix_regex.specs.Inner.Tokens.{item_tokens, single_tokens, capped, quant_tokens, tokens}
use Rattle.helix_regex.specs.Inner.Rules.{deepest}
use Rattle.helix_regex.specs.Inner.Positions.{cap, total}
use Rattle.helix_regex.proofs.CountRule.{low}
use Rattle.helix_regex.proofs.DepthRule.{depth_rule}
use Rattle.std.proofs.lemmas.List.{append-nil}

class_end : (is : List Item) (at : ℕ) (o : List ℕ) (s l : ℕ) (r : List Token)
    → total o s l ((item_tokens at is ++ token.ClassEnd ∷ []) ++ r) ≡ total o (cap (s + l)) 1 r
class_end [] at o s l r = refl
class_end (single e ∷ is) at o s l r = class_end is (at + length (item_text (single e))) o s l r
class_end (range e f ∷ is) at o s l r = class_end is (at + length (item_text (range e f))) o s l r
class_end (set_item c ∷ is) at o s l r = class_end is (at + length (item_text (set_item c))) o s l r
class_end (dash ∷ is) at o s l r = class_end is (at + length (item_text dash)) o s l r

single_adds : (s : Single) (at : ℕ) (o : List ℕ) (a l : ℕ) (r : List Token)
    → total o a l (single_tokens at s ++ r) ≡ total o (cap (a + l)) 1 r
single_adds (literal c) at o a l r = refl
single_adds dot at o a l r = refl
single_adds (escape c) at o a l r = refl
single_adds (set c) at o a l r = refl
single_adds (class true is) at o a l r = class_end is (at + 2) o a l r
single_adds (class false is) at o a l r = class_end is (at + 1) o a l r

-- a good quantifier multiplies
quant_last : Quant → ℕ → ℕ
quant_last once l = l
quant_last (times count lazy) l = cap (l * factor (times count lazy))

by_capped : (o : List ℕ) (a l n m : ℕ) (r : List Token) → n ≡ m → total o a (cap (l * n)) r ≡ total o a (cap (l * m)) r
by_capped o a l n m r e = ap (λ x. total o a (cap (l * x)) r) e

pub third : (a b c : Bool) → ((a || b) || c) ≡ false → b ≡ false
third true b c e = cc
third false true c e = cc
third false false c e = refl

quant_adds : (q : Quant) (at : ℕ) (o : List ℕ) (a l : ℕ) (r : List Token) → is_bad_count q ≡ false
    → total o a l (quant_tokens at q ++ r) ≡ total o a (quant_last q l) r
unfolding quant_last
quant_adds once at o a l r e = refl
quant_adds (times star lazy) at o a l r e = refl
quant_adds (times plus lazy) at o a l r e = refl
quant_adds (times question lazy) at o a l r e = refl
quant_adds (times (exactly ds) lazy) at o a l r e = by_capped o a l (capped ds) (number_of ds) r (low (number_of ds) e)
quant_adds (times (at_least ds) lazy) at o a l r e =
    by_capped o a l (max (capped ds) 1) (max (number_of ds) 1) r (ap (λ x. max x 1) (low (number_of ds) e))
quant_adds (times (between ds es) lazy) at o a l r e =
    by_capped o a l (capped es) (number_of es) r
    (low (number_of es) (third (nat_lt 1000 (number_of ds)) (nat_lt 1000 (number_of es))
    (nat_lt (number_of es) (number_of ds)) e))

-- what the last piece counts
capped_both : (a b : ℕ) → 5001 ≤ a → 5001 ≤ b → cap a ≡ cap b
capped_both a b h k = omega arith

cap_again : (n : ℕ) → cap (cap n) ≡ cap n
cap_again n = omega arith

one_times : (f : ℕ) → cap (cap (1 * f)) ≡ cap f
one_times f = omega arith

times_one : (p : ℕ) → cap p ≡ cap (p * 1)
times_one p = omega arith

zeros : (n : ℕ) → cap (0 + 0 + n) ≡ cap n
zeros n = omega arith

nothing_added : (s l : ℕ) → cap (s + l) ≡ cap (s + l + 0)
nothing_added s l = omega arith

no_depth : (n : ℕ) → max (0 + n) 0 ≡ n
no_depth n = omega arith

piece_sum : (s l q f n : ℕ) → cap q ≡ cap f → cap (cap (s + l) + q + n) ≡ cap (s + l + (f + n))
piece_sum s l q f n e = omega arith

cap_above : (n : ℕ) → nat_lt 5000 (cap n) ≡ nat_lt 5000 n
cap_above n = elim (cases_lt 5000 n) [
  | inl lt ↦ lt-ltb 5000 (cap n) (omega arith) ∙ sym (lt-ltb 5000 n lt)
  | inr le ↦ le-ltb 5000 (cap n) (omega arith) ∙ sym (le-ltb 5000 n le)
]

large : (p g : ℕ) → 5001 < p → cap (cap p * suc g) ≡ cap (p * suc g)
large p g lt =
    let one : 1 ≤ suc g = omega arith in
    let a : 5001 * 1 ≤ 5001 * suc g = mul-le-mul_left 5001 one in
    let b : p * 1 ≤ p * suc g = mul-le-mul_left p one in
    let e : cap p ≡ 5001 = omega arith in
    ap (λ x. cap (x * suc g)) e ∙ capped_both (5001 * suc g) (p * suc g) (omega arith) (omega arith)

cap_times : (p f : ℕ) → cap (cap p * f) ≡ cap (p * f)
cap_times p zero = omega arith
cap_times p (suc g) = elim (cases_lt 5001 p) [
  | inl lt ↦ large p g lt
  | inr le ↦ let e : cap p ≡ p = omega arith in ap (λ x. cap (x * suc g)) e
]

quant_one : (q : Quant) → cap (quant_last q 1) ≡ cap (factor q)
unfolding quant_last
quant_one once = refl
quant_one (times count lazy) = one_times (factor (times count lazy))

quant_many : (q : Quant) (l p : ℕ) → cap l ≡ cap p → cap (quant_last q l) ≡ cap (p * factor q)
unfolding quant_last
quant_many once l p e = e ∙ times_one p
quant_many (times count lazy) l p e = cap_again (l * factor (times count lazy))
    ∙ (sym (cap_times l (factor (times count lazy)))
    ∙ (ap (λ x. cap (x * factor (times count lazy))) e ∙ cap_times p (factor (times count lazy))))

-- a good count, and good ones after it
pub good_first : (b : Bool) (at : ℕ) (xs : List ℕ) → offset_if b at ++ xs ≡ [] → (b ≡ false) × (xs ≡ [])
good_first true at xs e = cc
good_first false at xs e = (refl, e)

pub none_of : (xs ys : List ℕ) → xs ++ ys ≡ [] → (xs ≡ []) × (ys ≡ [])
none_of [] ys e = (refl, e)
none_of (x ∷ xs) ys e = cc

-- tokens add the positions
abbrev Adds : List Token → ℕ → Type 0
Adds ts n = (o : List ℕ) (s l : ℕ) (r : List Token)
    → (s2 : ℕ) × (l2 : ℕ) × (total o s l (ts ++ r) ≡ total o s2 l2 r) × (cap (s2 + l2) ≡ cap (s + l + n))

add_piece : (s l q f n s2 l2 : ℕ) → cap q ≡ cap f → cap (s2 + l2) ≡ cap (cap (s + l) + q + n)
    → cap (s2 + l2) ≡ cap (s + l + (f + n))
add_piece s l q f n s2 l2 e g = g ∙ piece_sum s l q f n e

pub adds : (p : Pattern) (at : ℕ) → bad_counts at p ≡ [] → Adds (tokens at p) (positions p)
adds end at good o s l r = (s, l, refl, nothing_added s l)
adds (bar p) at good o s l r = adds p (at + 1) good o s l r
adds (caret p) at good o s l r = adds p (at + 1) good o s l r
adds (dollar p) at good o s l r = adds p (at + 1) good o s l r
adds (one x q p) at good o s l r =
    let (well, rest) = good_first (is_bad_count q) (at + length (single_text x))
    (bad_counts (at + length (piece_text x q)) p) good in
    let (s2, l2, is, sum) = adds p (at + length (piece_text x q)) rest o (cap (s + l)) (quant_last q 1) r in (
      s2,
      l2,
      ap (total o s l) (append_assoc (single_tokens at x)
          (quant_tokens (at + length (single_text x)) q ++ tokens (at + length (piece_text x q)) p) r)
          ∙ (single_adds x at o s l _
          ∙ (ap (total o (cap (s + l)) 1) (append_assoc (quant_tokens (at + length (single_text x)) q)
          (tokens (at + length (piece_text x q)) p) r)
          ∙ (quant_adds q (at + length (single_text x)) o (cap (s + l)) 1 (tokens (at + length (piece_text x q)) p ++ r)
          well ∙ is))),
      add_piece s l (quant_last q 1) (factor q) (positions p) s2 l2 (quant_one q) sum,
    )
adds (group bare inner q p) at good o s l r =
    let n : ℕ = at + length (group_text bare inner once) in
    let m : ℕ = at + length (group_text bare inner q) in
    let (good_inner, good_rest) = none_of (bad_counts (at + length (opening bare)) inner)
    (offset_if (is_bad_count q) n ++ bad_counts m p) good in
    let (well, rest) = good_first (is_bad_count q) n (bad_counts m p) good_rest in
    let after : List Token = (quant_tokens n q ++ tokens m p) ++ r in
    let (si, li, is_inner, sum_inner) = adds inner (at + length (opening bare)) good_inner (cap (s + l) ∷ o) 0 0
    (token.Close ∷ after) in
    let last : ℕ = quant_last q (cap (si + li)) in
    let (s2, l2, is, sum) = adds p m rest o (cap (s + l)) last r in (
      s2,
      l2,
      ap (total (cap (s + l) ∷ o) 0 0) (append_assoc (tokens (at + length (opening bare)) inner)
          (token.Close ∷ (quant_tokens n q ++ tokens m p)) r)
          ∙ (is_inner
          ∙ (ap (total o (cap (s + l)) (cap (si + li))) (append_assoc (quant_tokens n q) (tokens m p) r)
          ∙ (quant_adds q n o (cap (s + l)) (cap (si + li)) (tokens m p ++ r) well ∙ is))),
      add_piece s l last (positions inner * factor q) (positions p) s2 l2
          (quant_many q (cap (si + li)) (positions inner) (cap_again (si + li) ∙ (sum_inner ∙ zeros (positions inner))))
          sum,
    )

pub size_rule : (p : Pattern) → bad_counts 0 p ≡ []
    → (nat_lt 5000 (total [] 0 0 (tokens 0 p)) || nat_lt 64 (deepest 0 (tokens 0 p))) ≡ is_too_large p
size_rule p good =
    let (s, l, is, sum) = adds p 0 good [] 0 0 [] in
    let all : total [] 0 0 (tokens 0 p) ≡ cap (positions p) = ap (total [] 0 0) (sym (append-nil (tokens 0 p)))
    ∙ (is ∙ (sum ∙ zeros (positions p))) in
    let deep : deepest 0 (tokens 0 p) ≡ depth p = ap (deepest 0) (sym (append-nil (tokens 0 p)))
    ∙ (depth_rule p 0 0 [] ∙ no_depth (depth p)) in
    ap (λ x. nat_lt 5000 x || nat_lt 64 (deepest 0 (tokens 0 p))) all
    ∙ (ap (λ x. x || nat_lt 64 (deepest 0 (tokens 0 p))) (cap_above (positions p))
    ∙ ap (λ x. nat_lt 5000 (positions p) || nat_lt 64 x) deep)
