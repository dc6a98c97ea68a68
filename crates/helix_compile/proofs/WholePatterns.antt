-- What is accepted from the first state of a pattern.
use Rattle.std.proofs.Common.{◌≡◌, ℕ, ◌≤◌, zero, suc, inl, inr, ◌↔◌, Bool, true, false, ◌&&◌, ◌||◌, nat_le, not, Some, Result, IfOk, OnOk, List, [], ◌∷◌, ◌++◌, All, length, slice_get, refl, sym, ap, ◌∙◌, subst, arith, append-nil, append_assoc}
use Rattle.std.proofs.lemmas.Bool.{leb-true, le-leb, and_parts, or_cases}
use Rattle.std.proofs.lemmas.List.{get_or_append_left, length-append}
use Rattle.std.proofs.lemmas.List.Elements.{All-head, All-tail}
use Rattle.helix_automata.specs.Shape.{IsCharacter}
use Rattle.helix_expr.specs.declared.expr.Expr.{Chars}
use Rattle.helix_expr.specs.declared.regex.Regex.{Regex}
use Rattle.helix_expr.specs.Matching.{Matches, IsOneOf, InRanges}
use Rattle.helix_compile.specs.declared.nfa.State.{State}
use Rattle.helix_compile.specs.Answers.{Answers}
use Rattle.helix_compile.specs.Inner.Nfa.{GoesOn, NfaAcceptsIn, NfaAccepts, LeadsThrough, Grows, Builds}
use Rattle.helix_compile.specs.Inner.Repeats.{AnyNumber}
use Rattle.helix_compile.specs.Inner.Patterns.{Before, MatchEnds, is_open, end_state, any_character}
use Rattle.helix_compile.proofs.Building.{builds_nothing, builds_both}
use Rattle.helix_compile.proofs.Arms.{ok_map, ok_with}

-- after a match: anything where that may follow, and else nothing
abbrev pub After : Bool → List ℕ → Type 0
After true word = Unit {0}
After false word = word ≡ []

-- what the last state accepts
end_goes : (free : Bool) (From : ℕ → List ℕ → Type 0) (rest : List ℕ) → GoesOn From (Some (end_state free)) rest
    ↔ After free rest
end_goes true From rest = ((λ h. tt), (λ h. tt))
end_goes false From rest = ((λ h. h), (λ h. h))

-- a word is one of the language and what may follow it
abbrev pub Followed : (List ℕ → Type 0) → Bool → List ℕ → Type 0
Followed L free word = (prefix : List ℕ) × (rest : List ℕ) × (word ≡ prefix ++ rest) × L prefix × After free rest

module _ (nfa : List State) (first end : ℕ) (L : List ℕ → Type 0) (leads : LeadsThrough nfa first L end) (free : Bool)
    (at : slice_get nfa end ≡ Some (end_state free)) where
  ends_there : (steps : ℕ) (rest : List ℕ) → NfaAcceptsIn nfa steps end rest → After free rest
  ends_there zero rest accepts = absurd accepts
  ends_there (suc steps) rest accepts =
      (end_goes free (λ n r. NfaAcceptsIn nfa steps n r) rest).0
      (subst (λ o. GoesOn (λ n r. NfaAcceptsIn nfa steps n r) o rest) at accepts)

  pub accepts_whole : (word : List ℕ) → NfaAccepts nfa first word ↔ Followed L free word
  accepts_whole word = (
    (λ (steps, accepts). let (prefix, rest, fewer, is, has, few, on) =
        leads.splits steps word accepts in (prefix, rest, is, has, ends_there fewer rest on)),
    (λ (prefix, rest, is, has, after). subst (λ w. NfaAccepts nfa first w) (sym is) (leads.joins prefix rest has (
      1,
      subst (λ o. GoesOn (λ n r. NfaAcceptsIn nfa 0 n r) o rest) (sym at)
          ((end_goes free (λ n r. NfaAcceptsIn nfa 0 n r) rest).1 after),
    ))),
  )

-- characters are between the first and the last
within_range : (low high code : ℕ) → (nat_le low code && nat_le code high) ≡ true → (low ≤ code) × (code ≤ high)
within_range low high code e = let parts =
    and_parts (nat_le low code) (nat_le code high) e in (leb-true low code parts.0, leb-true code high parts.1)

one_of_any : (code : ℕ) → 0x20 ≤ code → code ≤ 0x10FFFF → InRanges any_character code
one_of_any code low high =
    first (nat_le 0x20 code) (nat_le code 0x10FFFF) (le-leb 0x20 code low) (le-leb code 0x10FFFF high)
  where
    first : (a b : Bool) → a ≡ true → b ≡ true → ((a && b) || false) ≡ true
    first true true e f = refl
    first true false e f = cc
    first false b e f = cc

pub character_within : (code : ℕ) → IsCharacter code → (0x20 ≤ code) × (code ≤ 0x10FFFF)
character_within code character = elim (or_cases _ _ character) [
  | inl e ↦ (let w = within_range 0x20 0x7E code e in (omega (arith, w.0), omega (arith, w.1)))
  | inr e ↦ elim (or_cases _ _ e) [
    | inl f ↦ (let w = within_range 0xA0 0xD7FF code f in (omega (arith, w.0), omega (arith, w.1)))
    | inr f ↦ elim (or_cases _ _ f) [
      | inl g ↦ (let w = within_range 0xE000 0x10FFFF code g in (omega (arith, w.0), omega (arith, w.1)))
      | inr g ↦ cc
    ]
  ]
]

is_any : (code : ℕ) → IsCharacter code → InRanges any_character code
is_any code character = let within = character_within code character in one_of_any code within.0 within.1

any_word : (word : List ℕ) → All IsCharacter word → AnyNumber (IsOneOf any_character) word
any_word [] all = (0, refl)
any_word (code ∷ word) all = let (count, joined) = any_word word (All-tail IsCharacter code word all) in
    (suc count, (code ∷ [], word, refl, is_any code (All-head IsCharacter code word all), joined))

before : (bound : Bool) (word : List ℕ) → All IsCharacter word → (bound ≡ true → word ≡ []) → Before bound word
before true word all empty = empty refl
before false word all empty = any_word word all

before_bound : (bound : Bool) (word : List ℕ) → Before bound word → bound ≡ true → word ≡ []
before_bound true word empty e = empty
before_bound false word any e = cc

after : (bound : Bool) (word : List ℕ) → (bound ≡ true → word ≡ []) → After (not bound) word
after true word empty = empty refl
after false word empty = tt

after_bound : (bound : Bool) (word : List ℕ) → After (not bound) word → bound ≡ true → word ≡ []
after_bound true word empty e = empty
after_bound false word any e = cc

all_left : (P : ℕ → Type 0) (xs ys : List ℕ) → All P (xs ++ ys) → All P xs
all_left P xs ys all k d within =
    subst P (get_or_append_left xs ys d k within) (all k d (omega (arith, within, length-append xs ys)))

-- a word over the alphabet contains a match where it is a match with any characters before it and anything after it
pub words_answer : (regex : Regex) (containing : Bool) (word : List ℕ) → All IsCharacter word
    → Followed (MatchEnds regex containing) (is_open regex containing) word ↔ Answers regex containing word
words_answer regex false word all = (
  (λ (prefix, rest, is, matches, none). subst (Matches regex.expr)
      (sym (is ∙ (ap (λ l. prefix ++ l) none ∙ append-nil prefix))) matches),
  (λ matches. (word, [], sym (append-nil word), matches, refl)),
)
words_answer regex true word all = (
  (λ (prefix, rest, is, (before, middle, splits, start, matches), end). record {
    before = before;
    middle = middle;
    after = rest;
    split = is ∙ (ap (λ l. l ++ rest) splits ∙ append_assoc before middle rest);
    match = matches;
    from_start = before_bound regex.at_start before start;
    to_end = after_bound regex.at_end rest end;
  }),
  (λ found.
      let characters = subst (All IsCharacter) found.split all in (
        found.before ++ found.middle,
        found.after,
        found.split ∙ sym (append_assoc found.before found.middle found.after),
        (
          found.before,
          found.middle,
          refl,
          before regex.at_start found.before
              (all_left IsCharacter found.before (found.middle ++ found.after) characters) found.from_start,
          found.match,
        ),
        after regex.at_end found.after found.to_end,
      )),
)

-- the whole
pub whole_pattern : (start nfa : List State) (first end : ℕ) (regex : Regex) (containing : Bool) → start ≡ []
    ++ end_state (is_open regex containing) ∷ [] → end ≡ 0 → Grows start nfa
    → Builds start nfa first (MatchEnds regex containing) end → (word : List ℕ) → All IsCharacter word
    → NfaAccepts nfa first word ↔ Answers regex containing word
whole_pattern start nfa first end regex containing one at grows builds word all =
    let there : slice_get nfa end ≡ Some (end_state (is_open regex containing)) =
    ap (slice_get nfa) at ∙ (grows.keeps 0 (omega (arith, ap length one)) ∙ ap (λ l. slice_get l 0) one) in
    let accepts = accepts_whole nfa first end (MatchEnds regex containing) (builds nfa (λ k from within. refl))
    (is_open regex containing) there word in
    let answers = words_answer regex containing word all in
    ((λ r. answers.0 (accepts.0 r)), (λ a. accepts.1 (answers.1 a)))

pub before_bound_builds : (a : List State) (bound : Bool) (next : ℕ) → bound ≡ true
    → Builds a a next (Before bound) next
before_bound_builds a bound next is = subst (λ b. Builds a a next (Before b) next) (sym is) (builds_nothing a next)

pub before_free_builds : {Y : Type 0} (a b : List State) (bound : Bool) (next : ℕ) (ranges : List (ℕ × ℕ))
    (r : Result ℕ Y) → bound ≡ false → ranges ≡ any_character
    → IfOk r (λ first. Builds a b first (AnyNumber (Matches (Chars ranges))) next)
    → IfOk r (λ first. Builds a b first (Before bound) next)
before_free_builds a b bound next ranges r is same builds =
    subst (λ f. IfOk r (λ first. Builds a b first (Before f) next)) (sym is)
    (ok_map (λ first. Builds a b first (AnyNumber (Matches (Chars ranges))) next)
    (λ first. Builds a b first (Before false) next) r
    (λ first h. subst (λ l. Builds a b first (AnyNumber (IsOneOf l)) next) same h) builds)

pub match_alone : {Y : Type 0} (a b : List State) (regex : Regex) (containing : Bool) (next : ℕ) (r : Result ℕ Y)
    → containing ≡ false
    → IfOk r (λ first. Builds a b first (Matches regex.expr) next)
    → IfOk r (λ first. Builds a b first (MatchEnds regex containing) next)
match_alone a b regex containing next r is builds =
    subst (λ c. IfOk r (λ first. Builds a b first (MatchEnds regex c) next)) (sym is) builds

pub match_within : {Y : Type 0} (a c d : List State) (regex : Regex) (containing : Bool) (middle next : ℕ)
    (r : Result ℕ Y) → containing ≡ true
    → Grows a c → Builds a c middle (Matches regex.expr) next → OnOk r (Grows c d)
    → IfOk r (λ first. Builds c d first (Before regex.at_start) middle)
    → IfOk r (λ first. Builds a d first (MatchEnds regex containing) next)
match_within a c d regex containing middle next r is grows match last start =
    subst (λ f. IfOk r (λ first. Builds a d first (MatchEnds regex f) next)) (sym is)
    (ok_with (Grows c d) (λ first. Builds c d first (Before regex.at_start) middle)
    (λ first. Builds a d first (MatchEnds regex true) next) r
    (λ g first h. builds_both a c d first middle next (Before regex.at_start) (Matches regex.expr) grows g match h) last
    start)
