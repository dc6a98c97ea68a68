-- Words that split, and words that are joined from others, by their first part.
use Rattle.std.proofs.Common.{◌≡◌, ◌≢◌, ℕ, zero, suc, ◌+◌, ◌-◌, ◌<◌, ◌≤◌, List, [], ◌∷◌, ◌++◌, length, take, drop, ◌↔◌, Option, None, Some, Bool, false, IsTrue, ◌==◌, refl, sym, ◌∙◌, ap, subst, arith, length-append, length-drop}
use Rattle.std.proofs.Math.Seq.{drop-append_seam, take-append_seam}
use Rattle.std.proofs.lemmas.List.{take-append-drop, take_all}
use Rattle.std.specs.Option.{option_map}
use Rattle.helix_expr.specs.Matching.{Matches, MatchInOrder, MatchSome, Joined, UpTo, Repeats}
use Rattle.helix_expr.specs.Inner.Splitting.{SplitsAt, SplitsOff}
use Rattle.helix_expr.specs.declared.expr.Expr.{Expr}
use Rattle.helix_expr.specs.MatchingLaws.{Matches-Seq, Matches-Alt, Matches-Repeat}
use Rattle.helix_expr.specs.declared.expr.Expr.TheViews.{Seq, Alt, Repeat}

-- no offset where a word is cut serves
pub none_in_order : (part : Expr) (parts : List Expr) (word : List ℕ)
    → ((cut : ℕ) → cut < length word + 1 → Matches part (take cut word) → ¬ MatchInOrder parts (drop cut word))
    → ¬ MatchInOrder (part ∷ parts) word
none_in_order part parts word none (prefix, rest, split, first, others) =
    let within : length prefix < length word + 1 = omega (arith, ap length split, length-append prefix rest) in
    none (length prefix) within
    (subst (λ w. Matches part w) (sym (ap (take (length prefix)) split ∙ take-append_seam prefix rest)) first)
    (subst (MatchInOrder parts) (sym (ap (drop (length prefix)) split ∙ drop-append_seam prefix rest)) others)

-- one more word at the start
more_in_limit : (most : Option ℕ) (count : ℕ) → most ≢ Some 0 → UpTo (option_map (λ limit. limit - 1) most) count
    → UpTo most (suc count)
more_in_limit None count some high = tt
more_in_limit (Some zero) count some high = absurd (some refl)
more_in_limit (Some (suc limit)) count some high = omega arith

pub one_more : (Language : List ℕ → Type 0) (least : ℕ) (most : Option ℕ) (word : List ℕ) (cut : ℕ) → most ≢ Some 0
    → Language (take cut word) → Repeats Language (least - 1) (option_map (λ limit. limit - 1) most) (drop cut word)
    → Repeats Language least most word
one_more Language least most word cut some first (count, low, high, joined) = (
  suc count,
  omega arith,
  more_in_limit most count some high,
  (take cut word, drop cut word, sym (take-append-drop cut word), first, joined),
)

-- one less after the first one
less_in_limit : (most : Option ℕ) (count fewer : ℕ) → suc fewer ≤ count → UpTo most count
    → UpTo (option_map (λ limit. limit - 1) most) fewer
less_in_limit None count fewer below high = tt
less_in_limit (Some limit) count fewer below high = omega arith

-- where a word with characters is joined from others, the first ones may be empty, and then one isn't
pub record FirstOf (Language : List ℕ → Type 0) (count : ℕ) (word : List ℕ) : Type 0 where
  pub fewer : ℕ
  pub prefix : List ℕ
  pub rest : List ℕ
  pub below : suc fewer ≤ count
  pub character : 0 < length prefix
  pub split : word ≡ prefix ++ rest
  pub first : Language prefix
  pub joined : Joined Language fewer rest

first_of : (Language : List ℕ → Type 0) (count : ℕ) (word : List ℕ) → word ≢ [] → Joined Language count word
    → FirstOf Language count word
first_of Language zero word some joined = absurd (some joined)
first_of Language (suc count) word some ([], rest, split, first, joined) =
    let found : FirstOf Language count rest = first_of Language count rest (λ none. some (split ∙ none)) joined in
    record {
      fewer = found.fewer;
      prefix = found.prefix;
      rest = found.rest;
      below = omega (arith, found.below);
      character = found.character;
      split = split ∙ found.split;
      first = found.first;
      joined = found.joined;
    }
first_of Language (suc count) word some (code ∷ prefix, rest, split, first, joined) = record {
  fewer = count;
  prefix = code ∷ prefix;
  rest = rest;
  below = omega arith;
  character = omega arith;
  split = split;
  first = first;
  joined = joined;
}

-- a first word with what is after it
split_off : (Language : List ℕ → Type 0) (least : ℕ) (most : Option ℕ) (shortest : ℕ) (word prefix rest : List ℕ)
    → shortest ≤ length prefix → word ≡ prefix ++ rest → Language prefix → Repeats Language least most rest
    → SplitsOff Language least most shortest word
split_off Language least most shortest word prefix rest long split first others =
    let within : length prefix < length word + 1 = omega (arith, ap length split, length-append prefix rest) in (
      length prefix,
      long,
      within,
      (
        subst Language (sym (ap (take (length prefix)) split ∙ take-append_seam prefix rest)) first,
        subst (Repeats Language least most) (sym (ap (drop (length prefix)) split ∙ drop-append_seam prefix rest))
            others,
      ),
    )

-- words that repeat, by a first one: any where one is asked for, else one with characters
module _ (Language : List ℕ → Type 0) (most : Option ℕ) (word : List ℕ) where
  any_off : (least : ℕ) → 0 < least → Repeats Language least most word
      → SplitsOff Language (least - 1) (option_map (λ limit. limit - 1) most) 0 word
  any_off least asked (zero, low, high, joined) = absurd (omega (arith, low))
  any_off least asked (suc count, low, high, (prefix, rest, split, first, joined)) =
      split_off Language (least - 1) (option_map (λ limit. limit - 1) most) 0 word prefix rest (omega arith) split first
      (count, omega (arith, low), less_in_limit most (suc count) count (omega arith) high, joined)

  character_off : word ≢ [] → Repeats Language 0 most word
      → SplitsOff Language 0 (option_map (λ limit. limit - 1) most) 1 word
  character_off characters (count, low, high, joined) =
      let found : FirstOf Language count word = first_of Language count word characters joined in
      split_off Language 0 (option_map (λ limit. limit - 1) most) 1 word found.prefix found.rest
      (omega (arith, found.character)) found.split found.first
      (found.fewer, omega arith, less_in_limit most count found.fewer found.below high, found.joined)

  one_on : (least shortest : ℕ) → most ≢ Some 0
      → SplitsOff Language (least - 1) (option_map (λ limit. limit - 1) most) shortest word
      → Repeats Language least most word
  one_on least shortest some (cut, long, within, (first, others)) =
      one_more Language least most word cut some first others

  pub by_any : (least : ℕ) → most ≢ Some 0 → 0 < least
      → SplitsOff Language (least - 1) (option_map (λ limit. limit - 1) most) 0 word ↔ Repeats Language least most word
  by_any least some asked = (one_on least 0 some, any_off least asked)

  pub by_character : most ≢ Some 0 → word ≢ []
      → SplitsOff Language 0 (option_map (λ limit. limit - 1) most) 1 word ↔ Repeats Language 0 most word
  by_character some characters = (one_on 0 1 some, character_off characters)

-- The calls of the matcher, each with what it answers.

false_is_false : IsTrue false → ⊥
false_is_false e = cc e

pub seq_decides : (b : Bool) (expr : Expr) (parts slice : List Expr) (word : List ℕ) → expr ≡ Seq parts → slice ≡ parts
    → (IsTrue b ↔ MatchInOrder slice word) → IsTrue b ↔ Matches expr word
seq_decides b expr parts slice word is same decides =
    subst (λ (Language : List ℕ → Type 0). IsTrue b
    ↔ Language word) (ap MatchInOrder same ∙ (sym (Matches-Seq parts) ∙ ap Matches (sym is))) decides

pub alt_decides : (b : Bool) (expr : Expr) (parts slice : List Expr) (word : List ℕ) → expr ≡ Alt parts → slice ≡ parts
    → (IsTrue b ↔ MatchSome slice word) → IsTrue b ↔ Matches expr word
alt_decides b expr parts slice word is same decides =
    subst (λ T. IsTrue b ↔ T) (ap (λ ps. MatchSome ps word) same
    ∙ (sym (Matches-Alt parts word) ∙ ap (λ e. Matches e word) (sym is))) decides

pub repeat_decides : (b : Bool) (expr part got : Expr) (least : ℕ) (most : Option ℕ) (word : List ℕ)
    → expr ≡ Repeat part least most → got ≡ part → (IsTrue b ↔ Repeats (λ w. Matches got w) least most word)
    → IsTrue b ↔ Matches expr word
repeat_decides b expr part got least most word is same decides =
    let here : IsTrue b ↔ Repeats (λ w. Matches part w) least most word = subst (λ p. IsTrue b
    ↔ Repeats (λ w. Matches p w) least most word) same decides in
    let law : Matches (Repeat part least most) word
    ↔ Repeats (λ w. Matches part w) least most word = Matches-Repeat part least most word in
    let through : IsTrue b ↔ Matches (Repeat part least most) word = (
      (λ t. law.1 (here.0 t)),
      (λ m. here.1 (law.0 m)),
    ) in
    subst (λ e. IsTrue b ↔ Matches e word) (sym is) through

pub no_cut : (parts : List Expr) (part : Expr) (rest : List Expr) (word : List ℕ) (cut : ℕ) → parts ≡ part ∷ rest
    → length word + 1 ≤ cut → ((k : ℕ) → k < cut → Matches part (take k word) → ¬ MatchInOrder rest (drop k word))
    → IsTrue false ↔ MatchInOrder parts word
no_cut parts part rest word cut is all none = (
  (λ f. absurd (false_is_false f)),
  (λ matches. absurd (none_in_order part rest word (λ k below. none k (omega (arith, below, all)))
      (subst (λ ps. MatchInOrder ps word) is matches))),
)

not_zero : (b : Bool) (most : Option ℕ) → (IsTrue b ↔ (most ≡ Some 0)) → b ≡ false → most ≢ Some 0
not_zero b most decides answer ended = false_is_false (sym (sym (decides.1 ended) ∙ answer))

pub asked_decides : (b zero_left : Bool) (Language : List ℕ
    → Type 0) (least : ℕ) (most fewer : Option ℕ) (word : List ℕ) → (IsTrue zero_left ↔ (most ≡ Some 0))
    → zero_left ≡ false → fewer ≡ option_map (λ limit. limit - 1) most → 0 < least
    → (IsTrue b ↔ SplitsOff Language (least - 1) fewer 0 word) → IsTrue b ↔ Repeats Language least most word
asked_decides b zero_left Language least most fewer word ended answer is asked decides =
    let law : SplitsOff Language (least - 1) (option_map (λ limit. limit - 1) most) 0 word
    ↔ Repeats Language least most word = by_any Language most word least (not_zero zero_left most ended answer) asked in
    let here : IsTrue b ↔ SplitsOff Language (least - 1) (option_map (λ limit. limit - 1) most) 0
    word = subst (λ limit. IsTrue b ↔ SplitsOff Language (least - 1) limit 0 word) is decides in
    ((λ t. law.0 (here.0 t)), (λ m. here.1 (law.1 m)))

pub unasked_decides : (b zero_left : Bool) (Language : List ℕ
    → Type 0) (least : ℕ) (most fewer : Option ℕ) (word : List ℕ) → (IsTrue zero_left ↔ (most ≡ Some 0))
    → zero_left ≡ false → fewer ≡ option_map (λ limit. limit - 1) most → least ≡ 0 → word ≢ []
    → (IsTrue b ↔ SplitsOff Language 0 fewer 1 word) → IsTrue b ↔ Repeats Language least most word
unasked_decides b zero_left Language least most fewer word ended answer is none characters decides =
    let law : SplitsOff Language 0 (option_map (λ limit. limit - 1) most) 1 word
    ↔ Repeats Language 0 most word = by_character Language most word (not_zero zero_left most ended answer) characters
    in
    let here : IsTrue b ↔ SplitsOff Language 0 (option_map (λ limit. limit - 1) most) 1 word = subst (λ limit. IsTrue b
    ↔ SplitsOff Language 0 limit 1 word) is decides in
    let through : IsTrue b ↔ Repeats Language 0 most word = ((λ t. law.0 (here.0 t)), (λ m. here.1 (law.1 m))) in
    subst (λ n. IsTrue b ↔ Repeats Language n most word) (sym none) through

pub cut_decides : (b : Bool) (Language : List ℕ → Type 0) (least : ℕ) (most : Option ℕ) (cut : ℕ) (word : List ℕ)
    → Language (take cut word) → (IsTrue b ↔ Repeats Language least most (take (length word - cut) (drop cut word)))
    → IsTrue b ↔ SplitsAt Language least most cut word
cut_decides b Language least most cut word first decides =
    let here : IsTrue b ↔ Repeats Language least most (drop cut word) = subst (λ w. IsTrue b
    ↔ Repeats Language least most w) (take_all (length word - cut) (drop cut word) (omega (
      arith,
      length-drop cut word,
    ))) decides in
    ((λ t. (first, here.0 t)), (λ both. here.1 both.1))

pub some_characters : (b : Bool) (word : List ℕ) → b ≡ (length word == 0) → b ≡ false → word ≢ []
some_characters b word is answer none = false_is_false (sym answer ∙ (is ∙ ap (λ w. length w == 0) none))
