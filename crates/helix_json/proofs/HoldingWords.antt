-- What a literal name or a number does to what has been read.
use Rattle.std.proofs.Common.{◌≡◌, ◌≢◌, ℕ, ◌+◌, ◌-◌, ◌≤◌, ◌<◌, inl, inr, true, false, ◌==◌, Some, None, List, [], ◌∷◌, ◌++◌, length, take, drop, get_or, slice_range, codes, refl, sym, ◌∙◌, ap, subst, arith, append_assoc}
use Rattle.std.proofs.lemmas.Bool.{cond-false, ne_eqb}
use Rattle.std.proofs.lemmas.List.{take-append-drop, drop_more, take_all}
use Rattle.helix_json.specs.declared.token.Token.{Token}
use Rattle.helix_json.specs.declared.token.Token.TheVariants as token
use Rattle.helix_json.specs.declared.class.Word.{Word}
use Rattle.helix_json.specs.declared.class.Word.TheVariants as word
use Rattle.helix_json.specs.declared.class.Class.TheVariants as class_is
use Rattle.helix_json.specs.declared.need.TokenKind.TheVariants as kind
use Rattle.helix_json.specs.declared.digits.NumberState.{NumberState}
use Rattle.helix_json.specs.declared.digits.NumberState.TheVariants as number
use Rattle.helix_json.specs.declared.nest.Nest.{Nest}
use Rattle.helix_json.specs.Broken.{IsJsonText}
use Rattle.helix_base.specs.Syntax.{IsSyntaxErrorAt}
use Rattle.helix_json.specs.Inner.NumberSteps.{kind_of, number_step, number_ends}
use Rattle.helix_json.specs.Inner.Lexer.{between, in_word, in_number, lex, on_emission, prepend, class, by_class, begin_number, word_token, word_rest, word_move}
use Rattle.helix_json.specs.Inner.Machine.{Reading, step}
use Rattle.helix_json.specs.Inner.Need.{kind_of_token}
use Rattle.helix_json.specs.Inner.Scan.{HasRead}
use Rattle.helix_json.specs.Inner.Progress.{Allows, HoldsSoFar}
use Rattle.helix_json.specs.Inner.Lexeme.{ReadsNumber, ReadsLetters}
use Rattle.helix_json.proofs.Decimal.{le_or_lt}
use Rattle.helix_json.proofs.Machine.{run-append}
use Rattle.helix_json.proofs.Endings.{run_one, word_step, word_read}
use Rattle.helix_json.proofs.Viable.{prepend_both, no_character}
use Rattle.helix_json.proofs.Strings.{prepend_nil}
use Rattle.helix_json.proofs.SyntaxErrors.{token_fails, token_ends}
use Rattle.helix_json.proofs.ReadingOn.{read_to, read_to_number, refused}
use Rattle.helix_json.proofs.Lexemes.{slice_more, number_refuses, number_stops}
use Rattle.helix_json.proofs.Holding.{holds_token, token_begins, token_refused}

-- a letter that is not the last
letter_step : (w : Word) (d : ℕ) (letters : List ℕ) (e : ℕ) (more : List ℕ)
    → word_move w d (d ∷ letters ++ e ∷ more) ≡ Some ([], in_word w (letters ++ e ∷ more))
letter_step w d [] e more = word_step w d e more
letter_step w d (f ∷ letters) e more = word_step w d f (letters ++ e ∷ more)

skip : (w : Word) (letters : List ℕ) (d : ℕ) (more rest : List ℕ)
    → lex (letters ++ rest) (in_word w (letters ++ d ∷ more)) ≡ lex rest (in_word w (d ∷ more))
unfolding lex
skip w [] d more rest = refl
skip w (f ∷ letters) d more rest = ap (λ m. on_emission m (λ l. lex (letters ++ rest) l))
    (letter_step w f letters d more)
    ∙ (prepend_nil _ ∙ skip w letters d more rest)

-- some letters of a word
letters_read : (w : Word) (prefix : List ℕ) (ds : List Token) (r : Reading) (letters : List ℕ) (d : ℕ) (more : List ℕ)
    → HasRead prefix ds r (in_word w (letters ++ d ∷ more)) → HasRead (prefix ++ letters) ds r (in_word w (d ∷ more))
letters_read w prefix ds r letters d more has = record {
  reads = λ rest. ap (λ t. lex t between) (append_assoc prefix letters rest)
      ∙ (has.reads (letters ++ rest) ∙ ap (prepend ds) (skip w letters d more rest));
  leads = has.leads;
  goes = has.goes;
  fine = λ e. cc;
}

-- the last ones
word_ends : (w : Word) (prefix : List ℕ) (ds : List Token) (r q : Reading) (d : ℕ) (more : List ℕ)
    → HasRead prefix ds r (in_word w (d ∷ more)) → step r (word_token w) ≡ Some q
    → HasRead (prefix ++ d ∷ more) (ds ++ word_token w ∷ []) q between
word_ends w prefix ds r q d more has go = record {
  reads = λ rest. ap (λ t. lex t between) (append_assoc prefix (d ∷ more) rest)
      ∙ (has.reads (d ∷ more ++ rest) ∙ (ap (prepend ds) (word_read w d more rest)
      ∙ prepend_both ds (word_token w ∷ []) (lex rest between)));
  leads = run-append ds (word_token w ∷ []) _ r has.leads ∙ run_one r q (word_token w) go;
  goes = refl;
  fine = tt;
}

whole_word : (w : Word) (prefix : List ℕ) (ds : List Token) (r q : Reading)
    → HasRead prefix ds r (in_word w (word_rest w)) → step r (word_token w) ≡ Some q
    → HasRead (prefix ++ word_rest w) (ds ++ word_token w ∷ []) q between
whole_word word.Null prefix ds r q has go = word_ends word.Null prefix ds r q 117 (codes "ll") has go
whole_word word.True prefix ds r q has go = word_ends word.True prefix ds r q 114 (codes "ue") has go
whole_word word.False prefix ds r q has go = word_ends word.False prefix ds r q 97 (codes "lse") has go

-- another letter
wrong : (w : Word) (c d : ℕ) (more : List ℕ) → c ≢ d → word_move w c (d ∷ more) ≡ None
wrong w c d [] other = cond-false (c == d) _ _ (ne_eqb c d other)
wrong w c d (e ∷ more) other = cond-false (c == d) _ _ (ne_eqb c d other)

word_stops : (text : List ℕ) (at : ℕ) (ds : List Token) (r : Reading) (w : Word) (d : ℕ) (more : List ℕ)
    → HasRead (take at text) ds r (in_word w (d ∷ more)) → at ≤ length text
    → (at < length text → get_or text at 0 ≢ d) → IsSyntaxErrorAt IsJsonText text at
word_stops text at ds r w d more has within other = elim (le_or_lt (length text) at) [
  | inl past ↦ token_ends text at ds r (in_word w (d ∷ more)) (omega arith) has refl
  | inr below ↦ token_fails text at ds r (in_word w (d ∷ more)) below has
      (no_character (wrong w (get_or text at 0) d more (other below)))
]

kind_of_word : (w : Word) → kind_of_token (word_token w) ≡ kind.Scalar
kind_of_word word.Null = refl
kind_of_word word.True = refl
kind_of_word word.False = refl

some_letters : (w : Word) → word_rest w ≢ []
some_letters word.Null e = cc
some_letters word.True e = cc
some_letters word.False e = cc

module _ (text : List ℕ) (at : ℕ) (tokens : List Token) (offsets : List ℕ) (old : Nest) (within : at < length text)
    (holds : HoldsSoFar text at tokens offsets old) where
  module _ (w : Word) (new : Nest) (is : class (get_or text at 0) ≡ class_is.Word w) where
    pub word_fails : Allows old new kind.Scalar false → IsSyntaxErrorAt IsJsonText text at
    word_fails refuses = token_refused text at tokens offsets old within holds (word_token w) (in_word w (word_rest w))
        new (class_is.Word w) is refl refl
        (subst (λ k. Allows old new k false) (sym (kind_of_word w)) refuses)

    module _ (allowed : Allows old new kind.Scalar true) (count : ℕ)
        (reads : ReadsLetters text (at + 1) (word_rest w) count) where
      allows : Allows old new (kind_of_token (word_token w)) true
      allows = subst (λ k. Allows old new k true) (sym (kind_of_word w)) allowed

      word_begins : HasRead (take (at + 1) text) tokens holds.reading (in_word w (word_rest w))
      word_begins = token_begins text at tokens offsets old within holds (word_token w) (in_word w (word_rest w)) new
          (class_is.Word w) is refl refl (some_letters w) allows

      pub word_breaks : count < length (word_rest w) → IsSyntaxErrorAt IsJsonText text (at + 1 + count)
      word_breaks few =
          let split : word_rest w ≡ take count (word_rest w)
          ++ get_or (word_rest w) count 0 ∷ drop (count + 1) (word_rest w)
          = sym (take-append-drop count (word_rest w))
          ∙ ap (λ l. take count (word_rest w) ++ l) (drop_more (word_rest w) count 0 few) in
          let has : HasRead (take (at + 1) text) tokens holds.reading
          (in_word w (take count (word_rest w) ++ get_or (word_rest w) count 0 ∷ drop (count + 1) (word_rest w)))
          = subst (λ l. HasRead (take (at + 1) text) tokens holds.reading (in_word w l)) split word_begins in
          word_stops text (at + 1 + count) tokens holds.reading w (get_or (word_rest w) count 0)
          (drop (count + 1) (word_rest w))
          (subst (λ f. HasRead f tokens holds.reading
          (in_word w (get_or (word_rest w) count 0 ∷ drop (count + 1) (word_rest w)))) (sym reads.same)
          (letters_read w (take (at + 1) text) tokens holds.reading (take count (word_rest w))
          (get_or (word_rest w) count 0) (drop (count + 1) (word_rest w)) has))
          reads.within (reads.stops few)

      pub word_holds : length (word_rest w) ≤ count
          → HoldsSoFar text (at + 1 + count) (tokens ++ word_token w ∷ []) (offsets ++ at ∷ []) new
      word_holds all = holds_token text at tokens offsets old within holds (at + 1 + count) (word_token w) new
          (class_is.Word w) is (λ e. cc) allows
          (λ q go. read_to text (at + 1 + count) (tokens ++ word_token w ∷ []) q reads.within
          (subst (λ f. HasRead f (tokens ++ word_token w ∷ []) q between)
          (sym (reads.same ∙ ap (λ l. take (at + 1) text ++ l) (take_all count (word_rest w) all)))
          (whole_word w (take (at + 1) text) tokens holds.reading q word_begins go)))

  -- numbers
  module _ (is : class (get_or text at 0) ≡ class_is.Other) where
    pub number_none : number_step number.Nothing (kind_of (get_or text at 0)) ≡ None
        → IsSyntaxErrorAt IsJsonText text at
    number_none none = refused text at tokens holds.reading within holds.is_read
        (no_character (ap (λ k. by_class k (get_or text at 0)) is ∙ ap (begin_number (get_or text at 0)) none))

    module _ (first : NumberState) (new : Nest) (begins : number_step number.Nothing (kind_of (get_or text at 0))
        ≡ Some first) where
      pub number_fails : Allows old new kind.Scalar false → IsSyntaxErrorAt IsJsonText text at
      number_fails refuses = token_refused text at tokens offsets old within holds (token.Number [])
          (in_number (get_or text at 0 ∷ []) first) new class_is.Other is
          (ap (begin_number (get_or text at 0)) begins) refl refuses

      module _ (allowed : Allows old new kind.Scalar true) (last : NumberState) (end : ℕ)
          (reads : ReadsNumber text (at + 1) first last end) where
        one : slice_range text at (at + 1) ≡ get_or text at 0 ∷ []
        one = let none : at - at ≡ 0 = omega arith in
            slice_more text at at (omega arith) within ∙ ap (λ n. take n (drop at text) ++ get_or text at 0 ∷ []) none

        number_has : HasRead (take end text) tokens holds.reading (in_number (slice_range text at end) last)
        number_has = reads.reads at tokens holds.reading (omega arith)
            (subst (λ t. HasRead (take (at + 1) text) tokens holds.reading (in_number t first)) (sym one)
            (token_begins text at tokens offsets old within holds (token.Number [])
            (in_number (get_or text at 0 ∷ []) first) new class_is.Other is
            (ap (begin_number (get_or text at 0)) begins) refl tt allowed))

        pub number_breaks : number_ends last ≡ false → IsSyntaxErrorAt IsJsonText text end
        number_breaks ends = elim (le_or_lt (length text) end) [
          | inl past ↦ number_stops text end tokens holds.reading (slice_range text at end) last number_has
              (omega (arith, reads.within)) ends
          | inr below ↦ number_refuses text end tokens holds.reading (slice_range text at end) last number_has below
              (reads.stops below) ends
        ]

        pub number_holds : number_ends last ≡ true
            → HoldsSoFar text end (tokens ++ token.Number (slice_range text at end) ∷ []) (offsets ++ at ∷ []) new
        number_holds ends = holds_token text at tokens offsets old within holds end
            (token.Number (slice_range text at end)) new class_is.Other is (λ e. cc) allowed
            (λ q go. read_to_number text end tokens holds.reading q (slice_range text at end) last reads.within
            number_has ends reads.stops go)
