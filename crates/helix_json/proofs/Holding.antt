-- What a token or a blank does to what has been read.
use Rattle.std.proofs.Common.{◌≡◌, ◌≢◌, ℕ, ◌+◌, ◌<◌, true, false, is_some, Some, List, [], ◌∷◌, ◌++◌, length, take, get_or, refl, sym, ◌∙◌, ap, arith}
use Rattle.std.proofs.lemmas.Bool.{false_from_ne_true}
use Rattle.helix_json.specs.declared.token.Token.{Token}
use Rattle.helix_json.specs.declared.token.Token.TheVariants as token
use Rattle.helix_json.specs.declared.class.Mark.{Mark}
use Rattle.helix_json.specs.declared.class.Class.{Class}
use Rattle.helix_json.specs.declared.class.Class.TheVariants as class_is
use Rattle.helix_json.specs.declared.need.TokenKind.TheVariants as kind
use Rattle.helix_json.specs.declared.string.StringState.TheVariants as state
use Rattle.helix_json.specs.declared.lexeme.StringRead.TheVariants as read
use Rattle.helix_json.specs.declared.nest.Nest.{Nest}
use Rattle.helix_json.specs.Text.{is_blank}
use Rattle.helix_json.specs.Broken.{IsJsonText}
use Rattle.helix_base.specs.Syntax.{IsSyntaxErrorAt}
use Rattle.helix_json.specs.Inner.Lexer.{Lex, between, in_string, class, by_class, mark_token}
use Rattle.helix_json.specs.Inner.Machine.{Reading, step, run, on_some}
use Rattle.helix_json.specs.Inner.Need.{kind_of_token}
use Rattle.helix_json.specs.Inner.Scan.{may_go, FineLex, HasRead}
use Rattle.helix_json.specs.Inner.Progress.{Allows, IsReadTo, HoldsSoFar}
use Rattle.helix_json.specs.Inner.Lexeme.{ReadsString}
use Rattle.helix_json.proofs.LexingNumbers.{blank_class}
use Rattle.helix_json.proofs.Endings.{run_one}
use Rattle.helix_json.proofs.Viable.{no_tokens, no_token}
use Rattle.helix_json.proofs.ReadingOn.{read_to, goes_on, begins, refused}
use Rattle.helix_json.proofs.TokenOffsets.{begins_there, all_begin-push}

pub no_blank : (c : ℕ) (k : Class) → class c ≡ k → k ≢ class_is.Blank → is_blank c ≡ false
no_blank c k is other = false_from_ne_true (is_blank c) (λ e. other (sym is ∙ blank_class c e))

module _ (text : List ℕ) (at : ℕ) (tokens : List Token) (offsets : List ℕ) (old : Nest) (within : at < length text)
    (holds : HoldsSoFar text at tokens offsets old) where
  pub holds_blank : class (get_or text at 0) ≡ class_is.Blank → HoldsSoFar text (at + 1) tokens offsets old
  holds_blank is = record {
    reading = holds.reading;
    is_read = read_to text (at + 1) tokens holds.reading (omega arith)
        (begins text at tokens holds.reading within holds.is_read between (ap (λ k. by_class k (get_or text at 0)) is)
        refl tt);
    tracks = holds.tracks;
    begin = holds.begin;
  }

  -- a token that may come there and ends somewhere
  pub holds_token : (next : ℕ) (t : Token) (new : Nest) (k : Class) → class (get_or text at 0) ≡ k → k ≢ class_is.Blank
      → Allows old new (kind_of_token t) true
      → ((q : Reading) → step holds.reading t ≡ Some q → IsReadTo text next (tokens ++ t ∷ []) q)
      → HoldsSoFar text next (tokens ++ t ∷ []) (offsets ++ at ∷ []) new
  holds_token next t new k is other allowed is_read = let (q, go, tracks) = allowed holds.reading t holds.tracks refl in
      record {
        reading = q;
        is_read = is_read q go;
        tracks = tracks;
        begin = all_begin-push text [] tokens offsets t at holds.begin
            (begins_there text at tokens holds.reading within holds.is_read (no_blank (get_or text at 0) k is other));
      }

  -- a token that begins with a character, and may come there or not
  pub token_begins : (t : Token) (next : Lex) (new : Nest) (k : Class) → class (get_or text at 0) ≡ k
      → by_class k (get_or text at 0) ≡ Some ([], next)
      → may_go holds.reading next ≡ is_some (step holds.reading t) → FineLex next
      → Allows old new (kind_of_token t) true → HasRead (take (at + 1) text) tokens holds.reading next
  token_begins t next new k is goes may fine allowed =
      let (q, go, tracks) = allowed holds.reading t holds.tracks refl in
      begins text at tokens holds.reading within holds.is_read next (ap (λ j. by_class j (get_or text at 0)) is
      ∙ goes) (may ∙ ap is_some go) fine

  pub token_refused : (t : Token) (next : Lex) (new : Nest) (k : Class) → class (get_or text at 0) ≡ k
      → by_class k (get_or text at 0) ≡ Some ([], next)
      → may_go holds.reading next ≡ is_some (step holds.reading t) → Allows old new (kind_of_token t) false
      → IsSyntaxErrorAt IsJsonText text at
  token_refused t next new k is goes may refuses = refused text at tokens holds.reading within holds.is_read
      (no_token [] holds.reading next (ap (λ j. by_class j (get_or text at 0)) is ∙ goes) refl (may
      ∙ ap is_some (refuses holds.reading t holds.tracks refl)))

  -- structural characters
  module _ (m : Mark) (new : Nest) (is : class (get_or text at 0) ≡ class_is.Mark m) where
    pub mark_holds : Allows old new (kind_of_token (mark_token m)) true
        → HoldsSoFar text (at + 1) (tokens ++ mark_token m ∷ []) (offsets ++ at ∷ []) new
    mark_holds allowed = holds_token (at + 1) (mark_token m) new (class_is.Mark m) is (λ e. cc) allowed
        (λ q go. read_to text (at + 1) (tokens ++ mark_token m ∷ []) q (omega arith)
        (goes_on text at tokens holds.reading within holds.is_read (mark_token m ∷ []) q between
        (ap (λ k. by_class k (get_or text at 0)) is) (run_one holds.reading q (mark_token m) go) refl tt))

    pub mark_fails : Allows old new (kind_of_token (mark_token m)) false → IsSyntaxErrorAt IsJsonText text at
    mark_fails refuses = refused text at tokens holds.reading within holds.is_read
        (no_tokens (mark_token m ∷ []) between (ap (λ k. by_class k (get_or text at 0)) is)
        (ap (λ o. on_some o (λ next. run next [])) (refuses holds.reading (mark_token m) holds.tracks refl)))

  -- strings
  module _ (new : Nest) (is : class (get_or text at 0) ≡ class_is.Quote) where
    pub string_fails : Allows old new kind.Str false → IsSyntaxErrorAt IsJsonText text at
    string_fails refuses = token_refused (token.Str []) (in_string [] state.Plain) new class_is.Quote is refl refl
        refuses

    module _ (allowed : Allows old new kind.Str true) where
      string_begins : HasRead (take (at + 1) text) tokens holds.reading (in_string [] state.Plain)
      string_begins = token_begins (token.Str []) (in_string [] state.Plain) new class_is.Quote is refl refl tt allowed

      pub string_stops : (count : ℕ) → ReadsString text (at + 1) (read.Stops count)
          → IsSyntaxErrorAt IsJsonText text count
      string_stops count fails = fails tokens holds.reading string_begins

      pub string_holds : (string : List ℕ) (end : ℕ) → ReadsString text (at + 1) (read.Closes string end)
          → HoldsSoFar text end (tokens ++ token.Str string ∷ []) (offsets ++ at ∷ []) new
      string_holds string end (forth, most, reads) =
          holds_token end (token.Str string) new class_is.Quote is (λ e. cc) allowed
          (λ q go. read_to text end (tokens ++ token.Str string ∷ []) q most
          (reads tokens holds.reading q string_begins go))
