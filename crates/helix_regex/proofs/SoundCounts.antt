-- What is read of quantifiers and escapes is the text of what is put together.
use Rattle.std.proofs.Common.{◌≡◌, ◌≢◌, ℕ, Bool, true, false, IsTrue, List, [], ◌∷◌, ◌++◌, refl, sym, ◌∙◌, ap, append_assoc, codes}
use Rattle.std.proofs.lemmas.List.{append-nil}
use Rattle.helix_regex.specs.declared.char_kind.CharKind.{CharKind}
use Rattle.helix_regex.specs.declared.char_kind.CharKind.TheVariants as kind_is
use Rattle.helix_regex.specs.declared.char_kind.EscapeKind.{EscapeKind}
use Rattle.helix_regex.specs.declared.char_kind.EscapeKind.TheVariants as escape_is
use Rattle.helix_regex.specs.declared.char_kind.CountKind.{CountKind}
use Rattle.helix_regex.specs.declared.char_kind.CountKind.TheVariants as count_is
use Rattle.helix_base.specs.Inner.DigitLaws.{digits_push}
use Rattle.helix_base.specs.Digits.{is_digit}
use Rattle.helix_regex.specs.Pattern.{escape, set, Count, star, plus, question, exactly, at_least, between, times, Pattern, end, count_text, quant_text, pattern_text, IsNumeral, FitsCount, Fits}
use Rattle.helix_regex.proofs.Machine.{Atom, alone, opened, atom, repeated, settled, Frame, Counting, count_opened, count_least, count_comma, count_most, outside_step, marked_step, escape_step, count_step}
use Rattle.helix_regex.proofs.Texts.{atom_text, FitsAtom, pushed-text, fits-pushed}
use Rattle.helix_regex.proofs.CharKinds.{KindMeans, EscapeMeans, CountMeans}
use Rattle.helix_regex.proofs.Sound.{frames_text, counting_text, FitFrames, IsPlain, FitsCounting, Leaves, settled_fits, with_atom, with_count, inner_two, inner_three, settled_leaves}

-- a count after an atom
counted_text : (a : Atom) (b : Pattern) (fs : List Frame) (count : Count) (c : ℕ) → count_text count ≡ c ∷ []
    → frames_text fs ++ pattern_text (settled (repeated a count) b)
    ≡ (frames_text fs ++ pattern_text (settled (atom a) b)) ++ c ∷ []
counted_text a b fs count c e = with_count a count b fs
    ∙ (ap (λ t. frames_text fs ++ (pattern_text b ++ (atom_text a ++ t))) e
    ∙ (inner_two (frames_text fs) (pattern_text b) (atom_text a) c ∙ ap (λ t. t ++ c ∷ []) (sym (with_atom a b fs))))

pub atom_leaves : (a : Atom) (b : Pattern) (fs : List Frame) (s : CharKind) (c : ℕ) → KindMeans s c → Fits b
    → FitFrames fs → FitsAtom a
    → Leaves (outside_step (atom a) b fs s c) ((frames_text fs ++ pattern_text (settled (atom a) b)) ++ c ∷ [])
atom_leaves a b fs kind_is.Star c m h k l = ((h, k, (l, tt)), counted_text a b fs star c (ap (λ d. d ∷ []) (sym m)))
atom_leaves a b fs kind_is.Plus c m h k l = ((h, k, (l, tt)), counted_text a b fs plus c (ap (λ d. d ∷ []) (sym m)))
atom_leaves a b fs kind_is.Question c m h k l =
    ((h, k, (l, tt)), counted_text a b fs question c (ap (λ d. d ∷ []) (sym m)))
atom_leaves a b fs kind_is.Brace c m h k l = (
  (h, k, l, tt),
  ap (λ d. frames_text fs ++ (pattern_text b ++ (atom_text a ++ d ∷ []))) (sym m)
      ∙ (inner_two (frames_text fs) (pattern_text b) (atom_text a) c ∙ ap (λ t. t ++ c ∷ []) (sym (with_atom a b fs))),
)
atom_leaves a b fs s c m h k l = settled_leaves (settled (atom a) b) fs s c m (settled_fits (atom a) b fs h l) k

lazy_text : (count : Count) → quant_text (times count true) ≡ quant_text (times count false) ++ 63 ∷ []
lazy_text count = refl

pub repeated_leaves : (a : Atom) (count : Count) (b : Pattern) (fs : List Frame) (s : CharKind) (c : ℕ) → KindMeans s c
    → Fits b → FitFrames fs → FitsAtom a → FitsCount count
    → Leaves (outside_step (repeated a count) b fs s c)
    ((frames_text fs ++ pattern_text (settled (repeated a count) b)) ++ c ∷ [])
repeated_leaves a count b fs kind_is.Question c m h k l n = (
  (fits-pushed b a (times count true) h l n, k, tt),
  ap (λ t. frames_text fs ++ t) (pushed-text b a (times count true))
      ∙ (ap (λ d. frames_text fs ++ (pattern_text b ++ (atom_text a ++ (count_text count ++ d ∷ [])))) (sym m)
      ∙ (inner_three (frames_text fs) (pattern_text b) (atom_text a) (count_text count) c
      ∙ ap (λ t. t ++ c ∷ []) (sym (with_count a count b fs)))),
)
repeated_leaves a count b fs s c m h k l n =
    settled_leaves (settled (repeated a count) b) fs s c m (settled_fits (repeated a count) b fs h (l, n)) k

pub opened_leaves : (b : Pattern) (fs : List Frame) (s : CharKind) (c : ℕ) → KindMeans s c → Fits b → FitFrames fs
    → b ≡ end → IsPlain fs
    → Leaves (outside_step opened b fs s c) ((frames_text fs ++ pattern_text b) ++ c ∷ [])
opened_leaves b fs kind_is.Question c m h k e p = (
  (k, p),
  ap (λ d. frames_text fs ++ d ∷ []) (sym m)
      ∙ ap (λ t. t ++ c ∷ []) (sym (append-nil (frames_text fs)) ∙ ap (λ q. frames_text fs ++ pattern_text q) (sym e)),
)
opened_leaves b fs s c m h k e p = settled_leaves b fs s c m h k

pub marked_leaves : (test : Bool) (fs : List Frame) (c : ℕ) → (test ≡ true → c ≡ 58) → FitFrames fs → IsPlain fs
    → Leaves (marked_step test fs) ((frames_text fs ++ 63 ∷ []) ++ c ∷ [])
marked_leaves false fs c m k p = tt
marked_leaves true [] c m k p = absurd p
marked_leaves true ((b, true) ∷ fs) c m k p = cc
marked_leaves true ((b, false) ∷ fs) c m k p = (
  (tt, k, tt),
  append-nil (frames_text fs ++ (pattern_text b ++ codes "(?:"))
      ∙ (ap (λ d. frames_text fs ++ (pattern_text b ++ 40 ∷ 63 ∷ d ∷ [])) (sym (m refl)) ∙ simp append_assoc),
)

pub escape_leaves : (b : Pattern) (fs : List Frame) (s : EscapeKind) (c : ℕ) → EscapeMeans s c → Fits b → FitFrames fs
    → Leaves (escape_step b fs s c) ((frames_text fs ++ (pattern_text b ++ 92 ∷ [])) ++ c ∷ [])
escape_leaves b fs escape_is.Itself c m h k = ((h, k, m), with_atom (alone (escape c)) b fs ∙ simp append_assoc)
escape_leaves b fs escape_is.Set c m h k = ((h, k, m), with_atom (alone (set c)) b fs ∙ simp append_assoc)
escape_leaves b fs escape_is.Other c m h k = tt

some_digit : (ds : List ℕ) (c : ℕ) → ds ++ c ∷ [] ≢ []
some_digit [] c e = cc
some_digit (d ∷ ds) c e = cc

more_numeral : (ds : List ℕ) (c : ℕ) → IsNumeral ds → IsTrue (is_digit c) → IsNumeral (ds ++ c ∷ [])
more_numeral ds c h m = (some_digit ds c, digits_push ds c h.1 m)

one_numeral : (c : ℕ) → IsTrue (is_digit c) → IsNumeral (c ∷ [])
one_numeral c m = ((λ e. cc), (m, tt))

pub count_leaves : (k : Counting) (a : Atom) (b : Pattern) (fs : List Frame) (s : CountKind) (c : ℕ) → CountMeans s c
    → Fits b → FitFrames fs → FitsAtom a → FitsCounting k
    → Leaves (count_step k a b fs s c) ((frames_text fs ++ (pattern_text b ++ (atom_text a ++ counting_text k)))
    ++ c ∷ [])
count_leaves count_opened a b fs count_is.Digit c m h f l n = ((h, f, l, one_numeral c m), simp append_assoc)
count_leaves (count_least ds) a b fs count_is.Digit c m h f l n = ((h, f, l, more_numeral ds c n m), simp append_assoc)
count_leaves (count_least ds) a b fs count_is.Comma c m h f l n = (
  (h, f, l, n),
  ap (λ d. frames_text fs ++ (pattern_text b ++ (atom_text a ++ 123 ∷ (ds ++ d ∷ [])))) (sym m)
      ∙ simp append_assoc,
)
count_leaves (count_least ds) a b fs count_is.Close c m h f l n = (
  (h, f, (l, n)),
  with_count a (exactly ds) b fs
      ∙ (ap (λ d. frames_text fs ++ (pattern_text b ++ (atom_text a ++ 123 ∷ (ds ++ d ∷ [])))) (sym m)
      ∙ simp append_assoc),
)
count_leaves (count_comma ds) a b fs count_is.Digit c m h f l n = ((h, f, l, (n, one_numeral c m)), simp append_assoc)
count_leaves (count_comma ds) a b fs count_is.Close c m h f l n = (
  (h, f, (l, n)),
  with_count a (at_least ds) b fs
      ∙ (ap (λ d. frames_text fs ++ (pattern_text b ++ (atom_text a ++ 123 ∷ (ds ++ 44 ∷ d ∷ [])))) (sym m)
      ∙ simp append_assoc),
)
count_leaves (count_most ds es) a b fs count_is.Digit c m h f l n =
    ((h, f, l, (n.0, more_numeral es c n.1 m)), simp append_assoc)
count_leaves (count_most ds es) a b fs count_is.Close c m h f l n = (
  (h, f, (l, n)),
  with_count a (between ds es) b fs
      ∙ (ap (λ d. frames_text fs ++ (pattern_text b ++ (atom_text a ++ 123 ∷ (ds ++ 44 ∷ (es ++ d ∷ []))))) (sym m)
      ∙ simp append_assoc),
)
count_leaves count_opened a b fs _ c m h f l n = tt
count_leaves (count_least ds) a b fs count_is.Other c m h f l n = tt
count_leaves (count_comma ds) a b fs _ c m h f l n = tt
count_leaves (count_most ds es) a b fs _ c m h f l n = tt
