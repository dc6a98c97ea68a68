-- What the kind of a character tells.
use Rattle.std.proofs.Common.{◌≡◌, ℕ, IsTrue, ◌==◌}
use Rattle.std.proofs.lemmas.Bool.{eqb-true, cond_both}
use Rattle.helix_regex.specs.declared.char_kind.CharKind.{CharKind}
use Rattle.helix_regex.specs.declared.char_kind.CharKind.TheVariants as kind_is
use Rattle.helix_regex.specs.declared.char_kind.EscapeKind.{EscapeKind}
use Rattle.helix_regex.specs.declared.char_kind.EscapeKind.TheVariants as escape_is
use Rattle.helix_regex.specs.declared.char_kind.CountKind.{CountKind}
use Rattle.helix_regex.specs.declared.char_kind.CountKind.TheVariants as count_is
use Rattle.helix_regex.specs.declared.char_kind.ClassKind.{ClassKind}
use Rattle.helix_regex.specs.declared.char_kind.ClassKind.TheVariants as class_is
use Rattle.helix_base.specs.Digits.{is_digit}
use Rattle.helix_regex.specs.Characters.{is_literal, is_punct, is_set_letter, is_class_char}
use Rattle.helix_regex.specs.Inner.Scan.{char_kind, escape_kind, count_kind, class_kind}

abbrev pub KindMeans : CharKind → ℕ → Type 0
KindMeans kind_is.Literal c = IsTrue (is_literal c)
KindMeans kind_is.Dot c = c ≡ 46
KindMeans kind_is.Backslash c = c ≡ 92
KindMeans kind_is.Caret c = c ≡ 94
KindMeans kind_is.Dollar c = c ≡ 36
KindMeans kind_is.Bar c = c ≡ 124
KindMeans kind_is.Open c = c ≡ 40
KindMeans kind_is.Close c = c ≡ 41
KindMeans kind_is.Bracket c = c ≡ 91
KindMeans kind_is.Star c = c ≡ 42
KindMeans kind_is.Plus c = c ≡ 43
KindMeans kind_is.Question c = c ≡ 63
KindMeans kind_is.Brace c = c ≡ 123
KindMeans kind_is.Other c = Unit {0}

pub kind_means : (c : ℕ) → KindMeans (char_kind c) c
kind_means c =
    cond_both (is_literal c) _ _ (λ s. KindMeans s c) (λ e. e) (λ _.
    cond_both (c == 92) _ _ (λ s. KindMeans s c) (λ e. eqb-true c 92 e) (λ _.
    cond_both (c == 94) _ _ (λ s. KindMeans s c) (λ e. eqb-true c 94 e) (λ _.
    cond_both (c == 36) _ _ (λ s. KindMeans s c) (λ e. eqb-true c 36 e) (λ _.
    cond_both (c == 46) _ _ (λ s. KindMeans s c) (λ e. eqb-true c 46 e) (λ _.
    cond_both (c == 124) _ _ (λ s. KindMeans s c) (λ e. eqb-true c 124 e) (λ _.
    cond_both (c == 63) _ _ (λ s. KindMeans s c) (λ e. eqb-true c 63 e) (λ _.
    cond_both (c == 42) _ _ (λ s. KindMeans s c) (λ e. eqb-true c 42 e) (λ _.
    cond_both (c == 43) _ _ (λ s. KindMeans s c) (λ e. eqb-true c 43 e) (λ _.
    cond_both (c == 40) _ _ (λ s. KindMeans s c) (λ e. eqb-true c 40 e) (λ _.
    cond_both (c == 41) _ _ (λ s. KindMeans s c) (λ e. eqb-true c 41 e) (λ _.
    cond_both (c == 91) _ _ (λ s. KindMeans s c) (λ e. eqb-true c 91 e) (λ _.
    cond_both (c == 123) _ _ (λ s. KindMeans s c) (λ e. eqb-true c 123 e) (λ _. tt)))))))))))))

abbrev pub EscapeMeans : EscapeKind → ℕ → Type 0
EscapeMeans escape_is.Itself c = IsTrue (is_punct c)
EscapeMeans escape_is.Set c = IsTrue (is_set_letter c)
EscapeMeans escape_is.Other c = Unit {0}

pub escape_means : (c : ℕ) → EscapeMeans (escape_kind c) c
escape_means c = cond_both (is_punct c) _ _ (λ s. EscapeMeans s c) (λ e. e)
    (λ _. cond_both (is_set_letter c) _ _ (λ s. EscapeMeans s c) (λ e. e) (λ _. tt))

abbrev pub CountMeans : CountKind → ℕ → Type 0
CountMeans count_is.Digit c = IsTrue (is_digit c)
CountMeans count_is.Comma c = c ≡ 44
CountMeans count_is.Close c = c ≡ 125
CountMeans count_is.Other c = Unit {0}

pub count_means : (c : ℕ) → CountMeans (count_kind c) c
count_means c = cond_both (is_digit c) _ _ (λ s. CountMeans s c) (λ e. e) (λ _.
    cond_both (c == 44) _ _ (λ s. CountMeans s c) (λ e. eqb-true c 44 e) (λ _.
    cond_both (c == 125) _ _ (λ s. CountMeans s c) (λ e. eqb-true c 125 e) (λ _. tt)))

abbrev pub ClassMeans : ClassKind → ℕ → Type 0
ClassMeans class_is.Plain c = IsTrue (is_class_char c)
ClassMeans class_is.Backslash c = c ≡ 92
ClassMeans class_is.Dash c = c ≡ 45
ClassMeans class_is.Close c = c ≡ 93
ClassMeans class_is.Other c = Unit {0}

pub class_means : (c : ℕ) → ClassMeans (class_kind c) c
class_means c = cond_both (is_class_char c) _ _ (λ s. ClassMeans s c) (λ e. e) (λ _.
    cond_both (c == 92) _ _ (λ s. ClassMeans s c) (λ e. eqb-true c 92 e) (λ _.
    cond_both (c == 45) _ _ (λ s. ClassMeans s c) (λ e. eqb-true c 45 e) (λ _.
    cond_both (c == 93) _ _ (λ s. ClassMeans s c) (λ e. eqb-true c 93 e) (λ _. tt))))
