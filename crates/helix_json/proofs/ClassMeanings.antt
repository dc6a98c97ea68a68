-- What a class says of a character.
use Rattle.std.proofs.Common.{◌≡◌, ℕ, IsTrue, ◌==◌}
use Rattle.std.proofs.lemmas.Bool.{eqb-true}
use Rattle.helix_json.specs.declared.class.Word.TheVariants as word
use Rattle.helix_json.specs.declared.class.Class.{Class}
use Rattle.helix_json.specs.declared.class.Class.TheVariants as class_is
use Rattle.helix_json.specs.Text.{is_blank}
use Rattle.helix_json.specs.Inner.Lexer.{class}
use Rattle.helix_json.proofs.LexingNumbers.{mark_code}
use Rattle.helix_json.proofs.Choices.{choose}

-- what a class says of a character
abbrev pub ClassMeans : Class → ℕ → Type 0
ClassMeans class_is.Blank c = IsTrue (is_blank c)
ClassMeans (class_is.Mark m) c = c ≡ mark_code m
ClassMeans class_is.Quote c = c ≡ 34
ClassMeans (class_is.Word word.Null) c = c ≡ 110
ClassMeans (class_is.Word word.True) c = c ≡ 116
ClassMeans (class_is.Word word.False) c = c ≡ 102
ClassMeans class_is.Other c = Unit {0}

pub class_means : (c : ℕ) → ClassMeans (class c) c
class_means c =
    choose (λ k. ClassMeans k c) (is_blank c) _ _ (λ e. e) (λ _.
    choose (λ k. ClassMeans k c) (c == 91) _ _ (λ e. eqb-true c 91 e) (λ _.
    choose (λ k. ClassMeans k c) (c == 93) _ _ (λ e. eqb-true c 93 e) (λ _.
    choose (λ k. ClassMeans k c) (c == 123) _ _ (λ e. eqb-true c 123 e) (λ _.
    choose (λ k. ClassMeans k c) (c == 125) _ _ (λ e. eqb-true c 125 e) (λ _.
    choose (λ k. ClassMeans k c) (c == 44) _ _ (λ e. eqb-true c 44 e) (λ _.
    choose (λ k. ClassMeans k c) (c == 58) _ _ (λ e. eqb-true c 58 e) (λ _.
    choose (λ k. ClassMeans k c) (c == 34) _ _ (λ e. eqb-true c 34 e) (λ _.
    choose (λ k. ClassMeans k c) (c == 110) _ _ (λ e. eqb-true c 110 e) (λ _.
    choose (λ k. ClassMeans k c) (c == 116) _ _ (λ e. eqb-true c 116 e) (λ _.
    choose (λ k. ClassMeans k c) (c == 102) _ _ (λ e. eqb-true c 102 e) (λ _. tt)))))))))))
