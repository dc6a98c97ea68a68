use Rattle.std.proofs.Common.{◌+◌, ap, ◌∷◌, ◌++◌, [], ◌∙◌, length, arith, subst}
use Rattle.helix_json.specs.declared.need.TokenKind.TheVariants as kind
use Rattle.helix_json.specs.Inner.Progress.{Allows}
use Rattle.helix_json.specs.Inner.Lexeme.{ReadsLetters}
use Rattle.helix_json.proofs.HoldingWords.{word_fails, word_breaks, word_holds}
use Rattle.helix_json.proofs.Finishing.{holds_same}
use Rattle.helix_json.proofs.scan.take_word.Goals as goal

pub returns-then-not-branch : goal.returns-then-not-branch
returns-then-not-branch c = word_fails c.args.codes.now c.args.at _ _ c.args.progress.now.nest c.requires.within
    c.requires.holds c.args.word c.allow.new.self c.requires.class_is
    (subst (λ b. Allows c.args.progress.now.nest c.allow.new.self kind.Scalar b) c.if-not-branch.true
    c.in_ok-allow.ensures)

pub returns-then-count-letters : goal.returns-then-count-letters
returns-then-count-letters c = word_breaks c.args.codes.now c.args.at _ _ c.args.progress.now.nest c.requires.within
    c.requires.holds c.args.word c.allow.new.self c.requires.class_is
    (subst (λ b. Allows c.args.progress.now.nest c.allow.new.self kind.Scalar b) c.if-not-branch.false
    c.in_ok-allow.ensures)
    c.read_letters-count.result
    (subst (λ l. ReadsLetters c.args.codes.now (c.args.at + 1) l c.read_letters-count.result)
    c.letters_of-letters.ensures c.read_letters-count.ensures)
    (omega (arith, ap length c.letters_of-letters.ensures))

pub returns : goal.returns
returns c = (
  omega arith,
  holds_same c.args.codes.now (c.args.at + 1 + c.read_letters-count.result) _ _ _ _ _ _
      (c.in_ok-push.ensures.tokens ∙ ap (λ t. c.args.progress.now.tokens.items ++ t ∷ []) c.token_of_word.ensures)
      c.in_ok-push.ensures.offsets c.in_ok-push.ensures.nest
      (word_holds c.args.codes.now c.args.at _ _ c.args.progress.now.nest c.requires.within c.requires.holds c.args.word
      c.allow.new.self c.requires.class_is
      (subst (λ b. Allows c.args.progress.now.nest c.allow.new.self kind.Scalar b) c.if-not-branch.false
      c.in_ok-allow.ensures)
      c.read_letters-count.result
      (subst (λ l. ReadsLetters c.args.codes.now (c.args.at + 1) l c.read_letters-count.result)
      c.letters_of-letters.ensures c.read_letters-count.ensures)
      (omega (arith, ap length c.letters_of-letters.ensures))),
)
