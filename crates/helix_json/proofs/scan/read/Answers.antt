use Rattle.std.proofs.Common.{◌+◌, true, false, ap, sym, ◌∷◌, ◌++◌, [], ◌∙◌, arith, subst}
use Rattle.helix_json.specs.Inner.Progress.{Allows}
use Rattle.helix_json.proofs.Holding.{holds_blank, mark_holds, mark_fails}
use Rattle.helix_json.proofs.Finishing.{holds_same}
use Rattle.helix_json.proofs.scan.read.Goals as goal

pub returns-in-Blank : goal.returns-in-Blank
returns-in-Blank c = (
  omega arith,
  holds_blank c.args.codes.now c.args.at _ _ c.args.progress.now.nest c.requires.within c.requires.holds
      (sym c.in-Blank.ensures),
)

pub returns-then-not-branch : goal.returns-then-not-branch
returns-then-not-branch c = mark_fails c.args.codes.now c.args.at _ _ c.args.progress.now.nest c.requires.within
    c.requires.holds c.in-Mark.mark c.allow.new.self (sym c.in-Mark.ensures)
    (subst (λ k. Allows c.args.progress.now.nest c.allow.new.self k false) c.kind_of_mark.ensures
    (subst (λ b. Allows c.args.progress.now.nest c.allow.new.self c.kind_of_mark.result b) c.if-not-branch.true
    c.in_ok-allow-in-Mark.ensures))

pub returns-in_ok-push-in-Mark : goal.returns-in_ok-push-in-Mark
returns-in_ok-push-in-Mark c = (
  omega arith,
  holds_same c.args.codes.now (c.args.at + 1) _ _ _ _ _ _
      (c.in_ok-push-in-Mark.ensures.tokens ∙ ap (λ t. c.args.progress.now.tokens.items ++ t ∷ [])
      c.token_of_mark.ensures) c.in_ok-push-in-Mark.ensures.offsets c.in_ok-push-in-Mark.ensures.nest
      (mark_holds c.args.codes.now c.args.at _ _ c.args.progress.now.nest c.requires.within c.requires.holds
      c.in-Mark.mark c.allow.new.self (sym c.in-Mark.ensures)
      (subst (λ k. Allows c.args.progress.now.nest c.allow.new.self k true) c.kind_of_mark.ensures
      (subst (λ b. Allows c.args.progress.now.nest c.allow.new.self c.kind_of_mark.result b) c.if-not-branch.false
      c.in_ok-allow-in-Mark.ensures))),
)
