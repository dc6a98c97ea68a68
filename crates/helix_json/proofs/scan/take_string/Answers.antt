use Rattle.std.proofs.Common.{◌+◌, arith, subst}
use Rattle.helix_json.specs.declared.need.TokenKind.TheVariants as kind
use Rattle.helix_json.specs.declared.lexeme.StringRead.TheVariants as read
use Rattle.helix_json.specs.Inner.Progress.{Allows}
use Rattle.helix_json.specs.Inner.Lexeme.{ReadsString}
use Rattle.helix_json.proofs.Holding.{string_fails, string_stops, string_holds}
use Rattle.helix_json.proofs.Finishing.{holds_same}
use Rattle.helix_json.proofs.scan.take_string.Goals as goal

pub returns-then-not-branch : goal.returns-then-not-branch
returns-then-not-branch c = string_fails c.args.codes.now c.args.at _ _ c.args.progress.now.nest c.requires.within
    c.requires.holds c.allow.new.self c.requires.class_is
    (subst (λ b. Allows c.args.progress.now.nest c.allow.new.self kind.Str b) c.if-not-branch.true
    c.in_ok-allow.ensures)

pub returns-in-Stops : goal.returns-in-Stops
returns-in-Stops c = string_stops c.args.codes.now c.args.at _ _ c.args.progress.now.nest c.requires.within
    c.requires.holds c.allow.new.self c.requires.class_is
    (subst (λ b. Allows c.args.progress.now.nest c.allow.new.self kind.Str b) c.if-not-branch.false
    c.in_ok-allow.ensures)
    c.in-Stops.count (subst (λ o. ReadsString c.args.codes.now (c.args.at + 1) o) c.in-Stops.is c.in_ok-count.ensures)

pub returns-in_ok-push-in-Closes : goal.returns-in_ok-push-in-Closes
returns-in_ok-push-in-Closes c =
    let reads : ReadsString c.args.codes.now (c.args.at + 1) (read.Closes c.in-Closes.text c.in-Closes.end)
    = subst (λ o. ReadsString c.args.codes.now (c.args.at + 1) o) c.in-Closes.is c.in_ok-count.ensures in (
      omega (arith, reads.0),
      holds_same c.args.codes.now c.in-Closes.end _ _ _ _ _ _ c.in_ok-push-in-Closes.ensures.tokens
          c.in_ok-push-in-Closes.ensures.offsets c.in_ok-push-in-Closes.ensures.nest
          (string_holds c.args.codes.now c.args.at _ _ c.args.progress.now.nest c.requires.within c.requires.holds
          c.allow.new.self c.requires.class_is
          (subst (λ b. Allows c.args.progress.now.nest c.allow.new.self kind.Str b) c.if-not-branch.false
          c.in_ok-allow.ensures)
          c.in-Closes.text c.in-Closes.end reads),
    )
