use Rattle.std.proofs.Common.{◌≡◌, length, arith, subst, ◌∙◌}
use Rattle.helix_json.specs.Broken.{IsJsonText}
use Rattle.helix_base.specs.Syntax.{IsSyntaxErrorAt}
use Rattle.helix_base.specs.Inner.ScalarLaws.{scalar_at}
use Rattle.helix_json.proofs.StringSafe.{give_scalar}
use Rattle.helix_json.proofs.Lexemes.{string_closes, string_refuses, string_stops, string_went, string_gave}
use Rattle.helix_json.proofs.lexeme.read_string.Goals as goal
use Rattle.helix_json.proofs.lexeme.read_string.Goals.{in-Go, in-Give+in_ok-push-in-Give}

pub returns-in-Refuse : goal.returns-in-Refuse
returns-in-Refuse c ds r has = string_refuses c.args.codes.now c.loop-i.i ds r c.loop-i.text c.loop-i.state
    (c.loop-i.invariant.1 ds r has) (omega arith) c.in-Refuse.ensures

pub push-requires : goal.push-requires
push-requires c = give_scalar c.loop-i.state _ c.in-Give.code c.loop-i.invariant.0
    (scalar_at c.args.codes.now c.loop-i.i c.requires.scalars (omega arith)) c.in-Give.ensures

pub returns-in-Close : goal.returns-in-Close
returns-in-Close c = (
  omega arith,
  omega arith,
  λ ds r q has go. string_closes c.args.codes.now c.loop-i.i ds r c.loop-i.text c.loop-i.state
      (c.loop-i.invariant.1 ds r has) (omega arith) q c.in-Close.ensures go,
)

pub loop-i-preserved : goal.loop-i-preserved
loop-i-preserved c = elim c.match-string_move.branch [
  | in-Go w ↦ string_went c.args.codes.now c.args.from c.loop-i.i c.loop-i.text c.loop-i.state c.requires.scalars
      (omega arith) c.loop-i.invariant
      c.match-string_move.text c.match-string_move.state w.in-Go.next w.in-Go.ensures w.text-is w.state-is
  | in-Give+in_ok-push-in-Give w ↦ string_gave c.args.codes.now c.args.from c.loop-i.i c.loop-i.text c.loop-i.state
      c.requires.scalars (omega arith) c.loop-i.invariant
      c.match-string_move.text c.match-string_move.state w.in-Give.code w.in-Give.ensures (w.text-is
      ∙ w.in_ok-push-in-Give.ensures.ok) w.state-is
]

pub returns : goal.returns
returns c ds r has = let end : c.loop-i.i ≡ length c.args.codes.now = omega arith in
    subst (IsSyntaxErrorAt IsJsonText c.args.codes.now) end
    (string_stops c.args.codes.now c.loop-i.i ds r c.loop-i.text c.loop-i.state (c.loop-i.invariant.1 ds r has) end)
