use Rattle.std.proofs.Common.{◌≡◌, length, arith, sym, ◌∙◌, ap}
use Rattle.helix_json.specs.Inner.NumberSteps.{number_step}
use Rattle.helix_json.proofs.Lexemes.{number_on, number_end}
use Rattle.helix_json.proofs.lexeme.read_number.Goals as goal

pub loop-i-preserved : goal.loop-i-preserved
loop-i-preserved c at ds r low has = number_on c.args.codes.now c.loop-i.i at ds r c.loop-i.state c.in-Some.next
    (omega arith) (omega arith)
    (sym (ap (number_step c.loop-i.state) c.kind_of_code.ensures)
    ∙ sym c.in-Some.ensures) (c.loop-i.invariant at ds r low has)

pub returns : goal.returns
returns c = let end : c.loop-i.i ≡ length c.args.codes.now = omega arith in
    number_end c.args.codes.now c.args.from c.loop-i.i c.args.first c.loop-i.state end (omega arith) c.loop-i.invariant
