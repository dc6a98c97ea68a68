use Rattle.std.proofs.Common.{◌↔◌, IfOk, IsTrue, subst, sym}
use Rattle.helix_keywords.specs.declared.keyword.Keyword.{Keyword}
use Rattle.helix_operands.specs.Rules.{HasNoPattern}
use Rattle.helix_operands.proofs.faulty.has_no_pattern.Goals as goal

pub returns-in-MatchingRegex : goal.returns-in-MatchingRegex
returns-in-MatchingRegex c =
    let P : Keyword → Type 0 = λ keyword. IfOk c.is_no_pattern.result
    (λ answer. IsTrue answer ↔ HasNoPattern keyword c.args.operand.now) in
    subst P (sym c.in-MatchingRegex.is) c.is_no_pattern.ensures

pub returns-in-ContainingRegex : goal.returns-in-ContainingRegex
returns-in-ContainingRegex c =
    let P : Keyword → Type 0 = λ keyword. IfOk c.is_no_pattern-in-ContainingRegex.result
    (λ answer. IsTrue answer ↔ HasNoPattern keyword c.args.operand.now) in
    subst P (sym c.in-ContainingRegex.is) c.is_no_pattern-in-ContainingRegex.ensures
