use Rattle.helix_keywords.specs.declared.keyword.Keyword.TheVariants as keyword
use Rattle.helix_operands.proofs.Given.{by_keyword, of_keyword}
use Rattle.helix_operands.proofs.test.read_test.Goals as goal

pub returns-in-EqualTo : goal.returns-in-EqualTo
returns-in-EqualTo c =
    of_keyword c.args.kind c.args.operand.now _ _ keyword.EqualTo
    c.in-EqualTo.is c.value_test.ensures

pub returns-in-InSet : goal.returns-in-InSet
returns-in-InSet c = of_keyword c.args.kind c.args.operand.now _ _ keyword.InSet c.in-InSet.is c.set_test.ensures

pub returns-in-IsNull : goal.returns-in-IsNull
returns-in-IsNull c = by_keyword c.args.kind c.args.operand.now _ _ keyword.IsNull c.in-IsNull.is c.null_test.ensures

pub returns-in-MatchingRegex : goal.returns-in-MatchingRegex
returns-in-MatchingRegex c =
    of_keyword c.args.kind c.args.operand.now _ _ keyword.MatchingRegex
    c.in-MatchingRegex.is c.matching_test.ensures

pub returns-in-ContainingRegex : goal.returns-in-ContainingRegex
returns-in-ContainingRegex c =
    of_keyword c.args.kind c.args.operand.now _ _ keyword.ContainingRegex
    c.in-ContainingRegex.is c.containing_test.ensures

pub returns-in-OfLength : goal.returns-in-OfLength
returns-in-OfLength c =
    by_keyword c.args.kind c.args.operand.now _ _ keyword.OfLength
    c.in-OfLength.is c.of_length_test.ensures

pub returns-in-LongerThan : goal.returns-in-LongerThan
returns-in-LongerThan c =
    by_keyword c.args.kind c.args.operand.now _ _ keyword.LongerThan
    c.in-LongerThan.is c.longer_test.ensures

pub returns-in-ShorterThan : goal.returns-in-ShorterThan
returns-in-ShorterThan c =
    by_keyword c.args.kind c.args.operand.now _ _ keyword.ShorterThan
    c.in-ShorterThan.is c.shorter_test.ensures

pub returns-in-GreaterThan : goal.returns-in-GreaterThan
returns-in-GreaterThan c =
    of_keyword c.args.kind c.args.operand.now _ _ keyword.GreaterThan
    c.in-GreaterThan.is c.value_test-in-GreaterThan.ensures

pub returns-in-GreaterThanOrEqualTo : goal.returns-in-GreaterThanOrEqualTo
returns-in-GreaterThanOrEqualTo c =
    of_keyword c.args.kind c.args.operand.now _ _ keyword.GreaterThanOrEqualTo
    c.in-GreaterThanOrEqualTo.is c.value_test-in-GreaterThanOrEqualTo.ensures

pub returns-in-LessThan : goal.returns-in-LessThan
returns-in-LessThan c =
    of_keyword c.args.kind c.args.operand.now _ _ keyword.LessThan
    c.in-LessThan.is c.value_test-in-LessThan.ensures

pub returns-in-LessThanOrEqualTo : goal.returns-in-LessThanOrEqualTo
returns-in-LessThanOrEqualTo c =
    of_keyword c.args.kind c.args.operand.now _ _ keyword.LessThanOrEqualTo
    c.in-LessThanOrEqualTo.is c.value_test-in-LessThanOrEqualTo.ensures

pub returns-in-After : goal.returns-in-After
returns-in-After c =
    of_keyword c.args.kind c.args.operand.now _ _ keyword.After
    c.in-After.is c.value_test-in-After.ensures

pub returns-in-AfterOrAt : goal.returns-in-AfterOrAt
returns-in-AfterOrAt c =
    of_keyword c.args.kind c.args.operand.now _ _ keyword.AfterOrAt
    c.in-AfterOrAt.is c.value_test-in-AfterOrAt.ensures

pub returns-in-Before : goal.returns-in-Before
returns-in-Before c =
    of_keyword c.args.kind c.args.operand.now _ _ keyword.Before
    c.in-Before.is c.value_test-in-Before.ensures

pub returns-in-BeforeOrAt : goal.returns-in-BeforeOrAt
returns-in-BeforeOrAt c =
    of_keyword c.args.kind c.args.operand.now _ _ keyword.BeforeOrAt
    c.in-BeforeOrAt.is c.value_test-in-BeforeOrAt.ensures

pub returns-in-GranularTo : goal.returns-in-GranularTo
returns-in-GranularTo c =
    by_keyword c.args.kind c.args.operand.now _ _ keyword.GranularTo
    c.in-GranularTo.is c.grid_test.ensures
