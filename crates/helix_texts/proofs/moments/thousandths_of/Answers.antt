use Rattle.std.proofs.Common.{sym, ◌∙◌}
use Rattle.helix_texts.proofs.ReadTimes.{not_empty, some_length, no_point_there, no_digits, counts_end, thousandths_small}
use Rattle.helix_texts.proofs.moments.thousandths_of.Goals as goal

pub returns-in_default-clause-none : goal.returns-in_default-clause-none
returns-in_default-clause-none c = λ fraction zulu.
    no_point_there c.args.codes.now c.without_zulu-prefix.result.now fraction zulu c.without_zulu-prefix.ensures
    (not_empty c.without_zulu-prefix.result.now (sym c.is_empty.ensures ∙ c.if-is_empty.false))
    c.in_default.ensures.none

pub returns-in-Some-number_of-clause-some : goal.returns-in-Some-number_of-clause-some
returns-in-Some-number_of-clause-some c =
    counts_end c.args.codes.now c.without_zulu-prefix.result.now c.in-Some.digits.now c.in-Some-number_of.number
    c.power_of_ten.result c.without_zulu-prefix.ensures c.in-Some.ensures.some
    (some_length c.in-Some.digits.now (sym c.is_empty-2.ensures ∙ c.if-is_empty-2.false)) c.if-digits-gt3.false
    c.in-Some-number_of.ensures.some c.in-Some-number_of.ensures.small c.power_of_ten.ensures.value

pub returns-in-Some-number_of-clause-short : goal.returns-in-Some-number_of-clause-short
returns-in-Some-number_of-clause-short c =
    thousandths_small c.in-Some-number_of.number _ c.power_of_ten.result c.in-Some-number_of.ensures.small
    c.if-digits-gt3.false c.power_of_ten.ensures.value

pub returns-in-None-clause-none : goal.returns-in-None-clause-none
returns-in-None-clause-none c = λ fraction zulu.
    no_digits c.args.codes.now c.without_zulu-prefix.result.now c.in-Some.digits.now fraction zulu
    c.without_zulu-prefix.ensures c.in-Some.ensures.some c.in-None.ensures.none
