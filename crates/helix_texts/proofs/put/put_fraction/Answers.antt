use Rattle.std.proofs.Common.{◌≡◌, [], sym, ap, ◌∙◌, append-nil}
use Rattle.helix_json.specs.Numbers.{fraction_text}
use Rattle.helix_texts.specs.Texts.{last_digits, without_zeros}
use Rattle.helix_texts.proofs.EndZeros.{all_left_out}
use Rattle.helix_texts.proofs.put.put_fraction.Goals as goal

pub returns-then-fraction-eq0-clause-text : goal.returns-then-fraction-eq0-clause-text
returns-then-fraction-eq0-clause-text c =
    let none : fraction_text (without_zeros (last_digits 15 c.args.fraction)) ≡ [] =
    ap (λ n. fraction_text (without_zeros (last_digits 15 n))) c.if-fraction-eq0.true
    ∙ ap fraction_text (all_left_out 15) in
    rw none (sym (append-nil _))
