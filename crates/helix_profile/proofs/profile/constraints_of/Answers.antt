use Rattle.std.proofs.Common.{◌-◌, ◌∷◌, [], ◌++◌, length, get_or, take, refl, ◌∙◌, ap, arith}
use Rattle.std.proofs.lemmas.Option.{slice_get_read}
use Rattle.helix_profile.specs.Change.{numbered}
use Rattle.helix_profile.proofs.Keeping.{numbered_more}
use Rattle.helix_profile.proofs.profile.constraints_of.Goals as goal

pub loop-number-preserved : goal.loop-number-preserved
loop-number-preserved c =
    let range = c.requires c.loop-number.number-index 0 c.loop-number-test.true in
    let found = slice_get_read c.args.constraints.now (length c.args.constraints.now)
    (get_or c.args.numbers.now c.loop-number.number-index 0 - 1) c.index-constraints-number.result refl (omega (
      arith,
      range.0,
      range.1,
    ))
    c.index-constraints-number.is in
    c.in_ok-push.ensures.ok
    ∙ (ap (λ l. l ++ c.in_ok-copy.field-0 ∷ []) c.loop-number.invariant
    ∙ (ap (λ x. numbered c.args.constraints.now (take c.loop-number.number-index c.args.numbers.now) ++ x ∷ [])
    c.in_ok-copy.ensures
    ∙ numbered_more c.args.constraints.now c.args.numbers.now c.loop-number.number-index
    (get_or c.args.numbers.now c.loop-number.number-index 0) c.index-constraints-number.result c.loop-number-test.true
    refl found))
