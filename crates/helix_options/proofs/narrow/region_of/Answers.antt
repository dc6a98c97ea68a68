use Rattle.std.proofs.Common.{subst, sym, []}
use Rattle.helix_options.proofs.Opened.{opened_of}
use Rattle.helix_options.proofs.Narrowed.{next_for, next_of}
use Rattle.helix_options.specs.Inner.Narrowing.{IsRegionOf}
use Rattle.helix_options.proofs.narrow.region_of.Goals as goal

pub loop-literal-init : goal.loop-literal-init
loop-literal-init c = subst (λ region. IsRegionOf c.args.profile.now c.args.fields.now [] region)
    (sym c.in_ok-region.ensures)
    (opened_of c.args.profile.now c.args.fields.now c.requires.ascending c.requires.in_range)

pub narrow-requires : goal.narrow-requires
narrow-requires c = next_for c.args.profile.now c.args.fields.now c.constraints-valid.ensures.valid.no_cycle
    c.args.path.now c.requires.literals c.loop-literal.literal-index c.literal-item.result c.loop-literal-test.true
    c.literal-item.is c.loop-literal.region c.loop-literal.invariant

pub loop-literal-preserved : goal.loop-literal-preserved
loop-literal-preserved c = next_of c.args.profile.now c.args.fields.now c.constraints-valid.ensures.valid.no_cycle
    c.args.path.now c.requires.literals c.loop-literal.literal-index c.literal-item.result c.loop-literal-test.true
    c.literal-item.is c.loop-literal.region c.loop-literal.invariant c.narrow.new.region c.in_ok-narrow.ensures
