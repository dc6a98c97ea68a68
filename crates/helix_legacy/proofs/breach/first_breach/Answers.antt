use Rattle.std.proofs.Common.{◌∙◌, None, refl, sym}
use Rattle.helix_legacy.proofs.Breaches.{beside, older_rules}
use Rattle.helix_legacy.proofs.breach.first_breach.Goals as goal

pub returns-then-has_key : goal.returns-then-has_key
returns-then-has_key c = beside c.args.members.now (sym c.has_key.ensures ∙ c.if-has_key.true)
    c.in_ok-place_of.field-0 c.in_ok-place_of.ensures

pub unreachable-requires : goal.unreachable-requires
unreachable-requires c = older_rules c.args.members.now None c.requires.older c.in-None.ensures refl
