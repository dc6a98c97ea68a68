use Rattle.std.proofs.Common.{sym, subst}
use Rattle.helix_search.specs.Exclusion.{IsExclusion}
use Rattle.helix_values.specs.View.{cell_of}
use Rattle.helix_links.specs.Links.{class_of_link, IsAllowed}
use Rattle.helix_links.proofs.pair_link.PairLinkLink.excludes.Goals as goal

pub returns-in-ByOffset : goal.returns-in-ByOffset
returns-in-ByOffset c =
    subst (λ link. IsExclusion (class_of_link link) (IsAllowed link (cell_of c.args.parent)) (cell_of c.args.child)
    c.excludes.result) (sym c.in-ByOffset.is) c.excludes.ensures

pub returns-in-ByEquality : goal.returns-in-ByEquality
returns-in-ByEquality c =
    subst (λ link. IsExclusion (class_of_link link) (IsAllowed link (cell_of c.args.parent)) (cell_of c.args.child)
    c.excludes-in-ByEquality.result) (sym c.in-ByEquality.is) c.excludes-in-ByEquality.ensures
