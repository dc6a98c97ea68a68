use Rattle.std.proofs.Common.{◌∙◌, ap, slice_set, subst}
use Rattle.std.specs.List.{AllByRecursion}
use Rattle.helix_schema.specs.Drafts.{IsFilled, first_wanted, with_members}
use Rattle.helix_schema.specs.Inner.First.{IsFirstUnfilled}
use Rattle.helix_schema.proofs.Wishes.{filled_at, no_wish, none_wanted}
use Rattle.helix_schema.proofs.wish.fill_first.Goals as goal

pub unreachable-requires : goal.unreachable-requires
unreachable-requires c = no_wish (first_wanted c.args.wishes.now.items) c.requires
    (none_wanted c.args.wishes.now.items 1
    (subst (AllByRecursion IsFilled) c.as_slice.ensures.value c.in-None.ensures.none))

pub returns : goal.returns
returns c = ap (λ w. slice_set c.args.wishes.now.items c.in-Some.i (with_members w c.args.members))
    c.index_mut.ensures.value
    ∙ filled_at c.args.wishes.now.items c.in-Some.i c.index_mut.result.now c.args.members
    (subst (λ wishes. IsFirstUnfilled wishes c.in-Some.i) c.as_slice.ensures.value c.in-Some.ensures.some)
