use Rattle.std.proofs.Common.{◌+◌, ◌++◌, ◌∷◌, [], take, sym, ap, ◌∙◌, subst}
use Rattle.std.proofs.lemmas.Bool.{iff_false}
use Rattle.helix_domains.specs.Domain.{IsAllowed}
use Rattle.helix_domains.specs.Inner.Listed.{AreKept}
use Rattle.helix_domains.specs.Inner.Ready.{AreReady, PassesChosen}
use Rattle.helix_domains.proofs.Listing.{kept_more, skipped_more, kept_all}
use Rattle.helix_domains.proofs.allowed.allowed_of.Goals as goal
use Rattle.helix_domains.proofs.allowed.allowed_of.Goals.{then-is_allowed+in_ok-copy+in_ok-push, else-is_allowed}

pub is_allowed-requires-clause-ready : goal.is_allowed-requires-clause-ready
is_allowed-requires-clause-ready c = subst (AreReady c.args.atoms.now) (sym c.as_slice.ensures.value)
    c.in_ok-ready.ensures

pub is_allowed-requires-clause-chosen : goal.is_allowed-requires-clause-chosen
is_allowed-requires-clause-chosen c =
    subst (PassesChosen c.args.atoms.now c.args.chosen) (sym c.view.ensures)
    (c.requires c.cell-item.result (c.loop-cell.cell-index, c.loop-cell-test.true, sym c.cell-item.is))

pub loop-cell-preserved : goal.loop-cell-preserved
loop-cell-preserved c =
    elim c.if-is_allowed.branch [
      | then-is_allowed+in_ok-copy+in_ok-push w ↦
          subst (AreKept (IsAllowed c.args.kind c.args.atoms.now) (take (c.loop-cell.cell-index + 1) c.args.cells.now))
          (sym (ap (λ v. v.items) w.kept-is ∙ w.in_ok-push.ensures.items
          ∙ ap (λ x. c.loop-cell.kept.items ++ x ∷ []) w.in_ok-copy.ensures))
          (kept_more (IsAllowed c.args.kind c.args.atoms.now) c.args.cells.now c.loop-cell.kept.items
          c.loop-cell.cell-index c.cell-item.result c.loop-cell-test.true c.cell-item.is c.loop-cell.invariant
          (subst (IsAllowed c.args.kind c.args.atoms.now) c.view.ensures (c.is_allowed.ensures.0 w.if-is_allowed.true)))
      | else-is_allowed w ↦
          subst (AreKept (IsAllowed c.args.kind c.args.atoms.now) (take (c.loop-cell.cell-index + 1) c.args.cells.now))
          (sym (ap (λ v. v.items) w.kept-is))
          (skipped_more (IsAllowed c.args.kind c.args.atoms.now) c.args.cells.now c.loop-cell.kept.items
          c.loop-cell.cell-index c.cell-item.result c.loop-cell-test.true c.cell-item.is c.loop-cell.invariant
          (λ allowed. iff_false c.is_allowed.ensures w.if-is_allowed.false
          (subst (IsAllowed c.args.kind c.args.atoms.now) (sym c.view.ensures) allowed)))
    ]

pub returns : goal.returns
returns c = kept_all (IsAllowed c.args.kind c.args.atoms.now) c.args.cells.now c.loop-cell.kept.items
    c.loop-cell.cell-index c.loop-cell-test.false c.loop-cell.invariant
