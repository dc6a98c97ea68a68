use Rattle.std.proofs.Common.{◌≡◌, true, false, inl, inr, ap}
use Rattle.helix_values.specs.Class.{numbers, strings, moments, class_of_kind}
use Rattle.helix_links.specs.declared.quantity.Quantity.TheVariants.{Numbers, Moments}
use Rattle.helix_links.proofs.Equal.{equality_stands}
use Rattle.helix_links.proofs.OffsetAnswers.{offset_stands}
use Rattle.helix_links.proofs.pair_link.PairLink.of.Goals as goal

pub returns-in-Boolean-clause-met : goal.returns-in-Boolean-clause-met
returns-in-Boolean-clause-met c = equality_stands c.of.result false (class_of_kind c.args.kind) c.args.relations.now
    (ap class_of_kind c.in-Boolean.is) c.of.ensures.met

pub returns-in-Text-clause-met : goal.returns-in-Text-clause-met
returns-in-Text-clause-met c =
    let is : class_of_kind c.args.kind ≡ strings = elim c.in-Text.is [
      | inl w ↦ ap class_of_kind w.1
      | inr w ↦ ap class_of_kind w.1
    ] in
    equality_stands c.of-in-Text.result true (class_of_kind c.args.kind) c.args.relations.now is c.of-in-Text.ensures.met

pub returns-in_ok-link-in-Integer-clause-met : goal.returns-in_ok-link-in-Integer-clause-met
returns-in_ok-link-in-Integer-clause-met c =
    let is : class_of_kind c.args.kind ≡ numbers = elim c.in-Integer.is [
      | inl e ↦ ap class_of_kind e
      | inr e ↦ ap class_of_kind e
    ] in
    offset_stands c.in_ok-link-in-Integer.link Numbers (class_of_kind c.args.kind) c.args.relations.now is
    c.in_ok-link-in-Integer.ensures.met

pub returns-in_ok-link-in-Date-clause-met : goal.returns-in_ok-link-in-Date-clause-met
returns-in_ok-link-in-Date-clause-met c =
    let is : class_of_kind c.args.kind ≡ moments = elim c.in-Date.is [
      | inl e ↦ ap class_of_kind e
      | inr e ↦ ap class_of_kind e
    ] in
    offset_stands c.in_ok-link-in-Date.link Moments (class_of_kind c.args.kind) c.args.relations.now is
    c.in_ok-link-in-Date.ensures.met
