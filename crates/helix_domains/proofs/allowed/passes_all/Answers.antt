use Rattle.std.proofs.Common.{subst, refl}
use Rattle.std.specs.List.{All}
use Rattle.std.proofs.lemmas.List.{take_all}
use Rattle.helix_values.specs.View.{cell_of}
use Rattle.helix_domains.specs.Domain.{PassesAtom}
use Rattle.helix_domains.proofs.Readiness.{ready_at, chosen_at}
use Rattle.helix_domains.proofs.Walks.{all_more}
use Rattle.helix_domains.proofs.allowed.passes_all.Goals as goal

pub passes-requires-clause-ready : goal.passes-requires-clause-ready
passes-requires-clause-ready c = ready_at c.args.atoms.now c.args.ready.now c.loop-index.index
    c.index-atoms-index.result
    c.index-ready-index.result c.requires.ready c.loop-index-test.true c.index-atoms-index.is c.index-ready-index.is

pub loop-index-preserved-then-is_chosen : goal.loop-index-preserved-then-is_chosen
loop-index-preserved-then-is_chosen c =
    (all_more (λ signed. PassesAtom signed (cell_of c.args.value)) c.args.atoms.now c.loop-index.index
    c.index-atoms-index.result
    c.loop-index-test.true c.index-atoms-index.is).1 (
      c.loop-index.invariant,
      chosen_at c.args.atoms.now c.args.chosen (cell_of c.args.value) c.loop-index.index c.index-atoms-index.result
          c.requires.chosen (c.is_chosen.ensures.0 c.if-is_chosen.true) c.loop-index-test.true c.index-atoms-index.is,
    )

pub loop-index-preserved : goal.loop-index-preserved
loop-index-preserved c =
    (all_more (λ signed. PassesAtom signed (cell_of c.args.value)) c.args.atoms.now c.loop-index.index
    c.index-atoms-index.result
    c.loop-index-test.true c.index-atoms-index.is).1 (c.loop-index.invariant, c.passes.ensures.0 c.if-not-passes.false)

pub returns : goal.returns
returns c = (
  (λ _. subst (All (λ signed. PassesAtom signed (cell_of c.args.value)))
      (take_all c.loop-index.index c.args.atoms.now c.loop-index-test.false) c.loop-index.invariant),
  (λ _. refl),
)
