use Rattle.std.proofs.Common.{sym, ap, ◌∙◌, ◌++◌, ◌∷◌, []}
use Rattle.helix_compile.proofs.Closures.{closing_more, closed_same, closed_no_split, all_same, all_no_split}
use Rattle.helix_compile.proofs.closure.epsilon_closure.Goals as goal

pub returns-in_default-clause-same : goal.returns-in_default-clause-same
returns-in_default-clause-same c =
    closed_same c.args.nfa.now c.args.seen.now c.loop-done.seen c.loop-done.found.items c.sort_unstable.new.self.items
    c.loop-done.done c.loop-done.invariant
    (sym c.in_default.ensures) c.sort_unstable.ensures.permutation

pub returns-in_default-clause-no_split : goal.returns-in_default-clause-no_split
returns-in_default-clause-no_split c =
    closed_no_split c.args.nfa.now c.args.seen.now c.loop-done.seen c.loop-done.found.items
    c.sort_unstable.new.self.items c.loop-done.done c.loop-done.invariant
    (sym c.in_default.ensures) c.sort_unstable.ensures.permutation

pub loop-done-preserved : goal.loop-done-preserved
loop-done-preserved c =
    closing_more c.args.nfa.now c.args.seen.now c.loop-done.seen c.visit.new.seen c.loop-done.found.items
    c.visit.new.found.items c.loop-done.done c.in-Some.number c.loop-done.invariant
    (sym c.in-Some.ensures) c.in_ok-visit.ensures

pub returns-then-accepts_all_at-clause-same : goal.returns-then-accepts_all_at-clause-same
returns-then-accepts_all_at-clause-same c =
    all_same c.args.nfa.now c.args.seen.now c.loop-done.seen c.loop-done.found.items c.push.new.self.items
    c.loop-done.done c.in-Some.number c.loop-done.invariant
    (sym c.in-Some.ensures) (c.accepts_all_at.ensures.0 c.if-accepts_all_at.true) (c.in_ok-push.ensures.items
    ∙ ap (λ l. l ++ c.in-Some.number ∷ []) c.clear-then-accepts_all_at.ensures.items)

pub returns-then-accepts_all_at-clause-no_split : goal.returns-then-accepts_all_at-clause-no_split
returns-then-accepts_all_at-clause-no_split c =
    all_no_split c.args.nfa.now c.args.seen.now c.loop-done.seen c.loop-done.found.items c.push.new.self.items
    c.loop-done.done c.in-Some.number c.loop-done.invariant
    (sym c.in-Some.ensures) (c.accepts_all_at.ensures.0 c.if-accepts_all_at.true) (c.in_ok-push.ensures.items
    ∙ ap (λ l. l ++ c.in-Some.number ∷ []) c.clear-then-accepts_all_at.ensures.items)
