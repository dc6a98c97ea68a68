use Rattle.std.proofs.Common.{◌+◌, ◌≡◌, length, arith}
use Rattle.helix_automata.specs.Automaton.{most_arcs}
use Rattle.helix_words.specs.MovesLaws.{moved_none}
use Rattle.helix_words.proofs.MoveBounds.{moved_round, moved_fewer}
use Rattle.helix_words.proofs.Walking.{walked_none, walked_more, walked_stuck, walked_all}
use Rattle.helix_words.proofs.Forks.{fork_stuck, fork_along, fork_within}
use Rattle.helix_words.proofs.walk.walk_along.Goals as goal

pub loop-place-init : goal.loop-place-init
loop-place-init g c = record {
  walked = walked_none c.args.words.now.automaton c.args.word.now c.requires.start c.requires.rest;
  moved = moved_none g.L.Ledger.IsNoted _ c.args.steps.now;
}

pub overflow_cast-rest : goal.overflow_cast-rest
overflow_cast-rest g c = record { fits = omega (arith, c.requires.short, c.requires.count) }

pub overflow_cast-place : goal.overflow_cast-place
overflow_cast-place g c = record { fits = omega (arith, c.requires.short, c.requires.count, c.loop-place-test.true) }

pub returns-in-None-clause-walk : goal.returns-in-None-clause-walk
returns-in-None-clause-walk g c =
    walked_stuck c.args.words.now.automaton c.args.word.now c.loop-place.place c.loop-place.state c.loop-place.branch
    c.deeper-branch.result c.fork_at-fork.result.above c.loop-place-test.true c.loop-place.invariant.walked
    c.fork_at-fork.ensures.fork.above c.deeper-branch.ensures
    (fork_stuck _ _ _ _ c.fork_at-fork.result c.fork_at-fork.ensures.fork c.in-None.is)

pub returns-in-None-clause-moves : goal.returns-in-None-clause-moves
returns-in-None-clause-moves g c =
    moved_fewer g.L.Ledger.IsNoted (c.loop-place.place + 1) (length c.args.word.now)
    (most_arcs c.args.words.now.automaton) c.args.steps.now c.fork_at-fork.new.steps
    (omega (arith, c.loop-place-test.true))
    (moved_round g.L.Ledger.IsNoted c.loop-place.place (most_arcs c.args.words.now.automaton) c.args.steps.now
    c.loop-place.steps c.fork_at-fork.new.steps c.loop-place.invariant.moved c.fork_at-fork.ensures.moves)

pub loop-place-preserved : goal.loop-place-preserved
loop-place-preserved g c = record {
  walked = walked_more c.args.words.now.automaton c.args.word.now c.loop-place.place c.loop-place.state
      c.loop-place.branch c.deeper-branch.result c.fork_at-fork.result.above c.loop-place-test.true
      c.loop-place.invariant.walked c.fork_at-fork.ensures.fork.above c.deeper-branch.ensures c.in-Some.next
      (fork_along _ _ _ _ c.fork_at-fork.result c.fork_at-fork.ensures.fork c.in-Some.next c.in-Some.is)
      (fork_within _ _ _ _ c.fork_at-fork.result c.fork_at-fork.ensures.fork c.in-Some.next c.in-Some.is);
  moved = moved_round g.L.Ledger.IsNoted c.loop-place.place (most_arcs c.args.words.now.automaton)
      c.args.steps.now c.loop-place.steps c.fork_at-fork.new.steps c.loop-place.invariant.moved
      c.fork_at-fork.ensures.moves;
}

pub returns-clause-walk : goal.returns-clause-walk
returns-clause-walk g c =
    let end : c.loop-place.place ≡ length c.args.word.now = omega arith in
    walked_all c.args.words.now.automaton c.args.word.now c.loop-place.place c.loop-place.state c.loop-place.branch end
    c.loop-place.invariant.walked
