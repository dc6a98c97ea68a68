use Rattle.std.proofs.Common.{◌∙◌, ◌++◌, ◌∷◌, [], take, false, ap, sym, arith}
use Rattle.std.proofs.lemmas.List.{take_more, take_all}
use Rattle.std.proofs.lemmas.Option.{get_or_from_slice_get}
use Rattle.helix_words.proofs.column.accepting_states.Goals as goal

pub loop-state-preserved : goal.loop-state-preserved
loop-state-preserved c =
    c.in_ok-push.ensures.ok
    ∙ ap (λ l. l ++ c.accepting.result ∷ []) c.loop-state.invariant
    ∙ sym (take_more c.args.dfa.now.accepting c.loop-state.state false
    (omega (arith, c.requires))
    ∙ ap (λ flag. take c.loop-state.state c.args.dfa.now.accepting ++ flag ∷ [])
    (get_or_from_slice_get c.args.dfa.now.accepting c.loop-state.state c.accepting.result false c.accepting.ensures))

pub returns : goal.returns
returns c =
    c.loop-state.invariant
    ∙ take_all c.loop-state.state c.args.dfa.now.accepting (omega (arith, c.requires))
