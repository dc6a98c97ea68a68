use Rattle.std.proofs.Common.{◌≡◌, ◌∙◌, ◌+◌, ◌++◌, length, ap, sym, subst}
use Rattle.helix_words.specs.Inner.Rows.{AreRowsUpTo, live_arcs}
use Rattle.helix_words.proofs.RowsMore.{rows_more}
use Rattle.helix_words.proofs.rows.rows_of.Goals as goal

pub loop-state-preserved : goal.loop-state-preserved
loop-state-preserved c =
    let longer : c.push_row.new.arcs ≡ c.loop-state.arcs ++ live_arcs c.args.table.now.blocks
    c.arcs-in-loop-state.result.now =
    c.in_ok-push_row.ensures in
    let end : c.in_ok-number_of.field-0
    ≡ length (c.loop-state.arcs ++ live_arcs c.args.table.now.blocks c.arcs-in-loop-state.result.now) =
    c.in_ok-number_of.ensures ∙ ap length (c.as_slice.ensures ∙ longer) in
    subst (AreRowsUpTo c.args.table.now.blocks c.args.dfa.now.moves (c.loop-state.state + 1)
    c.push-in-loop-state.new.self)
    (sym longer)
    (subst (λ starts. AreRowsUpTo c.args.table.now.blocks c.args.dfa.now.moves (c.loop-state.state + 1) starts
    (c.loop-state.arcs ++ live_arcs c.args.table.now.blocks c.arcs-in-loop-state.result.now))
    (sym c.in_ok-push-2.ensures.ok)
    (rows_more c.args.table.now.blocks c.args.dfa.now.moves c.loop-state.state c.in_ok-number_of.field-0
    c.loop-state.starts
    c.loop-state.arcs (live_arcs c.args.table.now.blocks c.arcs-in-loop-state.result.now) c.loop-state.invariant
    (ap (live_arcs c.args.table.now.blocks) c.arcs-in-loop-state.ensures.value) end))
