use Rattle.std.proofs.Common.{◌≡◌, ◌∙◌, ◌+◌, ◌%◌, ◌++◌, ◌∷◌, [], suc, length, ap, sym, subst, arith}
use Rattle.helix_automata.specs.Shape.{IsWellFormed}
use Rattle.helix_words.specs.Inner.Columns.{column, column_before}
use Rattle.helix_words.specs.Inner.Blocks.{Closes, AreFilled, IsTableOf}
use Rattle.helix_words.proofs.Columns.{column_length, column_from}
use Rattle.helix_words.proofs.Filling.{written, sets_same, filled_set, filled_close, table_from}
use Rattle.helix_words.proofs.blocks.table_of.Goals as goal

pub set_bits-requires-clause-flags : goal.set_bits-requires-clause-flags
set_bits-requires-clause-flags c =
    ap length (c.as_slice.ensures ∙ c.loop-count.invariant.column)
    ∙ column_length c.args.dfa.now c.requires.form c.loop-count.count
    ∙ sym (ap length c.as_mut_slice.ensures.value ∙ c.loop-count.invariant.filled.long)

pub column_before-requires : goal.column_before-requires
column_before-requires c =
    ap length (c.as_slice-in-loop-count.ensures ∙ c.loop-count.invariant.column)
    ∙ column_length c.args.dfa.now c.requires.form c.loop-count.count

pub are_equal-requires : goal.are_equal-requires
are_equal-requires c =
    let next : c.loop-count.count + 1 ≡ suc c.loop-count.count = omega arith in
    ap length (c.as_slice-in-loop-count-2.ensures ∙ c.in_ok-before.ensures
    ∙ ap (column_before c.args.dfa.now.moves) (c.as_slice-in-loop-count.ensures ∙ c.loop-count.invariant.column))
    ∙ column_length c.args.dfa.now c.requires.form (suc c.loop-count.count)
    ∙ sym (ap length (c.as_slice-in-loop-count-3.ensures ∙ c.loop-count.invariant.column)
    ∙ column_length c.args.dfa.now c.requires.form c.loop-count.count)

pub returns-then-are_equal : goal.returns-then-are_equal
returns-then-are_equal c =
    let form : IsWellFormed c.args.dfa.now = c.requires.form in
    let back = written c.set_bits.new.block c.loop-count.block.items c.loop-count.block.len
    (c.set_bits.ensures.same_length ∙ c.as_mut_slice.ensures.len) in
    let before : c.in_ok-before.before ≡ column c.args.dfa.now (suc c.loop-count.count) =
    c.in_ok-before.ensures ∙ ap (column_before c.args.dfa.now.moves)
    (c.as_slice-in-loop-count.ensures ∙ c.loop-count.invariant.column) in
    let same : column c.args.dfa.now (suc c.loop-count.count) ≡ column c.args.dfa.now c.loop-count.count =
    sym before ∙ sym c.as_slice-in-loop-count-2.ensures ∙ c.if-are_equal.ensures
    ∙ c.as_slice-in-loop-count-3.ensures ∙ c.loop-count.invariant.column in
    subst (λ blocks. IsTableOf c.args.dfa.now c.args.longest (record { blocks = blocks; stable = c.loop-count.count }))
    (sym (c.in_ok-push.ensures.ok ∙ ap (λ block. c.loop-count.blocks ++ block ∷ []) (c.from_vec.ensures ∙ back)))
    (table_from c.args.dfa.now form c.loop-count.count c.args.longest (c.loop-count.count % 64 + 1) c.loop-count.blocks
    c.set_bits.new.block
    (filled_set c.args.dfa.now c.loop-count.count c.loop-count.blocks c.loop-count.block.items c.set_bits.new.block
    c.loop-count.invariant.filled
    (sets_same (c.loop-count.count % 64) (c.as_slice.ensures ∙ c.loop-count.invariant.column)
    c.as_mut_slice.ensures.value
    c.set_bits.ensures))
    (column_from c.args.dfa.now form c.loop-count.count same c.args.longest))

pub loop-count-preserved : goal.loop-count-preserved
loop-count-preserved c =
    let back = written c.set_bits.new.block c.loop-count.block.items c.loop-count.block.len
    (c.set_bits.ensures.same_length ∙ c.as_mut_slice.ensures.len) in
    let next : suc c.loop-count.count ≡ c.loop-count.count + 1 = omega arith in
    record {
      column =
          c.in_ok-before.ensures ∙ ap (column_before c.args.dfa.now.moves)
          (c.as_slice-in-loop-count.ensures ∙ c.loop-count.invariant.column)
          ∙ ap (column c.args.dfa.now) next;
      filled = filled_close c.args.dfa.now c.loop-count.count c.loop-count.blocks c.close.new.blocks
          c.set_bits.new.block
          c.close.new.block.items
          (filled_set c.args.dfa.now c.loop-count.count c.loop-count.blocks c.loop-count.block.items
          c.set_bits.new.block
          c.loop-count.invariant.filled
          (sets_same (c.loop-count.count % 64) (c.as_slice.ensures ∙ c.loop-count.invariant.column)
          c.as_mut_slice.ensures.value c.set_bits.ensures))
          (subst (λ block. Closes c.loop-count.count c.loop-count.blocks c.close.new.blocks block
          c.close.new.block.items)
          back c.in_ok-close.ensures);
    }

pub set_bits-requires-2-clause-flags : goal.set_bits-requires-2-clause-flags
set_bits-requires-2-clause-flags c =
    ap length (c.as_slice-2.ensures ∙ c.loop-count.invariant.column)
    ∙ column_length c.args.dfa.now c.requires.form c.loop-count.count
    ∙ sym (ap length c.as_mut_slice-2.ensures.value ∙ c.loop-count.invariant.filled.long)

pub returns : goal.returns
returns c =
    let form : IsWellFormed c.args.dfa.now = c.requires.form in
    let back = written c.set_bits-2.new.block c.loop-count.block.items c.loop-count.block.len
    (c.set_bits-2.ensures.same_length ∙ c.as_mut_slice-2.ensures.len) in
    let end : c.loop-count.count ≡ c.args.longest = omega arith in
    subst (λ blocks. IsTableOf c.args.dfa.now c.args.longest (record { blocks = blocks; stable = c.args.longest }))
    (sym (c.in_ok-push-2.ensures.ok ∙ ap (λ block. c.loop-count.blocks ++ block ∷ []) (c.from_vec-2.ensures ∙ back)))
    (table_from c.args.dfa.now form c.args.longest c.args.longest (c.args.longest % 64 + 1) c.loop-count.blocks
    c.set_bits-2.new.block
    (filled_set c.args.dfa.now c.args.longest c.loop-count.blocks c.loop-count.block.items c.set_bits-2.new.block
    (subst (λ n. AreFilled c.args.dfa.now n n (n % 64) c.loop-count.blocks c.loop-count.block.items) end
    c.loop-count.invariant.filled)
    (sets_same (c.args.longest % 64) (c.as_slice-2.ensures ∙ c.loop-count.invariant.column
    ∙ ap (column c.args.dfa.now) end) c.as_mut_slice-2.ensures.value c.set_bits-2.ensures))
    (λ count above few. absurd (omega (arith, above, few))))
