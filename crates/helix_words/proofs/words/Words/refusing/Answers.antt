use Rattle.std.proofs.Common.{◌∙◌, sym, subst}
use Rattle.helix_automata.specs.Shape.{IsWellFormed}
use Rattle.helix_words.specs.Words.{WordSet}
use Rattle.helix_words.specs.Inner.Lengths.{IsAllowed, AreLengths}
use Rattle.helix_words.proofs.InTables.{lengths_tabled}
use Rattle.helix_words.proofs.LiveArcs.{rows_live}
use Rattle.helix_words.proofs.words.Words.refusing.Goals as goal

pub table_of-requires-clause-form : goal.table_of-requires-clause-form
table_of-requires-clause-form c = subst IsWellFormed c.dfa.view_is c.dfa.invariant

pub invariant_of-result : goal.invariant_of-result
invariant_of-result c =
    let form : IsWellFormed c.args.dfa = subst IsWellFormed c.dfa.view_is c.dfa.invariant in
    let set : WordSet = record {
      automaton = c.args.dfa;
      shortest = c.args.shortest;
      longest = c.args.longest;
      refused = c.from_vec-refused.result;
    } in
    record {
      well_formed = form;
      short = c.requires;
      are_rows = rows_live c.args.dfa c.args.longest c.in_ok-table.table form c.in_ok-table.ensures c.in_ok-rows.rows
          c.in_ok-rows.ensures;
      is_table = c.in_ok-table.ensures;
      are_lengths = lengths_tabled set c.in_ok-table.table c.in_ok-lengths.lengths form.some c.in_ok-table.ensures
          (subst (λ refused. AreLengths (IsAllowed c.in_ok-table.table c.args.shortest c.args.longest refused)
          c.in_ok-lengths.lengths)
          (sym (c.from_vec-refused.ensures ∙ c.in_ok-from_slice.ensures.items)) c.in_ok-lengths.ensures);
    }
