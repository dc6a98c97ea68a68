-- What the tables of a set of words say.
use Rattle.std.proofs.Common.{◌≡◌, ◌↔◌, ℕ, ◌<◌, ◌≤◌, min, Bool, List, length, sym, subst, IsTrue}
use Rattle.helix_automata.specs.declared.arc.Arc.{Arc}
use Rattle.helix_words.specs.declared.rows.Rows.{Rows}
use Rattle.helix_words.specs.declared.table.Table.{Table}
use Rattle.helix_words.specs.Words.{WordSet}
use Rattle.helix_words.specs.Inner.Table.{bit_of}
use Rattle.helix_words.specs.Inner.Rows.{row_of}
use Rattle.helix_words.specs.Inner.Rests.{HasRest}
use Rattle.helix_words.specs.Inner.Blocks.{IsTableOf}
use Rattle.helix_words.specs.Inner.Lengths.{IsAllowed, AreLengths}
use Rattle.helix_words.specs.Inner.Tables.{AreTables, AreArcsFrom, IsLengthOf}

module _ (words : WordSet) (rows : Rows) (table : Table) (lengths : List ℕ) (are : AreTables words rows table lengths)
  where
    -- the arcs of a state
    pub row_is : (state : ℕ) (row : List Arc) → state < length words.automaton.moves
        → row ≡ row_of rows.starts rows.arcs state → AreArcsFrom words.automaton words.longest state row
    row_is state row within is = subst (AreArcsFrom words.automaton words.longest state) (sym is)
        (are.are_rows.are state within)

    -- a bit says that there is a rest
    pub rest_is : (state count : ℕ) (b : Bool) → state < length words.automaton.moves → count ≤ words.longest
        → (IsTrue b ↔ (bit_of table.blocks state (min count table.stable) ≡ 1))
        → IsTrue b ↔ HasRest words.automaton state count
    rest_is state count b within few bit =
        let says = are.is_table.bits state count within few in
        ((λ is. says.0 (bit.0 is)), (λ rest. bit.1 (says.1 rest)))

-- the lengths that the table allows are those of words
pub lengths_tabled : (words : WordSet) (table : Table) (lengths : List ℕ) → 0 < length words.automaton.moves
    → IsTableOf words.automaton words.longest table
    → AreLengths (IsAllowed table words.shortest words.longest words.refused) lengths
    → AreLengths (IsLengthOf words) lengths
lengths_tabled words table lengths some is are = record {
  ascending = are.ascending;
  are = λ count. (
    (λ has. let allowed = (are.are count).0 has in record {
      not_short = allowed.not_short;
      not_long = allowed.not_long;
      not_refused = allowed.not_refused;
      has_rest = (is.bits 0 count some allowed.not_long).0 allowed.has_rest;
    }),
    (λ allowed. (are.are count).1 (record {
      not_short = allowed.not_short;
      not_long = allowed.not_long;
      not_refused = allowed.not_refused;
      has_rest = (is.bits 0 count some allowed.not_long).1 allowed.has_rest;
    })),
  );
}
