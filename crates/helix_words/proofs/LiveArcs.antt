-- The arcs that lead to states with a bit are those that lead on.
use Rattle.std.proofs.Common.{◌≡◌, inl, inr, ℕ, zero, suc, ◌/◌, ◌%◌, ◌<◌, ◌≤◌, min, not, nat_eq, Bool, true, false, List, [], ◌∷◌, length, get_or, slice_index, Contains, sym, ap, ◌∙◌, subst, arith}
use Rattle.std.specs.List.{filter}
use Rattle.std.specs.Int.{bit_at}
use Rattle.std.proofs.lemmas.Bool.{cases_Bool, cond-true, cond-false, ne_eqb, not_from_false}
use Rattle.std.proofs.lemmas.List.{get_or_default}
use Rattle.std.proofs.lemmas.List.Elements.{All-filter}
use Rattle.std.proofs.lemmas.List.Kept.{AllPairs-filter}
use Rattle.std.proofs.lemmas.List.Folds.{list_any_at}
use Rattle.std.proofs.lemmas.List.Sums.{length-filter, count_by-le-length}
use Rattle.std.proofs.lemmas.Nat.Bits.{bit_at-zero}
use Rattle.helix_automata.specs.declared.arc.Arc.{Arc}
use Rattle.helix_automata.specs.Automaton.{Automaton}
use Rattle.helix_automata.specs.Shape.{IsWellFormed}
use Rattle.helix_automata.proofs.Greatest.{most_bounds}
use Rattle.helix_words.specs.declared.rows.Rows.{Rows}
use Rattle.helix_words.specs.declared.table.Table.{Table}
use Rattle.helix_words.specs.Inner.Table.{has_bit}
use Rattle.helix_words.specs.Inner.Rows.{live_arcs, AreRowsWith}
use Rattle.helix_words.specs.Inner.Rests.{HasRest}
use Rattle.helix_words.specs.Inner.Blocks.{IsTableOf}
use Rattle.helix_words.specs.Inner.Tables.{IsArcFrom, AreArcsFrom, AreRowsOf}
use Rattle.helix_words.proofs.ArcLeads.{leads_at, arc_to, pairs_in_order}
use Rattle.helix_words.proofs.Paths.{target_within}

-- what passes a test is kept
contains_filter : {X : Type 0} (p : X → Bool) (xs : List X) (k : ℕ) (x : X) → k < length xs → get_or xs k x ≡ x
    → p x ≡ true → Contains (filter p xs) x
contains_filter p [] k x within at passes = absurd (omega (arith, within))
contains_filter p (y ∷ ys) zero x within at passes =
    let kept : filter p (y ∷ ys) ≡ y ∷ filter p ys = cond-true (p y) _ _ (ap p at ∙ passes) in
    subst (λ l. Contains l x) (sym kept) (0, omega arith, at)
contains_filter p (y ∷ ys) (suc k) x within at passes =
    let (j, in_rest, is) = contains_filter p ys k x (omega (arith, within)) at passes in
    elim (cases_Bool (p y)) [
      | inl yes_it ↦ subst (λ l. Contains l x) (sym (cond-true (p y) (y ∷ filter p ys) (filter p ys) yes_it))
          (suc j, omega (arith, in_rest), is)
      | inr no_it ↦ subst (λ l. Contains l x) (sym (cond-false (p y) (y ∷ filter p ys) (filter p ys) no_it))
          (j, in_rest, is)
    ]

-- a state with a rest has a bit
live_by_rest : (automaton : Automaton) (longest : ℕ) (table : Table) → IsTableOf automaton longest table
    → (state count : ℕ) → state < length automaton.moves → count ≤ longest → HasRest automaton state count
    → has_bit table.blocks state ≡ true
live_by_rest automaton longest table is state count within few rest =
    let place : ℕ = min count table.stable in
    let block : List ℕ = get_or table.blocks (place / 64) [] in
    let in_blocks : place / 64 < length table.blocks = omega (arith, is.has_blocks) in
    let set = (is.bits state count within few).1 rest in
    let some : nat_eq (slice_index block state) 0 ≡ false = ne_eqb (slice_index block state) 0 (λ none.
    let clear : bit_at (slice_index block state) (place % 64) ≡ 0 =
    ap (λ n. bit_at n (place % 64)) none ∙ bit_at-zero (place % 64) in omega (arith, clear, set)) in
    list_any_at (λ full. not (nat_eq (slice_index full state) 0)) table.blocks (place / 64) [] in_blocks
    (not_from_false (nat_eq (slice_index block state) 0) some)

module _ (automaton : Automaton) (longest : ℕ) (table : Table) (form : IsWellFormed automaton)
    (is : IsTableOf automaton longest table) where
  -- the arcs of a state that lead on
  pub arcs_live : (state : ℕ) → state < length automaton.moves
      → AreArcsFrom automaton longest state (live_arcs table.blocks (get_or automaton.moves state []))
  arcs_live state within =
      let shape = form.rows state [] within in
      record {
        each = All-filter (λ arc. has_bit table.blocks arc.to) (IsArcFrom automaton state)
            (get_or automaton.moves state [])
            (λ k d in_row. record {
              within = shape.named k d in_row;
              leads = λ code held. leads_at (get_or automaton.moves state []) code k d shape.in_order shape.used
                  in_row held;
            });
        in_order = AllPairs-filter (λ one later. one.last < later.first) (λ arc. has_bit table.blocks arc.to)
            (get_or automaton.moves state []) (pairs_in_order _ shape.in_order shape.used);
        few = omega (
          arith,
          length-filter (λ (arc : Arc). has_bit table.blocks arc.to) (get_or automaton.moves state []),
          count_by-le-length (λ (arc : Arc). has_bit table.blocks arc.to) (get_or automaton.moves state []),
          most_bounds automaton.moves state [] within,
        );
        all = λ code next count leads less rest.
            let (k, in_row, holding, to) = arc_to (get_or automaton.moves state []) code next leads in
            let d : Arc = record { first = 0; last = 0; to = 0 } in
            let arc : Arc = get_or (get_or automaton.moves state []) k d in
            let live = live_by_rest automaton longest table is next count
            (target_within automaton form state code next within leads) (omega (arith, less)) rest in (
              arc,
              contains_filter (λ a. has_bit table.blocks a.to) (get_or automaton.moves state []) k arc in_row
                  (get_or_default (get_or automaton.moves state []) k arc d in_row)
                  (ap (has_bit table.blocks) (to d) ∙ live),
              holding d,
            );
      }

  -- and so are the rows of all states
  pub rows_live : (rows : Rows) → AreRowsWith table.blocks automaton.moves rows → AreRowsOf automaton longest rows
  rows_live rows are = record {
    as_many = are.as_many;
    rise = are.rise;
    within = are.within;
    are = λ state within. subst (AreArcsFrom automaton longest state) (sym (are.are state within))
        (arcs_live state within);
  }
