-- The rows of arcs in one list, one state after the other.
use Rattle.std.proofs.Common.{◌≡◌, inl, inr, ℕ, ◌+◌, ◌-◌, ◌≤◌, List, [], ◌∷◌, ◌++◌, length, get_or, slice_index, slice_range, take, drop, refl, sym, ap, ◌∙◌, arith, length-append, length-drop}
use Rattle.std.proofs.lemmas.Bool.{cases_lt}
use Rattle.std.proofs.lemmas.List.{get_or_append_left, get_or_push, length_push, drop-append-le, take-append-le, drop_at, take_all}
use Rattle.helix_automata.specs.declared.arc.Arc.{Arc}
use Rattle.helix_words.specs.Inner.Rows.{live_arcs, AreRowsUpTo}

-- a part of a list is the part of a longer one
range_longer : (arcs more : List Arc) (from to : ℕ) → from ≤ to → to ≤ length arcs
    → slice_range (arcs ++ more) from to ≡ slice_range arcs from to
range_longer arcs more from to low high =
    ap (take (to - from)) (drop-append-le from arcs more (omega (arith, low, high)))
    ∙ take-append-le (to - from) (drop from arcs) more (omega (arith, length-drop from arcs, low, high))

-- and what was added is the part behind it
range_added : (arcs more : List Arc) (from to : ℕ) → from ≡ length arcs → to ≡ length (arcs ++ more)
    → slice_range (arcs ++ more) from to ≡ more
range_added arcs more from to is end =
    ap (take (to - from)) (drop_at arcs more from (sym is))
    ∙ take_all (to - from) more (omega (arith, length-append arcs more, is, end))

-- before the first state
pub rows_none : (blocks : List (List ℕ)) (moves : List (List Arc)) → AreRowsUpTo blocks moves 0 (0 ∷ []) []
rows_none blocks moves = record {
  as_many = refl;
  last = refl;
  rise = λ state less. absurd (omega (arith, less));
  within = λ state less. absurd (omega (arith, less));
  are = λ state less. absurd (omega (arith, less));
}

-- the row of one more state
pub rows_more : (blocks : List (List ℕ)) (moves : List (List Arc)) (bound end : ℕ) (starts : List ℕ)
    (arcs added : List Arc) → AreRowsUpTo blocks moves bound starts arcs
    → added ≡ live_arcs blocks (get_or moves bound []) → end ≡ length (arcs ++ added)
    → AreRowsUpTo blocks moves (bound + 1) (starts ++ end ∷ []) (arcs ++ added)
rows_more blocks moves bound end starts arcs added rows is end_is = record {
  as_many = omega (arith, length_push starts end, rows.as_many);
  last = at_end (bound + 1) (omega (arith, rows.as_many)) ∙ end_is;
  rise = λ state less. elim (cases_lt state bound) [
    | inl before ↦ omega (
      arith,
      here state (omega (arith, before)),
      here (state + 1) (omega (arith, before)),
      rows.rise state before,
    )
    | inr at ↦ omega (
      arith,
      here state (omega (arith, less)),
      at_end (state + 1) (omega (arith, rows.as_many, less, at)),
      end_is,
      length-append arcs added,
      last_at state (omega (arith, less, at)),
    )
  ];
  within = λ state less. elim (cases_lt state bound) [
    | inl before ↦ omega (
      arith,
      here (state + 1) (omega (arith, before)),
      rows.within state before,
      length-append arcs added,
    )
    | inr at ↦ omega (arith, at_end (state + 1) (omega (arith, rows.as_many, less, at)), end_is)
  ];
  are = λ state less. elim (cases_lt state bound) [
    | inl before ↦
        ap (λ n. slice_range (arcs ++ added) n (slice_index (starts ++ end ∷ []) (state + 1)))
        (here state (omega (arith, before)))
        ∙ ap (λ n. slice_range (arcs ++ added) (slice_index starts state) n) (here (state + 1) (omega (arith, before)))
        ∙ range_longer arcs added (slice_index starts state) (slice_index starts (state + 1)) (rows.rise state before)
        (rows.within state before)
        ∙ rows.are state before
    | inr at ↦
        (let same : state ≡ bound = omega (arith, less, at) in
        range_added arcs added (slice_index (starts ++ end ∷ []) state) (slice_index (starts ++ end ∷ []) (state + 1))
        (here state (omega (arith, less)) ∙ last_at state same)
        (at_end (state + 1) (omega (arith, rows.as_many, same)) ∙ end_is)
        ∙ is ∙ ap (λ n. live_arcs blocks (get_or moves n [])) (sym same))
  ];
}
  where
    here : (k : ℕ) → k ≤ bound → slice_index (starts ++ end ∷ []) k ≡ slice_index starts k
    here k low = get_or_append_left starts (end ∷ []) 0 k (omega (arith, rows.as_many, low))

    at_end : (k : ℕ) → length starts ≡ k → slice_index (starts ++ end ∷ []) k ≡ end
    at_end k long = get_or_push starts end 0 k long

    last_at : (k : ℕ) → k ≡ bound → slice_index starts k ≡ length arcs
    last_at k same = ap (slice_index starts) same ∙ rows.last
