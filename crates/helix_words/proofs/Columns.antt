-- The columns of flags say which rests there are.
use Rattle.std.proofs.Common.{◌≡◌, ◌↔◌, ℕ, zero, suc, ◌+◌, ◌-◌, ◌<◌, ◌≤◌, Bool, true, false, Some, List, [], ◌∷◌, length, get_or, refl, sym, ap, ◌∙◌, subst, arith}
use Rattle.std.proofs.lemmas.List.{get_or-map, nil_from_length, length-map}
use Rattle.std.proofs.lemmas.List.Folds.{Any-from_list_any, list_any_at}
use Rattle.std.proofs.lemmas.Option.{slice_get-get_or, get_or_from_slice_get}
use Rattle.std.proofs.lemmas.List.Elements.{All-nil}
use Rattle.helix_automata.specs.declared.arc.Arc.{Arc}
use Rattle.helix_automata.specs.Automaton.{Automaton, AcceptsFrom, Leads, holds}
use Rattle.helix_automata.specs.Shape.{IsCharacter, HasCharacter, IsWellFormed}
use Rattle.helix_words.specs.Inner.Columns.{leads_to, column_before, column}
use Rattle.helix_words.specs.Inner.Rests.{IsRest, HasRest}
use Rattle.helix_words.proofs.ArcLeads.{leads_at, arc_to}
use Rattle.helix_words.proofs.Paths.{target_within}
use Rattle.helix_words.proofs.Rests.{begins, rest_after}

-- a state has a flag
abbrev pub HasFlag : List Bool → ℕ → Type 0
HasFlag flags state = get_or flags state false ≡ true

module _ (automaton : Automaton) (form : IsWellFormed automaton) where
  accepting : (state : ℕ) → state < length automaton.moves
      → HasFlag automaton.accepting state ↔ HasRest automaton state 0
  accepting state within = (
    (λ flag. (
      [],
      record {
        characters = All-nil IsCharacter;
        long = refl;
        accepted = slice_get-get_or automaton.accepting state false (omega (arith, form.flags, within))
            ∙ ap Some flag;
      },
    )),
    (λ has. get_or_from_slice_get automaton.accepting state true false
        (subst (AcceptsFrom automaton state) (nil_from_length has.0 has.1.long) has.1.accepted)),
  )

  -- an arc to a state with a rest is the beginning of a longer rest
  longer : (count state : ℕ) → state < length automaton.moves
      → ((other : ℕ) → other < length automaton.moves → HasFlag (column automaton count) other
      ↔ HasRest automaton other count)
      → HasFlag (column automaton (suc count)) state ↔ HasRest automaton state (suc count)
  longer count state within so_far = (to, from)
    where
      row : List Arc
      row = get_or automaton.moves state []

      flags : List Bool
      flags = column automaton count

      here : get_or (column automaton (suc count)) state false ≡ leads_to (column automaton count)
          (get_or automaton.moves state [])
      here = get_or-map (leads_to (column automaton count)) automaton.moves state [] false within

      to : HasFlag (column automaton (suc count)) state → HasRest automaton state (suc count)
      to flag =
          let (k, arc, in_row, at, set) =
          Any-from_list_any (λ arc. get_or (column automaton count) arc.to false) (get_or automaton.moves state [])
          (sym here ∙ flag) in
          let used : HasCharacter arc = subst HasCharacter at ((form.rows state [] within).used k arc in_row) in
          let named : arc.to < length automaton.moves =
          subst (λ a. a.to < length automaton.moves) at ((form.rows state [] within).named k arc in_row) in
          let leads : Leads automaton state used.0 arc.to =
          leads_at (get_or automaton.moves state []) used.0 k arc (form.rows state [] within).in_order
          (form.rows state [] within).used in_row (subst (λ a. holds used.0 a ≡ true) (sym at) used.2)
          ∙ ap (λ a. Some a.to) at in
          let rest = (so_far arc.to named).0 set in
          let longer_is : suc count ≡ count + 1 = omega arith in (
            used.0 ∷ rest.0,
            subst (λ n. IsRest automaton state n (used.0 ∷ rest.0)) (sym longer_is)
                (rest_after automaton state count (record { character = used.0; to = arc.to }) rest.0
                (record { is_character = used.1; leads = leads; has_rest = rest }) rest.1),
          )

      from : HasRest automaton state (suc count) → HasFlag (column automaton (suc count)) state
      from (rest, is) =
          let longer_is : suc count ≡ count + 1 = omega arith in
          let b = begins automaton state count rest (subst (λ n. IsRest automaton state n rest) longer_is is) in
          let (k, in_row, holding, goes) =
          arc_to (get_or automaton.moves state []) b.step.character b.step.to b.goes_on.leads in
          let named : b.step.to < length automaton.moves =
          target_within automaton form state b.step.character b.step.to within b.goes_on.leads in
          let d : Arc = record { first = 0; last = 0; to = 0 } in
          here ∙ list_any_at (λ arc. get_or (column automaton count) arc.to false) (get_or automaton.moves state []) k
          d in_row
          (ap (λ s. get_or (column automaton count) s false) (goes d)
          ∙ (so_far b.step.to named).1 b.goes_on.has_rest)

  -- a flag of the column of a length says that there is such a rest
  pub column_rests : (count state : ℕ) → state < length automaton.moves
      → HasFlag (column automaton count) state ↔ HasRest automaton state count
  column_rests zero state within = accepting state within
  column_rests (suc count) state within = longer count state within (column_rests count)

  pub column_length : (count : ℕ) → length (column automaton count) ≡ length automaton.moves
  column_length zero = form.flags
  column_length (suc count) = length-map automaton.moves (leads_to (column automaton count))

  -- columns that are once alike stay so
  pub column_stays : (stable more : ℕ) → column automaton (suc stable) ≡ column automaton stable
      → column automaton (stable + more) ≡ column automaton stable
  column_stays stable zero same = let none : stable + 0 ≡ stable = omega arith in ap (column automaton) none
  column_stays stable (suc more) same =
      let next : stable + suc more ≡ suc (stable + more) = omega arith in
      ap (column automaton) next ∙ ap (column_before automaton.moves) (column_stays stable more same) ∙ same

  pub column_from : (stable : ℕ) → column automaton (suc stable) ≡ column automaton stable → (longest count : ℕ)
      → stable < count → count ≤ longest → column automaton count ≡ column automaton stable
  column_from stable same longest count above few =
      let is : count ≡ stable + (count - stable) = omega (arith, above) in
      ap (column automaton) is ∙ column_stays stable (count - stable) same
