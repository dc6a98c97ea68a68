-- One more state, with its arcs and whether it accepts.
use Rattle.std.proofs.Common.{◌≡◌, ◌↔◌, inl, inr, ℕ, ◌+◌, ◌<◌, ◌≤◌, Bool, true, Some, List, [], ◌∷◌, ◌++◌, length, get_or, slice_get, ap, arith, sym, ◌∙◌, subst}
use Rattle.std.proofs.lemmas.Bool.{cases_lt}
use Rattle.std.proofs.lemmas.Option.{slice_get_within, slice_get-get_or, same_Some}
use Rattle.std.proofs.lemmas.List.{length-append, get_or_append_left}
use Rattle.std.proofs.Math.Seq.{get_or-append_seam}
use Rattle.helix_automata.specs.declared.arc.Arc.{Arc}
use Rattle.helix_automata.specs.Inner.Explore.{KeepTheirNumbers, AreStates, AreArcsOf, AreStateArcs}
use Rattle.helix_automata.proofs.StateArcs.{longer}
use Rattle.helix_automata.proofs.Explored.{Made}

module _ {S : Type 0} (IsState : S → Type 0) (Words : S → List ℕ → Type 0) (start : S) (states more : List S)
    (moves new_moves : List (List Arc)) (flags new_flags : List Bool) (done : ℕ)
    (state : S) (row : List Arc) (flag : Bool) (made : Made IsState Words start states moves flags done)
    (at : slice_get states done ≡ Some state)
    (keeps : KeepTheirNumbers states more) (are : AreStates IsState more)
    (arcs : AreStateArcs Words states done more row) (moves_are : new_moves ≡ moves ++ row ∷ [])
    (flag_is : (flag ≡ true) ↔ Words state []) (flags_are : new_flags ≡ flags ++ flag ∷ []) where
  in_states : (k : ℕ) (s : S) → k ≤ done → slice_get more k ≡ Some s → slice_get states k ≡ Some s
  in_states k s low is =
      let within : k < length states = (let w = slice_get_within states done state at in omega (arith, w, low)) in
      let here = slice_get-get_or states k s within in
      here ∙ (sym (keeps k (get_or states k s) here) ∙ is)

  widened : (k : ℕ) (s : S) → AreArcsOf Words s states (get_or moves k []) → AreArcsOf Words s more (get_or moves k [])
  widened k s are_of = record {
    shape = record {
      in_order = are_of.shape.in_order;
      lead_on = are_of.shape.lead_on;
      used = are_of.shape.used;
      named = λ j d below. longer states more (get_or (get_or moves k []) j d).to s keeps
          (are_of.shape.named j d below);
    };
    leads = λ code character. let leads = are_of.leads code character in record {
      number = leads.number;
      next = leads.next;
      is_number = leads.is_number;
      is_next = keeps leads.number leads.next leads.is_next;
      leads = leads.leads;
    };
  }

  last_row : (s : S) → state ≡ s → AreArcsOf Words s more (get_or new_moves done [])
  last_row s is = subst (λ r. AreArcsOf Words s more r)
      (sym (ap (λ l. get_or l done []) moves_are
      ∙ (ap (λ k. get_or (moves ++ row ∷ []) k []) (sym made.moves_are) ∙ get_or-append_seam moves row [] [])))
      (arcs s (at ∙ ap (λ t. Some t) is))

  last_flag : (s : S) → state ≡ s → (slice_get new_flags done ≡ Some true) ↔ Words s []
  last_flag s is =
      let long : done < length (flags ++ flag ∷ []) = omega (arith, length-append flags (flag ∷ []), made.flags_are) in
      let has : slice_get new_flags done ≡ Some flag = ap (λ l. slice_get l done) flags_are
      ∙ (slice_get-get_or (flags ++ flag ∷ []) done true long
      ∙ ap (λ b. Some b) (ap (λ k. get_or (flags ++ flag ∷ []) k true) (sym made.flags_are)
      ∙ get_or-append_seam flags flag [] true)) in
      subst (λ q. (slice_get new_flags done ≡ Some true) ↔ Words q []) is
      ((λ e. flag_is.0 (same_Some flag true (sym has ∙ e))), (λ e. has ∙ ap (λ b. Some b) (flag_is.1 e)))

  old_row : (k : ℕ) (s : S) → k < done → slice_get states k ≡ Some s → AreArcsOf Words s more (get_or new_moves k [])
  old_row k s less is = subst (λ r. AreArcsOf Words s more r)
      (sym (ap (λ l. get_or l k []) moves_are
      ∙ get_or_append_left moves (row ∷ []) [] k (omega (arith, less, made.moves_are))))
      (widened k s (made.rows k s less is))

  old_flag : (k : ℕ) (s : S) → k < done → slice_get states k ≡ Some s → (slice_get new_flags k ≡ Some true) ↔ Words s []
  old_flag k s less is =
      let here : k < length flags = omega (arith, less, made.flags_are) in
      let long : k < length (flags ++ flag ∷ []) = omega (arith, length-append flags (flag ∷ []), here) in
      let same : slice_get new_flags k ≡ slice_get flags k = ap (λ l. slice_get l k) flags_are
      ∙ (slice_get-get_or (flags ++ flag ∷ []) k true long
      ∙ (ap (λ b. Some b) (get_or_append_left flags (flag ∷ []) true k here)
      ∙ sym (slice_get-get_or flags k true here))) in
      let old = made.ends k s less is in ((λ e. old.0 (sym same ∙ e)), (λ e. same ∙ old.1 e))

  by_index : {P : Type 0} (k : ℕ) → k < done + 1 → (k < done → P) → (k ≡ done → P) → P
  by_index k below f g = elim (cases_lt k done) [ inl less ↦ f less | inr above ↦ g (omega (arith, above, below)) ]

  here_is : (k : ℕ) (s : S) → k ≡ done → slice_get more k ≡ Some s → state ≡ s
  here_is k s same is =
      same_Some state s (sym at
      ∙ subst (λ j. slice_get states j ≡ Some s) same (in_states k s (omega (arith, same)) is))

  pub made_more : Made IsState Words start more new_moves new_flags (done + 1)
  made_more = record {
    moves_are = ap length moves_are ∙ (length-append moves (row ∷ []) ∙ ap (λ n. n + 1) made.moves_are);
    flags_are = ap length flags_are ∙ (length-append flags (flag ∷ []) ∙ ap (λ n. n + 1) made.flags_are);
    within = let w = slice_get_within more done state (keeps done state at) in omega (arith, w);
    first = made.first;
    is_first = keeps 0 made.first made.is_first;
    same = made.same;
    are = are;
    rows = λ k s below is. by_index k below (λ less. old_row k s less (in_states k s (omega (arith, less)) is))
        (λ same. subst (λ j. AreArcsOf Words s more (get_or new_moves j [])) (sym same)
        (last_row s (here_is k s same is)));
    ends = λ k s below is. by_index k below (λ less. old_flag k s less (in_states k s (omega (arith, less)) is))
        (λ same. subst (λ j. (slice_get new_flags j ≡ Some true) ↔ Words s []) (sym same)
        (last_flag s (here_is k s same is)));
  }
