-- Where a greater word of the same length branches off.
use Rattle.std.proofs.Common.{◌≡◌, inl, inr, ℕ, ◌+◌, ◌-◌, ◌<◌, ◌≤◌, List, ◌∷◌, ◌++◌, length, take, drop, get_or, All, Option, Some, None, sym, ap, ◌∙◌, subst, arith, length-append, length-drop}
use Rattle.std.proofs.lemmas.Bool.{cases_lt}
use Rattle.std.proofs.lemmas.List.{take-append-drop, take_all, drop_more, length-take-le}
use Rattle.std.proofs.lemmas.List.Elements.{All-append, All-drop}
use Rattle.helix_automata.specs.Automaton.{Automaton, AcceptsFrom, Leads}
use Rattle.helix_automata.specs.Shape.{IsCharacter}
use Rattle.helix_words.specs.declared.step.Step.{Step}
use Rattle.helix_words.specs.declared.step.Branch.{Branch}
use Rattle.helix_words.specs.Inner.Paths.{LeadsAlong}
use Rattle.helix_words.specs.Inner.Rests.{IsBefore, IsRest, IsLeastRest, LeadsToRest, IsLeastStep}
use Rattle.helix_words.specs.Inner.Walks.{IsAbove, IsBranchBefore, IsBranchUpTo, IsBranchOf}
use Rattle.helix_words.proofs.Order.{cmp_prefix, cmp_append, not_itself, not_both, smaller_first, same_first, split_at, Differs, earlier, here, later, differs, then_less}
use Rattle.helix_words.proofs.Paths.{leads_once, accepted_after, accepted_along}
use Rattle.helix_words.proofs.Rests.{begins, rest_after}

module _ (automaton : Automaton) (word : List ℕ) where
  -- a word that begins as the word does takes a step from the state there
  pub record Through (place state : ℕ) (other : List ℕ) : Type 0 where
    pub step : Step
    pub tail : List ℕ
    pub is : other ≡ take place word ++ step.character ∷ tail
    pub character : get_or other place 0 ≡ step.character
    pub goes_on : LeadsToRest automaton state (length word - place - 1) step
    pub is_rest : IsRest automaton step.to (length word - place - 1) tail

  pub through : (place state : ℕ) (other : List ℕ) → place < length word
      → LeadsAlong automaton 0 (take place word) state
      → IsRest automaton 0 (length word) other → take place other ≡ take place word → Through place state other
  through place state other within path is same =
      let split : other ≡ take place word ++ drop place other =
      sym (take-append-drop place other) ∙ ap (λ l. l ++ drop place other) same in
      let left : length (drop place other) ≡ (length word - place - 1) + 1 =
      omega (arith, length-drop place other, is.long, within) in
      let rest : IsRest automaton state ((length word - place - 1) + 1) (drop place other) = record {
        characters = All-drop IsCharacter place other is.characters;
        long = left;
        accepted = accepted_after automaton (take place word) (drop place other) 0 state path
            (subst (AcceptsFrom automaton 0) split is.accepted);
      } in
      let b = begins automaton state (length word - place - 1) (drop place other) rest in
      let first : get_or other place 0 ∷ drop (place + 1) other ≡ b.step.character ∷ b.tail =
      sym (drop_more other place 0 (omega (arith, is.long, within))) ∙ b.is in
      record {
        step = b.step;
        tail = b.tail;
        is = split ∙ ap (λ l. take place word ++ l) b.is;
        character = cc;
        goes_on = b.goes_on;
        is_rest = b.is_rest;
      }

  module _ (place state : ℕ) (within : place < length word) (path : LeadsAlong automaton 0 (take place word) state)
    where
      -- no character above the one at the place leads on
      abbrev pub NoneAbove : Type 0
      NoneAbove = (other : Step) → LeadsToRest automaton state (length word - place - 1) other
          → ¬ (get_or word place 0 + 1 ≤ other.character)

      -- then a word above differs before the place, or begins as the word does beyond it
      pub differs_before : NoneAbove → (other : List ℕ) → IsAbove automaton word other
          → take place other ≡ take place word → take (place + 1) other ≡ take (place + 1) word
      differs_before none other above same = by (differs word other place above.is_rest.long within above.above)
        where
          by : Differs word other place → take (place + 1) other ≡ take (place + 1) word
          by (earlier before) = absurd (not_itself (take place word) (subst (λ l. IsBefore (take place word) l) same
              before))
          by (here alike less) =
              let t = through place state other within path above.is_rest same in
              absurd (none t.step t.goes_on (omega (arith, less, t.character)))
          by (later alike on) = on

      -- the branch stays the deepest
      pub branch_stays : NoneAbove → (branch : Option Branch) → IsBranchUpTo automaton word place branch
          → IsBranchUpTo automaton word (place + 1) branch
      branch_stays none None up_to = λ other above. differs_before none other above (up_to other above)
      branch_stays none (Some branch) up_to = record {
        steps_off = up_to.steps_off;
        least = λ rest is. let off = up_to.least rest is in record {
          is_above = off.is_above;
          least = λ third above apart. off.least third above (λ same. apart (differs_before none third above same));
        };
      }

      -- a character above leads on
      module _ (characters : All IsCharacter (take place word)) (step : Step)
          (least : IsLeastStep automaton state (get_or word place 0 + 1) (length word - place - 1) step) where
        here_branch : Branch
        here_branch = record { place = place; step = step }

        module _ (rest : List ℕ) (is : IsLeastRest automaton step.to (length word - place - 1) rest) where
          branched : List ℕ
          branched = take place word ++ step.character ∷ rest

          long_prefix : length (take place word) ≡ place
          long_prefix = length-take-le place word (omega (arith, within))

          above_word : IsAbove automaton word (take place word ++ step.character ∷ rest)
          above_word =
              let after = rest_after automaton state (length word - place - 1) step rest least.goes_on is.is_rest in
              record {
                is_rest = record {
                  characters = All-append IsCharacter (take place word) (step.character ∷ rest) characters
                      after.characters;
                  long = omega
                      (arith, length-append (take place word) (step.character ∷ rest), long_prefix, after.long, within);
                  accepted = accepted_along automaton (take place word) (step.character ∷ rest) 0 state path
                      after.accepted;
                };
                above = subst (λ l. IsBefore l (take place word ++ step.character ∷ rest))
                    (sym (split_at word place within))
                    (cmp_prefix (take place word) _ _ ∙ smaller_first (get_or word place 0) step.character _ rest
                    (omega (arith, least.reached)));
              }

          -- a word above that doesn't begin as the word does beyond the place isn't less
          not_less : (third : List ℕ) → IsAbove automaton word third
              → ¬ (take (place + 1) third ≡ take (place + 1) word)
              → ¬ (IsBefore third (take place word ++ step.character ∷ rest))
          not_less third above apart before = by (differs word third place above.is_rest.long within above.above)
            where
              by : Differs word third place → ⊥
              by (later alike on) = apart on
              by (earlier first) =
                  not_both (take place word ++ step.character ∷ rest) third
                  (subst (IsBefore (take place word ++ step.character ∷ rest)) (take-append-drop place third)
                  (cmp_append (take place word) (take place third) (step.character ∷ rest) (drop place third)
                  (long_prefix ∙ sym (length-take-le place third (omega (arith, above.is_rest.long, within))))
                  ∙ then_less _ _ first)) before
              by (here alike less) =
                  let t = through place state third within path above.is_rest alike in
                  let low : step.character ≤ t.step.character =
                  least.least t.step t.goes_on (omega (arith, less, t.character)) in
                  let tails : IsBefore (t.step.character ∷ t.tail) (step.character ∷ rest) =
                  sym (cmp_prefix (take place word) (t.step.character ∷ t.tail) (step.character ∷ rest))
                  ∙ subst (λ l. IsBefore l (take place word ++ step.character ∷ rest)) t.is before in
                  elim (cases_lt step.character t.step.character) [
                    | inl smaller ↦ not_both (step.character ∷ rest) (t.step.character ∷ t.tail)
                        (smaller_first step.character t.step.character rest t.tail smaller) tails
                    | inr high ↦ (let same : t.step.character ≡ step.character = omega (arith, low, high) in
                        let to : t.step.to ≡ step.to = leads_once automaton state step.character t.step.to step.to
                        (subst (λ c. Leads automaton state c t.step.to) same t.goes_on.leads) least.goes_on.leads in
                        is.least t.tail (subst (λ s. IsRest automaton s (length word - place - 1) t.tail) to t.is_rest)
                        (sym (same_first step.character t.tail rest)
                        ∙ subst (λ c. IsBefore (c ∷ t.tail) (step.character ∷ rest)) same tails))
                  ]

        pub branch_here : IsBranchBefore automaton word (place + 1) (record { place = place; step = step })
        branch_here = record {
          steps_off = record {
            within = within;
            state = state;
            reached = path;
            goes_on = least.goes_on;
            to_within
                = least.to_within;
          };
          least = λ rest is. record { is_above = above_word rest is; least = not_less rest is };
        }

  -- where no word above begins as the word does up to a place, the deepest branch before it gives the least of them
  pub branch_of : (place : ℕ) (branch : Option Branch)
      → ((other : List ℕ) → IsAbove automaton word other → ¬ (take place other ≡ take place word))
      → IsBranchUpTo automaton word place branch → IsBranchOf automaton word branch
  branch_of place None apart up_to = λ other above. apart other above (up_to other above)
  branch_of place (Some branch) apart up_to = record {
    steps_off = up_to.steps_off;
    least = λ rest is. let off = up_to.least rest is in record {
      is_above = off.is_above;
      least = λ third above. off.least third above (apart third above);
    };
  }

  -- no word above begins as the whole word
  pub apart_at_end : (other : List ℕ) → IsAbove automaton word other
      → ¬ (take (length word) other ≡ take (length word) word)
  apart_at_end other above same =
      let one : other ≡ word =
      sym (take_all (length word) other (omega (arith, above.is_rest.long)))
      ∙ same ∙ take_all (length word) word (omega arith) in
      not_itself word (subst (IsBefore word) one above.above)
