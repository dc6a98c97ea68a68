-- Rests of a state, by their first characters.
use Rattle.std.proofs.Common.{◌≡◌, inl, inr, ℕ, ◌+◌, ◌≤◌, List, [], ◌∷◌, refl, sym, ◌∙◌, subst, arith}
use Rattle.std.proofs.lemmas.Bool.{cases_lt}
use Rattle.std.proofs.lemmas.List.{nil_from_length}
use Rattle.std.proofs.lemmas.List.Elements.{All-cons, All-head, All-tail}
use Rattle.helix_automata.specs.Automaton.{Automaton, Leads}
use Rattle.helix_automata.specs.Shape.{IsCharacter}
use Rattle.helix_words.specs.declared.step.Step.{Step}
use Rattle.helix_words.specs.Inner.Rests.{IsBefore, IsRest, HasRest, IsLeastRest, LeadsToRest, IsLeastStep}
use Rattle.helix_words.proofs.Order.{not_itself, not_both, smaller_first, same_first}
use Rattle.helix_words.proofs.Paths.{leads_once}

module _ (automaton : Automaton) where
  -- a step and a rest after it
  pub rest_after : (state count : ℕ) (step : Step) (rest : List ℕ) → LeadsToRest automaton state count step
      → IsRest automaton step.to count rest → IsRest automaton state (count + 1) (step.character ∷ rest)
  rest_after state count step rest goes is = record {
    characters = All-cons IsCharacter step.character rest goes.is_character is.characters;
    long = omega (arith, is.long);
    accepted = (step.to, goes.leads, is.accepted);
  }

  -- a rest by its first character
  pub record Begins (state count : ℕ) (rest : List ℕ) : Type 0 where
    pub step : Step
    pub tail : List ℕ
    pub is : rest ≡ step.character ∷ tail
    pub goes_on : LeadsToRest automaton state count step
    pub is_rest : IsRest automaton step.to count tail

  pub begins : (state count : ℕ) (rest : List ℕ) → IsRest automaton state (count + 1) rest → Begins state count rest
  begins state count [] is = absurd (omega (arith, is.long))
  begins state count (code ∷ tail) is =
      let next : ℕ = is.accepted.0 in
      let tail_is : IsRest automaton next count tail = record {
        characters = All-tail IsCharacter code tail is.characters;
        long = omega (arith, is.long);
        accepted = is.accepted.2;
      } in
      record {
        step = record { character = code; to = next };
        tail = tail;
        is = refl;
        goes_on = record {
          is_character = All-head IsCharacter code tail is.characters;
          leads = is.accepted.1;
          has_rest = (tail, tail_is);
        };
        is_rest = tail_is;
      }

  -- the least rest after the least step is the least rest
  pub least_after : (state count : ℕ) (step : Step) (rest : List ℕ) → IsLeastStep automaton state 0 count step
      → IsLeastRest automaton step.to count rest → IsLeastRest automaton state (count + 1) (step.character ∷ rest)
  least_after state count step rest least is = record {
    is_rest = rest_after state count step rest least.goes_on is.is_rest;
    least = λ other other_is before.
        let b = begins state count other other_is in
        by b.step b.tail b.goes_on b.is_rest (subst (λ l. IsBefore l (step.character ∷ rest)) b.is before);
  }
    where
      by : (first : Step) (tail : List ℕ) → LeadsToRest automaton state count first
          → IsRest automaton first.to count tail
          → ¬ (IsBefore (first.character ∷ tail) (step.character ∷ rest))
      by first tail goes tail_is before =
          let low : step.character ≤ first.character = least.least first goes (omega arith) in
          elim (cases_lt step.character first.character) [
            | inl less ↦ not_both (step.character ∷ rest) (first.character ∷ tail)
                (smaller_first step.character first.character rest tail less) before
            | inr high ↦ (let same : first.character ≡ step.character = omega (arith, low, high) in
                let to : first.to ≡ step.to = leads_once automaton state step.character first.to step.to
                (subst (λ c. Leads automaton state c first.to) same goes.leads) least.goes_on.leads in
                is.least tail (subst (λ s. IsRest automaton s count tail) to tail_is)
                (sym (same_first step.character tail rest)
                ∙ subst (λ c. IsBefore (c ∷ tail) (step.character ∷ rest)) same before))
          ]

  -- the rest of no character
  pub least_nil : (state : ℕ) → HasRest automaton state 0 → IsLeastRest automaton state 0 []
  least_nil state (rest, is) =
      let none : rest ≡ [] = nil_from_length rest is.long in record {
        is_rest = subst (IsRest automaton state 0) none is;
        least = λ other other_is before.
            not_itself [] (subst (λ l. IsBefore l []) (nil_from_length other other_is.long) before);
      }
