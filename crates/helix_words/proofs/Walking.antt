-- Walks along a word, one character after the other.
use Rattle.std.proofs.Common.{◌≡◌, ℕ, ◌+◌, ◌-◌, ◌<◌, true, false, List, [], length, take, get_or, All, Option, Some, None, MatchOption, refl, sym, ap, ◌∙◌, subst, arith, append-nil}
use Rattle.std.proofs.lemmas.List.{take_more, take_all, take-take, get_or-take, nil_from_length}
use Rattle.std.proofs.lemmas.List.Elements.{All-nil, All-more, All-take}
use Rattle.helix_automata.specs.Automaton.{Automaton, AcceptsFrom}
use Rattle.helix_automata.specs.Shape.{IsCharacter}
use Rattle.helix_words.specs.declared.step.Step.{Step}
use Rattle.helix_words.specs.declared.step.Branch.{Branch}
use Rattle.helix_words.specs.Inner.Paths.{LeadsAlong}
use Rattle.helix_words.specs.Inner.Rests.{IsRest, HasRest, LeadsToRest, IsStepFrom}
use Rattle.helix_words.specs.Inner.Walks.{IsAbove, IsBranchUpTo, IsBranchOf, IsWalkAlong}
use Rattle.helix_words.proofs.Paths.{along_more, accepted_along}
use Rattle.helix_words.proofs.Branching.{through, differs_before, branch_stays, branch_here, branch_of, apart_at_end}

-- the characters before a place lead to a state with a rest of the length that is left, and the deepest branch is known
pub record HasWalked (automaton : Automaton) (word : List ℕ) (place state : ℕ) (branch : Option Branch) : Type 0 where
  pub within : state < length automaton.moves
  pub path : LeadsAlong automaton 0 (take place word) state
  pub characters : All IsCharacter (take place word)
  pub has_rest : HasRest automaton state (length word - place)
  pub branches : IsBranchUpTo automaton word place branch

-- what begins alike up to a place does so before it, and has the same character there
alike_before : (one other : List ℕ) (place : ℕ) → take (place + 1) one ≡ take (place + 1) other
    → (take place one ≡ take place other) × (get_or one place 0 ≡ get_or other place 0)
alike_before one other place same = (
  sym (take-take place (place + 1) one (omega arith)) ∙ ap (take place) same
      ∙ take-take place (place + 1) other (omega arith),
  sym (get_or-take (place + 1) one place 0 (omega arith)) ∙ ap (λ l. get_or l place 0) same
      ∙ get_or-take (place + 1) other place 0 (omega arith),
)

module _ (automaton : Automaton) (word : List ℕ) where
  -- at the start
  pub walked_none : 0 < length automaton.moves → HasRest automaton 0 (length word)
      → HasWalked automaton word 0 0 None
  walked_none within rest =
      let all : length word ≡ length word - 0 = omega arith in record {
        within = within;
        path = refl;
        characters = All-nil IsCharacter;
        has_rest = subst (HasRest automaton 0) all rest;
        branches = λ other above. refl;
      }

  module _ (place state : ℕ) (branch deeper : Option Branch) (step : Option Step) (within : place < length word)
      (walked : HasWalked automaton word place state branch)
      (steps : IsStepFrom automaton state (get_or word place 0 + 1) (length word - place - 1) step)
      (picks : MatchOption step (deeper ≡ branch) (λ step. deeper ≡ Some (record { place = place; step = step }))) where
    -- the branch beyond the place
    pub branches_more : IsBranchUpTo automaton word (place + 1) deeper
    branches_more = by step steps picks
      where
        by : (step : Option Step) → IsStepFrom automaton state (get_or word place 0 + 1) (length word - place - 1) step
            → MatchOption step (deeper ≡ branch) (λ step. deeper ≡ Some (record { place = place; step = step }))
            → IsBranchUpTo automaton word (place + 1) deeper
        by None steps picks =
            subst (IsBranchUpTo automaton word (place + 1)) (sym picks)
            (branch_stays automaton word place state within walked.path steps.none branch walked.branches)
        by (Some step) steps picks =
            subst (IsBranchUpTo automaton word (place + 1)) (sym picks)
            (branch_here automaton word place state within walked.path walked.characters step steps.some)

    -- one more character
    pub walked_more : (next : ℕ) → LeadsToRest automaton state (length word - place - 1)
        (record { character = get_or word place 0; to = next }) → next < length automaton.moves
        → HasWalked automaton word (place + 1) next deeper
    walked_more next along next_within = record {
      within = next_within;
      path = subst (λ l. LeadsAlong automaton 0 l next) (sym (take_more word place 0 within))
          (along_more automaton (take place word) (get_or word place 0) 0 state next walked.path along.leads);
      characters = All-more IsCharacter word place 0 within walked.characters along.is_character;
      has_rest = (let left : length word - place - 1 ≡ length word - (place + 1) = omega arith in
          subst (HasRest automaton next) left along.has_rest);
      branches = branches_more;
    }

    -- the word doesn't lead on
    pub walked_stuck : ((to : ℕ) → ¬ (LeadsToRest automaton state (length word - place - 1)
        (record { character = get_or word place 0; to = to })))
        → IsWalkAlong automaton word (record { accepted = false; branch = deeper })
    walked_stuck stuck = record {
      accepted = ((λ is. cc), (λ is. absurd (no_word word is refl)));
      branch = branch_of automaton word (place + 1) deeper (λ other above. no_word other above.is_rest) branches_more;
    }
      where
        no_word : (other : List ℕ) → IsRest automaton 0 (length word) other
            → ¬ (take (place + 1) other ≡ take (place + 1) word)
        no_word other is same =
            let alike = alike_before other word place same in
            let t = through automaton word place state other within walked.path is alike.0 in
            let character : t.step.character ≡ get_or word place 0 = sym t.character ∙ alike.1 in
            stuck t.step.to (subst (λ c. LeadsToRest automaton state (length word - place - 1)
            (record { character = c; to = t.step.to })) character t.goes_on)

  -- the whole word
  pub walked_all : (place state : ℕ) (branch : Option Branch) → place ≡ length word
      → HasWalked automaton word place state branch
      → IsWalkAlong automaton word (record { accepted = true; branch = branch })
  walked_all place state branch end walked =
      let all : take place word ≡ word = take_all place word (omega (arith, end)) in
      let none : length word - place ≡ 0 = omega (arith, end) in
      let rest = subst (HasRest automaton state) none walked.has_rest in
      record {
        accepted = (
          (λ _. record {
            characters = subst (All IsCharacter) all walked.characters;
            long = refl;
            accepted = subst (AcceptsFrom automaton 0) (append-nil word)
                (accepted_along automaton word [] 0 state (subst (λ l. LeadsAlong automaton 0 l state) all walked.path)
                (subst (AcceptsFrom automaton state) (nil_from_length rest.0 rest.1.long) rest.1.accepted));
          }),
          (λ _. refl),
        );
        branch = branch_of automaton word (length word) branch (apart_at_end automaton word)
            (subst (λ n. IsBranchUpTo automaton word n branch) end walked.branches);
      }

-- going back along a trail: no word above begins as its word does up to a place
abbrev pub AreApart : Automaton → List ℕ → ℕ → Type 0
AreApart automaton word place = (other : List ℕ) → IsAbove automaton word other
    → ¬ (take place other ≡ take place word)

module _ (automaton : Automaton) (word : List ℕ) where
  pub apart_all : (place : ℕ) → place ≡ length word → AreApart automaton word place
  apart_all place end = subst (AreApart automaton word) (sym end) (apart_at_end automaton word)

  module _ (place state : ℕ) (within : place < length word) (path : LeadsAlong automaton 0 (take place word) state)
      (apart : AreApart automaton word (place + 1)) where
    -- no step at the place
    pub apart_more : IsStepFrom automaton state (get_or word place 0 + 1) (length word - place - 1) None
        → AreApart automaton word place
    apart_more steps other above same =
        apart other above (differs_before automaton word place state within path steps.none other above same)

    -- a step at the place
    pub apart_step : All IsCharacter word → (step : Step)
        → IsStepFrom automaton state (get_or word place 0 + 1) (length word - place - 1) (Some step)
        → IsBranchOf automaton word (Some (record { place = place; step = step }))
    apart_step characters step steps =
        branch_of automaton word (place + 1) (Some (record { place = place; step = step })) apart
        (branch_here automaton word place state within path (All-take IsCharacter place word characters) step
        steps.some)

  -- at the beginning
  pub apart_none : (place : ℕ) → place ≡ 0 → AreApart automaton word place → IsBranchOf automaton word None
  apart_none place at_start apart other above = subst (AreApart automaton word) at_start apart other above refl
