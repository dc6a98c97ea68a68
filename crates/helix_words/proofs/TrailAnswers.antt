-- Least rests and branches in trails are least words.
use Rattle.std.proofs.Common.{◌≡◌, ℕ, ◌+◌, ◌-◌, ◌≤◌, Bool, true, false, List, [], ◌∷◌, ◌++◌, length, take, slice_index, sym, ap, ◌∙◌, subst, arith, append_assoc}
use Rattle.std.proofs.lemmas.Bool.{true≢false}
use Rattle.std.proofs.lemmas.List.{get_or_push, get_or-take, length_push, length-take-le}
use Rattle.helix_automata.specs.Automaton.{Automaton, Leads}
use Rattle.helix_words.specs.declared.step.Branch.{Branch}
use Rattle.helix_words.specs.Words.{WordSet, IsWord, IsLeastWord, HasRoomFor}
use Rattle.helix_words.specs.Trails.{Along, AreAlong, IsAlong, HoldsLeast, IsTrailAnswer, IsWordAbove}
use Rattle.helix_words.specs.Inner.Rests.{IsRest, IsLeastRest}
use Rattle.helix_words.specs.Inner.Tables.{IsLengthOf, IsLengthFrom}
use Rattle.helix_words.specs.Inner.Walks.{IsAbove, IsLeastAbove, IsLeastBranch}
use Rattle.helix_words.specs.Inner.Fills.{Extends, TakesLeastAbove, IsLongFrom, IsAlikeFrom}
use Rattle.helix_words.proofs.Paths.{along_once}
use Rattle.helix_words.proofs.AlongTrails.{along_push, along_take, along_path}
use Rattle.helix_words.proofs.Answers.{word_of_rest, long_least, length_of_word, branch_least, branch_none, alike_first, longer_least, longer}

-- the empty word in the room of a trail
abbrev pub cleared : Along → Along
cleared trail = record { word = []; states = 0 ∷ []; room = trail.room }

module _ (words : WordSet) where
  -- the least word of the least length
  pub starts_least : (from count : ℕ) (old new : Along) → IsLengthFrom words from count
      → Extends words.automaton count (cleared old) new → HoldsLeast words (IsLongFrom from) old new
  starts_least from count old new least extends =
      let is_least : IsLeastWord words (IsLongFrom from) new.word =
      subst (IsLeastWord words (IsLongFrom from)) (sym extends.word)
      (long_least words from count extends.rest least extends.is_least) in record {
        along = record { is_word = is_least.is_word; along = extends.along };
        room = extends.room;
        is_least = is_least;
      }

  -- there is room for it
  pub starts_in_room : (count room : ℕ) → IsLengthOf words count → HasRoomFor words room → count ≤ room
  starts_in_room count room allowed has_room =
      let (word, is) = allowed.has_rest in
      let low = has_room word (word_of_rest words count word allowed is) in omega (arith, low, is.long)

  module _ (old : Along) (along : IsAlong words old) where
    not_equal : ¬ ((true ≡ false) × IsRest words.automaton 0 (length old.word) old.word)
    not_equal both = true≢false both.0

    -- the least word of the same length above
    pub takes_least : (new : Along) → TakesLeastAbove words.automaton old new
        → HoldsLeast words (IsWordAbove old.word) old new
    takes_least new takes =
        let is_least : IsLeastWord words (IsWordAbove old.word) new.word =
        alike_first words true old.word new.word
        (branch_least words old.word (length_of_word words old.word along.is_word) true not_equal new.word
        takes.is_least) in record {
          along = record { is_word = is_least.is_word; along = takes.along };
          room = takes.room;
          is_least = is_least;
        }

    -- where there is none, a longer word
    pub goes_longer : ((other : List ℕ) → ¬ (IsAbove words.automaton old.word other)) → (found : Bool) (new : Along)
        → IsTrailAnswer words (IsLongFrom (length old.word + 1)) found old new
        → IsTrailAnswer words (IsWordAbove old.word) found old new
    goes_longer none found new answer = by found answer
      where
        no_alike : (word : List ℕ) → IsWord words word → ¬ (IsAlikeFrom true old.word word)
        no_alike = branch_none words old.word (length_of_word words old.word along.is_word) true not_equal none

        by : (found : Bool) → IsTrailAnswer words (IsLongFrom (length old.word + 1)) found old new
            → IsTrailAnswer words (IsWordAbove old.word) found old new
        by true holds = record {
          along = holds.along;
          room = holds.room;
          is_least = longer_least words true old.word no_alike new.word holds.is_least;
        }
        by false (stays, nothing) =
            (stays, (λ word is above. nothing word is (longer words true old.word no_alike word is above)))

module _ (automaton : Automaton) (old : Along) (along : AreAlong automaton old.word old.states) (branch : Branch)
    (is : IsLeastBranch automaton old.word branch) where
  -- the trail up to the branch, and its step
  abbrev pub turned : Along
  turned = record {
    word = take branch.place old.word ++ branch.step.character ∷ [];
    states = take (branch.place + 1) old.states ++ branch.step.to ∷ [];
    room = old.room;
  }

  prefix_long : length (take branch.place old.word) ≡ branch.place
  prefix_long = length-take-le branch.place old.word (omega (arith, is.steps_off.within))

  state_there : is.steps_off.state ≡ slice_index old.states branch.place
  state_there = along_once automaton (take branch.place old.word) 0 is.steps_off.state
      (slice_index old.states branch.place)
      is.steps_off.reached (along_path automaton old.word old.states along branch.place
      (omega (arith, is.steps_off.within)))

  pub turned_along : AreAlong automaton (take branch.place old.word ++ branch.step.character ∷ [])
      (take (branch.place + 1) old.states ++ branch.step.to ∷ [])
  turned_along =
      along_push automaton (take branch.place old.word) (take (branch.place + 1) old.states)
      (along_take automaton old.word old.states along branch.place (omega (arith, is.steps_off.within)))
      branch.step.character branch.step.to
      (subst (λ n. Leads automaton (slice_index (take (branch.place + 1) old.states) n) branch.step.character
      branch.step.to)
      (sym prefix_long)
      (subst (λ s. Leads automaton s branch.step.character branch.step.to)
      (state_there ∙ sym (get_or-take (branch.place + 1) old.states branch.place 0 (omega arith)))
      is.steps_off.goes_on.leads))

  pub turned_state : slice_index (take (branch.place + 1) old.states ++ branch.step.to ∷ [])
      (length (take branch.place old.word ++ branch.step.character ∷ [])) ≡ branch.step.to
  turned_state = get_or_push (take (branch.place + 1) old.states) branch.step.to 0
      (length (take branch.place old.word ++ branch.step.character ∷ []))
      (length-take-le (branch.place + 1) old.states (omega (arith, along.as_many, is.steps_off.within))
      ∙ sym (length_push (take branch.place old.word) branch.step.character ∙ ap (λ n. n + 1) prefix_long))

  pub turned_length : length (take branch.place old.word ++ branch.step.character ∷ []) ≡ branch.place + 1
  turned_length = length_push (take branch.place old.word) branch.step.character ∙ ap (λ n. n + 1) prefix_long

  pub turned_least : (new : Along) → Extends automaton (length old.word - branch.place - 1) turned new
      → TakesLeastAbove automaton old new
  turned_least new extends = record {
    is_least = subst (IsLeastAbove automaton old.word)
        (sym (extends.word ∙ append_assoc (take branch.place old.word) (branch.step.character ∷ []) extends.rest))
        (is.least extends.rest (subst (λ s. IsLeastRest automaton s (length old.word - branch.place - 1) extends.rest)
        turned_state extends.is_least));
    along = extends.along;
    room = extends.room;
  }
