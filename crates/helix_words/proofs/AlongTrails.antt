-- Trails: the states along a word.
use Rattle.std.proofs.Common.{◌≡◌, ◌⊎◌, inl, inr, ℕ, zero, suc, ◌+◌, ◌-◌, ◌<◌, ◌≤◌, List, [], ◌∷◌, ◌++◌, length, slice_index, take, refl, sym, ap, ◌∙◌, subst, arith, append_assoc, append-nil, length-append}
use Rattle.std.proofs.lemmas.Bool.{cases_lt}
use Rattle.std.proofs.lemmas.List.{get_or_append_left, get_or_push, length_push, get_or-take, length-take-le, take_more}
use Rattle.helix_automata.specs.Automaton.{Automaton, Leads}
use Rattle.helix_automata.specs.Shape.{IsWellFormed}
use Rattle.helix_words.specs.declared.step.Step.{Step}
use Rattle.helix_words.specs.Trails.{Along, AreAlong}
use Rattle.helix_words.specs.Inner.Paths.{LeadsAlong}
use Rattle.helix_words.specs.Inner.Rests.{HasRest, IsLeastStep}
use Rattle.helix_words.specs.Inner.Fills.{Extends}
use Rattle.helix_words.proofs.Paths.{along_more, target_within}
use Rattle.helix_words.proofs.Fillings.{IsBegun, begun_none, begun_more, begun_all}

module _ (automaton : Automaton) where
  -- the empty word
  pub along_none : AreAlong automaton [] (0 ∷ [])
  along_none = record { start = refl; as_many = refl; each = λ place less. absurd (omega (arith, less)) }

  module _ (word states : List ℕ) (along : AreAlong automaton word states) where
    -- one more character
    pub along_push : (code to : ℕ) → Leads automaton (slice_index states (length word)) code to
        → AreAlong automaton (word ++ code ∷ []) (states ++ to ∷ [])
    along_push code to leads = record {
      start = get_or_append_left states (to ∷ []) 0 0 (omega (arith, along.as_many)) ∙ along.start;
      as_many = omega (arith, length_push states to, length_push word code, along.as_many);
      each = λ place less. by place (omega (arith, less, length_push word code)) (cases_lt place (length word));
    }
      where
        by : (place : ℕ) → place ≤ length word → (place < length word) ⊎ (length word ≤ place)
            → Leads automaton (slice_index (states ++ to ∷ []) place) (slice_index (word ++ code ∷ []) place)
            (slice_index (states ++ to ∷ []) (place + 1))
        by place low (inl before) =
            rw (
              get_or_append_left states (to ∷ []) 0 place (omega (arith, along.as_many, low)),
              get_or_append_left word (code ∷ []) 0 place before,
              get_or_append_left states (to ∷ []) 0 (place + 1) (omega (arith, along.as_many, before)),
            ) (along.each place before)
        by place low (inr end) =
            let is : length word ≡ place = omega (arith, low, end) in
            rw (
              get_or_append_left states (to ∷ []) 0 place (omega (arith, along.as_many, low)),
              get_or_push word code 0 place is,
              get_or_push states to 0 (place + 1) (omega (arith, along.as_many, is)),
            ) (subst (λ n. Leads automaton (slice_index states n) code to) is leads)

    -- the first characters
    pub along_take : (count : ℕ) → count ≤ length word → AreAlong automaton (take count word) (take (count + 1) states)
    along_take count low = record {
      start = get_or-take (count + 1) states 0 0 (omega arith) ∙ along.start;
      as_many = omega (
        arith,
        length-take-le count word low,
        length-take-le (count + 1) states
            (omega (arith, along.as_many, low)),
      );
      each = λ place less.
          let here : place < count = omega (arith, less, length-take-le count word low) in
          rw (
            get_or-take (count + 1) states place 0 (omega (arith, here)),
            get_or-take count word place 0 here,
            get_or-take (count + 1) states (place + 1) 0 (omega (arith, here)),
          ) (along.each place (omega (arith, here, low)));
    }

    -- a prefix leads to the state there
    pub along_path : (count : ℕ) → count ≤ length word
        → LeadsAlong automaton 0 (take count word) (slice_index states count)
    along_path zero low = sym along.start
    along_path (suc count) low =
        let more : suc count ≡ count + 1 = omega arith in
        subst (λ n. LeadsAlong automaton 0 (take n word) (slice_index states n)) (sym more)
        (subst (λ l. LeadsAlong automaton 0 l (slice_index states (count + 1)))
        (sym (take_more word count 0 (omega (arith, low))))
        (along_more automaton (take count word) (slice_index word count) 0 (slice_index states count)
        (slice_index states (count + 1)) (along_path count (omega (arith, low)))
        (along.each count (omega (arith, low)))))

    pub along_within : IsWellFormed automaton → (count : ℕ) → count ≤ length word
        → slice_index states count < length automaton.moves
    along_within form zero low = omega (arith, form.some, along.start)
    along_within form (suc count) low =
        let more : suc count ≡ count + 1 = omega arith in
        subst (λ n. slice_index states n < length automaton.moves) (sym more)
        (target_within automaton form (slice_index states count) (slice_index word count)
        (slice_index states (count + 1))
        (along_within form count (omega (arith, low))) (along.each count (omega (arith, low))))

-- a trail in which a rest is begun
pub record TrailBegun (automaton : Automaton) (count done state : ℕ) (old new : Along) : Type 0 where
  pub so_far : List ℕ
  pub word : new.word ≡ old.word ++ so_far
  pub along : AreAlong automaton new.word new.states
  pub is_state : state ≡ slice_index new.states (length new.word)
  pub room : new.room ≡ old.room
  pub begun : IsBegun automaton (slice_index old.states (length old.word)) count done state so_far

module _ (automaton : Automaton) (count : ℕ) (old : Along) where
  pub trail_none : slice_index old.states (length old.word) < length automaton.moves
      → AreAlong automaton old.word old.states
      → HasRest automaton (slice_index old.states (length old.word)) count → (state : ℕ)
      → state ≡ slice_index old.states (length old.word) → TrailBegun automaton count 0 state old old
  trail_none within along rest state is = record {
    so_far = [];
    word = sym (append-nil old.word);
    along = along;
    is_state = is;
    room = refl;
    begun = subst (λ s. IsBegun automaton (slice_index old.states (length old.word)) count 0 s []) (sym is)
        (begun_none automaton _ count within rest);
  }

  module _ (done state : ℕ) (new : Along) (begun : TrailBegun automaton count done state old new) where
    pub trail_room : length old.word + count ≤ old.room → done < count → length new.word < new.room
    trail_room room less = omega
        (arith, ap length begun.word, length-append old.word begun.so_far, begun.begun.long, begun.room, room, less)

    pub trail_more : (step : Step) → done < count → IsLeastStep automaton state 0 (count - done - 1) step
        → step.to < length automaton.moves
        → TrailBegun automaton count (done + 1) step.to old (record {
          word = new.word ++ step.character ∷ [];
          states = new.states ++ step.to ∷ [];
          room = new.room;
        })
    trail_more step less least within = record {
      so_far = begun.so_far ++ step.character ∷ [];
      word = ap (λ l. l ++ step.character ∷ []) begun.word ∙ append_assoc old.word begun.so_far (step.character ∷ []);
      along = along_push automaton new.word new.states begun.along step.character step.to
          (subst (λ s. Leads automaton s step.character step.to) begun.is_state least.goes_on.leads);
      is_state = sym (get_or_push new.states step.to 0 (length (new.word ++ step.character ∷ []))
          (omega (arith, length_push new.word step.character, begun.along.as_many)));
      room = begun.room;
      begun = begun_more automaton _ count done state begun.so_far begun.begun step less least within;
    }

    pub trail_all : count ≤ done → Extends automaton count old new
    trail_all past = record {
      rest = begun.so_far;
      is_least = begun_all automaton _ count done state begun.so_far begun.begun past;
      word = begun.word;
      along = begun.along;
      room = begun.room;
    }
