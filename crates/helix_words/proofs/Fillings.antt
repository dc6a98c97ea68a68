-- The least rest of a state, one character after the other.
use Rattle.std.proofs.Common.{◌≡◌, ℕ, ◌+◌, ◌-◌, ◌<◌, ◌≤◌, List, [], ◌∷◌, ◌++◌, length, refl, sym, ap, ◌∙◌, subst, arith, append_assoc, append-nil, length-append}
use Rattle.std.proofs.lemmas.List.{length_push}
use Rattle.helix_automata.specs.Automaton.{Automaton}
use Rattle.helix_values.specs.declared.cell.Cell.{Cell}
use Rattle.helix_values.specs.declared.cell.Cell.TheVariants as cell
use Rattle.helix_values.specs.Slot.{HasRoom, lengthened}
use Rattle.helix_words.specs.declared.step.Step.{Step}
use Rattle.helix_words.specs.Inner.Rests.{HasRest, IsLeastRest, IsLeastStep}
use Rattle.helix_words.specs.Inner.Fills.{with_rest, HasRoomForMore, AddsLeast}
use Rattle.helix_words.proofs.Rests.{least_after, least_nil}

-- some characters lead from a start to a state, and with the least rest of what is left they are the least rest
pub record IsBegun (automaton : Automaton) (start count done state : ℕ) (so_far : List ℕ) : Type 0 where
  pub long : length so_far ≡ done
  pub within : state < length automaton.moves
  pub has_rest : HasRest automaton state (count - done)
  pub least : (rest : List ℕ) → IsLeastRest automaton state (count - done) rest
      → IsLeastRest automaton start count (so_far ++ rest)

module _ (automaton : Automaton) (start count : ℕ) where
  pub begun_none : start < length automaton.moves → HasRest automaton start count
      → IsBegun automaton start count 0 start []
  begun_none within rest =
      let all : count ≡ count - 0 = omega arith in record {
        long = refl;
        within = within;
        has_rest = subst (HasRest automaton start) all rest;
        least = λ rest is. subst (λ n. IsLeastRest automaton start n rest) (sym all) is;
      }

  module _ (done state : ℕ) (so_far : List ℕ) (begun : IsBegun automaton start count done state so_far) where
    -- one more character
    left : done < count → count - done ≡ (count - done - 1) + 1
    left less = omega (arith, less)

    pub rest_left : done < count → HasRest automaton state ((count - done - 1) + 1)
    rest_left less = subst (HasRest automaton state) (left less) begun.has_rest

    pub begun_more : (step : Step) → done < count → IsLeastStep automaton state 0 (count - done - 1) step
        → step.to < length automaton.moves
        → IsBegun automaton start count (done + 1) step.to (so_far ++ step.character ∷ [])
    begun_more step less least within =
        let next : count - done - 1 ≡ count - (done + 1) = omega arith in record {
          long = omega (arith, length_push so_far step.character, begun.long);
          within = within;
          has_rest = subst (HasRest automaton step.to) next least.goes_on.has_rest;
          least = λ rest is.
              subst (IsLeastRest automaton start count) (sym (append_assoc so_far (step.character ∷ []) rest))
              (begun.least (step.character ∷ rest)
              (subst (λ n. IsLeastRest automaton state n (step.character ∷ rest)) (sym (left less))
              (least_after automaton state (count - done - 1) step rest least
              (subst (λ n. IsLeastRest automaton step.to n rest) (sym next) is))));
        }

    -- the last one
    pub begun_all : count ≤ done → IsLeastRest automaton start count so_far
    begun_all past =
        let none : count - done ≡ 0 = omega (arith, past) in
        subst (IsLeastRest automaton start count) (append-nil so_far)
        (begun.least [] (subst (λ n. IsLeastRest automaton state n []) (sym none)
        (least_nil automaton state (subst (HasRest automaton state) none begun.has_rest))))

-- a slot in which a rest is begun
pub record SlotBegun (automaton : Automaton) (start count done state : ℕ) (old new : Cell) : Type 0 where
  pub so_far : List ℕ
  pub is : new ≡ with_rest old so_far
  pub begun : IsBegun automaton start count done state so_far

with_nil : (old : Cell) → old ≡ with_rest old []
with_nil (cell.Text characters) = ap cell.Text (sym (append-nil characters))
with_nil cell.Null = refl
with_nil (cell.Bool truth) = refl
with_nil (cell.Number units) = refl
with_nil (cell.Moment at) = refl

lengthened_rest : (old : Cell) (so_far : List ℕ) (code : ℕ)
    → lengthened (with_rest old so_far) code ≡ with_rest old (so_far ++ code ∷ [])
lengthened_rest (cell.Text characters) so_far code = ap cell.Text (append_assoc characters so_far (code ∷ []))
lengthened_rest cell.Null so_far code = refl
lengthened_rest (cell.Bool truth) so_far code = refl
lengthened_rest (cell.Number units) so_far code = refl
lengthened_rest (cell.Moment at) so_far code = refl

room_left : (old : Cell) (so_far : List ℕ) (count : ℕ) → HasRoomForMore count old → length so_far < count
    → HasRoom (with_rest old so_far)
room_left (cell.Text characters) so_far count room less = omega (arith, length-append characters so_far, room, less)
room_left cell.Null so_far count room less = room
room_left (cell.Bool truth) so_far count room less = room
room_left (cell.Number units) so_far count room less = room
room_left (cell.Moment at) so_far count room less = room

module _ (automaton : Automaton) (start count : ℕ) (old : Cell) where
  pub slot_none : start < length automaton.moves → HasRest automaton start count
      → SlotBegun automaton start count 0 start old old
  slot_none within rest = record {
    so_far = [];
    is = with_nil old;
    begun = begun_none automaton start count within
        rest;
  }

  module _ (done state : ℕ) (new : Cell) (begun : SlotBegun automaton start count done state old new) where
    pub slot_room : HasRoomForMore count old → done < count → HasRoom new
    slot_room room less =
        subst HasRoom (sym begun.is) (room_left old begun.so_far count room (omega (arith, begun.begun.long, less)))

    pub slot_more : (step : Step) → done < count → IsLeastStep automaton state 0 (count - done - 1) step
        → step.to < length automaton.moves
        → SlotBegun automaton start count (done + 1) step.to old (lengthened new step.character)
    slot_more step less least within = record {
      so_far = begun.so_far ++ step.character ∷ [];
      is = ap (λ c. lengthened c step.character) begun.is ∙ lengthened_rest old begun.so_far step.character;
      begun = begun_more automaton start count done state begun.so_far begun.begun step less least within;
    }

    pub slot_all : count ≤ done → AddsLeast automaton start count old new
    slot_all past = record {
      rest = begun.so_far;
      is_least = begun_all automaton start count done state begun.so_far begun.begun past;
      is = begun.is;
    }
