-- The regions that are alive at the level of a field.
use Rattle.std.proofs.Common.{◌≡◌, ℕ, zero, suc, ◌+◌, ◌<◌, Bool, true, false, List, [], ◌∷◌, ◌++◌, take, length, slice_index_or, refl, sym, ◌∙◌, ap, subst, arith}
use Rattle.std.proofs.lemmas.List.Elements.{Contains-push}
use Rattle.std.proofs.lemmas.List.{get_or-set_same}
use Rattle.std.specs.List.{Contains}
use Rattle.helix_rows.proofs.Asked.{least_same}
use Rattle.helix_rows.proofs.Found.{only_one}
use Rattle.helix_rows.proofs.Levels.{begins_fewer, up_to_is, earlier, before_same}
use Rattle.helix_rows.specs.Inner.Answers.{IsFoundIf}
use Rattle.helix_rows.specs.Inner.Levels.{part_at, level_of, part_of, before_of, OneIf, GoesOn, among_part, among_at, alive_at, AreAliveTo, IsAlive, IsLayout, IsLevel, Agree}
use Rattle.helix_rows.specs.Inner.Numbers.{Listed}
use Rattle.helix_rows.specs.Parts.{IsInPart}
use Rattle.helix_rows.specs.Regions.{cell_at, number_at, piece, Begins, Continues, IsAskedFor, IsLeastStep}
use Rattle.helix_rows.specs.declared.layout.Layout.{Layout}
use Rattle.helix_rows.specs.declared.layout.Level.{Level}
use Rattle.helix_rows.specs.declared.region.Question.{Question}
use Rattle.helix_values.specs.declared.cell.Cell.{Cell}

module _ (layout : Layout) (fields : ℕ) (is : IsLayout layout fields) (field : ℕ) (within : field < fields)
    (H : ℕ → List Cell → Type 0) (row : List Cell) (alive : List Listed)
    (are : AreAliveTo H layout row alive field) where
  level : IsLevel layout.parts field (level_of layout field)
  level = is.levels field within

  -- the regions of the part that begin with the row's earlier cells are among those that are alive, and only regions
  -- of the part
  IsAmong : List ℕ → Type 0
  IsAmong numbers = ((n : ℕ) → Contains (part_of layout field).regions n → Begins (H n) (before_of layout field row)
      → Contains numbers n) × ((n : ℕ) → Contains numbers n → Contains (part_of layout field).regions n)

  AliveAs : Level → ℕ → Type 0
  AliveAs at before = ((n : ℕ) → Contains (part_at layout.parts at.part).regions n
      → Begins (H n) (piece (take (at.position + 1) (part_at layout.parts at.part).fields) row)
      → Contains (alive_at alive before) n)
      × ((n : ℕ) → Contains (alive_at alive before) n → Contains (part_at layout.parts at.part).regions n)

  among_by : (position : ℕ) → (level_of layout field).position ≡ position
      → IsAmong (among_part (part_of layout field) alive position)
  unfolding level IsAmong AliveAs
  among_by zero at = ((λ n listed begun. listed), (λ n listed. listed))
  among_by (suc i) at =
      let less : i < (level_of layout field).position = omega (arith, at) in
      let before : ℕ = number_at (part_of layout field).fields i in
      let here : IsAlive H layout row before (alive_at alive before) = are before
      (earlier layout fields is field within i less) in
      let back : level_of layout before ≡ record { part = (level_of layout field).part; position = i } =
      is.back (level_of layout field).part i level.part (omega (arith, less, level.position)) in
      let there : AliveAs (record { part = (level_of layout field).part; position = i }) before =
      subst (λ at. AliveAs at before) back (here.all, here.only) in (
        (λ n listed begun. there.0 n listed (subst (λ count. Begins (H n)
            (piece (take count (part_of layout field).fields) row))
            (at ∙ omega arith) begun)),
        there.1,
      )

  pub among_all : (n : ℕ) → Contains (part_of layout field).regions n → Begins (H n) (before_of layout field row)
      → Contains (among_at layout alive field) n
  unfolding IsAmong
  among_all = (among_by (level_of layout field).position refl).0

  pub among_only : (n : ℕ) → Contains (among_at layout alive field) n → Contains (part_of layout field).regions n
  unfolding IsAmong
  among_only = (among_by (level_of layout field).position refl).1

  -- what the alive regions go on with is what all of the part do
  pub among_to : (c : Cell) → Continues (IsInPart H (among_at layout alive field)) (before_of layout field row) c
      → GoesOn H layout field row c
  among_to c goes = record {
    rest = goes.rest;
    has = record { number = goes.has.number; listed = among_only goes.has.number goes.has.listed; has = goes.has.has };
  }

  pub among_from : (c : Cell) → GoesOn H layout field row c
      → Continues (IsInPart H (among_at layout alive field)) (before_of layout field row) c
  among_from c goes = record {
    rest = goes.rest;
    has = record {
      number = goes.has.number;
      listed = among_all goes.has.number goes.has.listed
          (begins_fewer (H goes.has.number) (before_of layout field row) c
          (record { rest = goes.rest; has = goes.has.has }));
      has = goes.has.has;
    };
  }

  pub among_answer : (question : Question) (old new : Cell) (numbers : List ℕ) (yes : Bool)
      → (yes ≡ false → new ≡ old)
      → IsFoundIf H (among_at layout alive field) (before_of layout field row) (IsAskedFor question old) yes
      (record { numbers = numbers; cell = new }) → IsLeastStep (GoesOn H layout field row) question yes old new
  among_answer question old new numbers true stays found =
      least_same _ _ (IsAskedFor question old) new among_to among_from found.least
  among_answer question old new numbers false stays none =
      (stays refl, λ other goes. none other (among_from other goes))

  -- those that gave the cell are alive after it
  pub chosen_alive : (new : List Cell) (numbers : List ℕ) → Agree field new row
      → ((n : ℕ) → Contains (among_at layout alive field) n
      → Continues (H n) (before_of layout field row) (cell_at new field) → Contains numbers n)
      → ((n : ℕ) → Contains numbers n → Contains (among_at layout alive field) n)
      → IsAlive H layout new field numbers
  chosen_alive new numbers agree all only = record {
    all = λ n listed begun.
        let goes : Continues (H n) (before_of layout field row) (cell_at new field) =
        subst (λ cells. Begins (H n) cells) (up_to_is layout fields is field within new
        ∙ ap (λ cells. cells ++ cell_at new field ∷ []) (before_same layout fields is field within new row agree))
        begun in
        all n (among_all n listed (begins_fewer (H n) (before_of layout field row) (cell_at new field) goes)) goes;
    only = λ n listed. among_only n (only n listed);
  }

-- one region is alive
module _ (layout : Layout) (fields : ℕ) (is : IsLayout layout fields) (field : ℕ) (within : field < fields)
    (H : ℕ → List Cell → Type 0) (row : List Cell) (alive : List Listed)
    (are : AreAliveTo H layout row alive field) (number : ℕ) (one : among_at layout alive field ≡ number ∷ []) where
  pub the_one : (n : ℕ) → Contains (part_of layout field).regions n → Begins (H n) (before_of layout field row)
      → number ≡ n
  the_one n listed begun = only_one number n (subst (λ ns. Contains ns n) one
      (among_all layout fields is field within H row alive are n listed begun))

  pub one_listed : Contains (part_of layout field).regions number
  one_listed = among_only layout fields is field within H row alive are number
      (subst (λ ns. Contains ns number) (sym one) (Contains-push [] number))

  pub one_begun : Begins (IsInPart H (part_of layout field).regions) (before_of layout field row)
      → Begins (H number) (before_of layout field row)
  one_begun begun =
      let own : Begins (H begun.has.number) (before_of layout field row) =
      record { rest = begun.rest; has = begun.has.has } in
      subst (λ n. Begins (H n) (before_of layout field row))
      (sym (the_one begun.has.number begun.has.listed own)) own

  one_to : (c : Cell) → Continues (H number) (before_of layout field row) c → GoesOn H layout field row c
  one_to c goes = record { rest = goes.rest; has = record { number = number; listed = one_listed; has = goes.has } }

  one_from : (c : Cell) → GoesOn H layout field row c → Continues (H number) (before_of layout field row) c
  one_from c goes =
      let own : Continues (H goes.has.number) (before_of layout field row) c =
      record { rest = goes.rest; has = goes.has.has } in
      subst (λ n. Continues (H n) (before_of layout field row) c)
      (sym (the_one goes.has.number goes.has.listed
      (begins_fewer (H goes.has.number) (before_of layout field row) c own))) own

  pub one_answer : (question : Question) (yes : Bool) (old new : Cell)
      → IsLeastStep (Continues (H number) (before_of layout field row)) question yes old new
      → IsLeastStep (GoesOn H layout field row) question yes old new
  one_answer question true old new answer =
      least_same _ _ (IsAskedFor question old) new one_to one_from answer
  one_answer question false old new answer = (answer.0, λ other goes. answer.1 other (one_from other goes))

  pub one_alive : (new : List Cell) → Agree field new row → IsAlive H layout new field (number ∷ [])
  one_alive new agree =
      chosen_alive layout fields is field within H row alive are new (number ∷ []) agree
      (λ n listed goes. subst (λ ns. Contains ns n) one listed)
      (λ n listed. subst (λ ns. Contains ns n) (sym one) listed)

pub single : (ns : List ℕ) → length ns ≡ 1 → ns ≡ slice_index_or ns 0 0 ∷ []
single [] long = absurd (omega (arith, long))
single (n ∷ []) long = refl
single (n ∷ m ∷ ns) long = absurd (omega (arith, long))

pub chosen_one : (yes : Bool) (alive new : List Listed) (field number : ℕ) → field < length alive
    → new ≡ OneIf yes alive field number → yes ≡ true → alive_at new field ≡ number ∷ []
chosen_one true alive new field number within are is =
    ap (λ ls. alive_at ls field) are ∙ ap (λ l. l.items) (get_or-set_same alive field _ _ within)
chosen_one false alive new field number within are is = cc is
