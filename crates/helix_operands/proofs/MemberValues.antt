-- The values that the members of a list give, one after the other.
use Rattle.std.proofs.Common.{◌≡◌, ℕ, zero, suc, ◌+◌, ◌<◌, List, [], ◌∷◌, ◌++◌, length, take, Some, None, slice_get, get_or, refl, sym, ◌∙◌, ap, subst}
use Rattle.std.proofs.lemmas.List.{take_more}
use Rattle.std.proofs.lemmas.Option.{slice_get_read}
use Rattle.helix_json.specs.declared.value.Json.{Json}
use Rattle.helix_operands.specs.Values.{AreValues, GivesValue}
use Rattle.helix_values.specs.declared.cell.Cell.{Cell}
use Rattle.helix_values.specs.declared.kind.Kind.{Kind}

module _ (kind : Kind) where
  one_more : (items : List Json) (values : List Cell) (item : Json) (value : Cell) → AreValues kind items values
      → GivesValue kind item value → AreValues kind (items ++ item ∷ []) (values ++ value ∷ [])
  one_more [] [] item value are gives = (gives, tt)
  one_more [] (first ∷ values) item value are gives = absurd are
  one_more (first ∷ items) [] item value are gives = absurd are
  one_more (first ∷ items) (given ∷ values) item value are gives =
      (are.0, one_more items values item value are.1 gives)

  pub next_value : (items : List Json) (values : List Cell) (i : ℕ) (item : Json) (value : Cell) → i < length items
      → item ≡ get_or items i item → AreValues kind (take i items) values → GivesValue kind item value
      → AreValues kind (take (i + 1) items) (values ++ value ∷ [])
  next_value items values i item value within read are gives =
      let more : take (i + 1) items ≡ take i items ++ item ∷ [] =
      take_more items i item within ∙ ap (λ j. take i items ++ j ∷ []) (sym read) in
      let P : List Json → Type 0 = λ l. AreValues kind l (values ++ value ∷ []) in
      subst P (sym more) (one_more (take i items) values item value are gives)

  value_at : (items : List Json) (values : List Cell) (i : ℕ) (item : Json) → AreValues kind items values
      → slice_get items i ≡ Some item → (value : Cell) × GivesValue kind item value
  value_at [] values i item are at = absurd (let none : None ≡ Some item = at in cc)
  value_at (first ∷ items) [] i item are at = absurd are
  value_at (first ∷ items) (value ∷ values) zero item are at =
      let same : first ≡ item = cc in (value, subst (λ v. GivesValue kind v value) same are.0)
  value_at (first ∷ items) (value ∷ values) (suc i) item are at = value_at items values i item are.1 at

  pub not_values : (items : List Json) (i : ℕ) (item : Json) → i < length items → item ≡ get_or items i item
      → ((value : Cell) → ¬ (GivesValue kind item value)) → (values : List Cell) → ¬ (AreValues kind items values)
  not_values items i item within read none values are =
      let there : (value : Cell) × GivesValue kind item value =
      value_at items values i item are (slice_get_read items (length items) i item refl within read) in
      none there.0 there.1
