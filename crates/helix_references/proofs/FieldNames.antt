-- Fields by their names, one after the other.
use Rattle.std.proofs.Common.{◌≡◌, ℕ, zero, suc, ◌+◌, ◌<◌, ◌≤◌, inl, inr, Bool, true, false, cond, nat_lt, List, [], ◌∷◌, length, get_or, Some, None, position, refl, sym, ◌∙◌, ap, arith}
use Rattle.std.specs.Str.{bytes_eq}
use Rattle.std.specs.List.{position_or_len}
use Rattle.std.proofs.lemmas.Bool.{lt-ltb, le-ltb, cases_lt}
use Rattle.std.proofs.lemmas.List.Sums.{position_or_len_is}
use Rattle.helix_profile.specs.declared.field.Field.{Field}
use Rattle.helix_references.specs.Naming.{index_named}

same_read : {A : Type 0} (xs : List A) (i : ℕ) (d e : A) → i < length xs → get_or xs i d ≡ get_or xs i e
same_read [] i d e within = absurd (omega arith)
same_read (x ∷ xs) zero d e within = refl
same_read (x ∷ xs) (suc i) d e within = same_read xs i d e (omega arith)

-- none of the first fields has the name
abbrev pub NoneNamed : List Field → List ℕ → ℕ → Type 0
NoneNamed fields name i = (k : ℕ) → k < i → (d : Field) → bytes_eq (get_or fields k d).name name ≡ false

position_at : (p : Field → Bool) (xs : List Field) (i n : ℕ) → n ≡ i → i < length xs
    → position_or_len p xs ≡ n → position p xs ≡ Some i
position_at p xs i n same within is =
    let at : position_or_len p xs ≡ i = is ∙ same in
    ap (λ k. cond (nat_lt k (length xs)) (Some k) None) at
    ∙ ap (λ b. cond b (Some i) None) (lt-ltb i (length xs) within)

no_position : (p : Field → Bool) (xs : List Field)
    → ((k : ℕ) → k < length xs → (d : Field) → p (get_or xs k d) ≡ false) → position p xs ≡ None
no_position p [] none = refl
no_position p (x ∷ xs) none =
    let at : position_or_len p (x ∷ xs) ≡ length (x ∷ xs) =
    position_or_len_is p (x ∷ xs) (length (x ∷ xs)) x (omega arith)
    (λ k below. none k below x) (λ is_within. absurd (omega arith)) in
    ap (λ k. cond (nat_lt k (length (x ∷ xs))) (Some k) None) at
    ∙ ap (λ b. cond b (Some (length (x ∷ xs))) None) (le-ltb (length (x ∷ xs)) (length (x ∷ xs)) (omega arith))

module _ (fields : List Field) (name : List ℕ) (i : ℕ) (none : NoneNamed fields name i) where
  module _ (field : Field) (within : i < length fields) (read : field ≡ get_or fields i field) (text : List ℕ)
      (answer : Bool) (text_is : text ≡ field.name) (answer_is : answer ≡ bytes_eq text name)
    where
      named_at : (d : Field) → bytes_eq (get_or fields i d).name name ≡ answer
      named_at d =
          ap (λ f. bytes_eq f.name name) (same_read fields i d field within ∙ sym read)
          ∙ (ap (λ t. bytes_eq t name) (sym text_is) ∙ sym answer_is)

      pub next_field : answer ≡ false → NoneNamed fields name (i + 1)
      next_field other k below d = elim (cases_lt k i) [
        | inl earlier ↦ none k earlier d
        | inr not_earlier ↦ (let same : k ≡ i = omega arith in
            ap (λ j. bytes_eq (get_or fields j d).name name) same ∙ (named_at d ∙ other))
      ]

      pub this_field : answer ≡ true → Some i ≡ index_named fields name
      this_field here = sym (position_at (λ f. bytes_eq f.name name) fields i i refl within
          (position_or_len_is (λ f. bytes_eq f.name name) fields i field (omega arith)
          (λ k below. none k below field) (λ is_within. named_at field ∙ here)))

  pub no_field : length fields ≤ i → None ≡ index_named fields name
  no_field all = sym (no_position (λ f. bytes_eq f.name name) fields (λ k within d. none k (omega arith) d))
