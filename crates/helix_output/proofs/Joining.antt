-- Parts that are joined by commas, and where they end: one part more, and the first ones.
use Rattle.std.proofs.Common.{◌≡◌, ℕ, ◌+◌, ◌<◌, ◌≤◌, zero, suc, List, [], ◌∷◌, ◌++◌, length, get_or, take, refl, sym, ◌∙◌, ap, ap₂, arith, append_assoc}
use Rattle.std.proofs.lemmas.List.{append-nil, length-append, length-take-le, take_at, take_more}
use Rattle.helix_output.specs.Csv.{joined, csv_line}
use Rattle.helix_output.specs.Line.{ends_from}
use Rattle.helix_output.specs.Inner.Cells.{comma_before, end_of, AreJoined}

-- the comma before a part
pub comma_some : (i : ℕ) → 0 < i → comma_before i ≡ 44 ∷ []
comma_some zero some = absurd (omega arith)
comma_some (suc i) some = refl

pub comma_none : (i : ℕ) → i ≤ 0 → comma_before i ≡ []
comma_none zero none = refl
comma_none (suc i) none = absurd (omega arith)

pub ruleset comma_steps = (comma_some, comma_none)

joined-push : (parts : List (List ℕ)) (part : List ℕ)
    → joined (parts ++ part ∷ []) ≡ joined parts ++ (comma_before (length parts) ++ part)
joined-push [] part = refl
joined-push (first ∷ []) part = refl
joined-push (first ∷ second ∷ parts) part =
    ap (λ s. first ++ 44 ∷ s) (joined-push (second ∷ parts) part)
    ∙ sym (append_assoc first (44 ∷ joined (second ∷ parts)) (44 ∷ part))

ends-push : (at : ℕ) (parts : List (List ℕ)) (part : List ℕ)
    → ends_from at (parts ++ part ∷ []) ≡ ends_from at parts ++ (at + length (joined (parts ++ part ∷ []))) ∷ []
ends-push at [] part = refl
ends-push at (first ∷ []) part =
    ap (λ n. (at + length first) ∷ n ∷ []) (omega (arith, length-append first (44 ∷ part)))
ends-push at (first ∷ second ∷ parts) part =
    let later : ℕ = suc (at + length first) in
    let last : later + length (joined (second ∷ (parts ++ part ∷ [])))
    ≡ at + length (first ++ 44 ∷ joined (second ∷ (parts ++ part ∷ []))) =
    omega (arith, length-append first (44 ∷ joined (second ∷ (parts ++ part ∷ [])))) in
    ap (λ es. (at + length first) ∷ es)
    (ends-push later (second ∷ parts) part ∙ ap (λ n. ends_from later (second ∷ parts) ++ n ∷ []) last)

module _ (parts : List (List ℕ)) (i : ℕ) (part : List ℕ) (within : i < length parts)
    (is : part ≡ get_or parts i []) where
  more_parts : take (i + 1) parts ≡ take i parts ++ part ∷ []
  more_parts = take_more parts i [] within ∙ ap (λ p. take i parts ++ p ∷ []) (sym is)

  pub joined-more : joined (take (i + 1) parts) ≡ joined (take i parts) ++ (comma_before i ++ part)
  joined-more =
      ap joined more_parts
      ∙ joined-push (take i parts) part
      ∙ ap (λ n. joined (take i parts) ++ (comma_before n ++ part)) (length-take-le i parts (omega arith))

  -- one part more is appended, with a comma before it, and where it ends
  pub AreJoined-more : (bytes mid next ends next_ends : List ℕ) (at : ℕ) → AreJoined (take i parts) bytes ends
      → mid ≡ bytes ++ comma_before i → next ≡ mid ++ part → at ≡ length next → next_ends ≡ ends ++ at ∷ []
      → AreJoined (take (i + 1) parts) next next_ends
  AreJoined-more bytes mid next ends next_ends at so_far comma cell place end =
      let bytes_are : next ≡ joined (take (i + 1) parts) =
      cell
      ∙ ap (λ l. l ++ part) (comma ∙ ap (λ l. l ++ comma_before i) so_far.bytes_are)
      ∙ append_assoc (joined (take i parts)) (comma_before i) part
      ∙ sym joined-more in
      let last : at ≡ 0 + length (joined (take i parts ++ part ∷ [])) =
      omega (arith, place, ap length bytes_are, ap (λ p. length (joined p)) more_parts) in
      record {
        bytes_are = bytes_are;
        ends_are =
            end
            ∙ ap₂ (λ (es : List ℕ) (n : ℕ). es ++ n ∷ []) so_far.ends_are last
            ∙ sym (ends-push 0 (take i parts) part)
            ∙ ap (ends_from 0) (sym more_parts);
      }

-- where a part ends
ends-at : (at : ℕ) (parts : List (List ℕ)) (i : ℕ) → i < length parts
    → get_or (ends_from at parts) i 0 ≡ at + length (joined (take (suc i) parts))
ends-at at [] i within = absurd (omega arith)
ends-at at (first ∷ parts) zero within = refl
ends-at at (first ∷ []) (suc i) within = absurd (omega arith)
ends-at at (first ∷ second ∷ parts) (suc i) within =
    omega (
      arith,
      ends-at (suc (at + length first)) (second ∷ parts) i (omega arith),
      length-append first (44 ∷ joined (second ∷ take i parts)),
    )

pub length-ends : (at : ℕ) (parts : List (List ℕ)) → length (ends_from at parts) ≡ length parts
length-ends at [] = refl
length-ends at (part ∷ parts) = ap suc (length-ends (suc (at + length part)) parts)

pub take-ends : (n at : ℕ) (parts : List (List ℕ)) → take n (ends_from at parts) ≡ ends_from at (take n parts)
take-ends zero at parts = refl
take-ends (suc n) at [] = refl
take-ends (suc n) at (part ∷ parts) = ap (λ es. (at + length part) ∷ es) (take-ends n (suc (at + length part)) parts)

-- the first parts come first
joined-prefix : (n : ℕ) (parts : List (List ℕ)) → (rest : List ℕ) × (joined parts ≡ joined (take n parts) ++ rest)
joined-prefix zero parts = (joined parts, refl)
joined-prefix (suc n) [] = ([], refl)
joined-prefix (suc zero) (part ∷ []) = ([], sym (append-nil part))
joined-prefix (suc zero) (part ∷ next ∷ parts) = (44 ∷ joined (next ∷ parts), refl)
joined-prefix (suc (suc n)) (part ∷ []) = ([], sym (append-nil part))
joined-prefix (suc (suc n)) (part ∷ next ∷ parts) =
    let deeper : (rest : List ℕ) × (joined (next ∷ parts) ≡ joined (next ∷ take n parts) ++ rest) =
    joined-prefix (suc n) (next ∷ parts) in (
      deeper.0,
      ap (λ s. part ++ 44 ∷ s) deeper.1 ∙ sym (append_assoc part (44 ∷ joined (next ∷ take n parts)) deeper.0),
    )

-- a line is cut after its first parts
pub cut_line : (n : ℕ) (parts : List (List ℕ)) → n ≤ length parts
    → take (end_of n (ends_from 0 parts)) (csv_line parts) ≡ joined (take n parts)
cut_line zero parts within = refl
cut_line (suc n) parts within =
    let prefix : (rest : List ℕ) × (joined parts ≡ joined (take (suc n) parts) ++ rest) =
    joined-prefix (suc n) parts in
    let first = joined (take (suc n) parts) in
    ap (λ k. take k (joined parts ++ 10 ∷ [])) (ends-at 0 parts n (omega arith))
    ∙ ap (λ s. take (0 + length first) (s ++ 10 ∷ [])) prefix.1
    ∙ ap (take (0 + length first)) (append_assoc first prefix.0 (10 ∷ []))
    ∙ take_at first (prefix.0 ++ 10 ∷ []) (0 + length first) (omega arith)
