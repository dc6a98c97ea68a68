-- The text that led to a state of a string, with one more character.
use Rattle.std.proofs.Common.{◌≡◌, ℕ, ◌+◌, ◌*◌, ◌≤◌, ◌<◌, ◌==◌, nat_lt, Option, Some, None, List, [], ◌∷◌, ◌++◌, refl, sym, ◌∙◌, ap, subst, arith, append_assoc}
use Rattle.std.proofs.lemmas.Bool.{eqb-true, ltb-false, eq-eqb}
use Rattle.std.specs.Char.{digit_value}
use Rattle.helix_json.specs.declared.string.StringState.{StringState}
use Rattle.helix_json.specs.declared.string.StringState.TheVariants as state
use Rattle.helix_json.specs.declared.string.StringMove.{StringMove}
use Rattle.helix_json.specs.declared.string.StringMove.TheVariants as move
use Rattle.helix_json.specs.Text.{SpellsUnit, IsHigh, How, itself, by_letter, by_unit, by_pair, SpellsAs, escaped}
use Rattle.helix_json.specs.Inner.StringSteps.{UnitFine, LowFine, Fine, string_step, plain_step, backslash_step, give_or_refuse, unit_step, low_step}
use Rattle.helix_json.proofs.NumberGrammar.{true_not_false}
use Rattle.helix_json.proofs.Choices.{choose}
use Rattle.helix_json.proofs.StringBack.{Prefix, hex_push, length_push, unit_of, unit_cases, low_cases, unit_fine, low_fine, unit_start, low_start, four, no_low, low_last_is}

-- what a move makes of the text that led to it
abbrev pub After : StringMove → List ℕ → Type 0
After move.Refuse q = Unit {0}
After (move.Go s) q = Fine s × Prefix s q
After (move.Give d) q = (how : How) × SpellsAs how q d
After move.Close q = q ≡ 34 ∷ []

append_more : (a b : List ℕ) (c : ℕ) (p : List ℕ) → p ≡ a ++ b → p ++ c ∷ [] ≡ a ++ (b ++ c ∷ [])
append_more a b c p e = ap (λ l. l ++ c ∷ []) e ∙ append_assoc a b (c ∷ [])

plain_after : (c : ℕ) (p : List ℕ) → p ≡ [] → After (plain_step c) (p ++ c ∷ [])
plain_after c p e = let one : p ++ c ∷ [] ≡ c ∷ [] = ap (λ l. l ++ c ∷ []) e in
    choose (λ m. After m (p ++ c ∷ [])) (c == 34) _ _ (λ is. one ∙ ap (λ x. x ∷ []) (eqb-true c 34 is)) (λ quote.
    choose (λ m. After m (p ++ c ∷ [])) (c == 92) _ _ (λ is. (tt, one ∙ ap (λ x. x ∷ []) (eqb-true c 92 is))) (λ slash.
    choose (λ m. After m (p ++ c ∷ [])) (nat_lt c 32) _ _ (λ _. tt) (λ low. (
      itself,
      (
        one,
        ltb-false c 32 low,
        (λ f. true_not_false (sym (eq-eqb c 34 f) ∙ quote)),
        (λ f. true_not_false (sym (eq-eqb c 92 f) ∙ slash)),
      ),
    ))))

letter_after : (c : ℕ) (p : List ℕ) (o : Option ℕ) → escaped c ≡ o → p ≡ 92 ∷ []
    → After (give_or_refuse o) (p ++ c ∷ [])
letter_after c p None is e = tt
letter_after c p (Some d) is e = (by_letter, (c, ap (λ l. l ++ c ∷ []) e, is))

backslash_after : (c : ℕ) (p : List ℕ) → p ≡ 92 ∷ [] → After (backslash_step c) (p ++ c ∷ [])
backslash_after c p e =
    choose (λ m. After m (p ++ c ∷ [])) (c == 117) _ _
    (λ is. (unit_start, ([], ap (λ l. l ++ c ∷ []) e ∙ ap (λ x. 92 ∷ x ∷ []) (eqb-true c 117 is), refl, refl)))
    (λ _. letter_after c p (escaped c) refl e)

unit_after : (n v c : ℕ) (p : List ℕ) → UnitFine n v → Prefix (state.Unit n v) p
    → After (unit_step n v (digit_value c)) (p ++ c ∷ [])
unit_after n v c p fine (ds, is, len, hex) =
    let q : p ++ c ∷ [] ≡ 92 ∷ 117 ∷ ds ++ c ∷ [] = append_more (92 ∷ 117 ∷ []) ds c p is in
    unit_cases (λ m. After m (p ++ c ∷ [])) n v (digit_value c) tt
    (λ small low few. (
      unit_fine n v (digit_value c) fine small low few,
      (ds ++ c ∷ [], q, length_push ds c n len, hex_push ds 0 v c hex small),
    ))
    (λ small many from to. (
      (from, to),
      subst (λ t. SpellsUnit t (v * 16 + digit_value c)) (sym q)
          (unit_of (ds ++ c ∷ []) _ (four ds c n len many fine.few) (hex_push ds 0 v c hex small)),
    ))
    (λ small many out. (
      by_unit,
      (
        subst (λ t. SpellsUnit t (v * 16 + digit_value c)) (sym q)
            (unit_of (ds ++ c ∷ []) _ (four ds c n len many fine.few) (hex_push ds 0 v c hex small)),
        (λ high. let f : 0xDC00 ≤ v * 16 + digit_value c = out high.0 in
            let g : v * 16 + digit_value c < 0xDC00 = high.1 in omega arith),
        (λ low. no_low n v (digit_value c) fine many small low),
      ),
    ))

low_after : (high n v c : ℕ) (p : List ℕ) → IsHigh high → LowFine n v → Prefix (state.Low high n v) p
    → After (low_step high n v (digit_value c)) (p ++ c ∷ [])
low_after high n v c p is_high fine (q, ds, is, len, hex, first) =
    let r : p ++ c ∷ [] ≡ q ++ 92 ∷ 117 ∷ (ds ++ c ∷ []) = append_more q (92 ∷ 117 ∷ ds) c p is in
    low_cases (λ m. After m (p ++ c ∷ [])) high n v (digit_value c) tt
    (λ small one two few. (
      (is_high, low_fine n v (digit_value c) fine small one two few),
      (q, ds ++ c ∷ [], r, length_push ds c n len, hex_push ds 0 v c hex small, first),
    ))
    (λ small many. (
      by_pair,
      (
        q,
        92 ∷ 117 ∷ (ds ++ c ∷ []),
        high,
        v * 16 + digit_value c,
        r,
        first,
        unit_of (ds ++ c ∷ []) _ (four ds c n len many fine.few) (hex_push ds 0 v c hex small),
        is_high,
        low_last_is n v (digit_value c) fine many small,
        refl,
      ),
    ))

pub string_after : (s : StringState) (c : ℕ) (p : List ℕ) → Fine s → Prefix s p → After (string_step s c) (p ++ c ∷ [])
string_after state.Plain c p fine e = plain_after c p e
string_after state.Backslash c p fine e = backslash_after c p e
string_after (state.Unit n v) c p fine e = unit_after n v c p fine e
string_after (state.High high) c p fine e = choose (λ m. After m (p ++ c ∷ [])) (c == 92) _ _
    (λ is. (fine, (p, ap (λ x. p ++ x ∷ []) (eqb-true c 92 is), e))) (λ _. tt)
string_after (state.HighBackslash high) c p fine (q, is, first) = choose (λ m. After m (p ++ c ∷ [])) (c == 117) _ _
    (λ yes_is. (
      (fine, low_start),
      (
        q,
        [],
        append_more q (92 ∷ []) c p is
            ∙ ap (λ x. q ++ 92 ∷ x ∷ []) (eqb-true c 117 yes_is),
        refl,
        refl,
        first,
      ),
    )) (λ _. tt)
string_after (state.Low high n v) c p (is_high, fine) e = low_after high n v c p is_high fine e
