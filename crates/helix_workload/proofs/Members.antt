-- The members of the set, one after the other.
use Rattle.std.proofs.Common.{◌≡◌, ℕ, zero, suc, ◌+◌, ◌*◌, ◌-◌, ◌<◌, List, [], ◌∷◌, ◌++◌, decimal, ap, ◌∙◌, append_assoc, arith}
use Rattle.helix_workload.specs.Workload.{members}

pub one_member : (least left : ℕ) (now new whole : List ℕ) → 1 < left → now ++ members least left ≡ whole
    → new ≡ (now ++ decimal (least + 7 * (left - 1))) ++ 44 ∷ [] → new ++ members least (left - 1) ≡ whole
unfolding members
one_member least zero now new whole more so_far is = absurd (omega (arith, more))
one_member least (suc zero) now new whole more so_far is = absurd (omega (arith, more))
one_member least (suc (suc count)) now new whole more so_far is =
    let own : List ℕ = decimal (least + 7 * suc count) in
    let rest : List ℕ = members least (suc count) in
    ap (λ n. new ++ members least n) (fewer count)
    ∙ (ap (λ text. text ++ rest) (is ∙ ap (λ n. (now ++ decimal (least + 7 * n)) ++ 44 ∷ []) (fewer count))
    ∙ (append_assoc (now ++ own) (44 ∷ []) rest
    ∙ (append_assoc now own (44 ∷ rest) ∙ so_far)))
  where
    fewer : (count : ℕ) → suc (suc count) - 1 ≡ suc count
    fewer count = omega arith

pub last_member : (least left : ℕ) (now new whole : List ℕ) → left ≡ 1 → now ++ members least left ≡ whole
    → new ≡ now ++ decimal least → new ≡ whole
unfolding members
last_member least (suc zero) now new whole one so_far is = is ∙ so_far
last_member least zero now new whole one so_far is = cc one
last_member least (suc (suc left)) now new whole one so_far is = cc one

-- a text with a piece, before the rest
pushed : (old new piece rest : List ℕ) → new ≡ old ++ piece → new ++ rest ≡ old ++ (piece ++ rest)
pushed old new piece rest is = ap (λ text. text ++ rest) is ∙ append_assoc old piece rest

-- seven pieces, one after the other
pub assembled : (start a b c d e f g first second third fourth fifth sixth whole : List ℕ) → start ≡ []
    → first ≡ start ++ a → second ≡ first ++ b → third ≡ second ++ c → fourth ≡ third ++ d → fifth ≡ fourth ++ e
    → sixth ≡ fifth ++ f → whole ≡ sixth ++ g → whole ≡ a ++ (b ++ (c ++ (d ++ (e ++ (f ++ g)))))
assembled start a b c d e f g first second third fourth fifth sixth whole none one two three four five six seven =
    seven ∙ pushed fifth sixth f g six ∙ pushed fourth fifth e (f ++ g) five
    ∙ pushed third fourth d (e ++ (f ++ g)) four ∙ pushed second third c (d ++ (e ++ (f ++ g))) three
    ∙ pushed first second b (c ++ (d ++ (e ++ (f ++ g)))) two
    ∙ pushed start first a (b ++ (c ++ (d ++ (e ++ (f ++ g))))) one
    ∙ ap (λ text. text ++ (a ++ (b ++ (c ++ (d ++ (e ++ (f ++ g))))))) none
