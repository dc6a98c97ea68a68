-- The steps of a place that are written from the outside in.
use Rattle.std.proofs.Common.{◌≡◌, ℕ, suc, ◌+◌, ◌-◌, ◌<◌, List, [], ◌∷◌, ◌++◌, length, drop, get_or, reverse, flat_map, sym, ap, ◌∙◌, arith}
use Rattle.std.proofs.Math.Seq.{drop-cons}
use Rattle.std.proofs.lemmas.Grind.{flat_map-append}
use Rattle.std.proofs.lemmas.List.{reverse-append, append-nil}
use Rattle.helix_places.specs.declared.place.Step.{Step}
use Rattle.helix_places.specs.Pointers.{step_text}

outer_at : (steps : List Step) (k : ℕ) (default : Step) → k < length steps
    → flat_map step_text (reverse (drop k steps))
    ≡ flat_map step_text (reverse (drop (suc k) steps)) ++ step_text (get_or steps k default)
outer_at steps k default within =
    ap (λ l. flat_map step_text (reverse l)) (drop-cons steps k default within)
    ∙ (ap (flat_map step_text) (reverse-append (get_or steps k default ∷ []) (drop (suc k) steps))
    ∙ (flat_map-append step_text (reverse (drop (suc k) steps)) (get_or steps k default ∷ [])
    ∙ ap (λ l. flat_map step_text (reverse (drop (suc k) steps)) ++ l)
    (append-nil (step_text (get_or steps k default)))))

-- one step more
pub outer_step : (steps : List Step) (i : ℕ) (default : Step) → i < length steps
    → flat_map step_text (reverse (drop (length steps - (i + 1)) steps))
    ≡ flat_map step_text (reverse (drop (length steps - i) steps)) ++ step_text
    (get_or steps (length steps - 1 - i) default)
outer_step steps i default within =
    let k : ℕ = length steps - 1 - i in
    let here : length steps - (i + 1) ≡ length steps - 1 - i = omega arith in
    let next : length steps - i ≡ suc (length steps - 1 - i) = omega arith in
    ap (λ n. flat_map step_text (reverse (drop n steps))) here
    ∙ (outer_at steps (length steps - 1 - i) default (omega arith)
    ∙ ap (λ n. flat_map step_text (reverse (drop n steps)) ++ step_text (get_or steps (length steps - 1 - i) default))
    (sym next))
