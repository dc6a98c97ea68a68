-- Equal pairs of states accept the same words.
use Rattle.std.specs.Prelude.{◌≡◌, ◌↔◌, ℕ, true, ◌&&◌, eqb, List}
use Rattle.std.proofs.Common.{sym, subst}
use Rattle.std.proofs.lemmas.Bool.{and_parts, eqb-true}
use Rattle.helix_automata.specs.Automaton.{Automaton, AcceptsFrom}

pub same_pairs : (left right : Automaton) (one other : ℕ × ℕ) → (eqb one.0 other.0 && eqb one.1 other.1) ≡ true
    → (word : List ℕ)
    → (AcceptsFrom left one.0 word × AcceptsFrom right one.1 word)
    ↔ (AcceptsFrom left other.0 word × AcceptsFrom right other.1 word)
same_pairs left right one other equal word =
    let parts = and_parts (eqb one.0 other.0) (eqb one.1 other.1) equal in
    let first : one.0 ≡ other.0 = eqb-true one.0 other.0 parts.0 in
    let second : one.1 ≡ other.1 = eqb-true one.1 other.1 parts.1 in (
      (λ h. (subst (λ n. AcceptsFrom left n word) first h.0, subst (λ n. AcceptsFrom right n word) second h.1)),
      (λ h. (
        subst (λ n. AcceptsFrom left n word) (sym first) h.0,
        subst (λ n. AcceptsFrom right n word) (sym second)
            h.1,
      )),
    )
