-- A question to a domain lowers no count. Lemmas.
use Rattle.std.proofs.Common.{◌≡◌, ℕ, zero, suc, ◌+◌, ◌≤◌, min, sym, ap, ◌∙◌, subst, arith}
use Rattle.helix_base.specs.Count.{last_count}
use Rattle.helix_base.specs.Steps.{Tally}
use Rattle.helix_base.specs.declared.steps.Unit.{Unit as Step}
use Rattle.helix_words.specs.Moves.{AreMoves}
use Rattle.helix_domains.specs.Asking.{AsksOnce}
use Rattle.helix_search.specs.Counting.{CountsGrow}

raised_grows : (n last : ℕ) → n ≤ last → (n ≤ min (n + 1) last) × (min (n + 1) last ≤ last)
raised_grows n last within = (omega (arith, within), omega arith)

-- moves leave the other count, and none of them lowers their own
module _ {L : Type 0} (IsNoted : L → Step → L → Type 0) where
  moves_grow : (n : ℕ) (old new : Tally L) → old.counts.moves ≤ last_count → AreMoves IsNoted n old new
      → (old.counts.moves ≤ new.counts.moves) × (new.counts.moves ≤ last_count)
      × (new.counts.domain ≡ old.counts.domain)
  moves_grow zero old new within same = (
    subst (λ t. old.counts.moves ≤ t.counts.moves) (sym same) (omega arith),
    subst (λ t. t.counts.moves ≤ last_count) (sym same) within,
    ap (λ t. t.counts.domain) same,
  )
  moves_grow (suc n) old new within moves =
      let before = moves_grow n old moves.0 within moves.1 in
      let step = raised_grows moves.0.counts.moves last_count before.1 in (
        subst (λ counts. old.counts.moves ≤ counts.moves) (sym moves.2.counted) (le_trans before.0 step.0),
        subst (λ counts. counts.moves ≤ last_count) (sym moves.2.counted) step.1,
        ap (λ counts. counts.domain) moves.2.counted ∙ before.2,
      )
    where
      le_trans : {a b c : ℕ} → a ≤ b → b ≤ c → a ≤ c
      le_trans {a = a} {b = b} {c = c} one two = omega (arith, one, two)

  pub asks_grow : (most : ℕ) (old new : Tally L) → old.counts.domain ≤ last_count → old.counts.moves ≤ last_count
      → AsksOnce IsNoted most old new → CountsGrow old new
  asks_grow most old new domain_within moves_within asks =
      let ticked_moves : asks.asked.counts.moves ≡ old.counts.moves = ap (λ counts. counts.moves) asks.counted in
      let grown = moves_grow asks.moves.moves asks.asked new
      (subst (λ k. k ≤ last_count) (sym ticked_moves) moves_within) asks.moves.moved in
      record {
        domain = subst (λ k. old.counts.domain ≤ k)
            (sym (grown.2 ∙ ap (λ counts. counts.domain) asks.counted))
            (raised_grows old.counts.domain last_count domain_within).0;
        moves = subst (λ k. k ≤ new.counts.moves) ticked_moves grown.0;
      }

  -- and it raises the count of questions by one at most
  pub asks_few : (most : ℕ) (old new : Tally L) → old.counts.moves ≤ last_count → AsksOnce IsNoted most old new
      → new.counts.domain ≤ old.counts.domain + 1
  asks_few most old new moves_within asks =
      let ticked_moves : asks.asked.counts.moves ≡ old.counts.moves = ap (λ counts. counts.moves) asks.counted in
      let grown = moves_grow asks.moves.moves asks.asked new
      (subst (λ k. k ≤ last_count) (sym ticked_moves) moves_within) asks.moves.moved in
      subst (λ k. k ≤ old.counts.domain + 1) (sym (grown.2 ∙ ap (λ counts. counts.domain) asks.counted))
      (omega arith)
