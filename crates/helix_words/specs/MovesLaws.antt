-- Laws of moves.
use Rattle.std.specs.Prelude.{◌≡◌, ℕ, zero, suc, ◌+◌, ◌≤◌}
use Rattle.std.proofs.Common.{refl, sym, ap, ◌∙◌, subst, arith}
use Rattle.helix_base.specs.Count.{last_count}
use Rattle.helix_base.specs.Steps.{Tally, count_of}
use Rattle.helix_base.specs.declared.steps.Unit.{Unit as Step}
use Rattle.helix_base.specs.declared.steps.Unit.TheVariants.{Domain, Move}
use Rattle.helix_words.specs.Moves.{IsMove, AreMoves, MovedAtMost}

module _ {L : Type 0} (IsNoted : L → Step → L → Type 0) where
  -- no move leaves all as it was
  pub moved_none : (bound : ℕ) (old : Tally L) → MovedAtMost IsNoted bound old old
  moved_none bound old = record { moves = 0; few = omega arith; moved = refl }

  -- what is at most a bound is at most a greater one
  pub moved_wider : (bound wider : ℕ) (old new : Tally L) → bound ≤ wider → MovedAtMost IsNoted bound old new
      → MovedAtMost IsNoted wider old new
  moved_wider bound wider old new less m =
      record { moves = m.moves; few = omega (arith, m.few, less); moved = m.moved }

  -- one more move
  pub moved_more : (bound : ℕ) (old middle new : Tally L) → MovedAtMost IsNoted bound old middle
      → IsMove IsNoted middle new → MovedAtMost IsNoted (bound + 1) old new
  moved_more bound old middle new m one =
      record { moves = suc m.moves; few = omega (arith, m.few); moved = (middle, m.moved, one) }

  joined : (n m : ℕ) (old middle new : Tally L) → AreMoves IsNoted n old middle → AreMoves IsNoted m middle new
      → (k : ℕ) × (k ≡ n + m) × AreMoves IsNoted k old new
  joined n zero old middle new first second =
      (n, omega arith, subst (λ end. AreMoves IsNoted n old end) (sym second) first)
  joined n (suc m) old middle new first (between, second, one) =
      let (k, is, all) = joined n m old middle between first second in (suc k, omega (arith, is), (between, all, one))

  -- moves and then moves
  pub moved_join : (bound more : ℕ) (old middle new : Tally L) → MovedAtMost IsNoted bound old middle
      → MovedAtMost IsNoted more middle new → MovedAtMost IsNoted (bound + more) old new
  moved_join bound more old middle new first second =
      let (k, is, all) = joined first.moves second.moves old middle new first.moved second.moved in
      record { moves = k; few = omega (arith, is, first.few, second.few); moved = all }

  domain_stays : (n : ℕ) (old new : Tally L) → AreMoves IsNoted n old new
      → new.counts.domain ≡ old.counts.domain
  domain_stays zero old new is = ap (λ tally. tally.counts.domain) is
  domain_stays (suc n) old new (middle, before, one) =
      ap (λ counts. counts.domain) one.counted ∙ domain_stays n old middle before

  moves_rise : (n : ℕ) (old new : Tally L) → AreMoves IsNoted n old new → old.counts.moves ≤ last_count
      → (old.counts.moves ≤ new.counts.moves) × (new.counts.moves ≤ old.counts.moves + n)
      × (new.counts.moves ≤ last_count)
  moves_rise zero old new is low =
      let same = ap (λ tally. tally.counts.moves) is in (
        omega (arith, same),
        omega (arith, same),
        omega
            (arith, same, low),
      )
  moves_rise (suc n) old new (middle, before, one) low =
      let same = ap (λ counts. counts.moves) one.counted in
      let rest = moves_rise n old middle before low in
      (omega (arith, same, rest.0, rest.2), omega (arith, same, rest.1), omega (arith, same))

  -- questions to fields aren't counted
  pub moved_domain : (bound : ℕ) (old new : Tally L) → MovedAtMost IsNoted bound old new
      → count_of new.counts Domain ≡ count_of old.counts Domain
  moved_domain bound old new m = domain_stays m.moves old new m.moved

  -- the count of moves doesn't fall, and rises by at most the bound
  pub moved_grows : (bound : ℕ) (old new : Tally L) → count_of old.counts Move ≤ last_count
      → MovedAtMost IsNoted bound old new → count_of old.counts Move ≤ count_of new.counts Move
  moved_grows bound old new low m = (moves_rise m.moves old new m.moved low).0

  pub moved_few : (bound : ℕ) (old new : Tally L) → count_of old.counts Move ≤ last_count
      → MovedAtMost IsNoted bound old new → count_of new.counts Move ≤ count_of old.counts Move + bound
  moved_few bound old new low m = let rise = (moves_rise m.moves old new m.moved low).1 in omega (arith, rise, m.few)
