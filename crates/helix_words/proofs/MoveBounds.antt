-- Bounds on moves.
use Rattle.std.proofs.Common.{◌≡◌, ℕ, ◌+◌, ◌-◌, ◌*◌, ◌<◌, ◌≤◌, ap, ◌∙◌, arith, add-mul, mul-add, one-mul}
use Rattle.std.proofs.lemmas.Nat.{mul-le}
use Rattle.helix_base.specs.Steps.{Tally}
use Rattle.helix_base.specs.declared.steps.Unit.{Unit as Step}
use Rattle.helix_words.specs.Moves.{IsMove, MovedAtMost}
use Rattle.helix_words.specs.MovesLaws.{moved_none, moved_more, moved_wider, moved_join}

module _ {L : Type 0} (IsNoted : L → Step → L → Type 0) where
  -- one more round of moves
  pub moved_round : (rounds most : ℕ) (old middle new : Tally L) → MovedAtMost IsNoted (rounds * most) old middle
      → MovedAtMost IsNoted most middle new → MovedAtMost IsNoted ((rounds + 1) * most) old new
  moved_round rounds most old middle new first second =
      let one_more : (rounds + 1) * most ≡ rounds * most + most = add-mul rounds 1 most
      ∙ ap (λ n. rounds * most + n) (one-mul most) in
      moved_wider IsNoted (rounds * most + most) ((rounds + 1) * most) old new (omega (arith, one_more))
      (moved_join IsNoted (rounds * most) most old middle new first second)

  -- fewer rounds
  pub moved_fewer : (rounds more most : ℕ) (old new : Tally L) → rounds ≤ more
      → MovedAtMost IsNoted (rounds * most) old new → MovedAtMost IsNoted (more * most) old new
  moved_fewer rounds more most old new less moved =
      moved_wider IsNoted (rounds * most) (more * most) old new (mul-le rounds most more most less (omega arith)) moved

  -- a walk along a word, and a rest
  pub moved_twice : (rounds most : ℕ) (old middle new : Tally L) → MovedAtMost IsNoted (rounds * most) old middle
      → MovedAtMost IsNoted (rounds * most) middle new → MovedAtMost IsNoted (rounds * (2 * most)) old new
  moved_twice rounds most old middle new first second =
      let sum : 2 * most ≡ most + most = omega arith in
      let is : rounds * (2 * most) ≡ rounds * most + rounds * most = ap (λ n. rounds * n) sum
      ∙ mul-add rounds most most in
      moved_wider IsNoted (rounds * most + rounds * most) (rounds * (2 * most)) old new (omega (arith, is))
      (moved_join IsNoted (rounds * most) (rounds * most) old middle new first second)

  -- a walk along a word of few characters, and the least longer word
  pub moved_walk_on : (rounds most : ℕ) (old middle new : Tally L) → rounds ≤ 1000
      → MovedAtMost IsNoted (rounds * most) old middle → MovedAtMost IsNoted (1000 * most) middle new
      → MovedAtMost IsNoted (1000 * (2 * most)) old new
  moved_walk_on rounds most old middle new few first second =
      moved_twice 1000 most old middle new (moved_fewer rounds 1000 most old middle few first) second

  -- two times a round for each character
  pub moved_question : (rounds more most : ℕ) (old middle new : Tally L) → rounds ≤ 1000 → more ≤ 1000
      → MovedAtMost IsNoted (rounds * most) old middle → MovedAtMost IsNoted (more * most) middle new
      → MovedAtMost IsNoted (1001 + 2002 * (1 + most)) old new
  moved_question rounds more most old middle new few few_more first second =
      moved_wider IsNoted (1000 * most + 1000 * most) (1001 + 2002 * (1 + most)) old new (omega arith)
      (moved_join IsNoted (1000 * most) (1000 * most) old middle new
      (moved_fewer rounds 1000 most old middle few first) (moved_fewer more 1000 most middle new few_more second))

  -- one move, where there may be some
  pub moved_first : (most : ℕ) (old new : Tally L) → 0 < most → IsMove IsNoted old new
      → MovedAtMost IsNoted most old new
  moved_first most old new some one =
      moved_wider IsNoted 1 most old new (omega (arith, some)) (moved_more IsNoted 0 old old new
      (moved_none IsNoted 0 old) one)

  -- one move for the first of some arcs, and some for those after it
  pub moved_on : (count later most : ℕ) (old middle new : Tally L) → 0 < count → count ≤ most → later ≡ count - 1
      → IsMove IsNoted old middle → MovedAtMost IsNoted later middle new → MovedAtMost IsNoted most old new
  moved_on count later most old middle new some few is one more =
      moved_wider IsNoted (1 + later) most old new (omega (arith, some, few, is))
      (moved_join IsNoted 1 later old middle new (moved_first 1 old middle (omega arith) one) more)
