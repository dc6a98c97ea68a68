use Rattle.std.proofs.Common.{◌↔◌, ℕ, ◌≤◌, take}
use Rattle.std.specs.List.{All}
use Rattle.helix_domains.specs.Inner.Texts.{IsLengthOf, PassesLength}
use Rattle.helix_domains.proofs.lengths.lengths_of.Given as goal

abbrev pub invariant-loop-signed : goal.invariant-loop-signed
invariant-loop-signed l = record {
  exact : (n : ℕ) → IsLengthOf l.lengths n
      ↔ ((n ≤ 1000) × All (λ signed. PassesLength signed n) (take l.signed-index l.atoms));
  end : l.lengths.end ≤ 1001;
}
