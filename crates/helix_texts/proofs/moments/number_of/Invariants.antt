use Rattle.std.proofs.Common.{◌≡◌, ◌^◌, ◌<◌, take}
use Rattle.helix_texts.specs.Texts.{last_digits}
use Rattle.helix_texts.proofs.moments.number_of.Given as goal

abbrev pub invariant-loop-code : goal.invariant-loop-code
invariant-loop-code l = record {
  digits : take l.code-index l.digits ≡ last_digits l.code-index l.number;
  small : l.number < 10 ^ l.code-index;
}
