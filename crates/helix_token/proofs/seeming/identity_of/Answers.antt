use Rattle.std.proofs.Common.{◌∙◌, ap, arith}
use Rattle.std.specs.Result.{result_ok}
use Rattle.hex.specs.Hex.{decode_sized, encode_lower, lower_digits}
use Rattle.hex.proofs.HexLemmas.{decode_of-encode_lower, decode_sized-twice, length-encode_with}
use Rattle.helix_token.proofs.seeming.identity_of.Goals as goal

pub returns : goal.returns
returns c = λ identity is same.
    c.ok.ensures.value
    ∙ ap result_ok
    (c.from_hex.ensures
    ∙ ap (λ text. decode_sized text 32) same
    ∙ decode_sized-twice (encode_lower identity) 32
    (omega (arith, length-encode_with lower_digits identity, is.count))
    ∙ decode_of-encode_lower identity is.bytes)
