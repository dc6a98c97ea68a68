use Rattle.std.proofs.Common.{◌≡◌, List, ℕ, ◌++◌, ◌∙◌, ap}
use Rattle.std.proofs.lemmas.Result.{IfOk-weaker}
use Rattle.std.specs.Prelude.{codes}
use Rattle.hex.specs.Hex.{encode_lower}
use Rattle.helix_lines.proofs.refusal.digests_line.Goals as goal

four : (a b c d b' d' line : List ℕ) → b ≡ b' → d ≡ d' → line ≡ a ++ (b ++ (c ++ d)) → line ≡ a ++ (b' ++ (c ++ d'))
four a b c d b' d' line e f is = is ∙ ap (λ x. a ++ (x ++ (c ++ d))) e ∙ ap (λ x. a ++ (b' ++ (c ++ x))) f

pub returns : goal.returns
returns c = IfOk-weaker c.joined.result _ _
    (λ line is. four (codes "token: other profile ") c.as_bytes.result.now (codes " wanted ") c.as_bytes-2.result.now
    (encode_lower c.args.found.now) (encode_lower c.args.wanted.now) line
    (c.as_bytes.ensures.value ∙ c.as_str.ensures.value ∙ c.in_ok-found.ensures)
    (c.as_bytes-2.ensures.value ∙ c.as_str-2.ensures.value ∙ c.in_ok-wanted.ensures) is)
    c.joined.ensures
