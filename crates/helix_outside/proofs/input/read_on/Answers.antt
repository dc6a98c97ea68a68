use Rattle.std.proofs.Common.{ℕ, ap, sym, ◌∙◌, ◌++◌, take, drop, take-append-drop, drop-drop}
use Rattle.std.proofs.lemmas.List.{take_rest, drop_min}
use Rattle.helix_outside.proofs.input.read_on.Goals as goal

pub returns-clause-given : goal.returns-clause-given
returns-clause-given c =
    let bytes = c.args.bytes.now in
    let from = c.min-from.result in
    let count = c.fill-count.result in
    sym (ap (λ (i : ℕ). drop i bytes) c.min-from.ensures ∙ drop_min c.args.position.now bytes)
    ∙ sym (take-append-drop count (drop from bytes))
    ∙ ap (λ prefix. prefix ++ drop count (drop from bytes))
    (sym (c.fill-count.ensures.given ∙ ap (take count) (take_rest bytes from)))
    ∙ ap (λ back. take count c.fill-count.new.buffer ++ back) (drop-drop count from bytes)
