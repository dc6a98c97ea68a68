use Rattle.std.proofs.Common.{◌≡◌, sym, ◌∙◌, ap₂, subst}
use Rattle.std.specs.List.{AllByRecursion}
use Rattle.helix_token.specs.Broken.{IsRowString}
use Rattle.helix_token.specs.Token.{token_of_strings}
use Rattle.helix_token.proofs.ReadTokens.{body_is, no_parts, refuted, some_parts}
use Rattle.helix_token.proofs.form.parts_of.Goals as goal

pub returns-in_default : goal.returns-in_default
returns-in_default c = λ identity strings form.
    let body = body_is c.args.bytes.now c.without_line_feed-body.result.now c.without_line_feed-body.ensures.told
    identity strings form.text in
    no_parts identity strings c.in_ok-parts.field-0 c.in_default.is
    (c.in_ok-parts.ensures identity strings form.identified form.marked body)

pub returns-then-not-are_marked : goal.returns-then-not-are_marked
returns-then-not-are_marked c = λ identity strings form.
    let body = body_is c.args.bytes.now c.without_line_feed-body.result.now c.without_line_feed-body.ensures.told
    identity strings form.text in
    let parts = some_parts identity strings c.in_ok-parts.field-0 c.in-Some.parts c.in-Some.is
    (c.in_ok-parts.ensures identity strings form.identified form.marked body) in
    refuted c.are_marked.result (AllByRecursion IsRowString c.as_slice.result.now) c.if-not-are_marked.true
    c.are_marked.ensures (subst (AllByRecursion IsRowString) (sym (c.as_slice.ensures ∙ parts.1)) form.marked)

pub returns-else-branch : goal.returns-else-branch
returns-else-branch c = λ identity strings form.
    let body = body_is c.args.bytes.now c.without_line_feed-body.result.now c.without_line_feed-body.ensures.told
    identity strings form.text in
    let parts = some_parts identity strings c.in_ok-parts.field-0 c.in-Some.parts c.in-Some.is
    (c.in_ok-parts.ensures identity strings form.identified form.marked body) in
    refuted c.in_ok-is_text_of.field-0
    (c.without_line_feed-body.result.now ≡ token_of_strings c.in-Some.parts.identity c.in-Some.parts.strings)
    c.if-branch.false c.in_ok-is_text_of.ensures (body ∙ ap₂ token_of_strings (sym parts.0) (sym parts.1))
