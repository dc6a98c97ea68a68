use Rattle.std.proofs.Common.{◌∙◌}
use Rattle.helix_token.proofs.TextTokens.{written_whole}
use Rattle.helix_token.proofs.write.text_of_strings.Goals as goal

pub returns : goal.returns
returns c =
    written_whole c.args.identity.now c.args.strings.now c.write_head.new.writer.tokens
    c.write_strings.new.writer.tokens c.end_array.new.self.tokens c.end_object.new.self.tokens
    c.end_object.new.self.before c.into_inner.result.items
    c.in_ok-write_head.ensures.tokens c.in_ok-write_strings.ensures.tokens c.in_ok-end_array.ensures.ok
    c.in_ok-end_object.ensures.ok
    (c.in_ok-end_object.ensures.room.0
    ∙ c.in_ok-end_array.ensures.room.0
    ∙ c.in_ok-write_strings.ensures.before
    ∙ c.in_ok-write_head.ensures.before
    ∙ c.new-writer.ensures.before
    ∙ c.new.ensures.items)
    c.into_inner.ensures.items
