use Rattle.std.proofs.Common.{sym, subst, []}
use Rattle.helix_regex.proofs.Scanned.{character_at}
use Rattle.helix_regex.proofs.Tokenized.{Lexed, lexed_start, lexed_more, lexed_all}
use Rattle.helix_regex.proofs.lexer.tokens_of.Goals as goal

pub loop-i-init : goal.loop-i-init
loop-i-init c p w = subst (Lexed [] _) (sym c.new-all.ensures.items) lexed_start

pub push_tokens-requires : goal.push_tokens-requires
push_tokens-requires c = character_at c.args.codes.now c.loop-i.i c.requires c.loop-i-test.true

pub next-lexer-requires : goal.next-lexer-requires
next-lexer-requires c = character_at c.args.codes.now c.loop-i.i c.requires c.loop-i-test.true

pub loop-i-preserved : goal.loop-i-preserved
loop-i-preserved c p w = lexed_more c.args.codes.now p c.loop-i.i c.loop-i.lexer c.next-lexer.result c.loop-i.all.items
    c.push_tokens.new.tokens.items w
    c.loop-i-test.true (c.loop-i.invariant p w) c.in_ok-push_tokens.ensures c.next-lexer.ensures

pub returns : goal.returns
returns c p w = lexed_all c.args.codes.now p c.loop-i.i c.loop-i.lexer c.loop-i.all.items w c.loop-i-test.false
    (c.loop-i.invariant p w)
