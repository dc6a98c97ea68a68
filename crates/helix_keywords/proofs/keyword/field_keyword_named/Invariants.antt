use Rattle.std.proofs.Common.{◌≡◌, drop, find}
use Rattle.std.specs.Str.{bytes_eq}
use Rattle.helix_keywords.specs.Keywords.{field_keywords, field_word}
use Rattle.helix_keywords.proofs.keyword.field_keyword_named.Given as goal

abbrev pub invariant-loop-keyword : goal.invariant-loop-keyword
invariant-loop-keyword l =
    find (λ keyword. bytes_eq l.word (field_word keyword)) (drop l.keyword-index l.keyword-items)
    ≡ find (λ keyword. bytes_eq l.word (field_word keyword)) field_keywords
