-- Sets with equal members accept the same words.
use Rattle.std.specs.Prelude.{◌≡◌, ◌↔◌, ℕ, true, List, nat_eq}
use Rattle.std.proofs.Common.{sym, subst}
use Rattle.std.specs.Cmp.Lexicographic.{same_text}
use lib.Pointwise.{pointwise}
use Rattle.helix_compile.specs.declared.nfa.State.{State}
use Rattle.helix_compile.specs.Inner.Subsets.{SomeAccepts}

pub same_sets : (nfa : List State) (one other : List ℕ) → pointwise nat_eq one other ≡ true → (word : List ℕ)
    → SomeAccepts nfa one word ↔ SomeAccepts nfa other word
same_sets nfa one other equal word =
    let same : one ≡ other = same_text one other (sym equal) in
    ((λ h. subst (λ set. SomeAccepts nfa set word) same h), (λ h. subst (λ set. SomeAccepts nfa set word) (sym same) h))
