-- Numbers that a list contains, and what is read from the states with these numbers.
use Rattle.std.proofs.Common.{◌≡◌, ◌⊎◌, ◌↔◌, inl, inr, ℕ, ◌+◌, ◌<◌, ◌≤◌, Some, None, List, [], ◌∷◌, ◌++◌, take, length, get_or, slice_get, Contains, ap, arith, sym, ◌∙◌, subst}
use Rattle.std.proofs.lemmas.Bool.{cases_lt}
use Rattle.std.proofs.lemmas.Option.{slice_get_within, slice_get-get_or}
use Rattle.std.proofs.lemmas.List.{take_more, get_or_append_left, length-append}
use Rattle.std.proofs.lemmas.List.Elements.{Contains-append_left, Contains-push, Contains-push_cases}
use Rattle.helix_compile.specs.declared.nfa.State.{State}
use Rattle.helix_compile.specs.Inner.Nfa.{NfaAccepts}
use Rattle.helix_compile.specs.Inner.Subsets.{SomeAccepts}

pub same_some : {X : Type 0} (x y : X) → Some x ≡ Some y → x ≡ y
same_some x y e = cc

pub none_some : {X : Type 0} (x : X) → None ≡ Some x → ⊥
none_some x e = cc

-- what is at an index is contained, and what is contained is at one
pub contains_at : (l : List ℕ) (k n : ℕ) → slice_get l k ≡ Some n → Contains l n
contains_at l k n at = let within : k < length l =
    slice_get_within l k n at in (k, within, same_some (get_or l k n) n (sym (slice_get-get_or l k n within) ∙ at))

pub at_contains : (l : List ℕ) (n : ℕ) → Contains l n → (k : ℕ) × (slice_get l k ≡ Some n)
at_contains l n (k, within, is) = (k, slice_get-get_or l k n within ∙ ap (λ m. Some m) is)

-- nothing is at an index
pub none_after : {X : Type 0} (l : List X) (d : X) (k : ℕ) → slice_get l k ≡ None → length l ≤ k
none_after l d k none = elim (cases_lt k (length l)) [
  | inl less ↦ absurd (none_some (get_or l k d) (sym none ∙ slice_get-get_or l k d less))
  | inr more ↦ more
]

-- what is at an index stays there when the list grows
pub still_there : {X : Type 0} (a b : List X) (added : X) (k : ℕ) (x : X) → (b ≡ a) ⊎ (b ≡ a ++ added ∷ [])
    → slice_get a k ≡ Some x → slice_get b k ≡ Some x
still_there a b added k x (inl is) at = ap (λ l. slice_get l k) is ∙ at
still_there a b added k x (inr is) at =
    let within : k < length a = slice_get_within a k x at in
    let long : k < length (a ++ added ∷ []) = omega (arith, within, length-append a (added ∷ [])) in
    ap (λ l. slice_get l k) is
    ∙ (slice_get-get_or (a ++ added ∷ []) k x long
    ∙ (ap (λ p. Some p) (get_or_append_left a (added ∷ []) x k within)
    ∙ (sym (slice_get-get_or a k x within) ∙ at)))

-- what a list contains that may have grown by one number
pub added_cases : (a b : List ℕ) (added n : ℕ) → (b ≡ a) ⊎ (b ≡ a ++ added ∷ []) → Contains b n → Contains a n
    ⊎ (n ≡ added)
added_cases a b added n (inl is) has = inl (subst (λ l. Contains l n) is has)
added_cases a b added n (inr is) has =
    elim (Contains-push_cases a added n (subst (λ l. Contains l n) is has))
    [ inl old ↦ inl old | inr new ↦ inr (sym new) ]

pub added_more : (a b : List ℕ) (added n : ℕ) → (b ≡ a) ⊎ (b ≡ a ++ added ∷ []) → Contains a n → Contains b n
added_more a b added n (inl is) has = subst (λ l. Contains l n) (sym is) has
added_more a b added n (inr is) has = subst (λ l. Contains l n) (sym is) (Contains-append_left a (added ∷ []) n has)

module _ (nfa : List State) where
  -- one more state
  pub reads_added : (a b : List ℕ) (added : ℕ) (word : List ℕ) → (b ≡ a) ⊎ (b ≡ a ++ added ∷ []) → Contains b added
      → SomeAccepts nfa b word ↔ (SomeAccepts nfa a word ⊎ NfaAccepts nfa added word)
  reads_added a b added word grows has = (to, from)
    where
      to : SomeAccepts nfa b word → SomeAccepts nfa a word ⊎ NfaAccepts nfa added word
      to (n, is, reads) = elim (added_cases a b added n grows is) [
        | inl old ↦ inl (n, old, reads)
        | inr new ↦ inr (subst (λ m. NfaAccepts nfa m word) new reads)
      ]

      from : SomeAccepts nfa a word ⊎ NfaAccepts nfa added word → SomeAccepts nfa b word
      from (inl (n, is, reads)) = (n, added_more a b added n grows is, reads)
      from (inr reads) = (added, has, reads)

  -- one more state of a set
  pub reads_next : (set : List ℕ) (at d : ℕ) (word : List ℕ) → at < length set
      → SomeAccepts nfa (take (at + 1) set) word
      ↔ (SomeAccepts nfa (take at set) word ⊎ NfaAccepts nfa (get_or set at d) word)
  reads_next set at d word within =
      let is = take_more set at d within in
      reads_added (take at set) (take (at + 1) set) (get_or set at d) word (inr is)
      (subst (λ l. Contains l (get_or set at d)) (sym is) (Contains-push (take at set) (get_or set at d)))

  pub reads_none : (set : List ℕ) (word : List ℕ) → length set ≡ 0 → SomeAccepts nfa set word → ⊥
  reads_none set word empty (n, (k, within, is), reads) = omega (arith, within, empty)
