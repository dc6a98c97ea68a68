-- Automata that accept what signed atoms leave.
use Rattle.std.proofs.Common.{◌≡◌, ◌↔◌, ℕ, ◌+◌, ◌≤◌, ◌<◌, ◌⊎◌, inl, inr, Bool, true, false, ◌&&◌, Result, Ok, Err, List, [], ◌∷◌, ◌++◌, length, get_or, take, refl, sym, ap, ◌∙◌, subst, arith, ⊎_elim, Ordering}
use Rattle.std.specs.declared.cmp.Ordering.TheVariants.{Less, Equal, Greater}
use Rattle.std.specs.List.{All, Contains}
use Rattle.std.specs.List.Sorted.{IsPermutation}
use Rattle.std.proofs.lemmas.List.Sorted.{All-permutation, IsPermutation-sym}
use Rattle.std.specs.Result.{IfOk}
use Rattle.std.proofs.lemmas.Bool.{and_parts, and_from}
use Rattle.std.proofs.lemmas.Cmp.{tied_itself}
use Rattle.std.proofs.lemmas.List.{take_all}
use Rattle.std.proofs.lemmas.List.Elements.{All-cons, All-head, All-tail, Contains-append_left, Contains-append_right, Contains-append_cases}
use Rattle.helix_automata.specs.Automaton.{Automaton, Accepts}
use Rattle.helix_automata.specs.Shape.{IsCharacter}
use Rattle.helix_base.specs.Alphabet.{is_character_of, IsCharacterOf}
use Rattle.helix_base.specs.declared.alphabet.Alphabet.{Alphabet}
use Rattle.helix_base.specs.declared.memory.Memory.{Memory}
use Rattle.helix_values.proofs.TotalOrder.{cell_cmp_total, cell_cmp-IsAntisymmetric}
use Rattle.helix_values.specs.Order.{cell_cmp}
use Rattle.helix_values.specs.declared.cell.Cell.{Cell}
use Rattle.helix_values.specs.declared.cell.Cell.TheVariants as cell
use Rattle.helix_values.specs.declared.kind.Kind.{Kind}
use Rattle.helix_profile.specs.Satisfaction.{Signed}
use Rattle.helix_profile.specs.declared.test.Test.{Test}
use Rattle.helix_domains.specs.declared.atom.SignedAtom.{SignedAtom}
use Rattle.helix_domains.specs.Inner.Texts.{PassesWord, IsWordOfKind, IsWordFor, AllAccept, AreNarrowed}
use Rattle.helix_domains.proofs.GridTests.{one_of, signed_same}
use Rattle.helix_domains.proofs.Walks.{all_push, all_more}

-- one character more of a text over an alphabet
pub within_more : (alphabet : Alphabet) (state next : Bool) (first code : ℕ)
    → next ≡ (state && is_character_of alphabet first) → is_character_of alphabet code ≡ is_character_of alphabet first
    → (word : List ℕ)
    → ((next ≡ true) × All (IsCharacterOf alphabet) word)
    ↔ ((state ≡ true) × All (IsCharacterOf alphabet) (code ∷ word))
within_more alphabet state next first code is alike word = (
  (λ h. let parts = and_parts state (is_character_of alphabet first) (sym is ∙ h.0) in
      (parts.0, All-cons (IsCharacterOf alphabet) code word (alike ∙ parts.1) h.1)),
  (λ h. (
    is ∙ and_from state (is_character_of alphabet first) h.0
        (sym alike ∙ All-head (IsCharacterOf alphabet) code word h.1),
    All-tail (IsCharacterOf alphabet) code word h.1,
  )),
)

-- the automaton of all others accepts with a false sign
pub signed_false : (sign : Bool) (dfa : Automaton) (result : Result Automaton Memory) → sign ≡ false
    → IfOk result (λ other. (word : List ℕ) → All IsCharacter word → Accepts other word ↔ (Accepts dfa word → ⊥))
    → IfOk result (λ other. (word : List ℕ) → All IsCharacter word → Accepts other word
    ↔ Signed sign (Accepts dfa word))
signed_false sign dfa (Err e) is exact = tt
signed_false sign dfa (Ok other) is exact = λ word characters.
    subst (λ s. Accepts other word ↔ Signed s (Accepts dfa word)) (sym is) (exact word characters)

-- a cell is listed or not
same_or_not : (a b : Cell) → (a ≡ b) ⊎ (¬ (a ≡ b))
same_or_not a b = by (cell_cmp a b) refl
  where
    itself : a ≡ b → cell_cmp a b ≡ Equal
    itself same = ap (cell_cmp a) (sym same) ∙ tied_itself cell_cmp_total a

    by : (o : Ordering) → cell_cmp a b ≡ o → (a ≡ b) ⊎ (¬ (a ≡ b))
    by Less e = inr (λ same. let tied = itself same in cc)
    by Equal e = inl (cell_cmp-IsAntisymmetric a b e)
    by Greater e = inr (λ same. let tied = itself same in cc)

listed_or_not : (cells : List Cell) (v : Cell) → Contains cells v ⊎ (¬ Contains cells v)
listed_or_not [] v = inr (λ has. absurd (omega (arith, has.1)))
listed_or_not (c ∷ cells) v = by (same_or_not v c) (listed_or_not cells v)
  where
    by : (v ≡ c) ⊎ (¬ (v ≡ c)) → Contains cells v ⊎ (¬ Contains cells v) → Contains (c ∷ cells) v
        ⊎ (¬ Contains (c ∷ cells) v)
    by (inl same) rest = inl (Contains-append_left (c ∷ []) cells v ((one_of c v).1 same))
    by (inr not) (inl has) = inl (Contains-append_right (c ∷ []) cells v has)
    by (inr not) (inr missing) = inr (λ has. ⊎_elim (λ here. not ((one_of c v).0 here)) missing
        (Contains-append_cases (c ∷ []) cells v has))

-- the automaton of a list, from that of all others
pub listed_true : (sign : Bool) (cells : List Cell) (others : Automaton) (result : Result Automaton Memory) → sign
    ≡ true
    → ((word : List ℕ) → All IsCharacter word → Accepts others word ↔ (¬ Contains cells (cell.Text word)))
    → IfOk result (λ dfa. (word : List ℕ) → All IsCharacter word → Accepts dfa word ↔ (Accepts others word → ⊥))
    → IfOk result (λ dfa. (word : List ℕ) → All IsCharacter word → Accepts dfa word
    ↔ Signed sign (Contains cells (cell.Text word)))
listed_true sign cells others (Err e) is exact complement = tt
listed_true sign cells others (Ok dfa) is exact complement = λ word characters.
    subst (λ s. Accepts dfa word ↔ Signed s (Contains cells (cell.Text word))) (sym is) (
      (λ accepts. ⊎_elim (λ has. has) (λ not. absurd ((complement word characters).0 accepts
          ((exact word characters).1 not))) (listed_or_not cells (cell.Text word))),
      (λ has. (complement word characters).1 (λ accepts. (exact word characters).0 accepts has)),
    )

-- one automaton more
pub narrowed : (Fact : List ℕ → Type 0) (old new : List Automaton) (dfa : Automaton) → new ≡ old ++ dfa ∷ []
    → ((word : List ℕ) → All IsCharacter word → Accepts dfa word ↔ Fact word) → AreNarrowed Fact old new
narrowed Fact old new dfa is exact word characters =
    let push = all_push (λ d. Accepts d word) old dfa in
    subst (λ all. AllAccept all word ↔ (AllAccept old word × Fact word)) (sym is) (
      (λ all. let both = push.0 all in (both.0, (exact word characters).0 both.1)),
      (λ both. push.1 (both.0, (exact word characters).1 both.1)),
    )

-- no automaton more, where the fact holds of each word
pub narrowed_none : (Fact : List ℕ → Type 0) (old : List Automaton) → ((word : List ℕ) → All IsCharacter word
    → Fact word)
    → AreNarrowed Fact old old
narrowed_none Fact old holds word characters = ((λ all. (all, holds word characters)), (λ both. both.0))

-- the automata of all atoms
pub narrowed_start : (k : Kind) (atoms : List SignedAtom) (old new : List Automaton) → old ≡ []
    → AreNarrowed (IsWordOfKind k) old new → (word : List ℕ) → All IsCharacter word
    → AllAccept new word ↔ (IsWordOfKind k word × All (λ signed. PassesWord signed word) (take 0 atoms))
narrowed_start k atoms old new empty narrow word characters = (
  (λ all. (((narrow word characters).0 all).1, λ i d within. absurd (omega arith))),
  (λ both. (narrow word characters).1 (
    subst (λ l. AllAccept l word) (sym empty) (λ i d within. absurd (omega arith)),
    both.0,
  )),
)

pub narrowed_more : (k : Kind) (atoms : List SignedAtom) (i : ℕ) (signed : SignedAtom) → i < length atoms
    → signed ≡ get_or atoms i signed → (old new : List Automaton)
    → ((word : List ℕ) → All IsCharacter word → AllAccept old word
    ↔ (IsWordOfKind k word × All (λ s. PassesWord s word) (take i atoms))) → AreNarrowed (PassesWord signed) old new
    → (word : List ℕ) → All IsCharacter word
    → AllAccept new word ↔ (IsWordOfKind k word × All (λ s. PassesWord s word) (take (i + 1) atoms))
narrowed_more k atoms i signed within is old new so_far narrow word characters =
    let more = all_more (λ s. PassesWord s word) atoms i signed within is in
    let before = so_far word characters in
    let now = narrow word characters in (
      (λ all. let both = now.0 all in let first = before.0 both.0 in (first.0, more.1 (first.1, both.1))),
      (λ h. let both = more.0 h.1 in now.1 (before.1 (h.0, both.0), both.1)),
    )

pub narrowed_all : (k : Kind) (atoms : List SignedAtom) (i : ℕ) (dfas : List Automaton) → length atoms ≤ i
    → ((word : List ℕ) → All IsCharacter word → AllAccept dfas word
    ↔ (IsWordOfKind k word × All (λ s. PassesWord s word) (take i atoms))) → (word : List ℕ) → All IsCharacter word
    → AllAccept dfas word ↔ (IsWordOfKind k word × All (λ s. PassesWord s word) atoms)
narrowed_all k atoms i dfas past so_far word characters =
    subst (λ all. AllAccept dfas word ↔ (IsWordOfKind k word × All (λ s. PassesWord s word) all))
    (take_all i atoms past)
    (so_far word characters)

-- what an automaton of a test accepts, as an atom has it
pub as_word : (signed : SignedAtom) (t : Test) (dfa made : Automaton) → dfa ≡ made → signed.atom.test ≡ t
    → ((word : List ℕ) → All IsCharacter word → Accepts made word ↔ IsWordFor signed.sign t word)
    → (word : List ℕ) → All IsCharacter word → Accepts dfa word ↔ PassesWord signed word
as_word signed t dfa made same is exact word characters =
    subst (λ d. Accepts d word ↔ PassesWord signed word) (sym same)
    (subst (λ u. Accepts made word ↔ IsWordFor signed.sign u word) (sym is) (exact word characters))

-- the same of one cell and of a list
pub equal_word : (sign : Bool) (operand : Cell) (slice : List Cell) (dfa : Automaton) → slice ≡ operand ∷ []
    → ((word : List ℕ) → All IsCharacter word → Accepts dfa word ↔ Signed sign (Contains slice (cell.Text word)))
    → (word : List ℕ) → All IsCharacter word → Accepts dfa word ↔ Signed sign (cell.Text word ≡ operand)
equal_word sign operand slice dfa is exact word characters =
    let same = signed_same sign (Contains slice (cell.Text word)) (cell.Text word ≡ operand)
    (subst (λ s. Contains s (cell.Text word) ↔ (cell.Text word ≡ operand)) (sym is) (one_of operand (cell.Text word)))
    in
    ((λ accepts. same.0 ((exact word characters).0 accepts)), (λ passes. (exact word characters).1 (same.1 passes)))

pub set_word : (sign : Bool) (members slice : List Cell) (dfa : Automaton) → slice ≡ members
    → ((word : List ℕ) → All IsCharacter word → Accepts dfa word ↔ Signed sign (Contains slice (cell.Text word)))
    → (word : List ℕ) → All IsCharacter word → Accepts dfa word ↔ Signed sign (Contains members (cell.Text word))
set_word sign members slice dfa is exact word characters =
    subst (λ s. Accepts dfa word ↔ Signed sign (Contains s (cell.Text word))) is (exact word characters)

-- what an automaton of a kind accepts
pub as_kind : (k made_of : Kind) (dfa made : Automaton) → dfa ≡ made → k ≡ made_of
    → ((word : List ℕ) → All IsCharacter word → Accepts made word ↔ IsWordOfKind made_of word)
    → (word : List ℕ) → All IsCharacter word → Accepts dfa word ↔ IsWordOfKind k word
as_kind k made_of dfa made same is exact word characters =
    subst (λ d. Accepts d word ↔ IsWordOfKind k word) (sym same)
    (subst (λ l. Accepts made word ↔ IsWordOfKind l word) (sym is) (exact word characters))

-- a product of automata, one after the other from the end of a list
pub product_start : (dfas sorted left : List Automaton) (first : Automaton) → IsPermutation dfas sorted
    → sorted ≡ left ++ first ∷ [] → (word : List ℕ) → All IsCharacter word
    → (AllAccept left word × Accepts first word) ↔ AllAccept dfas word
product_start dfas sorted left first moved is word characters =
    let push = all_push (λ d. Accepts d word) left first in (
      (λ both. All-permutation (λ d. Accepts d word) sorted dfas (IsPermutation-sym dfas sorted moved)
          (subst (λ l. AllAccept l word) (sym is) (push.1 both))),
      (λ all. push.0 (subst (λ l. AllAccept l word) is (All-permutation (λ d. Accepts d word) dfas sorted moved all))),
    )

pub product_more : (dfas old left : List Automaton) (all next both : Automaton) → old ≡ left ++ next ∷ []
    → ((word : List ℕ) → All IsCharacter word → (AllAccept old word × Accepts all word) ↔ AllAccept dfas word)
    → ((word : List ℕ) → All IsCharacter word → Accepts both word ↔ (Accepts all word × Accepts next word))
    → (word : List ℕ) → All IsCharacter word → (AllAccept left word × Accepts both word) ↔ AllAccept dfas word
product_more dfas old left all next both is so_far product word characters =
    let push = all_push (λ d. Accepts d word) left next in
    let before = so_far word characters in
    let now = product word characters in (
      (λ h. let parts = now.0 h.1 in before.0 (
        subst (λ l. AllAccept l word) (sym is) (push.1 (h.0, parts.1)),
        parts.0,
      )),
      (λ h. let parts = before.1 h in let apart = push.0 (subst (λ l. AllAccept l word) is parts.0) in
          (apart.0, now.1 (parts.1, apart.1))),
    )
