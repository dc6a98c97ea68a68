-- What is found after a pattern is what is there, and nothing else.
use Rattle.std.proofs.Common.{arith, length, eq-eqb, ◌≡◌, ℕ, List, [], ◌∷◌, ◌++◌, refl, sym, ◌∙◌, ap, Bool, true, false, ◌&&◌, ◌||◌, not}
use Rattle.std.specs.Prelude.{Some, None, IsTrue, ◌==◌, if◌then◌else◌, MatchBool, ◌↔◌}
use Rattle.std.specs.List.{list_all}
use Rattle.std.proofs.lemmas.Bool.{eqb-true}
use Rattle.helix_run.specs.Profile.{Follows, is_space}
use Rattle.std.proofs.lemmas.Bool.{and_parts, and_from}
use Rattle.helix_run.specs.Inner.Pattern.{after, after_blanks, begins_settled, is_settled}

-- the blanks at the start, and what is after them
front_blanks : (bytes : List ℕ) → (blanks : List ℕ) × IsTrue (list_all is_space blanks)
    × (bytes ≡ blanks ++ after_blanks bytes)
front_blanks [] = ([], refl, refl)
front_blanks (byte ∷ bytes) =
    elim (is_space byte) as (λ b. is_space byte ≡ b → (blanks : List ℕ) × IsTrue (list_all is_space blanks)
    × (byte ∷ bytes ≡ blanks ++ (if b then after_blanks bytes else byte ∷ bytes))) [
      | true ↦ λ e. let more : (blanks : List ℕ) × IsTrue (list_all is_space blanks)
          × (bytes ≡ blanks ++ after_blanks bytes) = front_blanks bytes in
          (byte ∷ more.0, and_from _ _ e more.1, ap (λ s. byte ∷ s) more.2)
      | false ↦ λ e. ([], refl, refl)
    ] refl

-- what is found after a pattern is there
pub Follows-from_after : (pattern bytes rest : List ℕ) → after pattern bytes ≡ Some rest → Follows pattern bytes rest
Follows-from_after [] bytes rest e = cc
Follows-from_after (expected ∷ pattern) [] rest e =
    elim (expected == 32) as (λ b. (if b then after pattern [] else None) ≡ Some rest → MatchBool b
    ((blanks next : List ℕ) × IsTrue (list_all is_space blanks) × ([] ≡ blanks ++ next) × Follows pattern next rest)
    ((next : List ℕ) × ([] ≡ expected ∷ next) × Follows pattern next rest)) [
      | true ↦ λ e. ([], [], refl, refl, Follows-from_after pattern [] rest e)
      | false ↦ λ e. absurd (cc)
    ] e
Follows-from_after (expected ∷ pattern) (byte ∷ bytes) rest e =
    elim (expected == 32) as (λ b.
    (if b then after pattern (after_blanks (byte ∷ bytes)) else if byte == expected then after pattern
    bytes else None) ≡ Some rest → MatchBool b
    ((blanks next : List ℕ) × IsTrue (list_all is_space blanks) × (byte ∷ bytes ≡ blanks ++ next)
    × Follows pattern next rest)
    ((next : List ℕ) × (byte ∷ bytes ≡ expected ∷ next) × Follows pattern next rest)) [
      | true ↦ λ e.
          let prefix : (blanks : List ℕ) × IsTrue (list_all is_space blanks)
          × (byte ∷ bytes ≡ blanks ++ after_blanks (byte ∷ bytes)) = front_blanks (byte ∷ bytes) in (
            prefix.0,
            after_blanks (byte ∷ bytes),
            prefix.1,
            prefix.2,
            Follows-from_after pattern
                (after_blanks (byte ∷ bytes)) rest e,
          )
      | false ↦ λ e.
          elim (byte == expected) as (λ b. (byte == expected) ≡ b
          → (if b then after pattern bytes else None) ≡ Some rest → (next : List ℕ)
          × (byte ∷ bytes ≡ expected ∷ next) × Follows pattern next rest) [
            | true ↦ λ same e.
                (bytes, ap (λ x. x ∷ bytes) (eqb-true byte expected same), Follows-from_after pattern bytes rest e)
            | false ↦ λ other e. absurd (cc)
          ] refl e
    ] e

-- leading blanks change nothing
after_blanks-append : (blanks next : List ℕ) → IsTrue (list_all is_space blanks)
    → after_blanks (blanks ++ next) ≡ after_blanks next
after_blanks-append [] next all = refl
after_blanks-append (byte ∷ blanks) next all =
    let parts : (is_space byte ≡ true) × (list_all is_space blanks ≡ true) = and_parts _ _ all in
    ap (λ b. if b then after_blanks (blanks ++ next) else byte ∷ (blanks ++ next)) parts.0
    ∙ after_blanks-append blanks next parts.1

-- a byte that isn't blank ends the blanks
settled_byte : (byte : ℕ) (bytes : List ℕ) → not (is_space byte) ≡ true → after_blanks (byte ∷ bytes) ≡ byte ∷ bytes
settled_byte byte bytes e =
    elim (is_space byte) as (λ b. not b ≡ true → (if b then after_blanks bytes else byte ∷ bytes) ≡ byte ∷ bytes)
    [ true ↦ λ e. absurd (cc) | false ↦ λ e. refl ] e

space_is_blank : (byte : ℕ) → (byte == 32) ≡ true → is_space byte ≡ true
space_is_blank byte e = ap (λ b. (b || byte == 9) || (byte == 10 || byte == 13)) e

settled_next : (pattern next rest : List ℕ) → Follows pattern next rest → begins_settled pattern rest ≡ true
    → after_blanks next ≡ next
settled_next [] next [] f e = rw f refl
settled_next [] next (byte ∷ rest) f e = rw f (settled_byte byte rest e)
settled_next (expected ∷ pattern) next rest f e =
    elim (expected == 32) as (λ b. (expected == 32) ≡ b → MatchBool b
    ((blanks more : List ℕ) × IsTrue (list_all is_space blanks) × (next ≡ blanks ++ more) × Follows pattern more rest)
    ((more : List ℕ) × (next ≡ expected ∷ more) × Follows pattern more rest) → after_blanks next ≡ next) [
      | true ↦ λ space f. absurd
          (let h : is_space expected ≡ true = space_is_blank expected space in let k : not true ≡ true = ap not (sym h)
          ∙ e in cc)
      | false ↦ λ other f. rw f.1 (settled_byte expected f.0 e)
    ] refl f

-- of a space and of another byte, what `after` goes on with
after-space : (expected : ℕ) (pattern bytes : List ℕ) → (expected == 32) ≡ true
    → after (expected ∷ pattern) bytes ≡ after pattern (after_blanks bytes)
after-space expected pattern [] e = ap (λ b. if b then after pattern [] else None) e
after-space expected pattern (byte ∷ bytes) e =
    ap (λ b. if b then after pattern (after_blanks (byte ∷ bytes)) else if byte == expected then after pattern
    bytes else None) e

after-byte : (expected : ℕ) (pattern bytes : List ℕ) → (expected == 32) ≡ false
    → after (expected ∷ pattern) (expected ∷ bytes) ≡ after pattern bytes
after-byte expected pattern bytes e =
    ap (λ b. if b then after pattern (after_blanks (expected ∷ bytes)) else if expected == expected then after pattern
    bytes else None) e
    ∙ ap (λ b. if b then after pattern bytes else None) (eq-eqb expected expected refl)

-- what is after a settled pattern is found
pub after-from_Follows : (pattern bytes rest : List ℕ) → Follows pattern bytes rest → is_settled pattern rest ≡ true
    → after pattern bytes ≡ Some rest
after-from_Follows [] bytes rest f settled = ap Some f
after-from_Follows (expected ∷ pattern) bytes rest f settled =
    elim (expected == 32) as (λ b. (expected == 32) ≡ b
    → (((not b || begins_settled pattern rest) && is_settled pattern rest) ≡ true) → MatchBool b
    ((blanks more : List ℕ) × IsTrue (list_all is_space blanks) × (bytes ≡ blanks ++ more) × Follows pattern more rest)
    ((more : List ℕ) × (bytes ≡ expected ∷ more) × Follows pattern more rest)
    → after (expected ∷ pattern) bytes ≡ Some rest) [
      | true ↦ λ space settled f.
          let parts : (begins_settled pattern rest ≡ true) × (is_settled pattern rest ≡ true) = and_parts _ _ settled in
          after-space expected pattern bytes space
          ∙ ap (λ bs. after pattern (after_blanks bs)) f.3
          ∙ ap (after pattern) (after_blanks-append f.0 f.1 f.2 ∙ settled_next pattern f.1 rest f.4 parts.0)
          ∙ after-from_Follows pattern f.1 rest f.4 parts.1
      | false ↦ λ other settled f.
          ap (after (expected ∷ pattern)) f.1 ∙ after-byte expected pattern f.0 other
          ∙ after-from_Follows pattern f.0 rest f.2 settled
    ] refl settled f

-- whether a list is empty
empty_test : (rest : List ℕ) (b : Bool) → b ≡ (length rest == 0) → b ≡ true ↔ (rest ≡ [])
empty_test [] b is = (λ t. refl, λ e. is)
empty_test (byte ∷ rest) b is = (
  λ t. absurd (let long : length (byte ∷ rest) ≡ 0 = eqb-true (length (byte ∷ rest)) 0 (sym is ∙ t) in omega arith),
  λ e. absurd (cc),
)

-- a test of the whole text: nothing is after the pattern
pub follows-some : (pattern bytes rest : List ℕ) (b : Bool) → Some rest ≡ after pattern bytes
    → is_settled pattern [] ≡ true → b ≡ (length rest == 0) → b ≡ true ↔ Follows pattern bytes []
follows-some pattern bytes rest b found settled is =
    let empty : b ≡ true ↔ (rest ≡ []) = empty_test rest b is in (
      λ t. Follows-from_after pattern bytes [] (sym found ∙ ap Some (empty.0 t)),
      λ f. empty.1 (let e : Some [] ≡ Some rest = sym (after-from_Follows pattern bytes [] f settled)
          ∙ sym found in cc),
    )

pub follows-none : (pattern bytes : List ℕ) → None ≡ after pattern bytes → is_settled pattern [] ≡ true → false ≡ true
    ↔ Follows pattern bytes []
follows-none pattern bytes found settled = (
  λ t. absurd (cc),
  λ f. absurd (let e : None ≡ Some [] = found
      ∙ after-from_Follows pattern bytes [] f settled in cc),
)
