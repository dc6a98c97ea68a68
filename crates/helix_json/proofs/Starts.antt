-- Where the innermost container starts.
use Rattle.std.proofs.Common.{◌≡◌, ℕ, ◌+◌, ◌<◌, ◌≤◌, ◌⊎◌, inl, inr, true, false, List, [], ◌∷◌, ◌++◌, length, drop, reverse, refl, sym, ◌∙◌, ap, subst, arith, append_assoc}
use Rattle.std.proofs.lemmas.Bool.{cases_lt}
use Rattle.std.proofs.lemmas.List.{drop_at, drop-append-le, drop_all, length_push, reverse-append}
use Rattle.helix_json.specs.declared.token.Token.{Token}
use Rattle.helix_json.specs.declared.token.Token.TheVariants as token
use Rattle.helix_json.specs.Broken.{Opens, stays}
use Rattle.helix_json.specs.Inner.Scopes.{Closes, MovesScope}
use Rattle.helix_json.proofs.Stays.{stays_after, stays-back, still_open, closes_again, closes_none}

-- after s of the tokens before it, each container that opened has closed again; and no fewer will do
pub record IsStart (before : List Token) (s : ℕ) : Type 0 where
  pub stays_on : stays 0 (drop s before) ≡ true
  pub least : (r : ℕ) → r < s → stays 0 (drop r before) ≡ false

not_below : (before : List Token) (s r : ℕ) → IsStart before s → IsStart before r → s < r → ⊥
not_below before s r a b h = let f : true ≡ false = sym a.stays_on ∙ b.least s h in cc

same_start : (before : List Token) (s r : ℕ) → IsStart before s → IsStart before r → (s < r) ⊎ (r ≤ s)
    → (r < s) ⊎ (s ≤ r) → s ≡ r
same_start before s r a b (inl h) k = absurd (not_below before s r a b h)
same_start before s r a b (inr h) (inl k) = absurd (not_below before r s b a k)
same_start before s r a b (inr h) (inr k) = omega arith

pub one_start : (before : List Token) (s r : ℕ) → IsStart before s → IsStart before r → s ≡ r
one_start before s r a b = same_start before s r a b (cases_lt s r) (cases_lt r s)

within : (before : List Token) (s : ℕ) → IsStart before s → (length before < s) ⊎ (s ≤ length before)
    → s ≤ length before
within before s a (inl h) = let f : true ≡ false = sym (ap (stays 0) (drop_all (length before) before (omega arith)))
    ∙ a.least (length before) h in cc
within before s a (inr h) = h

pub start_within : (before : List Token) (s : ℕ) → IsStart before s → s ≤ length before
start_within before s a = within before s a (cases_lt (length before) s)

-- of tokens that leave all as it was, the start is that of those before them
earlier_start : (before more : List Token) (s : ℕ) → stays 0 more ≡ true → IsStart (before ++ more) s
    → (length before < s) ⊎ (s ≤ length before) → IsStart before s
earlier_start before more s h a (inl k) =
    let f : true ≡ false = sym h ∙ (sym (ap (stays 0) (drop_at before more (length before) refl))
    ∙ a.least (length before) k) in cc
earlier_start before more s h a (inr k) = record {
  stays_on = sym (stays-back 0 (drop s before) more h)
      ∙ (ap (stays 0) (sym (drop-append-le s before more k)) ∙ a.stays_on);
  least = λ r less. let m : r ≤ length before = omega arith in
      sym (stays-back 0 (drop r before) more h)
      ∙ (ap (stays 0) (sym (drop-append-le r before more m)) ∙ a.least r less);
}

pub start_before : (before more : List Token) (s : ℕ) → stays 0 more ≡ true → IsStart (before ++ more) s
    → IsStart before s
start_before before more s h a = earlier_start before more s h a (cases_lt (length before) s)

-- tokens between two indices with one start leave all as it was
pub stays_between : (before more : List Token) (s : ℕ) → IsStart before s → IsStart (before ++ more) s
    → stays 0 more ≡ true
stays_between before more s a b =
    sym (stays_after (drop s before) more a.stays_on)
    ∙ (ap (stays 0) (sym (drop-append-le s before more (start_within before s a))) ∙ b.stays_on)

-- the starts of the open containers, the innermost first
abbrev pub Nested : List ℕ → ℕ → List Token → Type 0
Nested [] s before = (s ≡ 0) × (stays 0 before ≡ true)
Nested (o ∷ os) s before = (prefix inner : List Token) × (t : Token) × (before ≡ prefix ++ t ∷ inner) × Opens t
    × (s ≡ length prefix + 1) × (stays 0 inner ≡ true) × Nested os o prefix

drop_past : (prefix inner : List Token) (t : Token) (s : ℕ) → s ≡ length prefix + 1
    → drop s (prefix ++ t ∷ inner) ≡ inner
drop_past prefix inner t s e = ap (drop s) (sym (append_assoc prefix (t ∷ []) inner))
    ∙ drop_at (prefix ++ t ∷ []) inner s (length_push prefix t ∙ sym e)

pub nested_start : (os : List ℕ) (s : ℕ) (before : List Token) → Nested os s before → IsStart before s
nested_start [] s before (e, h) = record {
  stays_on = ap (λ n. stays 0 (drop n before)) e ∙ h;
  least = λ r less. absurd (omega arith);
}
nested_start (o ∷ os) s before (prefix, inner, t, is, opens, at, h, outer) = record {
  stays_on = ap (λ l. stays 0 (drop s l)) is ∙ (ap (stays 0) (drop_past prefix inner t s at) ∙ h);
  least = λ r less. let m : r ≤ length prefix = omega arith in
      ap (λ l. stays 0 (drop r l)) is ∙ (ap (stays 0) (drop-append-le r prefix (t ∷ inner) m)
      ∙ still_open 0 (drop r prefix) inner t opens h);
}

nested_same : (os : List ℕ) (s : ℕ) (before : List Token) (t : Token) → stays 0 (t ∷ []) ≡ true → Nested os s before
    → Nested os s (before ++ t ∷ [])
nested_same [] s before t plain (e, h) = (e, stays_after before (t ∷ []) h ∙ plain)
nested_same (o ∷ os) s before t plain (prefix, inner, u, is, opens, at, h, outer) = (
  prefix,
  inner ++ t ∷ [],
  u,
  ap (λ l. l ++ t ∷ []) is ∙ append_assoc prefix (u ∷ inner) (t ∷ []),
  opens,
  at,
  stays_after inner (t ∷ []) h ∙ plain,
  outer,
)

nested_close : (os : List ℕ) (o s : ℕ) (before : List Token) (c : Token) → Closes c → Nested (o ∷ os) s before
    → Nested os o (before ++ c ∷ [])
nested_close [] o s before c closes (prefix, inner, t, is, opens, at, h, (e, k)) = (
  e,
  ap (λ l. stays 0 (l ++ c ∷ [])) is ∙ (ap (stays 0) (append_assoc prefix (t ∷ inner) (c ∷ []))
      ∙ closes_again prefix inner t c k opens h closes),
)
nested_close (p ∷ os) o s before c closes (
  prefix,
  inner,
  t,
  is,
  opens,
  at,
  h,
  (outer, middle, u, whole, first, offset, k, others),
) = (
  outer,
  middle ++ t ∷ (inner ++ c ∷ []),
  u,
  ap (λ l. l ++ c ∷ []) (is ∙ ap (λ l. l ++ t ∷ inner) whole)
      ∙ (append_assoc (outer ++ u ∷ middle) (t ∷ inner) (c ∷ [])
      ∙ append_assoc outer (u ∷ middle) (t ∷ (inner ++ c ∷ []))),
  first,
  offset,
  closes_again middle inner t c k opens h closes,
  others,
)

last_first : (os : List ℕ) (o : ℕ) → reverse (os ++ o ∷ []) ≡ o ∷ reverse os
last_first os o = reverse-append os (o ∷ [])

nested_open : (outer others : List ℕ) (s next i : ℕ) (before : List Token) (t : Token) → i ≡ length before → Opens t
    → (others ≡ outer ++ s ∷ []) × (next ≡ i + 1)
    → Nested (reverse outer) s before → Nested (reverse others) next (before ++ t ∷ [])
nested_open outer others s next i before t n opens (e, f) h =
    subst (λ l. Nested l next (before ++ t ∷ [])) (sym (ap reverse e ∙ last_first outer s)) (
      before,
      [],
      t,
      refl,
      opens,
      f ∙ ap (λ m. m + 1) n,
      refl,
      h,
    )

nested_shut : (outer others : List ℕ) (s next : ℕ) (before : List Token) (t : Token) → Closes t
    → outer ≡ others ++ next ∷ []
    → Nested (reverse outer) s before → Nested (reverse others) next (before ++ t ∷ [])
nested_shut outer others s next before t closes e h =
    nested_close (reverse others) next s before t closes
    (subst (λ l. Nested l s before) (ap reverse e ∙ last_first others next) h)

nested_on : (outer others : List ℕ) (s next : ℕ) (before : List Token) (t : Token) → stays 0 (t ∷ []) ≡ true
    → (others ≡ outer) × (next ≡ s)
    → Nested (reverse outer) s before → Nested (reverse others) next (before ++ t ∷ [])
nested_on outer others s next before t plain (e, f) h =
    subst (λ l. Nested (reverse l) next (before ++ t ∷ [])) (sym e)
    (subst (λ n. Nested (reverse outer) n (before ++ t ∷ [])) (sym f) (nested_same (reverse outer) s before t plain h))

pub nested_passes : (outer others : List ℕ) (s next i : ℕ) (before : List Token) (t : Token) → i ≡ length before
    → MovesScope i t outer s others next
    → Nested (reverse outer) s before → Nested (reverse others) next (before ++ t ∷ [])
nested_passes outer others s next i before token.OpenList n p h =
    nested_open outer others s next i before token.OpenList n tt p h
nested_passes outer others s next i before token.OpenObject n p h =
    nested_open outer others s next i before token.OpenObject n tt p h
nested_passes outer others s next i before token.CloseList n p h =
    nested_shut outer others s next before token.CloseList tt p h
nested_passes outer others s next i before token.CloseObject n p h =
    nested_shut outer others s next before token.CloseObject tt p h
nested_passes outer others s next i before token.Comma n p h = nested_on outer others s next before token.Comma refl p h
nested_passes outer others s next i before token.Colon n p h = nested_on outer others s next before token.Colon refl p h
nested_passes outer others s next i before token.Null n p h = nested_on outer others s next before token.Null refl p h
nested_passes outer others s next i before token.True n p h = nested_on outer others s next before token.True refl p h
nested_passes outer others s next i before token.False n p h = nested_on outer others s next before token.False refl p h
nested_passes outer others s next i before (token.Number k) n p h =
    nested_on outer others s next before (token.Number k) refl p h
nested_passes outer others s next i before (token.Str k) n p h =
    nested_on outer others s next before (token.Str k) refl p h

-- what closes is inside of some container
pub inside : (outer : List ℕ) (s : ℕ) (before rest : List Token) (t : Token) → stays 0 (before ++ t ∷ rest) ≡ true
    → Nested (reverse outer) s before → Closes t → 0 < length outer
inside [] s before rest t whole (e, h) closes =
    let f : true ≡ false = sym whole ∙ (stays_after before (t ∷ rest) h ∙ closes_none t rest closes) in cc
inside (o ∷ outer) s before rest t whole h closes = omega arith
