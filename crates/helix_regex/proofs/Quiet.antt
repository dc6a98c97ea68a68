-- The tokens of an atom say nothing of anchors, bars, counts and groups.
use Rattle.std.proofs.Common.{◌≡◌, ℕ, ◌+◌, ◌≤◌, max, Bool, true, false, ◌||◌, Option, None, List, [], ◌∷◌, ◌++◌, length, refl, ◌∙◌, ap, arith}
use Rattle.std.specs.List.{list_any}
use Rattle.helix_regex.specs.declared.token.Token.{Token}
use Rattle.helix_regex.specs.declared.token.Token.TheVariants as token
use Rattle.helix_regex.specs.Pattern.{Item, single, range, set_item, dash, Single, literal, dot, escape, set, class, item_text}
use Rattle.helix_regex.specs.Inner.Tokens.{item_tokens, single_tokens}
use Rattle.helix_regex.specs.Faults.{lesser}
use Rattle.helix_regex.specs.Inner.Rules.{or_else, first_some, least_some, level, bar_at, outer_bar, deepest, miscounted_at, stray_at, is_caret, is_dollar}
use Rattle.helix_regex.proofs.Deep.{least}

abbrev pub IsInner : Token → Type 0
IsInner (token.Bar at) = ⊥
IsInner (token.Caret at) = ⊥
IsInner (token.Dollar at) = ⊥
IsInner token.Open = ⊥
IsInner token.Close = ⊥
IsInner (token.Repeat least most at) = ⊥
IsInner _ = Unit {0}

abbrev pub AreInner : List Token → Type 0
AreInner [] = Unit {0}
AreInner (t ∷ ts) = IsInner t × AreInner ts

inner_end : (is : List Item) (at : ℕ) → AreInner (item_tokens at is ++ token.ClassEnd ∷ [])
inner_end [] at = (tt, tt)
inner_end (single e ∷ is) at = (tt, inner_end is (at + length (item_text (single e))))
inner_end (range e f ∷ is) at = (tt, inner_end is (at + length (item_text (range e f))))
inner_end (set_item c ∷ is) at = (tt, inner_end is (at + length (item_text (set_item c))))
inner_end (dash ∷ is) at = (tt, inner_end is (at + length (item_text dash)))

pub inner_single : (s : Single) (at : ℕ) → AreInner (single_tokens at s)
inner_single (literal c) at = (tt, tt)
inner_single dot at = (tt, tt)
inner_single (escape c) at = (tt, tt)
inner_single (set c) at = (tt, tt)
inner_single (class true is) at = (tt, (tt, inner_end is (at + 2)))
inner_single (class false is) at = (tt, inner_end is (at + 1))

pub first_quiet : (f : Token → Option ℕ) → ((t : Token) → IsInner t → f t ≡ None) → (ts r : List Token) → AreInner ts
    → first_some f (ts ++ r) ≡ first_some f r
first_quiet f q [] r h = refl
first_quiet f q (t ∷ ts) r h = ap (λ x. or_else x (first_some f (ts ++ r))) (q t h.0) ∙ first_quiet f q ts r h.1

pub least_quiet : (f : Token → Option ℕ) → ((t : Token) → IsInner t → f t ≡ None) → (ts r : List Token) → AreInner ts
    → least_some f (ts ++ r) ≡ least_some f r
least_quiet f q [] r h = refl
least_quiet f q (t ∷ ts) r h = ap (λ x. lesser x (least_some f (ts ++ r))) (q t h.0) ∙ least_quiet f q ts r h.1

pub any_quiet : (f : Token → Bool) → ((t : Token) → IsInner t → f t ≡ false) → (ts r : List Token) → AreInner ts
    → list_any f (ts ++ r) ≡ list_any f r
any_quiet f q [] r h = refl
any_quiet f q (t ∷ ts) r h = ap (λ x. x || list_any f (ts ++ r)) (q t h.0) ∙ any_quiet f q ts r h.1

pub quiet_count : (t : Token) → IsInner t → miscounted_at t ≡ None
quiet_count (token.Repeat least most at) h = absurd h
quiet_count _ h = refl

pub quiet_stray : (size : ℕ) (t : Token) → IsInner t → stray_at size t ≡ None
quiet_stray size (token.Caret at) h = absurd h
quiet_stray size (token.Dollar at) h = absurd h
quiet_stray size _ h = refl

pub quiet_caret : (t : Token) → IsInner t → is_caret t ≡ false
quiet_caret (token.Caret at) h = absurd h
quiet_caret _ h = refl

pub quiet_dollar : (t : Token) → IsInner t → is_dollar t ≡ false
quiet_dollar (token.Dollar at) h = absurd h
quiet_dollar _ h = refl

quiet_bar : (d : ℕ) (t : Token) → IsInner t → bar_at d t ≡ None
quiet_bar d (token.Bar at) h = absurd h
quiet_bar d _ h = refl

quiet_level : (d : ℕ) (t : Token) → IsInner t → level d t ≡ d
quiet_level d token.Open h = absurd h
quiet_level d token.Close h = absurd h
quiet_level d _ h = refl

pub outer_quiet : (d : ℕ) (ts r : List Token) → AreInner ts → outer_bar d (ts ++ r) ≡ outer_bar d r
outer_quiet d [] r h = refl
outer_quiet d (t ∷ ts) r h = ap (λ x. or_else x (outer_bar (level d t) (ts ++ r))) (quiet_bar d t h.0)
    ∙ (ap (λ x. outer_bar x (ts ++ r)) (quiet_level d t h.0) ∙ outer_quiet d ts r h.1)

reached : (d : ℕ) (r : List Token) → max d (deepest d r) ≡ deepest d r
reached d r = let h : d ≤ deepest d r = least d r in omega arith

pub deepest_quiet : (d : ℕ) (ts r : List Token) → AreInner ts → deepest d (ts ++ r) ≡ deepest d r
deepest_quiet d [] r h = refl
deepest_quiet d (t ∷ ts) r h = ap (λ x. max d (deepest x (ts ++ r))) (quiet_level d t h.0)
    ∙ (ap (max d) (deepest_quiet d ts r h.1) ∙ reached d r)
