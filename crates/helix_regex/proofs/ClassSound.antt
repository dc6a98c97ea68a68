-- What is read of a class is the text of its items so far.
use Rattle.std.proofs.Common.{◌≡◌, ◌≢◌, inl, inr, ℕ, Bool, true, false, IsTrue, ◌==◌, List, [], ◌∷◌, ◌++◌, refl, sym, ◌∙◌, ap, subst, append_assoc}
use Rattle.std.proofs.lemmas.Bool.{eqb-true}
use Rattle.helix_regex.specs.declared.char_kind.ClassKind.{ClassKind}
use Rattle.helix_regex.specs.declared.char_kind.ClassKind.TheVariants as class_is
use Rattle.helix_regex.specs.declared.char_kind.EscapeKind.{EscapeKind}
use Rattle.helix_regex.specs.declared.char_kind.EscapeKind.TheVariants as escape_is
use Rattle.helix_regex.specs.Pattern.{End, plain, escaped, Item, single, range, set_item, dash, end_text, items_text, FitsEnd, FitItems}
use Rattle.helix_regex.specs.Inner.Scan.{class_kind, escape_kind}
use Rattle.helix_regex.proofs.Machine.{InClass, class_opened, class_first, class_items, class_one, class_dash, class_last, class_escape, class_far, ClassMove, refuse, go, done, first_move, items_move, one_move, dash_move, last_move, class_escape_move, far_move, opened_move, class_move}
use Rattle.helix_regex.proofs.Texts.{items_text-push, items_text-append}
use Rattle.helix_regex.proofs.CharKinds.{ClassMeans, class_means, EscapeMeans, escape_means}

-- items that further ones may follow: a `-` is only the first
abbrev pub Begun : Bool → List Item → Type 0
Begun f [] = Unit {0}
Begun f (single e ∷ is) = FitsEnd e × Begun false is
Begun f (range e g ∷ is) = (FitsEnd e × FitsEnd g) × Begun false is
Begun f (set_item l ∷ is) = FitItems true (set_item l ∷ []) × Begun false is
Begun f (dash ∷ is) = IsTrue f × Begun false is

abbrev pub IsBegun : List Item → Type 0
IsBegun is = Begun true is

-- an item that is no `-`
abbrev pub FitsItem : Item → Type 0
FitsItem dash = ⊥
FitsItem i = FitItems true (i ∷ [])

begun_push : (f : Bool) (is : List Item) (i : Item) → Begun f is → FitsItem i → Begun f (is ++ i ∷ [])
begun_push f [] (single e) h k = k
begun_push f [] (range e g) h k = k
begun_push f [] (set_item l) h k = (k, tt)
begun_push f [] dash h k = absurd k
begun_push f (single e ∷ is) i h k = (h.0, begun_push false is i h.1 k)
begun_push f (range e g ∷ is) i h k = (h.0, begun_push false is i h.1 k)
begun_push f (set_item l ∷ is) i h k = (h.0, begun_push false is i h.1 k)
begun_push f (dash ∷ is) i h k = (h.0, begun_push false is i h.1 k)

begun_fit : (f : Bool) (is : List Item) → Begun f is → FitItems f is
begun_fit f [] h = tt
begun_fit f (single e ∷ is) h = (h.0, begun_fit false is h.1)
begun_fit f (range e g ∷ is) h = (h.0, begun_fit false is h.1)
begun_fit f (set_item l ∷ is) h = (h.0.0, begun_fit false is h.1)
begun_fit f (dash ∷ is) h = (inl h.0, begun_fit false is h.1)

-- a `-` may be the last
begun_dash : (f : Bool) (is : List Item) → Begun f is → FitItems f (is ++ dash ∷ [])
begun_dash f [] h = (inr refl, tt)
begun_dash f (single e ∷ is) h = (h.0, begun_dash false is h.1)
begun_dash f (range e g ∷ is) h = (h.0, begun_dash false is h.1)
begun_dash f (set_item l ∷ is) h = (h.0.0, begun_dash false is h.1)
begun_dash f (dash ∷ is) h = (inl h.0, begun_dash false is h.1)

pub push_some : (is : List Item) (i : Item) → is ++ i ∷ [] ≢ []
push_some [] i e = cc
push_some (j ∷ is) i e = cc

abbrev pub ClassFine : InClass → Type 0
ClassFine class_opened = Unit {0}
ClassFine class_first = Unit {0}
ClassFine (class_items n is) = (is ≢ []) × IsBegun is
ClassFine (class_one n is e) = IsBegun is × FitsEnd e
ClassFine (class_dash n is e) = IsBegun is × FitsEnd e
ClassFine (class_last n is) = (is ≢ []) × IsBegun is
ClassFine (class_escape n is) = IsBegun is
ClassFine (class_far n is e) = IsBegun is × FitsEnd e

abbrev pub caret_text : Bool → List ℕ
caret_text true = 94 ∷ []
caret_text false = []

-- what is after the `[`
abbrev pub class_so_far : InClass → List ℕ
class_so_far class_opened = []
class_so_far class_first = 94 ∷ []
class_so_far (class_items n is) = caret_text n ++ items_text is
class_so_far (class_one n is e) = caret_text n ++ (items_text is ++ end_text e)
class_so_far (class_dash n is e) = caret_text n ++ (items_text is ++ (end_text e ++ 45 ∷ []))
class_so_far (class_last n is) = caret_text n ++ (items_text is ++ 45 ∷ [])
class_so_far (class_escape n is) = caret_text n ++ (items_text is ++ 92 ∷ [])
class_so_far (class_far n is e) = caret_text n ++ (items_text is ++ (end_text e ++ 45 ∷ 92 ∷ []))

-- what a move leaves, where a text is after the `[`
abbrev pub Moved : ClassMove → List ℕ → Type 0
Moved refuse t = Unit {0}
Moved (go k) t = ClassFine k × (class_so_far k ≡ t)
Moved (done n is) t = (is ≢ []) × FitItems true is × (caret_text n ++ (items_text is ++ 93 ∷ []) ≡ t)

first_moved : (n : Bool) (s : ClassKind) (c : ℕ) → ClassMeans s c → Moved (first_move n s c) (caret_text n ++ c ∷ [])
first_moved n class_is.Plain c m = ((tt, m), refl)
first_moved n class_is.Backslash c m = (tt, ap (λ d. caret_text n ++ d ∷ []) (sym m))
first_moved n class_is.Dash c m = (((λ e. cc), (refl, tt)), ap (λ d. caret_text n ++ d ∷ []) (sym m))
first_moved n class_is.Close c m = tt
first_moved n class_is.Other c m = tt

items_moved : (n : Bool) (is : List Item) (s : ClassKind) (c : ℕ) → is ≢ [] → IsBegun is → ClassMeans s c
    → Moved (items_move n is s c) ((caret_text n ++ items_text is) ++ c ∷ [])
items_moved n is class_is.Plain c some h m = ((h, m), sym (append_assoc (caret_text n) (items_text is) (c ∷ [])))
items_moved n is class_is.Backslash c some h m = (
  h,
  ap (λ d. caret_text n ++ (items_text is ++ d ∷ [])) (sym m)
      ∙ sym (append_assoc (caret_text n) (items_text is) (c ∷ [])),
)
items_moved n is class_is.Dash c some h m = (
  (some, h),
  ap (λ d. caret_text n ++ (items_text is ++ d ∷ [])) (sym m)
      ∙ sym (append_assoc (caret_text n) (items_text is) (c ∷ [])),
)
items_moved n is class_is.Close c some h m = (
  some,
  begun_fit true is h,
  ap (λ d. caret_text n ++ (items_text is ++ d ∷ [])) (sym m)
      ∙ sym (append_assoc (caret_text n) (items_text is) (c ∷ [])),
)
items_moved n is class_is.Other c some h m = tt

one_text : (n : Bool) (is : List Item) (e : End)
    → caret_text n ++ items_text (is ++ single e ∷ []) ≡ caret_text n ++ (items_text is ++ end_text e)
one_text n is e = ap (λ t. caret_text n ++ t) (items_text-push is (single e))

-- after a single character that begins no range
one_as_items : (n : Bool) (is : List Item) (e : End) (s : ClassKind) (c : ℕ) → IsBegun is → FitsEnd e → ClassMeans s c
    → Moved (items_move n (is ++ single e ∷ []) s c) ((caret_text n ++ (items_text is ++ end_text e)) ++ c ∷ [])
one_as_items n is e s c h k m = subst (λ t. Moved (items_move n (is ++ single e ∷ []) s c) (t ++ c ∷ []))
    (one_text n is e)
    (items_moved n (is ++ single e ∷ []) s c (push_some is (single e)) (begun_push true is (single e) h (k, tt)) m)

one_moved : (n : Bool) (is : List Item) (e : End) (s : ClassKind) (c : ℕ) → IsBegun is → FitsEnd e → ClassMeans s c
    → Moved (one_move n is e s c) ((caret_text n ++ (items_text is ++ end_text e)) ++ c ∷ [])
one_moved n is e class_is.Dash c h k m =
    ((h, k), ap (λ d. caret_text n ++ (items_text is ++ (end_text e ++ d ∷ []))) (sym m) ∙ simp append_assoc)
one_moved n is e class_is.Plain c h k m = one_as_items n is e class_is.Plain c h k m
one_moved n is e class_is.Backslash c h k m = one_as_items n is e class_is.Backslash c h k m
one_moved n is e class_is.Close c h k m = one_as_items n is e class_is.Close c h k m
one_moved n is e class_is.Other c h k m = tt

range_text : (n : Bool) (is : List Item) (e f : End)
    → caret_text n ++ items_text (is ++ range e f ∷ [])
    ≡ caret_text n ++ (items_text is ++ (end_text e ++ 45 ∷ end_text f))
range_text n is e f = ap (λ t. caret_text n ++ t) (items_text-push is (range e f))

-- a `-` after a single character at a class's end is an item
dash_text : (n : Bool) (is : List Item) (e : End)
    → caret_text n ++ (items_text (is ++ single e ∷ dash ∷ []) ++ 93 ∷ [])
    ≡ (caret_text n ++ (items_text is ++ (end_text e ++ 45 ∷ []))) ++ 93 ∷ []
dash_text n is e = ap (λ t. caret_text n ++ (t ++ 93 ∷ [])) (items_text-append is (single e ∷ dash ∷ []))
    ∙ sym (append_assoc (caret_text n) (items_text is ++ (end_text e ++ 45 ∷ [])) (93 ∷ []))

last_text : (n : Bool) (is : List Item)
    → caret_text n ++ (items_text (is ++ dash ∷ []) ++ 93 ∷ [])
    ≡ (caret_text n ++ (items_text is ++ 45 ∷ [])) ++ 93 ∷ []
last_text n is = ap (λ t. caret_text n ++ (t ++ 93 ∷ [])) (items_text-push is dash)
    ∙ sym (append_assoc (caret_text n) (items_text is ++ 45 ∷ []) (93 ∷ []))

two_pushed : (is : List Item) (e : End) → (is ++ single e ∷ []) ++ dash ∷ [] ≡ is ++ single e ∷ dash ∷ []
two_pushed is e = append_assoc is (single e ∷ []) (dash ∷ [])

dash_moved : (n : Bool) (is : List Item) (e : End) (s : ClassKind) (c : ℕ) → IsBegun is → FitsEnd e → ClassMeans s c
    → Moved (dash_move n is e s c) ((caret_text n ++ (items_text is ++ (end_text e ++ 45 ∷ []))) ++ c ∷ [])
dash_moved n is e class_is.Plain c h k m = (
  (push_some is (range e (plain c)), begun_push true is (range e (plain c)) h ((k, m), tt)),
  range_text n is e (plain c) ∙ simp append_assoc,
)
dash_moved n is e class_is.Backslash c h k m =
    ((h, k), ap (λ d. caret_text n ++ (items_text is ++ (end_text e ++ 45 ∷ d ∷ []))) (sym m) ∙ simp append_assoc)
dash_moved n is e class_is.Close c h k m = (
  subst (λ l. l ≢ []) (two_pushed is e) (push_some (is ++ single e ∷ []) dash),
  subst (FitItems true) (two_pushed is e)
      (begun_dash true (is ++ single e ∷ []) (begun_push true is (single e) h (k, tt))),
  dash_text n is e ∙ ap (λ d. (caret_text n ++ (items_text is ++ (end_text e ++ 45 ∷ []))) ++ d ∷ []) (sym m),
)
dash_moved n is e class_is.Dash c h k m = tt
dash_moved n is e class_is.Other c h k m = tt

last_moved : (n : Bool) (is : List Item) (s : ClassKind) (c : ℕ) → IsBegun is → ClassMeans s c
    → Moved (last_move n is s) ((caret_text n ++ (items_text is ++ 45 ∷ [])) ++ c ∷ [])
last_moved n is class_is.Close c h m = (
  push_some is dash,
  begun_dash true is h,
  last_text n is ∙ ap (λ d. (caret_text n ++ (items_text is ++ 45 ∷ [])) ++ d ∷ []) (sym m),
)
last_moved n is class_is.Plain c h m = tt
last_moved n is class_is.Backslash c h m = tt
last_moved n is class_is.Dash c h m = tt
last_moved n is class_is.Other c h m = tt

escape_moved : (n : Bool) (is : List Item) (s : EscapeKind) (c : ℕ) → IsBegun is → EscapeMeans s c
    → Moved (class_escape_move n is s c) ((caret_text n ++ (items_text is ++ 92 ∷ [])) ++ c ∷ [])
escape_moved n is escape_is.Itself c h m = ((h, m), simp append_assoc)
escape_moved n is escape_is.Set c h m = (
  (push_some is (set_item c), begun_push true is (set_item c) h (m, tt)),
  ap (λ t. caret_text n ++ t) (items_text-push is (set_item c)) ∙ simp append_assoc,
)
escape_moved n is escape_is.Other c h m = tt

far_moved : (n : Bool) (is : List Item) (e : End) (s : EscapeKind) (c : ℕ) → IsBegun is → FitsEnd e → EscapeMeans s c
    → Moved (far_move n is e s c) ((caret_text n ++ (items_text is ++ (end_text e ++ 45 ∷ 92 ∷ []))) ++ c ∷ [])
far_moved n is e escape_is.Itself c h k m = (
  (push_some is (range e (escaped c)), begun_push true is (range e (escaped c)) h ((k, m), tt)),
  range_text n is e (escaped c) ∙ simp append_assoc,
)
far_moved n is e escape_is.Set c h k m = tt
far_moved n is e escape_is.Other c h k m = tt

opened_moved : (test : Bool) (c : ℕ) → (test ≡ true → c ≡ 94) → Moved (opened_move test c) (c ∷ [])
opened_moved true c is = (tt, ap (λ d. d ∷ []) (sym (is refl)))
opened_moved false c is = first_moved false (class_kind c) c (class_means c)

pub class_moved : (k : InClass) (c : ℕ) → ClassFine k → Moved (class_move k c) (class_so_far k ++ c ∷ [])
class_moved class_opened c fine = opened_moved (c == 94) c (eqb-true c 94)
class_moved class_first c fine = first_moved true (class_kind c) c (class_means c)
class_moved (class_items n is) c fine = items_moved n is (class_kind c) c fine.0 fine.1 (class_means c)
class_moved (class_one n is e) c fine = one_moved n is e (class_kind c) c fine.0 fine.1 (class_means c)
class_moved (class_dash n is e) c fine = dash_moved n is e (class_kind c) c fine.0 fine.1 (class_means c)
class_moved (class_last n is) c fine = last_moved n is (class_kind c) c fine.1 (class_means c)
class_moved (class_escape n is) c fine = escape_moved n is (escape_kind c) c fine (escape_means c)
class_moved (class_far n is e) c fine = far_moved n is e (escape_kind c) c fine.0 fine.1 (escape_means c)
