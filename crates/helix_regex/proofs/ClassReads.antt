-- The text of a class is read as its items.
use Rattle.std.proofs.Common.{◌≡◌, ◌≢◌, inl, inr, ℕ, Bool, true, false, IsTrue, ◌==◌, ◌&&◌, not, Option, Some, None, List, [], ◌∷◌, ◌++◌, refl, sym, ◌∙◌, ap, subst, append_assoc, arith}
use Rattle.std.proofs.lemmas.List.{append-nil}
use Rattle.std.proofs.lemmas.Bool.{eqb-true, cond-true, and_parts, ne_eqb, or_cases}
use Rattle.helix_regex.specs.declared.char_kind.ClassKind.TheVariants as class_is
use Rattle.helix_regex.specs.declared.char_kind.EscapeKind.TheVariants as escape_is
use Rattle.helix_regex.specs.Characters.{is_class_char, is_punct, is_set_letter}
use Rattle.helix_regex.specs.Pattern.{End, plain, escaped, Item, single, range, set_item, dash, class, Pattern, end_text, items_text, class_text, FitsEnd, FitItems, FitsClass, BeginsWithCaret, parts_ampersands}
use Rattle.helix_regex.specs.Inner.Scan.{class_kind, escape_kind}
use Rattle.helix_regex.proofs.Machine.{alone, atom, Frame, InClass, class_opened, class_first, class_items, class_one, class_dash, class_last, class_escape, class_far, State, outside, in_class, ClassMove, refuse, go, done, first_move, items_move, one_move, dash_move, class_escape_move, far_move, opened_move, class_move, class_step, on_some, run}

-- a letter that names a set is of no other kind
pub set_kind : (c : ℕ) → IsTrue (is_set_letter c) → escape_kind c ≡ escape_is.Set
set_kind c e = elim (or_cases _ _ e) [
  | inl f ↦ ap escape_kind (eqb-true c 100 f)
  | inr f ↦ (elim (or_cases _ _ f) [
    | inl g ↦ ap escape_kind (eqb-true c 119 g)
    | inr g ↦ (elim (or_cases _ _ g) [
      | inl h ↦ ap escape_kind (eqb-true c 115 h)
      | inr h ↦ (elim (or_cases _ _ h) [
        | inl i ↦ ap escape_kind (eqb-true c 68 i)
        | inr i ↦ (elim (or_cases _ _ i) [
          | inl j ↦ ap escape_kind (eqb-true c 87 j)
          | inr j ↦ (elim (or_cases _ _ j) [ inl k ↦ ap escape_kind (eqb-true c 83 k) | inr k ↦ cc ])
        ])
      ])
    ])
  ])
]

pub itself_kind : (c : ℕ) → IsTrue (is_punct c) → escape_kind c ≡ escape_is.Itself
itself_kind c e = cond-true _ _ _ e

pub plain_kind : (c : ℕ) → IsTrue (is_class_char c) → class_kind c ≡ class_is.Plain
plain_kind c e = cond-true _ _ _ e

-- where a text ends a class at its last character: the class
abbrev pub by_move : ClassMove → List ℕ → (InClass → Option (Bool × List Item)) → Option (Bool × List Item)
by_move refuse cs f = None
by_move (go k) cs f = f k
by_move (done n is) [] f = Some (n, is)
by_move (done n is) (c ∷ cs) f = None

unfoldable pub class_ends : InClass → List ℕ → Option (Bool × List Item)
class_ends k [] = None
class_ends k (c ∷ cs) = by_move (class_move k c) cs (λ next. class_ends next cs)

-- after items, or after a single character too
abbrev at_items : Bool → List Item → Option End → InClass
at_items n is None = class_items n is
at_items n is (Some e) = class_one n is e

abbrev settled_items : List Item → Option End → List Item
settled_items is None = is
settled_items is (Some e) = is ++ single e ∷ []

plain_moves : (n : Bool) (is : List Item) (p : Option End) (c : ℕ) → class_kind c ≡ class_is.Plain
    → class_move (at_items n is p) c ≡ go (class_one n (settled_items is p) (plain c))
plain_moves n is None c e = ap (λ s. items_move n is s c) e
plain_moves n is (Some d) c e = ap (λ s. one_move n is d s c) e

backslash_moves : (n : Bool) (is : List Item) (p : Option End)
    → class_move (at_items n is p) 92 ≡ go (class_escape n (settled_items is p))
backslash_moves n is None = refl
backslash_moves n is (Some d) = refl

moves_to : (k next : InClass) (c : ℕ) (cs : List ℕ) → class_move k c ≡ go next
    → class_ends k (c ∷ cs) ≡ class_ends next cs
unfolding class_ends
moves_to k next c cs e = ap (λ m. by_move m cs (λ j. class_ends j cs)) e

ends_at : (k : InClass) (c : ℕ) (n : Bool) (is : List Item) → class_move k c ≡ done n is
    → class_ends k (c ∷ []) ≡ Some (n, is)
unfolding class_ends
ends_at k c n is e = ap (λ m. by_move m [] (λ j. class_ends j [])) e

-- a single character from where one may begin
single_ends : (k : InClass) (n : Bool) (is : List Item) (e : End) (r : List ℕ) → FitsEnd e
    → ((c : ℕ) → end_text e ≡ c ∷ [] → class_kind c ≡ class_is.Plain → class_move k c ≡ go (class_one n is (plain c)))
    → (class_move k 92 ≡ go (class_escape n is))
    → class_ends k (end_text e ++ r) ≡ class_ends (class_one n is e) r
single_ends k n is (plain c) r fits f g = moves_to k (class_one n is (plain c)) c r (f c refl (plain_kind c fits))
single_ends k n is (escaped c) r fits f g = moves_to k (class_escape n is) 92 (c ∷ r) g
    ∙ moves_to (class_escape n is) (class_one n is (escaped c)) c r
    (ap (λ s. class_escape_move n is s c) (itself_kind c fits))

-- the last end of a range
far_ends : (n : Bool) (is : List Item) (e f : End) (r : List ℕ) → FitsEnd f
    → class_ends (class_dash n is e) (end_text f ++ r) ≡ class_ends (class_items n (is ++ range e f ∷ [])) r
far_ends n is e (plain c) r fits = moves_to (class_dash n is e) (class_items n (is ++ range e (plain c) ∷ [])) c r
    (ap (λ s. dash_move n is e s c) (plain_kind c fits))
far_ends n is e (escaped c) r fits = moves_to (class_dash n is e) (class_far n is e) 92 (c ∷ r) refl
    ∙ moves_to (class_far n is e) (class_items n (is ++ range e (escaped c) ∷ [])) c r
    (ap (λ s. far_move n is e s c) (itself_kind c fits))

set_ends : (k : InClass) (n : Bool) (is : List Item) (c : ℕ) (r : List ℕ) → IsTrue (is_set_letter c)
    → class_move k 92 ≡ go (class_escape n is)
    → class_ends k (92 ∷ c ∷ r) ≡ class_ends (class_items n (is ++ set_item c ∷ [])) r
set_ends k n is c r fits g = moves_to k (class_escape n is) 92 (c ∷ r) g
    ∙ moves_to (class_escape n is) (class_items n (is ++ set_item c ∷ [])) c r
    (ap (λ s. class_escape_move n is s c) (set_kind c fits))

abbrev ended : Bool → List Item → Option (Bool × List Item)
ended n is = Some (n, is)

same_class : (n : Bool) (a b : List Item) → a ≡ b → ended n a ≡ ended n b
same_class n a b e = ap (ended n) e

-- a `-` at the end of a class
dash_ends : (n : Bool) (is : List Item) (p : Option End) (t : List ℕ) → t ≡ []
    → class_ends (at_items n is p) (45 ∷ t ++ 93 ∷ []) ≡ Some (n, settled_items is p ++ dash ∷ [])
dash_ends n is None t e = ap (λ x. class_ends (class_items n is) (45 ∷ x ++ 93 ∷ [])) e
    ∙ (moves_to (class_items n is) (class_last n is) 45 (93 ∷ []) refl
    ∙ ends_at (class_last n is) 93 n (is ++ dash ∷ []) refl)
dash_ends n is (Some d) t e = ap (λ x. class_ends (class_one n is d) (45 ∷ x ++ 93 ∷ [])) e
    ∙ (moves_to (class_one n is d) (class_dash n is d) 45 (93 ∷ []) refl
    ∙ (ends_at (class_dash n is d) 93 n (is ++ single d ∷ dash ∷ []) refl
    ∙ same_class n (is ++ single d ∷ dash ∷ []) ((is ++ single d ∷ []) ++ dash ∷ [])
    (sym (append_assoc is (single d ∷ []) (dash ∷ [])))))

no_items : (n : Bool) (is : List Item) (p : Option End)
    → class_ends (at_items n is p) (93 ∷ []) ≡ Some (n, settled_items is p ++ [])
no_items n is None = ends_at (class_items n is) 93 n is refl ∙ same_class n is (is ++ []) (sym (append-nil is))
no_items n is (Some d) = ends_at (class_one n is d) 93 n (is ++ single d ∷ []) refl
    ∙ same_class n (is ++ single d ∷ []) ((is ++ single d ∷ []) ++ []) (sym (append-nil (is ++ single d ∷ [])))

regroup : (k : InClass) (a b c : List ℕ) → class_ends k ((a ++ b) ++ c) ≡ class_ends k (a ++ (b ++ c))
regroup k a b c = ap (class_ends k) (append_assoc a b c)

pushed : (n : Bool) (a is : List Item) (i : Item) → ended n ((a ++ i ∷ []) ++ is) ≡ ended n (a ++ i ∷ is)
pushed n a is i = same_class n ((a ++ i ∷ []) ++ is) (a ++ i ∷ is) (append_assoc a (i ∷ []) is)

nothing_text : (is : List Item) → is ≡ [] → items_text is ≡ []
nothing_text is e = ap items_text e

range_prefix : (e f : End) (is : List Item)
    → items_text (range e f ∷ is) ++ 93 ∷ [] ≡ end_text e ++ (45 ∷ end_text f ++ (items_text is ++ 93 ∷ []))
range_prefix e f is = simp append_assoc

items_end : (is : List Item) → FitItems false is → (n : Bool) (so_far : List Item) (p : Option End)
    → class_ends (at_items n so_far p) (items_text is ++ 93 ∷ []) ≡ Some (n, settled_items so_far p ++ is)
items_end [] fits n so_far p = no_items n so_far p
items_end (single e ∷ is) fits n so_far p = regroup (at_items n so_far p) (end_text e) (items_text is) (93 ∷ [])
    ∙ (single_ends (at_items n so_far p) n (settled_items so_far p) e (items_text is ++ 93 ∷ []) fits.0
    (λ c t s. plain_moves n so_far p c s) (backslash_moves n so_far p)
    ∙ (items_end is fits.1 n (settled_items so_far p) (Some e) ∙ pushed n (settled_items so_far p) is (single e)))
items_end (range e f ∷ is) fits n so_far p = ap (class_ends (at_items n so_far p)) (range_prefix e f is)
    ∙ (single_ends (at_items n so_far p) n (settled_items so_far p) e (45 ∷ end_text f ++ (items_text is ++ 93 ∷ []))
    fits.0.0 (λ c t s. plain_moves n so_far p c s) (backslash_moves n so_far p)
    ∙ (moves_to (class_one n (settled_items so_far p) e) (class_dash n (settled_items so_far p) e) 45
    (end_text f ++ (items_text is ++ 93 ∷ [])) refl
    ∙ (far_ends n (settled_items so_far p) e f (items_text is ++ 93 ∷ []) fits.0.1
    ∙ (items_end is fits.1 n (settled_items so_far p ++ range e f ∷ []) None
    ∙ pushed n (settled_items so_far p) is (range e f)))))
items_end (set_item c ∷ is) fits n so_far p =
    set_ends (at_items n so_far p) n (settled_items so_far p) c (items_text is ++ 93 ∷ []) fits.0
    (backslash_moves n so_far p)
    ∙ (items_end is fits.1 n (settled_items so_far p ++ set_item c ∷ []) None
    ∙ pushed n (settled_items so_far p) is (set_item c))
items_end (dash ∷ is) (inl e, fits) n so_far p = cc
items_end (dash ∷ is) (inr e, fits) n so_far p = dash_ends n so_far p (items_text is) (nothing_text is e)
    ∙ same_class n (settled_items so_far p ++ dash ∷ []) (settled_items so_far p ++ dash ∷ is)
    (ap (λ l. settled_items so_far p ++ dash ∷ l) (sym e))

-- the items of a class from its begin, where a `^` is none that is not excluded
abbrev StartsAt : InClass → Bool → Type 0
StartsAt k n = (c : ℕ) → (n ≡ false → c ≢ 94) → class_move k c ≡ first_move n (class_kind c) c

plain_starts : (k : InClass) (n : Bool) → StartsAt k n → (e : End) (r : List ℕ)
    → (n ≡ false → ¬ (BeginsWithCaret (end_text e ++ r)))
    → (c : ℕ) → end_text e ≡ c ∷ [] → class_kind c ≡ class_is.Plain → class_move k c ≡ go (class_one n [] (plain c))
plain_starts k n starts e r caretless c is s =
    starts c (λ f g. caretless f (subst (λ t. BeginsWithCaret (t ++ r)) (sym is) g)) ∙ ap (λ x. first_move n x c) s

backslash_starts : (k : InClass) (n : Bool) → StartsAt k n → class_move k 92 ≡ go (class_escape n [])
backslash_starts k n starts = starts 92 (λ f g. omega arith)

first_items : (k : InClass) (n : Bool) (is : List Item) → StartsAt k n → is ≢ [] → FitItems true is
    → (n ≡ false → ¬ (BeginsWithCaret (items_text is)))
    → class_ends k (items_text is ++ 93 ∷ []) ≡ Some (n, is)
first_items k n [] starts some fits caretless = absurd (some refl)
first_items k n (single e ∷ is) starts some fits caretless = regroup k (end_text e) (items_text is) (93 ∷ [])
    ∙ (single_ends k n [] e (items_text is ++ 93 ∷ []) fits.0 (plain_starts k n starts e (items_text is) caretless)
    (backslash_starts k n starts)
    ∙ items_end is fits.1 n [] (Some e))
first_items k n (range e f ∷ is) starts some fits caretless = ap (class_ends k) (range_prefix e f is)
    ∙ (single_ends k n [] e (45 ∷ end_text f ++ (items_text is ++ 93 ∷ [])) fits.0.0
    (plain_starts k n starts e (45 ∷ end_text f ++ items_text is)
    (λ g h. caretless g (subst BeginsWithCaret (sym (append_assoc (end_text e) (45 ∷ end_text f) (items_text is))) h)))
    (backslash_starts k n starts)
    ∙ (moves_to (class_one n [] e) (class_dash n [] e) 45 (end_text f ++ (items_text is ++ 93 ∷ [])) refl
    ∙ (far_ends n [] e f (items_text is ++ 93 ∷ []) fits.0.1
    ∙ items_end is fits.1 n (range e f ∷ []) None)))
first_items k n (set_item c ∷ is) starts some fits caretless =
    set_ends k n [] c (items_text is ++ 93 ∷ []) fits.0 (backslash_starts k n starts)
    ∙ items_end is fits.1 n (set_item c ∷ []) None
first_items k n (dash ∷ is) starts some fits caretless =
    moves_to k (class_items n (dash ∷ [])) 45 (items_text is ++ 93 ∷ []) (starts 45 (λ f g. omega arith))
    ∙ items_end is fits.1 n (dash ∷ []) None

opened_starts : StartsAt class_opened false
opened_starts c caretless = ap (λ t. opened_move t c) (ne_eqb c 94 (caretless refl))

class_end : (n : Bool) (is : List Item) → FitsClass n is → class_ends class_opened (class_text n is) ≡ Some (n, is)
class_end true is fits = moves_to class_opened class_first 94 (items_text is ++ 93 ∷ []) refl
    ∙ first_items class_first true is (λ c caretless. refl) fits.some fits.fit fits.no_caret
class_end false is fits = first_items class_opened false is opened_starts fits.some fits.fit fits.no_caret

-- what ends a class is read as that class
abbrev Target : Bool → List Item → Pattern → List Frame → List ℕ → Option State
Target n is b fs r = run (outside (atom (alone (class n is))) b fs) r

same_pair : (x y : Bool × List Item) → Some x ≡ Some y → x ≡ y
same_pair x y e = cc

by_moves : (m : ClassMove) (c : ℕ) (cs r : List ℕ) (n : Bool) (is : List Item) (b : Pattern) (fs : List Frame)
    → by_move m cs (λ next. class_ends next cs) ≡ Some (n, is)
    → ((next : InClass) → class_ends next cs ≡ Some (n, is) → run (in_class next c b fs) (cs ++ r) ≡ Target n is b fs r)
    → on_some (class_step false m c b fs) (λ s. run s (cs ++ r)) ≡ Target n is b fs r
by_moves refuse c cs r n is b fs e ih = cc
by_moves (go k) c cs r n is b fs e ih = ih k e
by_moves (done m js) c [] r n is b fs e ih =
    ap (λ (x : Bool × List Item). Target x.0 x.1 b fs r) (same_pair (m, js) (n, is) e)
by_moves (done m js) c (d ∷ cs) r n is b fs e ih = cc

not_true : (x : Bool) → not x ≡ true → x ≡ false
not_true true e = cc
not_true false e = refl

class_run : (cs : List ℕ) (k : InClass) (before : ℕ) (r : List ℕ) (n : Bool) (is : List Item) (b : Pattern)
    (fs : List Frame)
    → class_ends k cs ≡ Some (n, is) → parts_ampersands before cs ≡ true
    → run (in_class k before b fs) (cs ++ r) ≡ Target n is b fs r
unfolding class_ends run
class_run [] k before r n is b fs e apart = cc
class_run (c ∷ cs) k before r n is b fs e apart =
    let (this, others) = and_parts (not (before == 38 && c == 38)) (parts_ampersands c cs) apart in
    ap (λ t. on_some (class_step t (class_move k c) c b fs) (λ s. run s (cs ++ r)))
    (not_true (before == 38 && c == 38) this)
    ∙ by_moves (class_move k c) c cs r n is b fs e (λ next f. class_run cs next c r n is b fs f others)

pub class_read : (n : Bool) (is : List Item) (b : Pattern) (fs : List Frame) (r : List ℕ) → FitsClass n is
    → run (in_class class_opened 91 b fs) (class_text n is ++ r) ≡ run (outside (atom (alone (class n is))) b fs) r
class_read n is b fs r fits = class_run (class_text n is) class_opened 91 r n is b fs (class_end n is fits) fits.apart
