-- Each character leads from a text that is read to one that has it too.
use Rattle.std.proofs.Common.{◌≡◌, ◌≢◌, ℕ, Bool, true, false, ◌==◌, ◌&&◌, not, Option, Some, None, List, [], ◌∷◌, ◌++◌, refl, sym, ◌∙◌, ap, subst, append_assoc, eq-eqb}
use Rattle.std.proofs.lemmas.List.{append-nil}
use Rattle.std.proofs.lemmas.Bool.{eqb-true}
use Rattle.helix_regex.specs.declared.char_kind.ClassKind.{ClassKind}
use Rattle.helix_regex.specs.declared.char_kind.ClassKind.TheVariants as class_is
use Rattle.helix_regex.specs.declared.char_kind.EscapeKind.{EscapeKind}
use Rattle.helix_regex.specs.declared.char_kind.EscapeKind.TheVariants as escape_is
use Rattle.helix_regex.specs.Pattern.{End, Item, class, Pattern, items_text, class_text, pattern_text, Fits, BeginsWithCaret, parts_ampersands}
use Rattle.helix_regex.specs.Inner.Scan.{char_kind, escape_kind, count_kind, class_kind}
use Rattle.helix_regex.proofs.Machine.{alone, nothing, opened, atom, repeated, Frame, InClass, class_opened, class_first, class_items, class_one, class_dash, class_last, class_escape, class_far, State, outside, marked, escaping, counting, in_class, ClassMove, refuse, go, done, first_move, items_move, one_move, dash_move, last_move, class_escape_move, far_move, opened_move, class_move, class_step, step, on_some, run}
use Rattle.helix_regex.proofs.CharKinds.{kind_means, escape_means, count_means}
use Rattle.helix_regex.proofs.ClassSound.{class_so_far, caret_text, Moved, class_moved}
use Rattle.helix_regex.proofs.Sound.{frames_text, written, FitFrames, Fine, FitsInClass, is_excluded, NoCaret, last_of, Leaves, with_atom, settled_leaves}
use Rattle.helix_regex.proofs.SoundCounts.{atom_leaves, repeated_leaves, opened_leaves, marked_leaves, escape_leaves, count_leaves}

-- a move leaves a class as excluded as it was
abbrev Keeps : Bool → ClassMove → Type 0
Keeps n refuse = Unit {0}
Keeps n (go k) = is_excluded k ≡ n
Keeps n (done m is) = m ≡ n

first_keeps : (n : Bool) (s : ClassKind) (c : ℕ) → Keeps n (first_move n s c)
first_keeps n class_is.Plain c = refl
first_keeps n class_is.Backslash c = refl
first_keeps n class_is.Dash c = refl
first_keeps n _ c = tt

items_keeps : (n : Bool) (is : List Item) (s : ClassKind) (c : ℕ) → Keeps n (items_move n is s c)
items_keeps n is class_is.Other c = tt
items_keeps n is _ c = refl

one_keeps : (n : Bool) (is : List Item) (e : End) (s : ClassKind) (c : ℕ) → Keeps n (one_move n is e s c)
one_keeps n is e class_is.Other c = tt
one_keeps n is e _ c = refl

dash_keeps : (n : Bool) (is : List Item) (e : End) (s : ClassKind) (c : ℕ) → Keeps n (dash_move n is e s c)
dash_keeps n is e class_is.Plain c = refl
dash_keeps n is e class_is.Backslash c = refl
dash_keeps n is e class_is.Close c = refl
dash_keeps n is e _ c = tt

last_keeps : (n : Bool) (is : List Item) (s : ClassKind) → Keeps n (last_move n is s)
last_keeps n is class_is.Close = refl
last_keeps n is _ = tt

escape_keeps : (n : Bool) (is : List Item) (s : EscapeKind) (c : ℕ) → Keeps n (class_escape_move n is s c)
escape_keeps n is escape_is.Other c = tt
escape_keeps n is _ c = refl

far_keeps : (n : Bool) (is : List Item) (e : End) (s : EscapeKind) (c : ℕ) → Keeps n (far_move n is e s c)
far_keeps n is e escape_is.Itself c = refl
far_keeps n is e _ c = tt

-- a text that begins with a caret, or doesn't, and what is after it
begins_more : (t u : List ℕ) → BeginsWithCaret t → BeginsWithCaret (t ++ u)
begins_more [] u h = absurd h
begins_more (c ∷ cs) u h = h

begins_less : (t u : List ℕ) → t ≢ [] → BeginsWithCaret (t ++ u) → BeginsWithCaret t
begins_less [] u some h = absurd (some refl)
begins_less (c ∷ cs) u some h = h

longer : (t : List ℕ) (c : ℕ) → t ++ c ∷ [] ≢ []
longer [] c e = cc
longer (d ∷ t) c e = cc

no_caret_more : (n : Bool) (t : List ℕ) (c : ℕ) → NoCaret n t → NoCaret n (t ++ c ∷ [])
no_caret_more n t c h e = ((λ b. (h e).0 (begins_less t (c ∷ []) (h e).1 b)), longer t c)

-- what a move says of carets
abbrev Carets : ClassMove → List ℕ → Type 0
Carets refuse t = Unit {0}
Carets (go k) t = NoCaret (is_excluded k) t
Carets (done n is) t = NoCaret n t

carets_kept : (n : Bool) (m : ClassMove) (t : List ℕ) → NoCaret n t → Keeps n m → Carets m t
carets_kept n refuse t h k = tt
carets_kept n (go j) t h k = subst (λ x. NoCaret x t) (sym k) h
carets_kept n (done x is) t h k = subst (λ x. NoCaret x t) (sym k) h

opened_carets : (test : Bool) (c : ℕ) → (test ≡ false → c ≢ 94) → Carets (opened_move test c) (c ∷ [])
opened_carets true c h = λ e. cc
opened_carets false c h = carets_kept false (first_move false (class_kind c) c) (c ∷ []) (λ e. (h refl, (λ f. cc)))
    (first_keeps false (class_kind c) c)

tested : (c k : ℕ) → (c == k) ≡ false → c ≢ k
tested c k e f = let h : (c == k) ≡ true = eq-eqb c k f in cc

carets : (k : InClass) (c : ℕ) → NoCaret (is_excluded k) (class_so_far k)
    → Carets (class_move k c) (class_so_far k ++ c ∷ [])
carets class_opened c h = opened_carets (c == 94) c (tested c 94)
carets class_first c h = carets_kept true (first_move true (class_kind c) c) (94 ∷ c ∷ []) (λ e. cc)
    (first_keeps true (class_kind c) c)
carets (class_items n is) c h = carets_kept n (items_move n is (class_kind c) c)
    (class_so_far (class_items n is) ++ c ∷ []) (no_caret_more n (class_so_far (class_items n is)) c h)
    (items_keeps n is (class_kind c) c)
carets (class_one n is e) c h = carets_kept n (one_move n is e (class_kind c) c)
    (class_so_far (class_one n is e) ++ c ∷ []) (no_caret_more n (class_so_far (class_one n is e)) c h)
    (one_keeps n is e (class_kind c) c)
carets (class_dash n is e) c h = carets_kept n (dash_move n is e (class_kind c) c)
    (class_so_far (class_dash n is e) ++ c ∷ []) (no_caret_more n (class_so_far (class_dash n is e)) c h)
    (dash_keeps n is e (class_kind c) c)
carets (class_last n is) c h = carets_kept n (last_move n is (class_kind c)) (class_so_far (class_last n is) ++ c ∷ [])
    (no_caret_more n (class_so_far (class_last n is)) c h) (last_keeps n is (class_kind c))
carets (class_escape n is) c h = carets_kept n (class_escape_move n is (escape_kind c) c)
    (class_so_far (class_escape n is) ++ c ∷ []) (no_caret_more n (class_so_far (class_escape n is)) c h)
    (escape_keeps n is (escape_kind c) c)
carets (class_far n is e) c h = carets_kept n (far_move n is e (escape_kind c) c)
    (class_so_far (class_far n is e) ++ c ∷ []) (no_caret_more n (class_so_far (class_far n is e)) c h)
    (far_keeps n is e (escape_kind c) c)

-- one more character keeps ampersands apart
both_true : (a b c : Bool) → (a && b) ≡ true → (b ≡ true → c ≡ true) → (a && c) ≡ true
both_true true b c h f = f h
both_true false b c h f = h

apart_more : (before : ℕ) (t : List ℕ) (c : ℕ) → parts_ampersands before t ≡ true
    → (last_of before t == 38 && c == 38) ≡ false → parts_ampersands before (t ++ c ∷ []) ≡ true
apart_more before [] c h k = ap (λ b. not b && true) k
apart_more before (d ∷ t) c h k = both_true (not (before == 38 && d == 38)) (parts_ampersands d t)
    (parts_ampersands d (t ++ c ∷ [])) h (λ e. apart_more d t c e k)

last_more : (before : ℕ) (t : List ℕ) (c : ℕ) → last_of before (t ++ c ∷ []) ≡ c
last_more before [] c = refl
last_more before (d ∷ t) c = last_more d t c

class_text_is : (n : Bool) (is : List Item) → caret_text n ++ (items_text is ++ 93 ∷ []) ≡ class_text n is
class_text_is true is = refl
class_text_is false is = refl

closed_caret : (n : Bool) (is : List Item) (t : List ℕ) → NoCaret n t → caret_text n ++ (items_text is ++ 93 ∷ []) ≡ t
    → n ≡ false → ¬ (BeginsWithCaret (items_text is))
closed_caret true is t h e f b = cc
closed_caret false is t h e f b = (h refl).0 (subst BeginsWithCaret e (begins_more (items_text is) (93 ∷ []) b))

class_inner : (f b k : List ℕ) (c : ℕ) → f ++ (b ++ 91 ∷ (k ++ c ∷ [])) ≡ (f ++ (b ++ 91 ∷ k)) ++ c ∷ []
class_inner f b k c = simp append_assoc

class_leaves_move : (k : InClass) (before : ℕ) (b : Pattern) (fs : List Frame) (c : ℕ) (m : ClassMove) → Fits b
    → FitFrames fs
    → parts_ampersands 91 (class_so_far k ++ c ∷ []) ≡ true → Carets m (class_so_far k ++ c ∷ [])
    → Moved m (class_so_far k ++ c ∷ [])
    → Leaves (class_step false m c b fs) ((frames_text fs ++ (pattern_text b ++ 91 ∷ class_so_far k)) ++ c ∷ [])
class_leaves_move k before b fs c refuse h f apart carets moved = tt
class_leaves_move k before b fs c (go next) h f apart carets moved = (
  (
    h,
    f,
    record {
      fine = moved.0;
      no_caret = subst (NoCaret (is_excluded next)) (sym moved.1) carets;
      apart = ap (parts_ampersands 91) moved.1 ∙ apart;
      last = ap (last_of 91) moved.1 ∙ last_more 91 (class_so_far k) c;
    },
  ),
  ap (λ t. frames_text fs ++ (pattern_text b ++ 91 ∷ t)) moved.1
      ∙ class_inner (frames_text fs) (pattern_text b) (class_so_far k) c,
)
class_leaves_move k before b fs c (done n is) h f apart carets moved = (
  (
    h,
    f,
    record {
      some = moved.0;
      fit = moved.1;
      no_caret = closed_caret n is (class_so_far k ++ c ∷ []) carets moved.2;
      apart = ap (parts_ampersands 91) (sym (class_text_is n is) ∙ moved.2) ∙ apart;
    },
  ),
  with_atom (alone (class n is)) b fs
      ∙ (ap (λ t. frames_text fs ++ (pattern_text b ++ 91 ∷ t)) (sym (class_text_is n is) ∙ moved.2)
      ∙ class_inner (frames_text fs) (pattern_text b) (class_so_far k) c),
)

class_leaves : (k : InClass) (before : ℕ) (b : Pattern) (fs : List Frame) (c : ℕ) (test : Bool)
    → (before == 38 && c == 38) ≡ test → Fits b → FitFrames fs → FitsInClass k before
    → Leaves (class_step test (class_move k c) c b fs)
    ((frames_text fs ++ (pattern_text b ++ 91 ∷ class_so_far k)) ++ c ∷ [])
class_leaves k before b fs c true e h f fits = tt
class_leaves k before b fs c false e h f fits = class_leaves_move k before b fs c (class_move k c) h f
    (apart_more 91 (class_so_far k) c fits.apart (ap (λ x. x == 38 && c == 38) fits.last ∙ e))
    (carets k c fits.no_caret)
    (class_moved k c fits.fine)

pub step_leaves : (s : State) (c : ℕ) → Fine s → Leaves (step s c) (written s ++ c ∷ [])
step_leaves (outside nothing b fs) c (h, f, l) = settled_leaves b fs (char_kind c) c (kind_means c) h f
step_leaves (outside opened b fs) c (h, f, l) = opened_leaves b fs (char_kind c) c (kind_means c) h f l.0 l.1
step_leaves (outside (atom a) b fs) c (h, f, l) = atom_leaves a b fs (char_kind c) c (kind_means c) h f l
step_leaves (outside (repeated a count) b fs) c (h, f, l) =
    repeated_leaves a count b fs (char_kind c) c (kind_means c) h f l.0 l.1
step_leaves (marked fs) c (f, p) = marked_leaves (c == 58) fs c (eqb-true c 58) f p
step_leaves (escaping b fs) c (h, f) = escape_leaves b fs (escape_kind c) c (escape_means c) h f
step_leaves (counting k a b fs) c (h, f, l, n) = count_leaves k a b fs (count_kind c) c (count_means c) h f l n
step_leaves (in_class k before b fs) c (h, f, fits) =
    class_leaves k before b fs c (before == 38 && c == 38) refl h f fits

leaves_on : (o : Option State) (t : List ℕ) (c : ℕ) (cs : List ℕ) → Leaves o (t ++ c ∷ [])
    → ((s : State) → Fine s → Leaves (run s cs) (written s ++ cs))
    → Leaves (on_some o (λ next. run next cs)) (t ++ c ∷ cs)
leaves_on None t c cs h ih = tt
leaves_on (Some s) t c cs h ih = subst (Leaves (run s cs)) (ap (λ x. x ++ cs) h.1
    ∙ append_assoc t (c ∷ []) cs) (ih s h.0)

pub run_leaves : (cs : List ℕ) (s : State) → Fine s → Leaves (run s cs) (written s ++ cs)
unfolding run
run_leaves [] s fine = (fine, sym (append-nil (written s)))
run_leaves (c ∷ cs) s fine = leaves_on (step s c) (written s) c cs (step_leaves s c fine) (run_leaves cs)
