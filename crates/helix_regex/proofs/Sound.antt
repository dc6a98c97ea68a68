-- What is read is the text of what is put together.
use Rattle.std.proofs.Common.{◌≡◌, ◌≢◌, ℕ, Bool, true, false, IsTrue, Option, Some, None, List, [], ◌∷◌, ◌++◌, refl, sym, ◌∙◌, ap, append_assoc}
use Rattle.std.proofs.lemmas.List.{append-nil}
use Rattle.helix_regex.specs.declared.char_kind.CharKind.{CharKind}
use Rattle.helix_regex.specs.declared.char_kind.CharKind.TheVariants as kind_is
use Rattle.helix_regex.specs.Pattern.{literal, dot, Count, once, times, Pattern, end, bar, caret, dollar, count_text, opening, pattern_text, IsNumeral, FitsCount, Fits, BeginsWithCaret, parts_ampersands}
use Rattle.helix_regex.proofs.Machine.{append, Atom, alone, grouped, Last, nothing, opened, atom, repeated, settled, Frame, Counting, count_opened, count_least, count_comma, count_most, InClass, class_opened, class_first, class_items, class_one, class_dash, class_last, class_escape, class_far, State, outside, marked, escaping, counting, in_class, close, settled_step}
use Rattle.helix_regex.proofs.Texts.{pattern_text-append, fits-append, atom_text, FitsAtom, pushed-text, fits-pushed}
use Rattle.helix_regex.proofs.CharKinds.{KindMeans}
use Rattle.helix_regex.proofs.ClassSound.{ClassFine, class_so_far}

abbrev pub frames_text : List Frame → List ℕ
frames_text [] = []
frames_text ((b, bare) ∷ fs) = frames_text fs ++ (pattern_text b ++ opening bare)

abbrev pub counting_text : Counting → List ℕ
counting_text count_opened = 123 ∷ []
counting_text (count_least ds) = 123 ∷ ds
counting_text (count_comma ds) = 123 ∷ (ds ++ 44 ∷ [])
counting_text (count_most ds es) = 123 ∷ (ds ++ 44 ∷ es)

-- what was read up to a state
abbrev pub written : State → List ℕ
written (outside last b fs) = frames_text fs ++ pattern_text (settled last b)
written (marked fs) = frames_text fs ++ 63 ∷ []
written (escaping b fs) = frames_text fs ++ (pattern_text b ++ 92 ∷ [])
written (counting k a b fs) = frames_text fs ++ (pattern_text b ++ (atom_text a ++ counting_text k))
written (in_class k before b fs) = frames_text fs ++ (pattern_text b ++ 91 ∷ class_so_far k)

abbrev pub FitFrames : List Frame → Type 0
FitFrames [] = Unit {0}
FitFrames ((b, bare) ∷ fs) = Fits b × FitFrames fs

-- the innermost group may still become one that begins with `(?:`
abbrev pub IsPlain : List Frame → Type 0
IsPlain [] = ⊥
IsPlain ((b, bare) ∷ fs) = bare ≡ false

abbrev pub FitsLast : Last → Pattern → List Frame → Type 0
FitsLast nothing b fs = Unit {0}
FitsLast opened b fs = (b ≡ end) × IsPlain fs
FitsLast (atom a) b fs = FitsAtom a
FitsLast (repeated a count) b fs = FitsAtom a × FitsCount count

abbrev pub FitsCounting : Counting → Type 0
FitsCounting count_opened = Unit {0}
FitsCounting (count_least ds) = IsNumeral ds
FitsCounting (count_comma ds) = IsNumeral ds
FitsCounting (count_most ds es) = IsNumeral ds × IsNumeral es

abbrev pub last_of : ℕ → List ℕ → ℕ
last_of before [] = before
last_of before (c ∷ cs) = last_of c cs

-- a class that is not excluded does not begin with `^`
abbrev pub is_excluded : InClass → Bool
is_excluded class_opened = true
is_excluded class_first = true
is_excluded (class_items n is) = n
is_excluded (class_one n is e) = n
is_excluded (class_dash n is e) = n
is_excluded (class_last n is) = n
is_excluded (class_escape n is) = n
is_excluded (class_far n is e) = n

abbrev pub NoCaret : Bool → List ℕ → Type 0
NoCaret n t = n ≡ false → (¬ (BeginsWithCaret t)) × (t ≢ [])

pub record FitsInClass (k : InClass) (before : ℕ) : Type 0 where
  pub fine : ClassFine k
  pub no_caret : NoCaret (is_excluded k) (class_so_far k)
  pub apart : IsTrue (parts_ampersands 91 (class_so_far k))
  pub last : last_of 91 (class_so_far k) ≡ before

abbrev pub Fine : State → Type 0
Fine (outside last b fs) = Fits b × FitFrames fs × FitsLast last b fs
Fine (marked fs) = FitFrames fs × IsPlain fs
Fine (escaping b fs) = Fits b × FitFrames fs
Fine (counting k a b fs) = Fits b × FitFrames fs × FitsAtom a × FitsCounting k
Fine (in_class k before b fs) = Fits b × FitFrames fs × FitsInClass k before

-- what is read next leaves a state of this text
abbrev pub Leaves : Option State → List ℕ → Type 0
Leaves None t = Unit {0}
Leaves (Some s) t = Fine s × (written s ≡ t)

pub settled_fits : (last : Last) (b : Pattern) (fs : List Frame) → Fits b → FitsLast last b fs → Fits (settled last b)
settled_fits nothing b fs h k = h
settled_fits opened b fs h k = h
settled_fits (atom a) b fs h k = fits-pushed b a once h k tt
settled_fits (repeated a count) b fs h k = fits-pushed b a (times count false) h k.0 k.1

-- with one more atom
pub with_atom : (a : Atom) (b : Pattern) (fs : List Frame)
    → frames_text fs ++ pattern_text (settled (atom a) b) ≡ frames_text fs ++ (pattern_text b ++ atom_text a)
with_atom a b fs = ap (λ t. frames_text fs ++ t) (pushed-text b a once
    ∙ ap (λ t. pattern_text b ++ t) (append-nil (atom_text a)))

pub with_count : (a : Atom) (count : Count) (b : Pattern) (fs : List Frame)
    → frames_text fs ++ pattern_text (settled (repeated a count) b)
    ≡ frames_text fs ++ (pattern_text b ++ (atom_text a ++ count_text count))
with_count a count b fs = ap (λ t. frames_text fs ++ t) (pushed-text b a (times count false))

inner : (f b : List ℕ) (c : ℕ) → f ++ (b ++ c ∷ []) ≡ (f ++ b) ++ c ∷ []
inner f b c = sym (append_assoc f b (c ∷ []))

pub inner_two : (f b a : List ℕ) (c : ℕ) → f ++ (b ++ (a ++ c ∷ [])) ≡ (f ++ (b ++ a)) ++ c ∷ []
inner_two f b a c = simp append_assoc

pub inner_three : (f b a k : List ℕ) (c : ℕ) → f ++ (b ++ (a ++ (k ++ c ∷ []))) ≡ (f ++ (b ++ (a ++ k))) ++ c ∷ []
inner_three f b a k c = simp append_assoc

-- a mark of one character
mark_text : (fs : List Frame) (b m : Pattern) (c d : ℕ) → pattern_text m ≡ d ∷ [] → c ≡ d
    → frames_text fs ++ pattern_text (append b m) ≡ (frames_text fs ++ pattern_text b) ++ c ∷ []
mark_text fs b m c d e f = ap (λ t. frames_text fs ++ t) (pattern_text-append b m
    ∙ ap (λ t. pattern_text b ++ t) (e ∙ ap (λ x. x ∷ []) (sym f))) ∙ inner (frames_text fs) (pattern_text b) c

pub close_leaves : (b : Pattern) (fs : List Frame) (c : ℕ) → c ≡ 41 → Fits b → FitFrames fs
    → Leaves (close b fs) ((frames_text fs ++ pattern_text b) ++ c ∷ [])
close_leaves b [] c m h k = tt
close_leaves b ((before, bare) ∷ fs) c m h k = (
  (k.0, k.1, h),
  with_atom (grouped bare b) before fs
      ∙ (ap (λ d. frames_text fs ++ (pattern_text before ++ (opening bare ++ (pattern_text b ++ d ∷ [])))) (sym m)
      ∙ simp append_assoc),
)

pub settled_leaves : (b : Pattern) (fs : List Frame) (s : CharKind) (c : ℕ) → KindMeans s c → Fits b → FitFrames fs
    → Leaves (settled_step b fs s c) ((frames_text fs ++ pattern_text b) ++ c ∷ [])
settled_leaves b fs kind_is.Literal c m h k =
    ((h, k, m), with_atom (alone (literal c)) b fs ∙ inner (frames_text fs) (pattern_text b) c)
settled_leaves b fs kind_is.Dot c m h k = (
  (h, k, tt),
  with_atom (alone dot) b fs
      ∙ (ap (λ d. frames_text fs ++ (pattern_text b ++ d ∷ [])) (sym m) ∙ inner (frames_text fs) (pattern_text b) c),
)
settled_leaves b fs kind_is.Backslash c m h k =
    ((h, k), ap (λ d. frames_text fs ++ (pattern_text b ++ d ∷ [])) (sym m) ∙ inner (frames_text fs) (pattern_text b) c)
settled_leaves b fs kind_is.Caret c m h k =
    ((fits-append b (caret end) h tt, k, tt), mark_text fs b (caret end) c 94 refl m)
settled_leaves b fs kind_is.Dollar c m h k =
    ((fits-append b (dollar end) h tt, k, tt), mark_text fs b (dollar end) c 36 refl m)
settled_leaves b fs kind_is.Bar c m h k = ((fits-append b (bar end) h tt, k, tt), mark_text fs b (bar end) c 124 refl m)
settled_leaves b fs kind_is.Open c m h k = (
  (tt, (h, k), (refl, refl)),
  append-nil (frames_text fs ++ (pattern_text b ++ 40 ∷ []))
      ∙ (ap (λ d. frames_text fs ++ (pattern_text b ++ d ∷ [])) (sym m) ∙ inner (frames_text fs) (pattern_text b) c),
)
settled_leaves b fs kind_is.Close c m h k = close_leaves b fs c m h k
settled_leaves b fs kind_is.Bracket c m h k = (
  (h, k, record { fine = tt; no_caret = (λ e. cc); apart = refl; last = refl }),
  ap (λ d. frames_text fs ++ (pattern_text b ++ d ∷ [])) (sym m) ∙ inner (frames_text fs) (pattern_text b) c,
)
settled_leaves b fs kind_is.Star c m h k = tt
settled_leaves b fs kind_is.Plus c m h k = tt
settled_leaves b fs kind_is.Question c m h k = tt
settled_leaves b fs kind_is.Brace c m h k = tt
settled_leaves b fs kind_is.Other c m h k = tt
