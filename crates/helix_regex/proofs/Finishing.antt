-- What is read and not refused can go on to a pattern.
use Rattle.std.proofs.Common.{◌≡◌, ℕ, Bool, true, false, ◌==◌, ◌&&◌, Some, List, [], ◌∷◌, ◌++◌, refl, sym, ◌∙◌, ap, subst, append_assoc}
use Rattle.std.proofs.lemmas.List.{append-nil}
use Rattle.helix_regex.specs.Pattern.{End, Item, plain, escaped, class, Pattern, end, once, pattern_text, Fits}
use Rattle.helix_base.specs.Syntax.{IsViablePrefix}
use Rattle.helix_regex.specs.Faults.{IsPatternText}
use Rattle.helix_regex.proofs.Machine.{append, Atom, alone, grouped, piece, Last, nothing, atom, repeated, settled, Frame, Counting, count_opened, count_least, count_comma, count_most, InClass, class_opened, class_first, class_items, class_one, class_dash, class_last, class_escape, class_far, State, outside, marked, escaping, counting, in_class, with_mark, close, go, done, class_move, class_step, step}
use Rattle.helix_regex.proofs.Texts.{fits-pushed}
use Rattle.helix_regex.proofs.Sound.{frames_text, written, FitFrames, Fine, Leaves, settled_fits, close_leaves}
use Rattle.helix_regex.proofs.SoundSteps.{step_leaves}

-- a fine state goes on to a pattern
abbrev pub Ends : List ℕ → Type 0
Ends t = (rest : List ℕ) × (p : Pattern) × Fits p × (t ++ rest ≡ pattern_text p)

one_more : (t : List ℕ) (c : ℕ) → Ends (t ++ c ∷ []) → Ends t
one_more t c (rest, p, fits, is) = (c ∷ rest, p, fits, sym (append_assoc t (c ∷ []) rest) ∙ is)

-- the groups that are open can close
closes : (fs : List Frame) (b : Pattern) → Fits b → FitFrames fs → Ends (frames_text fs ++ pattern_text b)
closes [] b h f = ([], b, h, append-nil (pattern_text b))
closes ((before, bare) ∷ fs) b h f =
    let closed : Leaves (close b ((before, bare) ∷ fs))
    ((frames_text ((before, bare) ∷ fs) ++ pattern_text b) ++ 41 ∷ []) =
    close_leaves b ((before, bare) ∷ fs) 41 refl h f in
    one_more (frames_text ((before, bare) ∷ fs) ++ pattern_text b) 41
    (subst Ends closed.1 (closes fs (append before (piece (grouped bare b) once))
    (fits-pushed before (grouped bare b) once f.0 h tt) f.1))

outside_ends : (last : Last) (b : Pattern) (fs : List Frame) → Fine (outside last b fs)
    → Ends (written (outside last b fs))
outside_ends last b fs (h, f, l) = closes fs (settled last b) (settled_fits last b fs h l) f

-- a character that leads to a state that ends
by_step : (s next : State) (c : ℕ) → Fine s → step s c ≡ Some next → ((fine : Fine next) → Ends (written next))
    → Ends (written s)
by_step s next c fine is go_on =
    let left : Leaves (Some next) (written s ++ c ∷ []) = subst (λ o. Leaves o (written s ++ c ∷ [])) is
    (step_leaves s c fine) in
    one_more (written s) c (subst Ends left.1 (go_on left.0))

to_outside : (s : State) (last : Last) (b : Pattern) (fs : List Frame) (c : ℕ) → Fine s
    → step s c ≡ Some (outside last b fs) → Ends (written s)
to_outside s last b fs c fine is = by_step s (outside last b fs) c fine is (outside_ends last b fs)

no_ampersands : (x : Bool) → (x && false) ≡ false
no_ampersands true = refl
no_ampersands false = refl

class_steps : (k : InClass) (before : ℕ) (b : Pattern) (fs : List Frame) (c : ℕ) → (c == 38) ≡ false
    → step (in_class k before b fs) c ≡ class_step false (class_move k c) c b fs
class_steps k before b fs c e = ap (λ t. class_step t (class_move k c) c b fs) (ap (λ t. before == 38 && t) e
    ∙ no_ampersands (before == 38))

-- a class that may end
class_closes : (k : InClass) (n : Bool) (is : List Item) (before : ℕ) (b : Pattern) (fs : List Frame)
    → class_move k 93 ≡ done n is → Fine (in_class k before b fs)
    → Ends (written (in_class k before b fs))
class_closes k n is before b fs e fine = to_outside (in_class k before b fs) (atom (alone (class n is))) b fs 93 fine
    (class_steps k before b fs 93 refl ∙ ap (λ m. class_step false m 93 b fs) e)

class_goes : (k next : InClass) (c : ℕ) (before : ℕ) (b : Pattern) (fs : List Frame) → (c == 38) ≡ false
    → class_move k c ≡ go next → Fine (in_class k before b fs)
    → ((fine : Fine (in_class next c b fs)) → Ends (written (in_class next c b fs)))
    → Ends (written (in_class k before b fs))
class_goes k next c before b fs d e fine go_on = by_step (in_class k before b fs) (in_class next c b fs) c fine
    (class_steps k before b fs c d ∙ ap (λ m. class_step false m c b fs) e) go_on

one_closes : (n : Bool) (is : List Item) (e : End) (before : ℕ) (b : Pattern) (fs : List Frame)
    → Fine (in_class (class_one n is e) before b fs)
    → Ends (written (in_class (class_one n is e) before b fs))
one_closes n is e before b fs fine = class_closes (class_one n is e) n _ before b fs refl fine

class_ends : (k : InClass) (before : ℕ) (b : Pattern) (fs : List Frame) → Fine (in_class k before b fs)
    → Ends (written (in_class k before b fs))
class_ends class_opened before b fs fine =
    class_goes class_opened (class_one false [] (plain 97)) 97 before b fs refl refl fine
    (one_closes false [] (plain 97) 97 b fs)
class_ends class_first before b fs fine =
    class_goes class_first (class_one true [] (plain 97)) 97 before b fs refl refl fine
    (one_closes true [] (plain 97) 97 b fs)
class_ends (class_items n is) before b fs fine = class_closes (class_items n is) n is before b fs refl fine
class_ends (class_one n is e) before b fs fine = one_closes n is e before b fs fine
class_ends (class_dash n is e) before b fs fine = class_closes (class_dash n is e) n _ before b fs refl fine
class_ends (class_last n is) before b fs fine = class_closes (class_last n is) n _ before b fs refl fine
class_ends (class_escape n is) before b fs fine =
    class_goes (class_escape n is) (class_one n is (escaped 36)) 36 before b fs refl refl fine
    (one_closes n is (escaped 36) 36 b fs)
class_ends (class_far n is e) before b fs fine =
    class_goes (class_far n is e) (class_items n _) 36 before b fs refl refl fine
    (λ next. class_closes (class_items n _) n _ 36 b fs refl next)

count_closes : (ds : List ℕ) (a : Atom) (b : Pattern) (fs : List Frame) → Fine (counting (count_least ds) a b fs)
    → Ends (written (counting (count_least ds) a b fs))
count_closes ds a b fs fine = to_outside (counting (count_least ds) a b fs) (repeated a _) b fs 125 fine refl

count_ends : (k : Counting) (a : Atom) (b : Pattern) (fs : List Frame) → Fine (counting k a b fs)
    → Ends (written (counting k a b fs))
count_ends count_opened a b fs fine = by_step (counting count_opened a b fs) (counting (count_least (48 ∷ [])) a b fs)
    48 fine refl (count_closes (48 ∷ []) a b fs)
count_ends (count_least ds) a b fs fine = count_closes ds a b fs fine
count_ends (count_comma ds) a b fs fine =
    to_outside (counting (count_comma ds) a b fs) (repeated a _) b fs 125 fine refl
count_ends (count_most ds es) a b fs fine =
    to_outside (counting (count_most ds es) a b fs) (repeated a _) b fs 125 fine refl

pub state_ends : (s : State) → Fine s → Ends (written s)
state_ends (outside last b fs) fine = outside_ends last b fs fine
state_ends (marked fs) fine = to_outside (marked fs) nothing end (with_mark fs) 58 fine refl
state_ends (escaping b fs) fine = to_outside (escaping b fs) _ b fs 36 fine refl
state_ends (counting k a b fs) fine = count_ends k a b fs fine
state_ends (in_class k before b fs) fine = class_ends k before b fs fine

pub ends_viable : (t : List ℕ) → Ends t → IsViablePrefix IsPatternText t
ends_viable t (rest, p, fits, is) = (rest, (p, record { is = is; fits = fits }))
