-- The text of a pattern is read as that pattern.
use Rattle.std.proofs.Common.{◌≡◌, ℕ, true, false, IsTrue, Some, List, [], ◌∷◌, ◌++◌, refl, sym, ◌∙◌, ap, append_assoc}
use Rattle.std.proofs.lemmas.List.{append-nil}
use Rattle.std.proofs.lemmas.Bool.{cond-true}
use Rattle.helix_regex.specs.declared.char_kind.CharKind.{CharKind}
use Rattle.helix_regex.specs.declared.char_kind.CharKind.TheVariants as kind_is
use Rattle.helix_regex.specs.declared.char_kind.CountKind.TheVariants as count_is
use Rattle.helix_base.specs.Digits.{is_digit, AreDigits}
use Rattle.helix_regex.specs.Pattern.{Single, literal, dot, escape, set, class, Count, star, plus, question, exactly, at_least, between, Quant, once, times, Pattern, single_text, count_text, quant_text, IsNumeral, FitsSingle, FitsCount, FitsQuant}
use Rattle.helix_regex.specs.Inner.Scan.{char_kind, count_kind}
use Rattle.helix_regex.proofs.Machine.{append, Atom, alone, piece, Last, nothing, opened, atom, repeated, settled, Frame, count_opened, count_least, count_comma, count_most, State, outside, escaping, counting, in_class, settled_step, outside_step, escape_step, count_step, class_opened, step, on_some, run}
use Rattle.helix_regex.proofs.ClassReads.{class_read, itself_kind, set_kind}

pub run_step : (s next : State) (c : ℕ) (cs : List ℕ) → step s c ≡ Some next → run s (c ∷ cs) ≡ run next cs
unfolding run
run_step s next c cs e = ap (λ o. on_some o (λ n. run n cs)) e

-- kinds of characters that begin no quantifier
abbrev IsPlainKind : CharKind → Type 0
IsPlainKind kind_is.Star = ⊥
IsPlainKind kind_is.Plus = ⊥
IsPlainKind kind_is.Question = ⊥
IsPlainKind kind_is.Brace = ⊥
IsPlainKind _ = Unit {0}

plain_step : (last : Last) (b : Pattern) (fs : List Frame) (s : CharKind) (c : ℕ) → IsPlainKind s
    → outside_step last b fs s c ≡ settled_step (settled last b) fs s c
plain_step nothing b fs s c h = refl
plain_step opened b fs kind_is.Question c h = absurd h
plain_step opened b fs _ c h = refl
plain_step (atom a) b fs kind_is.Star c h = absurd h
plain_step (atom a) b fs kind_is.Plus c h = absurd h
plain_step (atom a) b fs kind_is.Question c h = absurd h
plain_step (atom a) b fs kind_is.Brace c h = absurd h
plain_step (atom a) b fs _ c h = refl
plain_step (repeated a count) b fs kind_is.Question c h = absurd h
plain_step (repeated a count) b fs _ c h = refl

-- a character whose kind is known
pub signed : (last : Last) (b : Pattern) (fs : List Frame) (c : ℕ) (s : CharKind) (next : State) (r : List ℕ)
    → char_kind c ≡ s → IsPlainKind s → settled_step (settled last b) fs s c ≡ Some next
    → run (outside last b fs) (c ∷ r) ≡ run next r
signed last b fs c s next r e plain f =
    run_step (outside last b fs) next c r (ap (λ x. outside_step last b fs x c) e
    ∙ (plain_step last b fs s c plain ∙ f))

pub single_read : (s : Single) (last : Last) (b : Pattern) (fs : List Frame) (r : List ℕ) → FitsSingle s
    → run (outside last b fs) (single_text s ++ r) ≡ run (outside (atom (alone s)) (settled last b) fs) r
single_read (literal c) last b fs r fits =
    signed last b fs c kind_is.Literal (outside (atom (alone (literal c))) (settled last b) fs) r (cond-true _ _ _ fits)
    tt refl
single_read dot last b fs r fits = signed last b fs 46 kind_is.Dot (outside (atom (alone dot)) (settled last b) fs) r
    refl tt refl
single_read (escape c) last b fs r fits =
    signed last b fs 92 kind_is.Backslash (escaping (settled last b) fs) (c ∷ r) refl tt refl
    ∙ run_step (escaping (settled last b) fs) (outside (atom (alone (escape c))) (settled last b) fs) c r
    (ap (λ x. escape_step (settled last b) fs x c) (itself_kind c fits))
single_read (set c) last b fs r fits = signed last b fs 92 kind_is.Backslash (escaping (settled last b) fs) (c ∷ r) refl
    tt refl
    ∙ run_step (escaping (settled last b) fs) (outside (atom (alone (set c))) (settled last b) fs) c r
    (ap (λ x. escape_step (settled last b) fs x c) (set_kind c fits))
single_read (class n is) last b fs r fits =
    signed last b fs 91 kind_is.Bracket (in_class class_opened 91 (settled last b) fs) _ refl tt refl
    ∙ class_read n is (settled last b) fs r fits

digit_kind : (c : ℕ) → IsTrue (is_digit c) → count_kind c ≡ count_is.Digit
digit_kind c e = cond-true _ _ _ e

-- digits are read one after the other
least_read : (ds : List ℕ) (so_far : List ℕ) (a : Atom) (b : Pattern) (fs : List Frame) (r : List ℕ) → AreDigits ds
    → run (counting (count_least so_far) a b fs) (ds ++ r) ≡ run (counting (count_least (so_far ++ ds)) a b fs) r
least_read [] so_far a b fs r fits = ap (λ l. run (counting (count_least l) a b fs) r) (sym (append-nil so_far))
least_read (d ∷ ds) so_far a b fs r fits =
    run_step (counting (count_least so_far) a b fs) (counting (count_least (so_far ++ d ∷ [])) a b fs) d (ds ++ r)
    (ap (λ s. count_step (count_least so_far) a b fs s d) (digit_kind d fits.0))
    ∙ (least_read ds (so_far ++ d ∷ []) a b fs r fits.1
    ∙ ap (λ l. run (counting (count_least l) a b fs) r) (append_assoc so_far (d ∷ []) ds))

most_read : (es : List ℕ) (ds so_far : List ℕ) (a : Atom) (b : Pattern) (fs : List Frame) (r : List ℕ) → AreDigits es
    → run (counting (count_most ds so_far) a b fs) (es ++ r) ≡ run (counting (count_most ds (so_far ++ es)) a b fs) r
most_read [] ds so_far a b fs r fits = ap (λ l. run (counting (count_most ds l) a b fs) r) (sym (append-nil so_far))
most_read (e ∷ es) ds so_far a b fs r fits =
    run_step (counting (count_most ds so_far) a b fs) (counting (count_most ds (so_far ++ e ∷ [])) a b fs) e (es ++ r)
    (ap (λ s. count_step (count_most ds so_far) a b fs s e) (digit_kind e fits.0))
    ∙ (most_read es ds (so_far ++ e ∷ []) a b fs r fits.1
    ∙ ap (λ l. run (counting (count_most ds l) a b fs) r) (append_assoc so_far (e ∷ []) es))

-- the first number of a count, after its `{`
first_number : (ds : List ℕ) (a : Atom) (b : Pattern) (fs : List Frame) (r : List ℕ) → IsNumeral ds
    → run (outside (atom a) b fs) (123 ∷ (ds ++ r)) ≡ run (counting (count_least ds) a b fs) r
first_number [] a b fs r fits = absurd (fits.0 refl)
first_number (d ∷ ds) a b fs r fits = run_step (outside (atom a) b fs) (counting count_opened a b fs) 123 (d ∷ ds ++ r)
    refl
    ∙ (run_step (counting count_opened a b fs) (counting (count_least (d ∷ [])) a b fs) d (ds ++ r)
    (ap (λ s. count_step count_opened a b fs s d) (digit_kind d fits.1.0))
    ∙ least_read ds (d ∷ []) a b fs r fits.1.1)

second_number : (es ds : List ℕ) (a : Atom) (b : Pattern) (fs : List Frame) (r : List ℕ) → IsNumeral es
    → run (counting (count_comma ds) a b fs) (es ++ r) ≡ run (counting (count_most ds es) a b fs) r
second_number [] ds a b fs r fits = absurd (fits.0 refl)
second_number (e ∷ es) ds a b fs r fits =
    run_step (counting (count_comma ds) a b fs) (counting (count_most ds (e ∷ [])) a b fs) e (es ++ r)
    (ap (λ s. count_step (count_comma ds) a b fs s e) (digit_kind e fits.1.0))
    ∙ most_read es ds (e ∷ []) a b fs r fits.1.1

regroup : (s : State) (a b c : List ℕ) → run s ((a ++ b) ++ c) ≡ run s (a ++ (b ++ c))
regroup s a b c = ap (run s) (append_assoc a b c)

between_text : (ds es r : List ℕ) → (ds ++ 44 ∷ (es ++ 125 ∷ [])) ++ r ≡ ds ++ (44 ∷ (es ++ 125 ∷ r))
between_text ds es r = simp append_assoc

count_read : (count : Count) (a : Atom) (b : Pattern) (fs : List Frame) (r : List ℕ) → FitsCount count
    → run (outside (atom a) b fs) (count_text count ++ r) ≡ run (outside (repeated a count) b fs) r
count_read star a b fs r fits = run_step (outside (atom a) b fs) (outside (repeated a star) b fs) 42 r refl
count_read plus a b fs r fits = run_step (outside (atom a) b fs) (outside (repeated a plus) b fs) 43 r refl
count_read question a b fs r fits = run_step (outside (atom a) b fs) (outside (repeated a question) b fs) 63 r refl
count_read (exactly ds) a b fs r fits = ap (λ t. run (outside (atom a) b fs) (123 ∷ t)) (append_assoc ds (125 ∷ []) r)
    ∙ (first_number ds a b fs (125 ∷ r) fits
    ∙ run_step (counting (count_least ds) a b fs) (outside (repeated a (exactly ds)) b fs) 125 r refl)
count_read (at_least ds) a b fs r fits =
    ap (λ t. run (outside (atom a) b fs) (123 ∷ t)) (append_assoc ds (44 ∷ 125 ∷ []) r)
    ∙ (first_number ds a b fs (44 ∷ 125 ∷ r) fits
    ∙ (run_step (counting (count_least ds) a b fs) (counting (count_comma ds) a b fs) 44 (125 ∷ r) refl
    ∙ run_step (counting (count_comma ds) a b fs) (outside (repeated a (at_least ds)) b fs) 125 r refl))
count_read (between ds es) a b fs r fits = ap (λ t. run (outside (atom a) b fs) (123 ∷ t)) (between_text ds es r)
    ∙ (first_number ds a b fs (44 ∷ (es ++ 125 ∷ r)) fits.0
    ∙ (run_step (counting (count_least ds) a b fs) (counting (count_comma ds) a b fs) 44 (es ++ 125 ∷ r) refl
    ∙ (second_number es ds a b fs (125 ∷ r) fits.1
    ∙ run_step (counting (count_most ds es) a b fs) (outside (repeated a (between ds es)) b fs) 125 r refl)))

-- an atom with its quantifier: what was last, and what is read before it
abbrev pub last_after : Atom → Quant → Last
last_after a once = atom a
last_after a (times count false) = repeated a count
last_after a (times count true) = nothing

abbrev pub so_far_after : Pattern → Atom → Quant → Pattern
so_far_after b a (times count true) = append b (piece a (times count true))
so_far_after b a _ = b

pub settled_after : (b : Pattern) (a : Atom) (q : Quant)
    → settled (last_after a q) (so_far_after b a q) ≡ append b (piece a q)
settled_after b a once = refl
settled_after b a (times count false) = refl
settled_after b a (times count true) = refl

pub quant_read : (q : Quant) (a : Atom) (b : Pattern) (fs : List Frame) (r : List ℕ) → FitsQuant q
    → run (outside (atom a) b fs) (quant_text q ++ r) ≡ run (outside (last_after a q) (so_far_after b a q) fs) r
quant_read once a b fs r fits = refl
quant_read (times count false) a b fs r fits = count_read count a b fs r fits
quant_read (times count true) a b fs r fits = regroup (outside (atom a) b fs) (count_text count) (63 ∷ []) r
    ∙ (count_read count a b fs (63 ∷ r) fits
    ∙ run_step (outside (repeated a count) b fs) (outside nothing (append b (piece a (times count true))) fs) 63 r refl)
