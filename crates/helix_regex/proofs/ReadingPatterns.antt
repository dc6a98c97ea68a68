-- The text of a whole pattern is read as that pattern.
use Rattle.std.proofs.Common.{◌≡◌, ℕ, Bool, true, false, Some, List, [], ◌∷◌, ◌++◌, refl, sym, ◌∙◌, ap, append_assoc}
use Rattle.std.proofs.lemmas.List.{append-nil}
use Rattle.helix_regex.specs.declared.char_kind.CharKind.TheVariants as kind_is
use Rattle.helix_regex.specs.Pattern.{Single, Quant, Pattern, end, bar, caret, dollar, one, group, single_text, quant_text, opening, pattern_text, Fits, Writes}
use Rattle.helix_regex.proofs.Machine.{append, alone, grouped, Last, nothing, opened, atom, settled, Frame, State, outside, marked, start, run}
use Rattle.helix_regex.proofs.Texts.{append-assoc, append-end}
use Rattle.helix_regex.proofs.Reading.{run_step, signed, single_read, last_after, so_far_after, settled_after, quant_read}

-- what is last after a pattern, and what is read before it
abbrev pub Place : Type 0
Place = Last × Pattern

abbrev pub at_place : Place → List Frame → State
at_place p fs = outside p.0 p.1 fs

abbrev pub all_of : Place → Pattern
all_of p = settled p.0 p.1

abbrev pub after : Place → Pattern → Place
after p end = p
after p (bar q) = after (nothing, append (all_of p) (bar end)) q
after p (caret q) = after (nothing, append (all_of p) (caret end)) q
after p (dollar q) = after (nothing, append (all_of p) (dollar end)) q
after p (one s k q) = after (last_after (alone s) k, so_far_after (all_of p) (alone s) k) q
after p (group bare inner k q) = after (
  last_after (grouped bare inner) k,
  so_far_after (all_of p) (grouped bare inner) k,
) q

pub all_after : (q : Pattern) (p : Place) → all_of (after p q) ≡ append (all_of p) q
all_after end p = sym (append-end (all_of p))
all_after (bar q) p = all_after q (nothing, append (all_of p) (bar end)) ∙ append-assoc (all_of p) (bar end) q
all_after (caret q) p = all_after q (nothing, append (all_of p) (caret end)) ∙ append-assoc (all_of p) (caret end) q
all_after (dollar q) p = all_after q (nothing, append (all_of p) (dollar end)) ∙ append-assoc (all_of p) (dollar end) q
all_after (one s k q) p = all_after q (last_after (alone s) k, so_far_after (all_of p) (alone s) k)
    ∙ (ap (λ x. append x q) (settled_after (all_of p) (alone s) k) ∙ append-assoc (all_of p) (one s k end) q)
all_after (group bare inner k q) p = all_after q (
  last_after (grouped bare inner) k,
  so_far_after (all_of p) (grouped bare inner) k,
)
    ∙ (ap (λ x. append x q) (settled_after (all_of p) (grouped bare inner) k)
    ∙ append-assoc (all_of p) (group bare inner k end) q)

abbrev opened_by : Bool → Last
opened_by true = nothing
opened_by false = opened

settled_opened : (bare : Bool) → settled (opened_by bare) end ≡ end
settled_opened true = refl
settled_opened false = refl

opening_read : (bare : Bool) (p : Place) (fs : List Frame) (r : List ℕ)
    → run (at_place p fs) (opening bare ++ r) ≡ run (outside (opened_by bare) end ((all_of p, bare) ∷ fs)) r
opening_read false p fs r = signed p.0 p.1 fs 40 kind_is.Open (outside opened end ((all_of p, false) ∷ fs)) r refl tt
    refl
opening_read true p fs r = signed p.0 p.1 fs 40 kind_is.Open (outside opened end ((all_of p, false) ∷ fs)) (63 ∷ 58 ∷ r)
    refl tt refl
    ∙ (run_step (outside opened end ((all_of p, false) ∷ fs)) (marked ((all_of p, false) ∷ fs)) 63 (58 ∷ r) refl
    ∙ run_step (marked ((all_of p, false) ∷ fs)) (outside nothing end ((all_of p, true) ∷ fs)) 58 r refl)

closing_read : (p : Place) (before : Pattern) (bare : Bool) (fs : List Frame) (r : List ℕ)
    → run (at_place p ((before, bare) ∷ fs)) (41 ∷ r) ≡ run (outside (atom (grouped bare (all_of p))) before fs) r
closing_read p before bare fs r = signed p.0 p.1 ((before, bare) ∷ fs) 41 kind_is.Close
    (outside (atom (grouped bare (all_of p))) before fs) r refl tt refl

piece_text_is : (s : Single) (k : Quant) (q : Pattern) (r : List ℕ)
    → pattern_text (one s k q) ++ r ≡ single_text s ++ (quant_text k ++ (pattern_text q ++ r))
piece_text_is s k q r = simp append_assoc

group_text_is : (bare : Bool) (inner : Pattern) (k : Quant) (q : Pattern) (r : List ℕ)
    → pattern_text (group bare inner k q) ++ r
    ≡ opening bare ++ (pattern_text inner ++ (41 ∷ (quant_text k ++ (pattern_text q ++ r))))
group_text_is bare inner k q r = simp append_assoc

inner_is : (bare : Bool) (inner : Pattern) → all_of (after (opened_by bare, end) inner) ≡ inner
inner_is bare inner = all_after inner (opened_by bare, end) ∙ ap (λ x. append x inner) (settled_opened bare)

pub reads : (q : Pattern) → Fits q → (p : Place) (fs : List Frame) (r : List ℕ)
    → run (at_place p fs) (pattern_text q ++ r) ≡ run (at_place (after p q) fs) r
reads end fits p fs r = refl
reads (bar q) fits p fs r = signed p.0 p.1 fs 124 kind_is.Bar (outside nothing (append (all_of p) (bar end)) fs)
    (pattern_text q ++ r) refl tt refl
    ∙ reads q fits (nothing, append (all_of p) (bar end)) fs r
reads (caret q) fits p fs r = signed p.0 p.1 fs 94 kind_is.Caret (outside nothing (append (all_of p) (caret end)) fs)
    (pattern_text q ++ r) refl tt refl
    ∙ reads q fits (nothing, append (all_of p) (caret end)) fs r
reads (dollar q) fits p fs r = signed p.0 p.1 fs 36 kind_is.Dollar (outside nothing (append (all_of p) (dollar end)) fs)
    (pattern_text q ++ r) refl tt refl
    ∙ reads q fits (nothing, append (all_of p) (dollar end)) fs r
reads (one s k q) fits p fs r = ap (run (at_place p fs)) (piece_text_is s k q r)
    ∙ (single_read s p.0 p.1 fs (quant_text k ++ (pattern_text q ++ r)) fits.0
    ∙ (quant_read k (alone s) (all_of p) fs (pattern_text q ++ r) fits.1
    ∙ reads q fits.2 (last_after (alone s) k, so_far_after (all_of p) (alone s) k) fs r))
reads (group bare inner k q) fits p fs r = ap (run (at_place p fs)) (group_text_is bare inner k q r)
    ∙ (opening_read bare p fs (pattern_text inner ++ (41 ∷ (quant_text k ++ (pattern_text q ++ r))))
    ∙ (reads inner fits.0 (opened_by bare, end) ((all_of p, bare) ∷ fs) (41 ∷ (quant_text k ++ (pattern_text q ++ r)))
    ∙ (closing_read (after (opened_by bare, end) inner) (all_of p) bare fs (quant_text k ++ (pattern_text q ++ r))
    ∙ (ap (λ x. run (outside (atom (grouped bare x)) (all_of p) fs) (quant_text k ++ (pattern_text q ++ r)))
    (inner_is bare inner)
    ∙ (quant_read k (grouped bare inner) (all_of p) fs (pattern_text q ++ r) fits.1
    ∙ reads q fits.2 (last_after (grouped bare inner) k, so_far_after (all_of p) (grouped bare inner) k) fs r)))))

-- a text that writes a pattern is read as it
abbrev pub begin : Place
begin = (nothing, end)

run_end : (s : State) → run s [] ≡ Some s
unfolding run
run_end s = refl

pub reads_all : (q : Pattern) → Fits q → run start (pattern_text q) ≡ Some (at_place (after begin q) [])
reads_all q fits = ap (run start) (sym (append-nil (pattern_text q)))
    ∙ (reads q fits begin [] [] ∙ run_end (at_place (after begin q) []))

pub all_read : (q : Pattern) → all_of (after begin q) ≡ q
all_read q = all_after q begin

-- a pattern is known by its text
settled_of : State → Pattern
settled_of (outside last b fs) = settled last b
settled_of _ = end

same_state : (s t : State) → Some s ≡ Some t → s ≡ t
same_state s t e = cc

same_all : (p q : Place) → at_place p [] ≡ at_place q [] → all_of p ≡ all_of q
unfolding settled_of
same_all p q e = ap settled_of e

pub one_pattern : (text : List ℕ) (p q : Pattern) → Writes text p → Writes text q → p ≡ q
one_pattern text p q h k = sym (all_read p) ∙ (same_all (after begin p) (after begin q)
    (same_state _ _ (sym (reads_all p h.fits) ∙ (ap (run start) (sym h.is ∙ k.is) ∙ reads_all q k.fits)))
    ∙ all_read q)
