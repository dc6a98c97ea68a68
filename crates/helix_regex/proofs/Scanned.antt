-- A prefix of a text that is scanned and not refused.
use Rattle.std.proofs.Common.{◌≡◌, ℕ, zero, suc, ◌+◌, ◌<◌, ◌≤◌, true, false, IsTrue, ◌==◌, ◌&&◌, Option, Some, None, List, [], ◌∷◌, ◌++◌, length, take, drop, get_or, refl, sym, ◌∙◌, ap, subst, append_assoc, arith, add-one, eq-eqb, ◌-◌, MatchOption}
use Rattle.std.proofs.lemmas.List.{take_all, take_more}
use Rattle.std.proofs.Math.Seq.{take-length, take-add}
use Rattle.std.proofs.lemmas.Bool.{eqb-true, and_from, and_parts}
use Rattle.helix_regex.specs.declared.scanner_state.ScannerState.{ScannerState}
use Rattle.helix_regex.specs.declared.scanner_state.ScannerState.TheVariants as scanner_state
use Rattle.helix_regex.specs.declared.scanner_state.Advance.{Advance}
use Rattle.helix_regex.specs.declared.scanner_state.Advance.TheVariants as advance
use Rattle.helix_regex.specs.declared.scan.Position.{Position}
use Rattle.helix_regex.specs.Characters.{is_character}
use Rattle.helix_regex.specs.Pattern.{Pattern, pattern_text, Fits, Writes}
use Rattle.helix_base.specs.Syntax.{IsViablePrefix, IsSyntaxErrorAt}
use Rattle.helix_regex.specs.Faults.{AreCharacters, IsPatternText}
use Rattle.helix_regex.specs.Inner.Scan.{moved, position_step, scanner_step, may_end}
use Rattle.helix_regex.proofs.Machine.{Last, nothing, opened, atom, repeated, settled, Frame, count_opened, count_least, count_comma, count_most, State, outside, marked, escaping, counting, in_class, start, step, on_some, run, scanner_state_of}
use Rattle.helix_regex.proofs.Agreeing.{Agrees, At, agrees, depth_of}
use Rattle.helix_regex.proofs.Sound.{frames_text, written, Fine, Leaves, settled_fits}
use Rattle.helix_regex.proofs.SoundSteps.{step_leaves}
use Rattle.helix_regex.proofs.Finishing.{state_ends, ends_viable}
use Rattle.helix_regex.proofs.ReadingPatterns.{reads_all, at_place, after, begin}

pub character_at : (cs : List ℕ) (i : ℕ) → AreCharacters cs → i < length cs → IsTrue (is_character (get_or cs i 0))
character_at [] i h l = absurd (omega arith)
character_at (c ∷ cs) zero h l = h.0
character_at (c ∷ cs) (suc i) h l = character_at cs i h.1 (omega arith)

pub record Scanned (prefix : List ℕ) (p : Position) : Type 0 where
  pub state : State
  pub fine : Fine state
  pub reads : run start prefix ≡ Some state
  pub is : written state ≡ prefix
  pub at : At p.scanner_state p.depth state

run_on : (o : Option State) (t : State) (xs ys : List ℕ)
    → ((s : State) → run s xs ≡ Some t → run s (xs ++ ys) ≡ run t ys)
    → on_some o (λ n. run n xs) ≡ Some t → on_some o (λ n. run n (xs ++ ys)) ≡ run t ys
run_on None t xs ys ih e = cc
run_on (Some s) t xs ys ih e = ih s e

same_run : (s t : State) (ys : List ℕ) → Some s ≡ Some t → run s ys ≡ run t ys
same_run s t ys e = let f : s ≡ t = cc in ap (λ x. run x ys) f

pub run-append : (xs ys : List ℕ) (s t : State) → run s xs ≡ Some t → run s (xs ++ ys) ≡ run t ys
unfolding run
run-append [] ys s t e = same_run s t ys e
run-append (x ∷ xs) ys s t e = run_on (step s x) t xs ys (λ n. run-append xs ys n t) e

one_on : (o : Option State) → on_some o (λ n. run n []) ≡ o
unfolding run
one_on None = refl
one_on (Some s) = refl

pub run_one : (s : State) (c : ℕ) → run s (c ∷ []) ≡ step s c
unfolding run
run_one s c = one_on (step s c)

pub none_after : (s : State) (c : ℕ) (cs : List ℕ) → step s c ≡ None → run s (c ∷ cs) ≡ None
unfolding run
none_after s c cs e = ap (λ o. on_some o (λ n. run n cs)) e

pub scanned_start : Scanned [] (record { scanner_state = scanner_state.Ready; depth = 0 })
unfolding run
scanned_start = record { state = start; fine = (tt, tt, tt); reads = refl; is = refl; at = (refl, refl) }

-- what a character does to a scanned prefix
abbrev pub Outcome : List ℕ → ℕ → State → Option State → Advance → ℕ → Type 0
Outcome prefix c s o a d = MatchOption (moved a d) (o ≡ None) (λ q. (t : State) × (o ≡ Some t)
    × At q.scanner_state q.depth t)

depth_more : (m : ScannerState) (d : ℕ) (t : State) → At m (suc d) t → At m (d + 1) t
depth_more m d t h = (h.0, h.1 ∙ sym (add-one d))

outcome : (prefix : List ℕ) (c : ℕ) (s : State) (o : Option State) (a : Advance) (d : ℕ) → Agrees o a d
    → Outcome prefix c s o a d
outcome prefix c s (Some t) (advance.Stay m) d h = (t, refl, h)
outcome prefix c s (Some t) (advance.Open m) d h = (t, refl, depth_more m d t h)
outcome prefix c s (Some t) (advance.Close m) (suc d) h = (t, refl, h)
outcome prefix c s (Some t) (advance.Close m) zero h = absurd h
outcome prefix c s (Some t) advance.Refuse d h = absurd h
outcome prefix c s None advance.Refuse d h = refl
outcome prefix c s None (advance.Close m) zero h = refl
outcome prefix c s None (advance.Close m) (suc d) h = absurd h
outcome prefix c s None (advance.Stay m) d h = absurd h
outcome prefix c s None (advance.Open m) d h = absurd h

outcome_at : (s : State) (c : ℕ) (p : Position) → At p.scanner_state p.depth s
    → MatchOption (position_step p c) (step s c ≡ None) (λ q. (t : State) × (step s c ≡ Some t)
    × At q.scanner_state q.depth t)
outcome_at s c p at = outcome [] c s (step s c) (scanner_step p.scanner_state c) p.depth
    (subst (λ m. Agrees (step s c) (scanner_step m c) p.depth) at.0
    (subst (λ d. Agrees (step s c) (scanner_step (scanner_state_of s) c) d) at.1 (agrees s c)))

pub scanned_more : (prefix : List ℕ) (c : ℕ) (p q : Position) → Scanned prefix p → position_step p c ≡ Some q
    → Scanned (prefix ++ c ∷ []) q
scanned_more prefix c p q h e =
    let (t, is, at) = subst (λ o. MatchOption o (step h.state c ≡ None) (λ x. (t : State) × (step h.state c ≡ Some t)
    × At x.scanner_state x.depth t)) e (outcome_at h.state c p h.at) in
    let left : Leaves (Some t) (written h.state ++ c ∷ []) = subst (λ o. Leaves o (written h.state ++ c ∷ [])) is
    (step_leaves h.state c h.fine) in
    record {
      state = t;
      fine = left.0;
      reads = run-append prefix (c ∷ []) start h.state h.reads ∙ (run_one h.state c ∙ is);
      is = left.1 ∙ ap (λ x. x ++ c ∷ []) h.is;
      at = at;
    }

refused : (prefix : List ℕ) (c : ℕ) (p : Position) → Scanned prefix p → position_step p c ≡ None → (rest : List ℕ)
    → run start ((prefix ++ c ∷ []) ++ rest) ≡ None
refused prefix c p h e rest =
    let none : _ = subst (λ o. MatchOption o (step h.state c ≡ None) (λ x. (t : State) × (step h.state c ≡ Some t)
    × At x.scanner_state x.depth t)) e (outcome_at h.state c p h.at) in
    ap (run start) (append_assoc prefix (c ∷ []) rest)
    ∙ (run-append prefix (c ∷ rest) start h.state h.reads ∙ none_after h.state c rest none)

-- what is refused begins no pattern
no_pattern : (text : List ℕ) (p : Pattern) → run start text ≡ None → ¬ (Writes text p)
no_pattern text p e w = let f : None ≡ Some (at_place (after begin p) []) = sym e
    ∙ (ap (run start) w.is ∙ reads_all p w.fits) in cc

viable : (prefix : List ℕ) (p : Position) → Scanned prefix p → IsViablePrefix IsPatternText prefix
viable prefix p h = subst (IsViablePrefix IsPatternText) h.is
    (ends_viable (written h.state) (state_ends h.state h.fine))

pub prefix_of : (codes : List ℕ) (i more : ℕ) → i < more → more ≤ length codes
    → take more codes ≡ (take i codes ++ get_or codes i 0 ∷ []) ++ take (more - (i + 1)) (drop (i + 1) codes)
prefix_of codes i more lt le =
    let e : i + 1 + (more - (i + 1)) ≡ more = omega arith in
    ap (λ n. take n codes) (sym e) ∙ (take-add (i + 1) (more - (i + 1)) codes
    ∙ ap (λ t. t ++ take (more - (i + 1)) (drop (i + 1) codes)) (take_more codes i 0 (omega arith)))

pub leaves_inside : (codes : List ℕ) (i : ℕ) (p : Position) → i < length codes → Scanned (take i codes) p
    → position_step p (get_or codes i 0) ≡ None → IsSyntaxErrorAt IsPatternText codes i
leaves_inside codes i p lt h e = record {
  no_member =
      λ w. no_pattern codes w.0 (ap (run start) (sym (take-length codes)
      ∙ prefix_of codes i (length codes) lt (omega arith))
      ∙ refused (take i codes) (get_or codes i 0) p h e (take (length codes - (i + 1)) (drop (i + 1) codes))) w.1;
  within = omega arith;
  viable = viable (take i codes) p h;
  longest = λ more above within v. no_pattern (take more codes ++ v.0) v.1.0
      (ap (λ t. run start (t ++ v.0)) (prefix_of codes i more above within)
      ∙ (ap (run start) (append_assoc (take i codes ++ get_or codes i 0 ∷ [])
      (take (more - (i + 1)) (drop (i + 1) codes)) v.0)
      ∙ refused (take i codes) (get_or codes i 0) p h e (take (more - (i + 1)) (drop (i + 1) codes) ++ v.0))) v.1.1;
}

-- where a text may end
no_frames : (fs : List Frame) → length fs ≡ 0 → fs ≡ []
no_frames [] e = refl
no_frames (f ∷ fs) e = absurd (omega arith)

ends_outside : (s : State) → Fine s → may_end (scanner_state_of s) ≡ true → depth_of s ≡ 0
    → (p : Pattern) × Fits p × (written s ≡ pattern_text p)
ends_outside (outside last b fs) fine m d =
    let none : fs ≡ [] = no_frames fs d in (
      settled last b,
      settled_fits last b fs fine.0 fine.2,
      ap (λ f. frames_text f ++ pattern_text (settled last b)) none,
    )
ends_outside (marked fs) fine m d = cc
ends_outside (escaping b fs) fine m d = cc
ends_outside (counting count_opened a b fs) fine m d = cc
ends_outside (counting (count_least ds) a b fs) fine m d = cc
ends_outside (counting (count_comma ds) a b fs) fine m d = cc
ends_outside (counting (count_most ds es) a b fs) fine m d = cc
ends_outside (in_class k before b fs) fine m d = cc

pub writes : (codes : List ℕ) (p : Position) → Scanned codes p → (p.depth == 0 && may_end p.scanner_state) ≡ true
    → (pattern : Pattern) × Writes codes pattern
writes codes p h e =
    let (zero_depth, ending) = and_parts (p.depth == 0) (may_end p.scanner_state) e in
    let (q, fits, is) = ends_outside h.state h.fine (ap may_end h.at.0 ∙ ending) (h.at.1
    ∙ eqb-true p.depth 0 zero_depth) in
    (q, record { is = sym h.is ∙ is; fits = fits })

-- a pattern's text may end
last_ends : (last : Last) (b : Pattern) → Fine (outside last b [])
    → may_end (scanner_state_of (outside last b [])) ≡ true
last_ends nothing b fine = refl
last_ends opened b fine = absurd fine.2.1
last_ends (atom a) b fine = refl
last_ends (repeated a count) b fine = refl

place_ends : (last : Last) (b : Pattern) (s : State) → s ≡ outside last b [] → Fine s
    → (depth_of s ≡ 0) × (may_end (scanner_state_of s) ≡ true)
place_ends last b s e fine = subst (λ x. (depth_of x ≡ 0) × (may_end (scanner_state_of x) ≡ true)) (sym e) (
  refl,
  last_ends last b (subst Fine e fine),
)

same_state : (s t : State) → Some s ≡ Some t → s ≡ t
same_state s t e = cc

pub leaves_at_end : (codes : List ℕ) (p : Position) → Scanned codes p
    → (p.depth == 0 && may_end p.scanner_state) ≡ false → IsSyntaxErrorAt IsPatternText codes (length codes)
leaves_at_end codes p h e = record {
  no_member = λ (q, w).
      let same : h.state ≡ at_place (after begin q) [] = same_state _ _ (sym h.reads
      ∙ (ap (run start) w.is ∙ reads_all q w.fits)) in
      let (flat, ending) = place_ends (after begin q).0 (after begin q).1 h.state same h.fine in
      let f : (p.depth == 0 && may_end p.scanner_state) ≡ true =
      and_from (p.depth == 0) (may_end p.scanner_state) (eq-eqb p.depth 0 (sym h.at.1 ∙ flat)) (ap may_end (sym h.at.0)
      ∙ ending) in cc;
  within = omega arith;
  viable = subst (IsViablePrefix IsPatternText) (sym (take-length codes)) (viable codes p h);
  longest = λ more above within v. omega arith;
}

moved_depth : (a : Advance) (d : ℕ) (q : Position) → moved a d ≡ Some q → q.depth ≤ d + 1
moved_depth advance.Refuse d q e = cc
moved_depth (advance.Stay m) d q e = let f : record { scanner_state = m; depth = d } ≡ q = cc in
    omega (arith, ap (λ (x : Position). x.depth) f)
moved_depth (advance.Open m) d q e = let f : record { scanner_state = m; depth = d + 1 } ≡ q = cc in
    omega (arith, ap (λ (x : Position). x.depth) f)
moved_depth (advance.Close m) zero q e = cc
moved_depth (advance.Close m) (suc d) q e = let f : record { scanner_state = m; depth = d } ≡ q = cc in
    omega (arith, ap (λ (x : Position). x.depth) f)

pub step_depth : (p : Position) (c : ℕ) (q : Position) (i : ℕ) → p.depth ≤ i → Some q ≡ position_step p c
    → q.depth ≤ i + 1
step_depth p c q i h e = let k : q.depth ≤ p.depth + 1 = moved_depth _ p.depth q (sym e) in omega arith

pub scanned_next : (codes : List ℕ) (i : ℕ) (p q : Position) → i < length codes → Scanned (take i codes) p
    → Some q ≡ position_step p (get_or codes i 0) → Scanned (take (i + 1) codes) q
scanned_next codes i p q lt h e = subst (λ t. Scanned t q) (sym (take_more codes i 0 lt))
    (scanned_more (take i codes) (get_or codes i 0) p q h (sym e))

pub scanned_all : (codes : List ℕ) (i : ℕ) (p : Position) → length codes ≤ i → Scanned (take i codes) p
    → Scanned codes p
scanned_all codes i p le h = subst (λ t. Scanned t p) (take_all i codes le) h
