-- What is built from the tokens of a whole pattern is what the pattern means.
use Rattle.std.proofs.Common.{◌≡◌, ℕ, ◌+◌, Bool, List, [], ◌∷◌, ◌++◌, length, refl, sym, ◌∙◌, ap, subst, append_assoc}
use Rattle.std.proofs.lemmas.List.{append-nil}
use Rattle.helix_expr.specs.declared.expr.Expr.{Expr, Chars}
use Rattle.helix_expr.specs.declared.regex.Regex.{Regex}
use Rattle.helix_regex.specs.declared.token.Token.{Token}
use Rattle.helix_regex.specs.declared.token.Token.TheVariants as token
use Rattle.helix_regex.specs.declared.builder.Level.{Level}
use Rattle.helix_regex.specs.declared.builder.Builder.{Builder}
use Rattle.helix_regex.specs.Pattern.{once, Pattern, end, bar, caret, dollar, one, group, single_text, opening}
use Rattle.helix_regex.specs.Meaning.{quantified, in_sequence, any_of, Parts, together, after_bar, with_piece, HasParts, has_caret, has_dollar, MeansRegex}
use Rattle.helix_regex.specs.Faults.{offset_if, piece_text, group_text, is_bad_count, bad_counts}
use Rattle.helix_regex.specs.Inner.Tokens.{single_tokens, quant_tokens, tokens}
use Rattle.helix_regex.specs.Inner.Building.{choice, sequences, Same, Pushes, Ends, OpensGroup, ClosesGroup, Runs, IsBuilt}
use Rattle.helix_regex.proofs.Counted.{good_first, none_of}
use Rattle.helix_regex.proofs.Built.{single_run, quant_run}

-- what a pattern adds
pub record Adds (parts : Parts) (old new : Builder) : Type 0 where
  pub outer : new.outer ≡ old.outer
  pub all : sequences new ≡ old.done ++ in_sequence (old.pieces ++ parts.pieces) ∷ parts.others

abbrev pub PatternRun : Pattern → Builder → List Token → Builder → Type 0
PatternRun p b r m = (n : Builder) × (parts : Parts) × HasParts p parts × Adds parts b n × Runs n r m

adds_nothing : (b : Builder) → Adds (record { pieces = []; others = [] }) b b
adds_nothing b = record { outer = refl; all = ap (λ l. b.done ++ in_sequence l ∷ []) (sym (append-nil b.pieces)) }

adds_bar : (parts : Parts) (a b n : Builder) → Ends a b → Adds parts b n → Adds (after_bar parts) a n
adds_bar parts a b n h k = record {
  outer = k.outer ∙ h.outer;
  all = k.all ∙ (ap (λ d. d ++ in_sequence (b.pieces ++ parts.pieces) ∷ parts.others) h.done
      ∙ (ap (λ l. sequences a ++ in_sequence (l ++ parts.pieces) ∷ parts.others) h.pieces
      ∙ (append_assoc a.done (in_sequence a.pieces ∷ []) (in_sequence parts.pieces ∷ parts.others)
      ∙ ap (λ l. a.done ++ in_sequence l ∷ in_sequence parts.pieces ∷ parts.others) (sym (append-nil a.pieces)))));
}

adds_same : (parts : Parts) (a b n : Builder) → Same a b → Adds parts b n → Adds parts a n
adds_same parts a b n h k = record {
  outer = k.outer ∙ h.outer;
  all = k.all ∙ (ap (λ d. d ++ in_sequence (b.pieces ++ parts.pieces) ∷ parts.others) h.done
      ∙ ap (λ l. a.done ++ in_sequence (l ++ parts.pieces) ∷ parts.others) h.pieces);
}

adds_piece : (e : Expr) (parts : Parts) (a b n : Builder) → Pushes e a b → Adds parts b n
    → Adds (with_piece e parts) a n
adds_piece e parts a b n h k = record {
  outer = k.outer ∙ h.outer;
  all = k.all ∙ (ap (λ d. d ++ in_sequence (b.pieces ++ parts.pieces) ∷ parts.others) h.done
      ∙ ap (λ l. a.done ++ in_sequence l ∷ parts.others) (ap (λ l. l ++ parts.pieces) h.pieces
      ∙ append_assoc a.pieces (e ∷ []) parts.pieces));
}

-- the alternatives of a group
choice_is : (e : Expr) (es : List Expr) → choice (e ∷ es) ≡ any_of e es
choice_is e [] = refl
choice_is e (f ∷ es) = refl

abbrev level_of : Builder → Level
level_of b = record { done = b.done; pieces = b.pieces }

group_closes : (parts : Parts) (a b n c : Builder) → OpensGroup a b → Adds parts b n
    → ((outer : List Level) (level : Level) → n.outer ≡ outer ++ level ∷ [] → ClosesGroup outer level n c)
    → Pushes (together parts) a c
group_closes parts a b n c opens adds closes =
    let s : ClosesGroup a.outer (level_of a) n c = closes a.outer (level_of a) (adds.outer ∙ opens.outer) in
    let all : sequences n ≡ in_sequence parts.pieces ∷ parts.others = adds.all
    ∙ (ap (λ d. d ++ in_sequence (b.pieces ++ parts.pieces) ∷ parts.others) opens.done
    ∙ ap (λ l. in_sequence (l ++ parts.pieces) ∷ parts.others) opens.pieces) in
    record {
      outer = s.outer;
      done = s.done;
      pieces = s.pieces ∙ ap (λ x. a.pieces ++ x ∷ []) (ap choice all
          ∙ choice_is (in_sequence parts.pieces) parts.others);
    }

pub pattern_run : (p : Pattern) (at : ℕ) → bad_counts at p ≡ [] → (b m : Builder) (r : List Token)
    → Runs b (tokens at p ++ r) m → PatternRun p b r m
pattern_run end at good b m r h = (b, record { pieces = []; others = [] }, refl, adds_nothing b, h)
pattern_run (bar p) at good b m r (n, s, h) =
    let (k, parts, has, adds, rest) = pattern_run p (at + 1) good n m r h in
    (k, after_bar parts, (parts, has, refl), adds_bar parts b n k s adds, rest)
pattern_run (caret p) at good b m r (n, s, h) = let (k, parts, has, adds, rest) = pattern_run p (at + 1) good n m r h in
    (k, parts, has, adds_same parts b n k s adds, rest)
pattern_run (dollar p) at good b m r (n, s, h) =
    let (k, parts, has, adds, rest) = pattern_run p (at + 1) good n m r h in
    (k, parts, has, adds_same parts b n k s adds, rest)
pattern_run (one x q p) at good b m r h =
    let (well, good_rest) = good_first (is_bad_count q) (at + length (single_text x))
    (bad_counts (at + length (piece_text x q)) p) good in
    let first : Runs b
    (single_tokens at x ++ ((quant_tokens (at + length (single_text x)) q ++ tokens (at + length (piece_text x q)) p)
    ++ r)) m =
    subst (λ l. Runs b l m) (append_assoc (single_tokens at x)
    (quant_tokens (at + length (single_text x)) q ++ tokens (at + length (piece_text x q)) p) r) h in
    let (n, set_pushed, second) = single_run x at b m
    ((quant_tokens (at + length (single_text x)) q ++ tokens (at + length (piece_text x q)) p) ++ r) first in
    let (ranges, are, pushes) = set_pushed in
    let third_run : Runs n (quant_tokens (at + length (single_text x)) q
    ++ (tokens (at + length (piece_text x q)) p ++ r)) m =
    subst (λ l. Runs n l m) (append_assoc (quant_tokens (at + length (single_text x)) q)
    (tokens (at + length (piece_text x q)) p) r) second in
    let (o, piece, last) = quant_run q (at + length (single_text x)) (Chars ranges) b n m
    (tokens (at + length (piece_text x q)) p ++ r) well pushes third_run in
    let (k, parts, has, adds, rest) = pattern_run p (at + length (piece_text x q)) good_rest o m r last in (
      k,
      with_piece (quantified q (Chars ranges)) parts,
      (ranges, parts, are, has, refl),
      adds_piece (quantified q (Chars ranges)) parts b o k piece adds,
      rest,
    )
pattern_run (group bare inner q p) at good b m r (n, opens, h) =
    let x : ℕ = at + length (group_text bare inner once) in
    let y : ℕ = at + length (group_text bare inner q) in
    let (good_inner, good_after) = none_of (bad_counts (at + length (opening bare)) inner)
    (offset_if (is_bad_count q) x ++ bad_counts y p) good in
    let (well, good_rest) = good_first (is_bad_count q) x (bad_counts y p) good_after in
    let first : Runs n (tokens (at + length (opening bare)) inner
    ++ (token.Close ∷ ((quant_tokens x q ++ tokens y p) ++ r))) m =
    subst (λ l. Runs n l m) (append_assoc (tokens (at + length (opening bare)) inner)
    (token.Close ∷ (quant_tokens x q ++ tokens y p)) r) h in
    let (
      i,
      within,
      has_within,
      adds_within,
      after,
    ) = pattern_run inner (at + length (opening bare)) good_inner n m
    (token.Close ∷ ((quant_tokens x q ++ tokens y p) ++ r)) first in
    let (c, closes, second) = after in
    let third_run : Runs c (quant_tokens x q ++ (tokens y p ++ r)) m = subst (λ l. Runs c l m)
    (append_assoc (quant_tokens x q) (tokens y p) r) second in
    let (o, piece, last) = quant_run q x (together within) b c m (tokens y p ++ r) well
    (group_closes within b n i c opens adds_within closes) third_run in
    let (k, parts, has, adds, rest) = pattern_run p y good_rest o m r last in (
      k,
      with_piece (quantified q (together within)) parts,
      (within, parts, has_within, has, refl),
      adds_piece (quantified q (together within)) parts b o k piece adds,
      rest,
    )

abbrev RegexOf : Expr → Bool → Bool → Regex
RegexOf e s t = record { expr = e; at_start = s; at_end = t }

same_regex : (e f : Expr) (s s2 t t2 : Bool) → e ≡ f → s ≡ s2 → t ≡ t2 → RegexOf e s t ≡ RegexOf f s2 t2
same_regex e f s s2 t t2 h k l = ap (λ x. RegexOf x s t) h ∙ (ap (λ x. RegexOf f x t) k ∙ ap (λ x. RegexOf f s2 x) l)

pub means : (p : Pattern) (ts : List Token) (b : Builder) (expr : Expr) (at_start at_end : Bool) → ts ≡ tokens 0 p
    → bad_counts 0 p ≡ [] → IsBuilt ts b → expr ≡ choice (sequences b)
    → at_start ≡ has_caret p → at_end ≡ has_dollar p
    → MeansRegex p (record { expr = expr; at_start = at_start; at_end = at_end })
means p ts b expr at_start at_end e good (start, is, runs) f g h =
    let whole : Runs start (tokens 0 p ++ []) b = subst (λ l. Runs start l b) (e
    ∙ sym (append-nil (tokens 0 p))) runs in
    let (n, parts, has, adds, last) = pattern_run p 0 good start b [] whole in
    let all : sequences b ≡ in_sequence parts.pieces ∷ parts.others = ap sequences (sym last)
    ∙ (adds.all ∙ (ap (λ d. d ++ in_sequence (start.pieces ++ parts.pieces) ∷ parts.others) is.done
    ∙ ap (λ l. in_sequence (l ++ parts.pieces) ∷ parts.others) is.pieces)) in (
      parts,
      has,
      same_regex expr (together parts) at_start (has_caret p) at_end (has_dollar p) (f
          ∙ (ap choice all ∙ choice_is (in_sequence parts.pieces) parts.others)) g h,
    )
