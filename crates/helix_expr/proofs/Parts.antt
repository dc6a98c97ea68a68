-- Parts of a word that match: at its prefix, and anywhere.
use Rattle.std.proofs.Common.{◌≡◌, ℕ, ◌+◌, ◌-◌, ◌<◌, ◌≤◌, List, [], ◌++◌, length, take, drop, ◌↔◌, Bool, true, false, IsTrue, refl, sym, ◌∙◌, ap, subst, arith, length-append, length-drop}
use Rattle.std.proofs.Math.Seq.{drop-append_seam, take-append_seam}
use Rattle.std.proofs.lemmas.List.{take-append-drop, take_all, append-nil}
use Rattle.helix_expr.specs.Matching.{Matches, ContainsMatch}
use Rattle.helix_expr.specs.Inner.Splitting.{BeginsMatch}
use Rattle.helix_expr.specs.declared.expr.Expr.{Expr}
use Rattle.helix_expr.specs.declared.regex.Regex.{Regex}

false_is_false : IsTrue false → ⊥
false_is_false e = cc e

-- where the end is bound, the match is the whole word
pub whole_begins : (expr : Expr) (word : List ℕ) → Matches expr word ↔ BeginsMatch expr true word
whole_begins expr word = (
  (λ matches. (word, [], sym (append-nil word), matches, (λ bound. refl))),
  (λ (prefix, rest, split, matches, bound). subst (Matches expr)
      (sym (split ∙ (ap (λ r. prefix ++ r) (bound refl) ∙ append-nil prefix))) matches),
)

pub found_prefix : (expr : Expr) (word : List ℕ) (cut : ℕ) → Matches expr (take cut word) → BeginsMatch expr false word
found_prefix expr word cut matches = (
  take cut word,
  drop cut word,
  sym (take-append-drop cut word),
  matches,
  (λ bound. absurd (false_is_false bound)),
)

pub no_prefix : (expr : Expr) (word : List ℕ) (cut : ℕ) → length word + 1 ≤ cut
    → ((k : ℕ) → k < cut → ¬ Matches expr (take k word)) → ¬ BeginsMatch expr false word
no_prefix expr word cut all none (prefix, rest, split, matches, bound) =
    none (length prefix) (omega (arith, all, ap length split, length-append prefix rest))
    (subst (Matches expr) (sym (ap (take (length prefix)) split ∙ take-append_seam prefix rest)) matches)

-- the slice of a word from an offset on
pub rest_of : (cut : ℕ) (word : List ℕ) → take (length word - cut) (drop cut word) ≡ drop cut word
rest_of cut word = take_all (length word - cut) (drop cut word) (omega (arith, length-drop cut word))

-- a match that is bound to the start
pub start_contains : (regex : Regex) (word : List ℕ) → regex.at_start ≡ true
    → BeginsMatch regex.expr regex.at_end word ↔ ContainsMatch regex word
start_contains regex word start = (
  (λ (prefix, rest, split, matches, bound). record {
    before = [];
    middle = prefix;
    after = rest;
    split = split;
    match = matches;
    from_start = λ here. refl;
    to_end = bound;
  }),
  (λ found. (
    found.middle,
    found.after,
    found.split
        ∙ ap (λ b. b ++ (found.middle ++ found.after)) (found.from_start start),
    found.match,
    found.to_end,
  )),
)

abbrev pub free : Expr → Bool → Regex
free expr at_end = record { expr = expr; at_start = false; at_end = at_end }

pub found_part : (expr : Expr) (at_end : Bool) (word : List ℕ) (cut : ℕ) → BeginsMatch expr at_end (drop cut word)
    → ContainsMatch (free expr at_end) word
found_part expr at_end word cut (prefix, rest, split, matches, bound) = record {
  before = take cut word;
  middle = prefix;
  after = rest;
  split = sym (take-append-drop cut word) ∙ ap (λ r. take cut word ++ r) split;
  match = matches;
  from_start = λ here. absurd (false_is_false here);
  to_end = bound;
}

pub no_part : (expr : Expr) (at_end : Bool) (word : List ℕ) (cut : ℕ) → length word + 1 ≤ cut
    → ((k : ℕ) → k < cut → ¬ BeginsMatch expr at_end (drop k word)) → ¬ ContainsMatch (free expr at_end) word
no_part expr at_end word cut all none found =
    none (length found.before) (omega (
      arith,
      all,
      ap length found.split,
      length-append found.before (found.middle ++ found.after),
    )) (
      found.middle,
      found.after,
      ap (drop (length found.before)) found.split
          ∙ drop-append_seam found.before (found.middle ++ found.after),
      found.match,
      found.to_end,
    )

-- What a call answers, and what that says of the word.

pub is_so : (Fact : Type 0) → Fact → IsTrue true ↔ Fact
is_so Fact fact = ((λ t. fact), (λ f. refl))

pub is_not_so : (Fact : Type 0) → ¬ Fact → IsTrue false ↔ Fact
is_not_so Fact never = ((λ t. absurd (false_is_false t)), (λ f. absurd (never f)))

pub part_from : (b : Bool) (expr : Expr) (at_end : Bool) (cut : ℕ) (word : List ℕ)
    → (IsTrue b ↔ BeginsMatch expr at_end (take (length word - cut) (drop cut word))) → b ≡ true
    → BeginsMatch expr at_end (drop cut word)
part_from b expr at_end cut word decides answer = subst (BeginsMatch expr at_end) (rest_of cut word) (decides.0 answer)

pub no_part_from : (b : Bool) (expr : Expr) (at_end : Bool) (cut : ℕ) (word : List ℕ)
    → (IsTrue b ↔ BeginsMatch expr at_end (take (length word - cut) (drop cut word))) → b ≡ false
    → ¬ BeginsMatch expr at_end (drop cut word)
no_part_from b expr at_end cut word decides answer begins =
    false_is_false (sym answer ∙ decides.1 (subst (BeginsMatch expr at_end) (sym (rest_of cut word)) begins))

pub start_decides : (b : Bool) (regex : Regex) (word : List ℕ) → regex.at_start ≡ true
    → (IsTrue b ↔ BeginsMatch regex.expr regex.at_end word) → IsTrue b ↔ ContainsMatch regex word
start_decides b regex word start decides =
    let law : BeginsMatch regex.expr regex.at_end word ↔ ContainsMatch regex word = start_contains regex word start in
    ((λ t. law.0 (decides.0 t)), (λ m. decides.1 (law.1 m)))
