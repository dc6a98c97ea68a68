-- Least rests and branches are least words.
use Rattle.std.proofs.Common.{◌≡◌, ◌⊎◌, ◌↔◌, inl, inr, ℕ, ◌+◌, ◌<◌, ◌≤◌, Bool, true, false, List, length, Contains, refl, sym, ap, ◌∙◌, subst, arith, Ordering, nat_cmp}
use Rattle.std.specs.declared.cmp.Ordering.TheVariants.{Less, Equal, Greater}
use Rattle.std.specs.Ordering.{ordering_reverse}
use Rattle.std.specs.Cmp.Lexicographic.{slice_cmp}
use Rattle.std.specs.FinMap.{nat_cmp-IsAntisymmetric, slice_cmp-IsAntisymmetric}
use Rattle.std.proofs.lemmas.Cmp.{nat_list_cmp_total, tied_itself}
use Rattle.std.proofs.lemmas.Bool.{cases_lt}
use Rattle.helix_values.specs.declared.cell.Cell.{Cell}
use Rattle.helix_values.specs.declared.cell.Cell.TheVariants as cell
use Rattle.helix_values.specs.declared.mark.Mark.{Mark}
use Rattle.helix_values.specs.Marks.{IsAdmitted}
use Rattle.helix_values.specs.Order.{CellLess}
use Rattle.helix_words.specs.Words.{WordSet, IsWord, IsWordCell, IsLeastWord}
use Rattle.helix_words.specs.Questions.{IsLeastAdmitted, IsLeastAnswer}
use Rattle.helix_words.specs.Inner.Rests.{IsBefore, IsRest, IsLeastRest}
use Rattle.helix_words.specs.Inner.Tables.{IsLengthOf, IsLengthFrom, HasNoLengthFrom}
use Rattle.helix_words.specs.Inner.Walks.{IsAbove, IsLeastAbove}
use Rattle.helix_words.specs.Inner.Fills.{IsWordAnswer, IsFrom, IsAlikeFrom, IsLongFrom}
use Rattle.helix_words.proofs.Order.{not_both}
use Rattle.helix_words.proofs.TextOrder.{alike_cmp, less_cases, less_length, from_length, longer_from}

-- a word of a set is a rest of the start
pub rest_of_word : (words : WordSet) (word : List ℕ) → IsWord words word
    → IsRest words.automaton 0 (length word) word
rest_of_word words word is = record { characters = is.characters; long = refl; accepted = is.accepted }

pub length_of_word : (words : WordSet) (word : List ℕ) → IsWord words word → IsLengthOf words (length word)
length_of_word words word is = record {
  not_short = is.not_short;
  not_long = is.not_long;
  not_refused = is.not_refused;
  has_rest = (word, rest_of_word words word is);
}

pub word_of_rest : (words : WordSet) (count : ℕ) (word : List ℕ) → IsLengthOf words count
    → IsRest words.automaton 0 count word → IsWord words word
word_of_rest words count word allowed is = record {
  characters = is.characters;
  accepted = is.accepted;
  not_short = omega (arith, allowed.not_short, is.long);
  not_long = omega (arith, allowed.not_long, is.long);
  not_refused = λ refused. allowed.not_refused (subst (Contains words.refused) is.long refused);
}

module _ (words : WordSet) where
  -- the least rest of the least length
  pub long_least : (from count : ℕ) (word : List ℕ) → IsLengthFrom words from count
      → IsLeastRest words.automaton 0 count word → IsLeastWord words (IsLongFrom from) word
  long_least from count word least is = record {
    is_word = word_of_rest words count word least.is_length is.is_rest;
    admitted = omega (arith, least.high, is.is_rest.long);
    least = λ other other_is high less.
        let low = least.least (length other) (length_of_word words other other_is) high in
        by other other_is low (less_cases other word less);
  }
    where
      by : (other : List ℕ) → IsWord words other → count ≤ length other
          → (length other < length word) ⊎ ((length other ≡ length word) × IsBefore other word) → ⊥
      by other other_is low (inl shorter) = omega (arith, shorter, low, is.is_rest.long)
      by other other_is low (inr (same, before)) =
          is.least other (subst (λ n. IsRest words.automaton 0 n other) (same ∙ is.is_rest.long)
          (rest_of_word words other other_is)) before

  -- no length, no word
  pub long_none : (from : ℕ) → HasNoLengthFrom words from → (word : List ℕ) → IsWord words word
      → ¬ (IsLongFrom from word)
  long_none from none word is high = none (length word) (length_of_word words word is) high

  module _ (text : List ℕ) (allowed : IsLengthOf words (length text)) where
    above_by : (word : List ℕ) → IsWord words word → length word ≡ length text → IsBefore text word
        → IsAbove words.automaton text word
    above_by word is same before = record {
      is_rest = subst (λ n. IsRest words.automaton 0 n word) same (rest_of_word words word is);
      above = before;
    }

    -- words alike from a text on are above it, or are the text
    above_cases : (strict : Bool) → ¬ ((strict ≡ false) × IsRest words.automaton 0 (length text) text)
        → (word : List ℕ) → IsWord words word → IsAlikeFrom strict text word → IsAbove words.automaton text word
    above_cases true not word is (same, from) =
        above_by word is same (sym (alike_cmp text word (sym same)) ∙ from)
    above_cases false not word is (same, from) = by (slice_cmp nat_cmp text word) refl
      where
        by : (o : Ordering) → slice_cmp nat_cmp text word ≡ o → IsAbove words.automaton text word
        by Less e = above_by word is same e
        by Equal e =
            let one : text ≡ word = slice_cmp-IsAntisymmetric nat_cmp-IsAntisymmetric text word e in
            absurd (not (
              refl,
              subst (IsRest words.automaton 0 (length text)) (sym one)
                  (subst (λ n. IsRest words.automaton 0 n word) same (rest_of_word words word is)),
            ))
        by Greater e =
            let below : IsBefore word text = nat_list_cmp_total.antisymm word text ∙ ap ordering_reverse e in
            absurd (from (alike_cmp word text same ∙ below))

    above_from : (strict : Bool) (word : List ℕ) → length word ≡ length text → IsBefore text word
        → IsFrom strict (cell.Text text) word
    above_from true word same before = alike_cmp text word (sym same) ∙ before
    above_from false word same before = λ below.
        not_both text word before (sym (alike_cmp word text same) ∙ below)

    -- the word to which a branch leads
    pub branch_least : (strict : Bool) → ¬ ((strict ≡ false) × IsRest words.automaton 0 (length text) text)
        → (word : List ℕ) → IsLeastAbove words.automaton text word → IsLeastWord words (IsAlikeFrom strict text) word
    branch_least strict not word least = record {
      is_word = word_of_rest words (length text) word allowed least.is_above.is_rest;
      admitted = (least.is_above.is_rest.long, above_from strict word least.is_above.is_rest.long least.is_above.above);
      least = λ other is alike less.
          least.least other (above_cases strict not other is alike)
          (sym (alike_cmp other word (alike.0 ∙ sym least.is_above.is_rest.long)) ∙ less);
    }

    pub branch_none : (strict : Bool) → ¬ ((strict ≡ false) × IsRest words.automaton 0 (length text) text)
        → ((other : List ℕ) → ¬ (IsAbove words.automaton text other))
        → (word : List ℕ) → IsWord words word → ¬ (IsAlikeFrom strict text word)
    branch_none strict not none word is alike = none word (above_cases strict not word is alike)

    -- the text itself
    pub text_least : IsRest words.automaton 0 (length text) text → IsLeastWord words (IsAlikeFrom false text) text
    text_least is = record {
      is_word = word_of_rest words (length text) text allowed is;
      admitted = (refl, never);
      least = λ other other_is alike less. alike.1 less;
    }
      where
        never : ¬ (CellLess (cell.Text text) (cell.Text text))
        never less =
            let tied : slice_cmp nat_cmp text text ≡ Equal = tied_itself nat_list_cmp_total text in
            let before : slice_cmp nat_cmp text text ≡ Less = sym (alike_cmp text text refl) ∙ less in cc

  -- the words as long as a text come before longer ones
  pub alike_first : (strict : Bool) (text word : List ℕ) → IsLeastWord words (IsAlikeFrom strict text) word
      → IsLeastWord words (IsFrom strict (cell.Text text)) word
  alike_first strict text word least = record {
    is_word = least.is_word;
    admitted = least.admitted.1;
    least = λ other is from less.
        let long = from_length strict text other from in
        let short = less_length other word less in
        least.least other is (omega (arith, long, short, least.admitted.0), from) less;
  }

  module _ (strict : Bool) (text : List ℕ) (none : (word : List ℕ) → IsWord words word
      → ¬ (IsAlikeFrom strict text word)) where
    pub longer : (word : List ℕ) → IsWord words word → IsFrom strict (cell.Text text) word
        → IsLongFrom (length text + 1) word
    longer word is from =
        let long = from_length strict text word from in
        elim (cases_lt (length text) (length word)) [
          | inl less ↦ omega (arith, less)
          | inr same ↦ absurd (none word is (omega (arith, long, same), from))
        ]

    pub longer_least : (word : List ℕ) → IsLeastWord words (IsLongFrom (length text + 1)) word
        → IsLeastWord words (IsFrom strict (cell.Text text)) word
    longer_least word least = record {
      is_word = least.is_word;
      admitted = longer_from strict text word (omega (arith, least.admitted));
      least = λ other is from less. least.least other is (longer other is from) less;
    }

    -- what is left for longer words
    pub longer_answer : (found : Bool) (old new : Cell) → IsWordAnswer words (IsLongFrom (length text + 1)) found old
        new
        → IsWordAnswer words (IsFrom strict (cell.Text text)) found old new
    longer_answer true old new puts =
        record { word = puts.word; is = puts.is; is_least = longer_least puts.word puts.is_least }
    longer_answer false old new (same, nothing) = (same, λ word is from. nothing word is (longer word is from))

  -- no word is as long as a text that is too long
  pub too_long : (strict : Bool) (text : List ℕ) → words.longest < length text → (word : List ℕ) → IsWord words word
      → ¬ (IsFrom strict (cell.Text text) word)
  too_long strict text above word is from =
      let long = from_length strict text word from in omega (arith, long, above, is.not_long)

  -- the same words, said in two ways
  pub answer_same : (Admits Other : List ℕ → Type 0) → ((word : List ℕ) → Admits word ↔ Other word)
      → (found : Bool) (old new : Cell) → IsWordAnswer words Admits found old new
      → IsWordAnswer words Other found old new
  answer_same Admits Other same true old new puts = record {
    word = puts.word;
    is = puts.is;
    is_least = record {
      is_word = puts.is_least.is_word;
      admitted = (same puts.word).0 puts.is_least.admitted;
      least = λ other is admitted less. puts.is_least.least other is ((same other).1 admitted) less;
    };
  }
  answer_same Admits Other same false old new (stays, nothing) =
      (stays, λ word is admitted. nothing word is ((same word).1 admitted))

  -- an answer over words is one over cells
  pub cells_answer : (mark : Mark) (found : Bool) (old new : Cell)
      → IsWordAnswer words (λ word. IsAdmitted mark (cell.Text word)) found old new
      → IsLeastAnswer (IsWordCell words) mark found old new
  cells_answer mark true old new puts =
      subst (IsLeastAdmitted (IsWordCell words) mark) (sym puts.is) (record {
        has = puts.is_least.is_word;
        admitted = puts.is_least.admitted;
        least = least;
      })
    where
      least : (other : Cell) → IsWordCell words other → IsAdmitted mark other → ¬ (CellLess other (cell.Text puts.word))
      least (cell.Text word) is admitted less = puts.is_least.least word is admitted less
      least cell.Null is admitted less = is
      least (cell.Bool truth) is admitted less = is
      least (cell.Number units) is admitted less = is
      least (cell.Moment at) is admitted less = is
  cells_answer mark false old new (stays, nothing) = (stays, none)
    where
      none : (other : Cell) → IsWordCell words other → ¬ (IsAdmitted mark other)
      none (cell.Text word) is admitted = nothing word is admitted
      none cell.Null is admitted = is
      none (cell.Bool truth) is admitted = is
      none (cell.Number units) is admitted = is
      none (cell.Moment at) is admitted = is
