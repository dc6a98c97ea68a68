-- Literals that can't all hold in a row of cells: by what they ask of a field, or because two tests of a value clash.
use Rattle.std.proofs.Common.{◌≡◌, ℕ, Bool, true, false, not, ◌&&◌, ◌==◌, List, [], ◌∷◌, ⊎_elim, MatchBool, if◌then◌else◌, refl, sym, ap, subst, ◌∙◌}
use Rattle.std.proofs.lemmas.Bool.{false≢true, eqb-true}
use Rattle.std.specs.List.{list_any}
use Rattle.helix_profile.specs.Holds.{Holds}
use Rattle.helix_profile.specs.Satisfaction.{cell_at, is_null, Signed}
use Rattle.helix_profile.specs.declared.test.Atom.{Atom as FieldTest}
use Rattle.helix_tree.specs.Tree.{AtNull, HoldsAt, LiteralHolds}
use Rattle.helix_tree.specs.TreeLaws.{dec_literal}
use Rattle.helix_tree.specs.declared.literal.Literal.{Literal}
use Rattle.helix_tree.specs.declared.literal.Literal.TheVariants.{Null, NotNull, Plain, Joined}
use Rattle.helix_tree.specs.declared.tree.Tree.{Lit}
use Rattle.helix_values.specs.declared.cell.Cell.{Cell}
use Rattle.helix_options.proofs.Truth.{literal_true, path_true, tree_true, decided-true, signed-true, negation-true, and-left, and-right, either-true, not-not}
use Rattle.helix_options.proofs.Clashing.{not_both}
use Rattle.helix_options.specs.Inner.Clashes.{clash as clash_of, clashes_with}
use Rattle.helix_options.specs.Inner.Literals.{signed, asks_value, asks_null, may_be_null, has_value, has_none, contradict, is_refuted, standing_of}
use Rattle.helix_options.specs.declared.standing.Standing.{Standing}
use Rattle.helix_options.specs.declared.standing.Standing.TheVariants.{Implied, Refuted, Open}

-- a field that can't be null has a value in the row
abbrev pub Fits : List Bool → List Cell → Type 0
Fits nullable row = (field : ℕ) → may_be_null nullable field ≡ false → is_null (cell_at row field) ≡ false

outer : (b : Bool) (Fact : Type 0) → MatchBool b ⊥ Fact → b ≡ false
outer true Fact h = absurd h
outer false Fact h = refl

inner : (b : Bool) (Fact : Type 0) → MatchBool b ⊥ Fact → Fact
inner true Fact h = absurd h
inner false Fact h = h

module _ (row : List Cell) (field : ℕ) where
  at : (other : ℕ) (b : Bool) → (other == field) ≡ true → is_null (cell_at row other) ≡ b
      → is_null (cell_at row field) ≡ b
  at other b same known = subst (λ f. is_null (cell_at row f) ≡ b) (eqb-true other field same) known

  pub value_asked : (l : Literal) → asks_value field l ≡ true → LiteralHolds l row
      → is_null (cell_at row field) ≡ false
  value_asked (Null other) asked holds = absurd (false≢true asked)
  value_asked (NotNull other) asked holds = at other false asked holds
  value_asked (Plain atom sign true) asked holds = at atom.field false asked (outer _ _ holds)
  value_asked (Plain atom sign false) asked holds = absurd (false≢true asked)
  value_asked (Joined relation sign true) asked holds = ⊎_elim
      (λ same. at relation.left false same (outer _ _ holds))
      (λ same. at relation.right false same (outer _ _ (inner _ _ holds)))
      (either-true (relation.left == field) (relation.right == field) asked)
  value_asked (Joined relation sign false) asked holds = absurd (false≢true asked)

  pub null_asked : (l : Literal) → asks_null field l ≡ true → LiteralHolds l row → is_null (cell_at row field) ≡ true
  null_asked (Null other) asked holds = at other true asked holds
  null_asked other asked holds = absurd (false≢true asked)

  some_asks : (asks : Literal → Bool) (b : Bool)
      → ((l : Literal) → asks l ≡ true → LiteralHolds l row → is_null (cell_at row field) ≡ b)
      → (literals : List Literal) → list_any asks literals ≡ true → path_true row literals ≡ true
      → is_null (cell_at row field) ≡ b
  some_asks asks b each [] asked holds = absurd (false≢true asked)
  some_asks asks b each (l ∷ literals) asked holds = ⊎_elim
      (λ first. each l first (decided-true (dec_literal l row)
      (and-left (literal_true row l) (path_true row literals) holds)))
      (λ others. some_asks asks b each literals others
      (and-right (literal_true row l) (path_true row literals) holds))
      (either-true (asks l) (list_any asks literals) asked)

-- what a literal says of a value
of_value : (c : Cell) (strict : Bool) (Fact : Type 0) → is_null c ≡ false → HoldsAt strict c Fact → Fact
of_value c strict Fact valued h = subst (λ b. MatchBool b (AtNull strict) Fact) valued h

module _ (row : List Cell) (atom : FieldTest) (sign : Bool) where
  one_clashes : (l : Literal) → is_null (cell_at row atom.field) ≡ false
      → Signed sign (Holds atom.test (cell_at row atom.field)) → clashes_with atom sign l ≡ true
      → LiteralHolds l row → ⊥
  one_clashes (Plain other own strict) valued is clash holds =
      let same : other.field ≡ atom.field = eqb-true other.field atom.field
      (and-left (other.field == atom.field) _ clash) in
      not_both (cell_at row atom.field) atom.test sign other.test own
      (and-right (other.field == atom.field) (clash_of atom.test sign other.test own) clash) is
      (of_value (cell_at row atom.field) strict _ valued
      (subst (λ f. HoldsAt strict (cell_at row f) (Signed own (Holds other.test (cell_at row f)))) same holds))
  one_clashes (Null other) valued is clash holds = absurd (false≢true clash)
  one_clashes (NotNull other) valued is clash holds = absurd (false≢true clash)
  one_clashes (Joined relation own strict) valued is clash holds = absurd (false≢true clash)

  some_clashes : (literals : List Literal) → is_null (cell_at row atom.field) ≡ false
      → Signed sign (Holds atom.test (cell_at row atom.field)) → list_any (clashes_with atom sign) literals ≡ true
      → path_true row literals ≡ true → ⊥
  some_clashes [] valued is clash holds = absurd (false≢true clash)
  some_clashes (l ∷ literals) valued is clash holds = ⊎_elim
      (λ first. one_clashes l valued is first (decided-true (dec_literal l row)
      (and-left (literal_true row l) (path_true row literals) holds)))
      (λ others. some_clashes literals valued is others
      (and-right (literal_true row l) (path_true row literals) holds))
      (either-true (clashes_with atom sign l) (list_any (clashes_with atom sign) literals) clash)

module _ (nullable : List Bool) (row : List Cell) (fits : Fits nullable row) where
  has_a_value : (field : ℕ) (literals : List Literal) → has_value nullable field literals ≡ true
      → path_true row literals ≡ true → is_null (cell_at row field) ≡ false
  has_a_value field literals valued holds = ⊎_elim
      (λ never. fits field (sym (not-not (may_be_null nullable field)) ∙ ap not never))
      (λ asked. some_asks row field (asks_value field) false (value_asked row field) literals asked holds)
      (either-true (not (may_be_null nullable field)) (list_any (asks_value field) literals) valued)

  cannot_hold : (field : ℕ) (literals : List Literal) → contradict nullable field literals ≡ true
      → path_true row literals ≡ true → ⊥
  cannot_hold field literals against holds =
      false≢true (sym (has_a_value field literals
      (and-left (has_value nullable field literals) (has_none field literals) against) holds)
      ∙ some_asks row field (asks_null field) true (null_asked row field) literals
      (and-right (has_value nullable field literals) (has_none field literals) against) holds)

  -- a test of a value, which another one of the same value clashes with
  test_clashes : (atom : FieldTest) (sign strict : Bool) (literals : List Literal)
      → is_null (cell_at row atom.field) ≡ false → list_any (clashes_with atom sign) literals ≡ true
      → path_true row (Plain atom sign strict ∷ literals) ≡ true → ⊥
  test_clashes atom sign strict literals valued clash holds = some_clashes row atom sign literals valued
      (of_value (cell_at row atom.field) strict _ valued (decided-true (dec_literal (Plain atom sign strict) row)
      (and-left (literal_true row (Plain atom sign strict)) (path_true row literals) holds)))
      clash (and-right (literal_true row (Plain atom sign strict)) (path_true row literals) holds)

  refuted_fails : (l : Literal) (literals : List Literal) → is_refuted nullable l literals ≡ true
      → path_true row (l ∷ literals) ≡ true → ⊥
  refuted_fails (Null field) literals refuted holds = cannot_hold field (Null field ∷ literals) refuted holds
  refuted_fails (NotNull field) literals refuted holds = cannot_hold field (NotNull field ∷ literals) refuted holds
  refuted_fails (Plain atom sign strict) literals refuted holds = ⊎_elim
      (λ against. cannot_hold atom.field (Plain atom sign strict ∷ literals) against holds)
      (λ clash. test_clashes atom sign strict literals
      (has_a_value atom.field (Plain atom sign strict ∷ literals)
      (and-left (has_value nullable atom.field (Plain atom sign strict ∷ literals))
      (list_any (clashes_with atom sign) literals) clash) holds)
      (and-right (has_value nullable atom.field (Plain atom sign strict ∷ literals))
      (list_any (clashes_with atom sign) literals) clash) holds)
      (either-true (contradict nullable atom.field (Plain atom sign strict ∷ literals)) _ refuted)
  refuted_fails (Joined relation sign strict) literals refuted holds = ⊎_elim
      (λ left. cannot_hold relation.left (Joined relation sign strict ∷ literals) left holds)
      (λ right. cannot_hold relation.right (Joined relation sign strict ∷ literals) right holds)
      (either-true (contradict nullable relation.left (Joined relation sign strict ∷ literals))
      (contradict nullable relation.right (Joined relation sign strict ∷ literals)) refuted)

  pub refuted-false : (l : Literal) (literals : List Literal) → is_refuted nullable l literals ≡ true
      → path_true row literals ≡ true → literal_true row l ≡ false
  refuted-false l literals refuted holds = by_case (literal_true row l) refl
    where
      by_case : (b : Bool) → literal_true row l ≡ b → literal_true row l ≡ false
      by_case true e = absurd (refuted_fails l literals refuted (ap (λ b. b && path_true row literals) e ∙ holds))
      by_case false e = e

-- what a standing says of a literal, where the literals so far hold
abbrev pub Says : Standing → Bool → Bool → Type 0
Says Implied so_far one = so_far ≡ true → one ≡ true
Says Refuted so_far one = so_far ≡ true → one ≡ false
Says Open so_far one = Unit {0}

says_of : (other own so_far one : Bool) → (other ≡ true → so_far ≡ true → one ≡ true)
    → (own ≡ true → so_far ≡ true → one ≡ false)
    → Says (if other then Implied else if own then Refuted else Open) so_far one
says_of true own so_far one implied refuted = implied refl
says_of false true so_far one implied refuted = refuted refl
says_of false false so_far one implied refuted = tt

pub standing_says : (nullable : List Bool) (row : List Cell) → Fits nullable row
    → (literal : Literal) (sign : Bool) (literals : List Literal)
    → Says (standing_of nullable literal sign literals) (path_true row literals) (tree_true row (Lit literal) sign)
standing_says nullable row fits literal sign literals = says_of
    (is_refuted nullable (signed literal (not sign)) literals) (is_refuted nullable (signed literal sign) literals)
    (path_true row literals) (tree_true row (Lit literal) sign)
    (λ other holds. sym (not-not (tree_true row (Lit literal) sign))
    ∙ ap not (sym (negation-true row (Lit literal) sign) ∙ (sym (signed-true row literal (not sign))
    ∙ refuted-false nullable row fits (signed literal (not sign)) literals other holds)))
    (λ own holds. sym (signed-true row literal sign)
    ∙ refuted-false nullable row fits (signed literal sign) literals own holds)
