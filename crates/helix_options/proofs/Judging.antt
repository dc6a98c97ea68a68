-- What the literals of a branch say of one more, and the demands of constraints, as code finds them.
use Rattle.std.proofs.Common.{◌≡◌, ℕ, zero, suc, ◌+◌, ◌<◌, ◌||◌, ◌&&◌, Bool, true, false, Some, List, [], ◌∷◌, ◌++◌, length, take, get_or, slice_get, refl, sym, ap, ◌∙◌, arith}
use Rattle.std.proofs.lemmas.List.{take_more}
use Rattle.std.proofs.lemmas.List.Elements.{filter_map-append}
use Rattle.std.specs.List.{filter_map, cons_option, list_any, remove}
use Rattle.helix_profile.specs.declared.constraint.Constraint.{Constraint}
use Rattle.helix_profile.specs.declared.relation.Relation.{Relation}
use Rattle.helix_profile.specs.declared.test.Atom.{Atom as FieldTest}
use Rattle.helix_tree.specs.TreeOf.{signed_tree}
use Rattle.helix_tree.specs.declared.literal.Literal.{Literal}
use Rattle.helix_tree.specs.declared.literal.Literal.TheVariants.{Plain, Joined}
use Rattle.helix_tree.specs.declared.tree.Tree.{Tree}
use Rattle.helix_options.specs.Inner.Clashes.{both_or_none, clashes_with}
use Rattle.helix_options.specs.Inner.Literals.{signed, contradict, has_value, is_refuted}
use Rattle.helix_options.specs.Inner.Search.{first_demands}
use Rattle.helix_options.specs.declared.branch.Demand.{Demand}

module _ (nullable : List Bool) (literals : List Literal) (literal : Literal) (sign : Bool) where
  test_law : (atom : FieldTest) (own strict sign : Bool)
      → (contradict nullable atom.field (signed (Plain atom own strict) sign ∷ literals)
      || (has_value nullable atom.field (signed (Plain atom own strict) sign ∷ literals)
      && list_any (clashes_with atom (both_or_none own sign)) literals))
      ≡ is_refuted nullable (signed (Plain atom own strict) sign) literals
  test_law atom true strict true = refl
  test_law atom false strict true = refl
  test_law atom true strict false = refl
  test_law atom false strict false = refl

  relation_law : (relation : Relation) (own strict sign : Bool)
      → (contradict nullable relation.left (signed (Joined relation own strict) sign ∷ literals)
      || contradict nullable relation.right (signed (Joined relation own strict) sign ∷ literals))
      ≡ is_refuted nullable (signed (Joined relation own strict) sign) literals
  relation_law relation own strict true = refl
  relation_law relation own strict false = refl

  pub test_refuted : (atom : FieldTest) (own strict test_sign result : Bool) → literal ≡ Plain atom own strict
      → test_sign ≡ both_or_none own sign
      → result ≡ (contradict nullable atom.field (signed literal sign ∷ literals)
      || (has_value nullable atom.field (signed literal sign ∷ literals)
      && list_any (clashes_with atom test_sign) literals))
      → result ≡ is_refuted nullable (signed literal sign) literals
  test_refuted atom own strict test_sign result is sign_is answer = answer
      ∙ ((λ i. contradict nullable atom.field (signed (is i) sign ∷ literals)
      || (has_value nullable atom.field (signed (is i) sign ∷ literals)
      && list_any (clashes_with atom (sign_is i)) literals))
      ∙ (test_law atom own strict sign ∙ ap (λ l. is_refuted nullable (signed l sign) literals) (sym is)))

  pub left_refuted : (relation : Relation) (own strict left result : Bool) → literal ≡ Joined relation own strict
      → left ≡ contradict nullable relation.left (signed literal sign ∷ literals) → left ≡ true → result ≡ true
      → result ≡ is_refuted nullable (signed literal sign) literals
  left_refuted relation own strict left result is answer holds result_is = result_is
      ∙ (ap (λ b. b || contradict nullable relation.right (signed literal sign ∷ literals)) (sym holds ∙ answer)
      ∙ (ap (λ l. contradict nullable relation.left (signed l sign ∷ literals)
      || contradict nullable relation.right (signed l sign ∷ literals)) is
      ∙ (relation_law relation own strict sign ∙ ap (λ l. is_refuted nullable (signed l sign) literals) (sym is))))

  pub right_refuted : (relation : Relation) (own strict left result : Bool) → literal ≡ Joined relation own strict
      → left ≡ contradict nullable relation.left (signed literal sign ∷ literals) → left ≡ false
      → result ≡ contradict nullable relation.right (signed literal sign ∷ literals)
      → result ≡ is_refuted nullable (signed literal sign) literals
  right_refuted relation own strict left result is answer fails result_is = result_is
      ∙ (ap (λ b. b || contradict nullable relation.right (signed literal sign ∷ literals)) (sym fails ∙ answer)
      ∙ (ap (λ l. contradict nullable relation.left (signed l sign ∷ literals)
      || contradict nullable relation.right (signed l sign ∷ literals)) is
      ∙ (relation_law relation own strict sign ∙ ap (λ l. is_refuted nullable (signed l sign) literals) (sym is))))

-- the first item and the others
pub head_apart : (all : List Tree) (first : Tree) (others : List Tree) → slice_get all 0 ≡ Some first
    → others ≡ remove all 0 → all ≡ first ∷ others
head_apart [] first others is rest = cc is
head_apart (one ∷ all) first others is rest = λ i. head one first is i ∷ sym rest i
  where
    head : (one first : Tree) → Some one ≡ Some first → one ≡ first
    head one first e = cc e

-- one more constraint

at_get : (xs : List Constraint) (n : ℕ) (x : Constraint) → n < length xs → x ≡ get_or xs n x
    → slice_get xs n ≡ Some x
at_get [] n x below is = absurd (omega (arith, below))
at_get (first ∷ xs) zero x below is = ap (λ c. Some c) (sym is)
at_get (first ∷ xs) (suc n) x below is = at_get xs n x (omega (arith, below)) is

first_demands-append : (cs more : List Constraint) → first_demands (cs ++ more) ≡ first_demands cs ++ first_demands more
first_demands-append [] more = refl
first_demands-append (c ∷ cs) more = ap (λ demands. record { tree = signed_tree c true; sign = true } ∷ demands)
    (first_demands-append cs more)

pub one_more_demand : (constraints : List Constraint) (numbers : List ℕ) (i : ℕ) (demands new : List Demand)
    (c : Constraint) (tree : Tree) → i < length numbers
    → demands ≡ first_demands (filter_map (slice_get constraints) (take i numbers))
    → c ≡ get_or constraints (get_or numbers i 0) c → get_or numbers i 0 < length constraints
    → tree ≡ signed_tree c true → new ≡ demands ++ record { tree = tree; sign = true } ∷ []
    → new ≡ first_demands (filter_map (slice_get constraints) (take (i + 1) numbers))
one_more_demand constraints numbers i demands new c tree below so_far is there tree_is pushed = pushed
    ∙ ((λ j. so_far j ++ record { tree = tree_is j; sign = true } ∷ [])
    ∙ (sym (first_demands-append (filter_map (slice_get constraints) (take i numbers)) (c ∷ []))
    ∙ (ap (λ found. first_demands (filter_map (slice_get constraints) (take i numbers) ++ cons_option found []))
    (sym (at_get constraints (get_or numbers i 0) c there is))
    ∙ (ap first_demands (sym (filter_map-append (slice_get constraints) (take i numbers) (get_or numbers i 0 ∷ [])))
    ∙ ap (λ ns. first_demands (filter_map (slice_get constraints) ns)) (sym (take_more numbers i 0 below))))))
