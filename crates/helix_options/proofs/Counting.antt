-- How many of the paths that a search finds hold, where a standing chooses or a weak relation splits them.
use Rattle.std.proofs.Common.{◌≡◌, ◌↔◌, ℕ, ◌+◌, Bool, true, false, not, ◌&&◌, ◌||◌, MatchBool, List, [], ◌∷◌, ◌++◌, refl, sym, ap, ◌∙◌, zero-add, add_assoc}
use Rattle.std.proofs.lemmas.Bool.{false≢true}
use Rattle.helix_tree.specs.declared.literal.Literal.{Literal}
use Rattle.helix_values.specs.declared.cell.Cell.{Cell}
use Rattle.helix_options.proofs.Refuting.{Says}
use Rattle.helix_options.proofs.Truth.{path_true}
use Rattle.helix_options.specs.Inner.Clashes.{decided}
use Rattle.helix_options.specs.Inner.Search.{Found, by_standing}
use Rattle.helix_options.specs.declared.standing.Standing.{Standing}
use Rattle.helix_options.specs.declared.standing.Standing.TheVariants.{Implied, Refuted, Open}

abbrev pub bit : Bool → ℕ
bit true = 1
bit false = 0

-- how many paths of a list hold
abbrev pub holding : List Cell → List (List Literal) → ℕ
holding row [] = 0
holding row (path ∷ paths) = bit (path_true row path) + holding row paths

pub holding-append : (row : List Cell) (paths more : List (List Literal))
    → holding row (paths ++ more) ≡ holding row paths + holding row more
holding-append row [] more = sym (zero-add (holding row more))
holding-append row (path ∷ paths) more = ap (λ n. bit (path_true row path) + n) (holding-append row paths more)
    ∙ sym (add_assoc (bit (path_true row path)) (holding row paths) (holding row more))

-- what comes after some literals holds once where they hold and a fact does
abbrev pub Counts : List Cell → Bool → (List Literal → Found) → Type 0
Counts row fact rest = (literals : List Literal) → holding row (rest literals).paths
    ≡ bit (path_true row literals && fact)

-- a standing chooses right
pub chosen : (standing : Standing) (so_far one after : Bool) → Says standing so_far one → (a b c : ℕ)
    → a ≡ bit (so_far && after) → b ≡ 0 → c ≡ bit (so_far && (one && after))
    → (implied refuted open_case : Found) (row : List Cell) → holding row implied.paths ≡ a
    → holding row refuted.paths ≡ b → holding row open_case.paths ≡ c
    → holding row (by_standing standing implied refuted open_case).paths ≡ bit (so_far && (one && after))
chosen Implied true one after says a b c a_is b_is c_is implied refuted open_case row i r o =
    i ∙ (a_is ∙ ap (λ v. bit (v && after)) (sym (says refl)))
chosen Implied false one after says a b c a_is b_is c_is implied refuted open_case row i r o = i ∙ a_is
chosen Refuted true one after says a b c a_is b_is c_is implied refuted open_case row i r o =
    r ∙ (b_is ∙ ap (λ v. bit (v && after)) (sym (says refl)))
chosen Refuted false one after says a b c a_is b_is c_is implied refuted open_case row i r o = r ∙ b_is
chosen Open so_far one after says a b c a_is b_is c_is implied refuted open_case row i r o = o ∙ c_is

-- a weak relation holds where an end is null, or else where the strict one does

pub ways : (left right related fact : Bool)
    → bit (left && fact) + (bit (right && (not left && fact)) + bit ((not left && (not right && related)) && fact))
    ≡ bit ((left || (right || related)) && fact)
ways true true related true = refl
ways true true related false = refl
ways true false related true = refl
ways true false related false = refl
ways false true related true = refl
ways false true related false = refl
ways false false true true = refl
ways false false true false = refl
ways false false false true = refl
ways false false false false = refl

pub untrue : (b : Bool) → (b ≡ true → ⊥) → b ≡ false
untrue true none = absurd (none refl)
untrue false none = refl

pub alike : (a b : Bool) (Fact : Type 0) → ((a ≡ true) ↔ Fact) → ((b ≡ true) ↔ Fact) → a ≡ b
alike true b Fact one two = sym (two.1 (one.0 refl))
alike false b Fact one two = sym (untrue b (λ e. false≢true (one.1 (two.0 e))))

pub weakly_is : (left right : Bool) (Fact : Type 0) (weak : Bool)
    → ((weak ≡ true) ↔ MatchBool left (Unit {0}) (MatchBool right (Unit {0}) Fact)) → weak ≡ (left || (right || weak))
weakly_is true right Fact weak weakly = weakly.1 tt
weakly_is false true Fact weak weakly = weakly.1 tt
weakly_is false false Fact weak weakly = refl

pub strictly_is : (left right : Bool) (Fact : Type 0) (weak strict : Bool)
    → ((weak ≡ true) ↔ MatchBool left (Unit {0}) (MatchBool right (Unit {0}) Fact))
    → ((strict ≡ true) ↔ MatchBool left ⊥ (MatchBool right ⊥ Fact)) → strict ≡ (not left && (not right && weak))
strictly_is true right Fact weak strict weakly strictly = untrue strict (λ e. strictly.0 e)
strictly_is false true Fact weak strict weakly strictly = untrue strict (λ e. strictly.0 e)
strictly_is false false Fact weak strict weakly strictly = alike strict weak Fact strictly weakly

pub three_ways : (left right : Bool) (Fact : Type 0) (null_left value_left null_right weak strict so_far fact : Bool)
    → null_left ≡ left → value_left ≡ not left → null_right ≡ right
    → ((weak ≡ true) ↔ MatchBool left (Unit {0}) (MatchBool right (Unit {0}) Fact))
    → ((strict ≡ true) ↔ MatchBool left ⊥ (MatchBool right ⊥ Fact))
    → bit (so_far && (null_left && fact)) + (bit (so_far && (null_right && (value_left && fact)))
    + bit (so_far && (strict && fact))) ≡ bit (so_far && (weak && fact))
three_ways left right Fact null_left value_left null_right weak strict false fact one two three weakly strictly = refl
three_ways left right Fact null_left value_left null_right weak strict true fact one two three weakly strictly =
    (λ i. bit (one i && fact) + (bit (three i && (two i && fact))
    + bit (strictly_is left right Fact weak strict weakly strictly i && fact)))
    ∙ (ways left right weak fact ∙ ap (λ v. bit (v && fact)) (sym (weakly_is left right Fact weak weakly)))

pub true_is : (b : Bool) (d : Dec (b ≡ true)) → decided d ≡ b
true_is b (yes e) = sym e
true_is b (no none) = sym (untrue b none)

pub false_is : (b : Bool) (d : Dec (b ≡ false)) → decided d ≡ not b
false_is true (yes e) = absurd (false≢true (sym e))
false_is false (yes e) = refl
false_is true (no none) = refl
false_is false (no none) = absurd (none refl)

-- the same of one of several
pub some_chosen : (standing : Standing) (so_far one others after : Bool) → Says standing so_far one
    → (implied refuted open_case : Found) (row : List Cell)
    → holding row implied.paths ≡ bit (so_far && after)
    → holding row refuted.paths ≡ bit (so_far && (others && after))
    → holding row open_case.paths ≡ bit (so_far && (one && after)) + bit (so_far && (others && (not one && after)))
    → holding row (by_standing standing implied refuted open_case).paths ≡ bit (so_far && ((one || others) && after))
some_chosen Implied true one others after says implied refuted open_case row i r o =
    i ∙ ap (λ v. bit ((v || others) && after)) (sym (says refl))
some_chosen Implied false one others after says implied refuted open_case row i r o = i
some_chosen Refuted true one others after says implied refuted open_case row i r o =
    r ∙ ap (λ v. bit ((v || others) && after)) (sym (says refl))
some_chosen Refuted false one others after says implied refuted open_case row i r o = r
some_chosen Open so_far one others after says implied refuted open_case row i r o = o ∙ sum so_far one others after
  where
    sum : (p a b c : Bool) → bit (p && (a && c)) + bit (p && (b && (not a && c))) ≡ bit (p && ((a || b) && c))
    sum false a b c = refl
    sum true true true true = refl
    sum true true true false = refl
    sum true true false true = refl
    sum true true false false = refl
    sum true false true true = refl
    sum true false true false = refl
    sum true false false true = refl
    sum true false false false = refl
