-- The lines of the text, by the members of an object, and what lists of relations join.
use Rattle.std.proofs.Common.{◌≡◌, ◌⊎◌, inl, inr, ℕ, List, [], ◌∷◌, ◌++◌, Option, Some, None, sym, ◌∙◌, ap, subst, ⊎_elim}
use Rattle.std.specs.Str.{bytes_eq}
use Rattle.helix_constraints.specs.Rules.{form_in}
use Rattle.helix_json.specs.declared.value.Json.{Json, Row_of-Json, Row_of-Member}
use Rattle.helix_json.specs.declared.value.Json as json
use Rattle.helix_keywords.specs.declared.form.Form.{Form}
use Rattle.helix_places.specs.Members.{listed_members, members_of, value_of}
use Rattle.helix_profile.specs.Forest.{AreJoined}
use Rattle.helix_profile.specs.declared.field.Field.{Field}
use Rattle.helix_profile.specs.declared.relation.Relation.{Relation}
use Rattle.helix_rules.specs.Lines.{branch_lines, chosen_lines, inside_of, lines_in, list_lines, operand_lines, own_lines, related_of}
use Rattle.helix_validity.proofs.Gives.{no_form}
use Rattle.helix_validity.proofs.Parts.{by_key}

-- what two lists join
joined_left : (a b : List Relation) (f g : ℕ) → AreJoined a f g → AreJoined (a ++ b) f g
joined_left [] b f g joined = absurd joined
joined_left (r ∷ a) b f g (inl here) = inl here
joined_left (r ∷ a) b f g (inr (inl here)) = inr (inl here)
joined_left (r ∷ a) b f g (inr (inr later)) = inr (inr (joined_left a b f g later))

joined_right : (a b : List Relation) (f g : ℕ) → AreJoined b f g → AreJoined (a ++ b) f g
joined_right [] b f g joined = joined
joined_right (r ∷ a) b f g joined = inr (inr (joined_right a b f g joined))

joined_either : (a b : List Relation) (f g : ℕ) → AreJoined (a ++ b) f g → AreJoined a f g ⊎ AreJoined b f g
joined_either [] b f g joined = inr joined
joined_either (r ∷ a) b f g (inl here) = inl (inl here)
joined_either (r ∷ a) b f g (inr (inl here)) = inl (inr (inl here))
joined_either (r ∷ a) b f g (inr (inr later)) =
    ⊎_elim (λ left. inl (inr (inr left))) (λ right. inr right) (joined_either a b f g later)

-- one list joins no fields but those that the other joins
abbrev pub JoinNoMore : List Relation → List Relation → Type 0
JoinNoMore a b = (f g : ℕ) → AreJoined a f g → AreJoined b f g

pub both_join : (a b c : List Relation) → JoinNoMore a c → JoinNoMore b c → JoinNoMore (a ++ b) c
both_join a b c first second f g joined = ⊎_elim (first f g) (second f g) (joined_either a b f g joined)

pub each_joins : (a b c d : List Relation) → JoinNoMore a c → JoinNoMore b d → JoinNoMore (a ++ b) (c ++ d)
each_joins a b c d first second f g joined =
    ⊎_elim (λ left. joined_left c d f g (first f g left)) (λ right. joined_right c d f g (second f g right))
    (joined_either a b f g joined)

module _ (fields : List Field) where
  -- the lines of the values of an object's members
  abbrev pub operands_of : Json → List Relation
  operands_of (json.Object' shape row) = operand_lines fields row
  operands_of other = []

  abbrev pub branches_of : Json → List Relation
  branches_of (json.Object' shape row) = branch_lines fields row
  branches_of other = []

  abbrev pub lines_with : Json → Option Form → List Relation
  lines_with v f =
      chosen_lines (inside_of f) (own_lines fields (related_of f) (members_of v)) (operands_of v) (branches_of v)

  abbrev lines_without : Option Form → List Relation
  lines_without f = chosen_lines (inside_of f) (own_lines fields (related_of f) []) [] []

  no_lines : (f : Option Form) → form_in json.Null ≡ f → [] ≡ lines_without f
  no_lines f is = sym (ap lines_without (sym is ∙ no_form))

  pub lines_by : (v : Json) (f : Option Form) → form_in v ≡ f → lines_in fields v ≡ lines_with v f
  lines_by json.Null f is = no_lines f is
  lines_by (json.Bool b) f is = no_lines f is
  lines_by (json.Number text) f is = no_lines f is
  lines_by (json.Str text) f is = no_lines f is
  lines_by (json.List' shape row) f is = no_lines f is
  lines_by (json.Object' shape row) f is = ap (lines_with (json.Object' shape row)) is

  in_operands : {n : _} (row : Row_of-Member n) (key : List ℕ) (w : Json)
      → value_of key (listed_members row) ≡ Some w → JoinNoMore (lines_in fields w) (operand_lines fields row)
  in_operands json.end_of-Member key w is f g joined = absurd (let none : None ≡ Some w = is in cc)
  in_operands (json.more_of-Member other v row) key w is f g joined =
      by_key (bytes_eq other key) v (value_of key (listed_members row)) w
      (AreJoined (lines_in fields v ++ operand_lines fields row) f g)
      (λ same. joined_left (lines_in fields v) (operand_lines fields row) f g
      (subst (λ u. AreJoined (lines_in fields u) f g) (sym same) joined))
      (λ later. joined_right (lines_in fields v) (operand_lines fields row) f g
      (in_operands row key w later f g joined)) is

  in_branches : {n : _} (row : Row_of-Member n) (key : List ℕ) (w : Json)
      → value_of key (listed_members row) ≡ Some w → JoinNoMore (list_lines fields w) (branch_lines fields row)
  in_branches json.end_of-Member key w is f g joined = absurd (let none : None ≡ Some w = is in cc)
  in_branches (json.more_of-Member other v row) key w is f g joined =
      by_key (bytes_eq other key) v (value_of key (listed_members row)) w
      (AreJoined (list_lines fields v ++ branch_lines fields row) f g)
      (λ same. joined_left (list_lines fields v) (branch_lines fields row) f g
      (subst (λ u. AreJoined (list_lines fields u) f g) (sym same) joined))
      (λ later. joined_right (list_lines fields v) (branch_lines fields row) f g
      (in_branches row key w later f g joined)) is

  none_under : (A : Type 0) (w : Json) → None ≡ Some w → A
  none_under A w is = absurd (cc)

  pub of_operand : (v : Json) (key : List ℕ) (w : Json) → value_of key (members_of v) ≡ Some w
      → JoinNoMore (lines_in fields w) (operands_of v)
  of_operand json.Null key w is = none_under _ w is
  of_operand (json.Bool b) key w is = none_under _ w is
  of_operand (json.Number text) key w is = none_under _ w is
  of_operand (json.Str text) key w is = none_under _ w is
  of_operand (json.List' shape row) key w is = none_under _ w is
  of_operand (json.Object' shape row) key w is = in_operands row key w is

  pub of_branch : (v : Json) (key : List ℕ) (w : Json) → value_of key (members_of v) ≡ Some w
      → JoinNoMore (list_lines fields w) (branches_of v)
  of_branch json.Null key w is = none_under _ w is
  of_branch (json.Bool b) key w is = none_under _ w is
  of_branch (json.Number text) key w is = none_under _ w is
  of_branch (json.Str text) key w is = none_under _ w is
  of_branch (json.List' shape row) key w is = none_under _ w is
  of_branch (json.Object' shape row) key w is = in_branches row key w is
