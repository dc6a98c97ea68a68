-- The tree of a constraint by its form, as code sees it.
use Rattle.std.proofs.Common.{◌≡◌, Bool, true, false, not, Option, None, Some, Result, Ok, Err, IfOk, List, [], ◌∷◌, refl, sym, ap, ◌∙◌}
use Rattle.helix_profile.specs.declared.constraint.Constraint.{Constraint, AllOf', AnyOf'}
use Rattle.helix_profile.specs.declared.constraint.Constraint.TheViews.{Not, AllOf, AnyOf, If}
use Rattle.helix_base.specs.declared.memory.Memory.{Memory}
use Rattle.helix_tree.specs.TreeOf.{signed_tree, signed_trees, trees_of_all}
use Rattle.helix_tree.specs.declared.tree.Tree.{Tree}
use Rattle.helix_tree.specs.declared.tree.Tree.TheViews.{All, Any}

signed-Not : (part : Constraint) (sign : Bool) → signed_tree part (not sign) ≡ signed_tree (Not part) sign
unfolding Rattle.helix_profile.specs.declared.constraint.Constraint.TheBlock.hidden-the_row-Constraint-0
    denote.Hole.Carrier.hidden
signed-Not part sign = refl

-- the trees of the parts of a list
listed : Constraint → Bool → List Tree
listed (AllOf' shape parts) sign = signed_trees parts sign
listed (AnyOf' shape parts) sign = signed_trees parts sign
listed other sign = []

listed-AllOf : (parts : List Constraint) (sign : Bool) → trees_of_all parts sign ≡ listed (AllOf parts) sign
unfolding listed Rattle.helix_profile.specs.declared.constraint.Constraint.TheBlock.hidden-the_row-Constraint-1
    denote.Hole.Carrier.hidden
listed-AllOf [] sign = refl
listed-AllOf (part ∷ parts) sign = ap (λ trees. signed_tree part sign ∷ trees) (listed-AllOf parts sign)

listed-AnyOf : (parts : List Constraint) (sign : Bool) → trees_of_all parts sign ≡ listed (AnyOf parts) sign
unfolding listed Rattle.helix_profile.specs.declared.constraint.Constraint.TheBlock.hidden-the_row-Constraint-1
    denote.Hole.Carrier.hidden
listed-AnyOf [] sign = refl
listed-AnyOf (part ∷ parts) sign = ap (λ trees. signed_tree part sign ∷ trees) (listed-AnyOf parts sign)

all_plus : (parts : List Constraint) → All (listed (AllOf parts) true) ≡ signed_tree (AllOf parts) true
unfolding listed Rattle.helix_profile.specs.declared.constraint.Constraint.TheBlock.hidden-the_row-Constraint-1
    denote.Hole.Carrier.hidden
all_plus parts = refl

all_minus : (parts : List Constraint) → Any (listed (AllOf parts) false) ≡ signed_tree (AllOf parts) false
unfolding listed Rattle.helix_profile.specs.declared.constraint.Constraint.TheBlock.hidden-the_row-Constraint-1
    denote.Hole.Carrier.hidden
all_minus parts = refl

any_plus : (parts : List Constraint) → Any (listed (AnyOf parts) true) ≡ signed_tree (AnyOf parts) true
unfolding listed Rattle.helix_profile.specs.declared.constraint.Constraint.TheBlock.hidden-the_row-Constraint-1
    denote.Hole.Carrier.hidden
any_plus parts = refl

any_minus : (parts : List Constraint) → All (listed (AnyOf parts) false) ≡ signed_tree (AnyOf parts) false
unfolding listed Rattle.helix_profile.specs.declared.constraint.Constraint.TheBlock.hidden-the_row-Constraint-1
    denote.Hole.Carrier.hidden
any_minus parts = refl

pub AllOf-plus : (parts : List Constraint) → All (trees_of_all parts true) ≡ signed_tree (AllOf parts) true
AllOf-plus parts = ap All (listed-AllOf parts true) ∙ all_plus parts

pub AllOf-minus : (parts : List Constraint) → Any (trees_of_all parts false) ≡ signed_tree (AllOf parts) false
AllOf-minus parts = ap Any (listed-AllOf parts false) ∙ all_minus parts

pub AnyOf-plus : (parts : List Constraint) → Any (trees_of_all parts true) ≡ signed_tree (AnyOf parts) true
AnyOf-plus parts = ap Any (listed-AnyOf parts true) ∙ any_plus parts

pub AnyOf-minus : (parts : List Constraint) → All (trees_of_all parts false) ≡ signed_tree (AnyOf parts) false
AnyOf-minus parts = ap All (listed-AnyOf parts false) ∙ any_minus parts

-- the tree of an `if`, by its `else`
abbrev if_tree : Constraint → Constraint → Option Constraint → Bool → Tree
if_tree condition consequent None true =
    Any (All (signed_tree condition true ∷ signed_tree consequent true ∷ []) ∷ signed_tree condition false ∷ [])
if_tree condition consequent None false = All (signed_tree condition true ∷ signed_tree consequent false ∷ [])
if_tree condition consequent (Some other) sign =
    Any (All (signed_tree condition true ∷ signed_tree consequent sign ∷ [])
    ∷ All (signed_tree condition false ∷ signed_tree other sign ∷ []) ∷ [])

pub signed-If : (condition consequent : Constraint) (otherwise : Option Constraint) (sign : Bool)
    → if_tree condition consequent otherwise sign ≡ signed_tree (If condition consequent otherwise) sign
unfolding Rattle.helix_profile.specs.declared.constraint.Constraint.TheBlock.hidden-the_row-Constraint-0
    denote.Hole.Carrier.hidden
signed-If condition consequent None true = refl
signed-If condition consequent None false = refl
signed-If condition consequent (Some other) sign = refl

-- The calls of the program, each with the tree that it answers.

pub not_tree : (tree : Tree) (c part got : Constraint) (sign : Bool) → c ≡ Not part → got ≡ part
    → tree ≡ signed_tree got (not sign) → tree ≡ signed_tree c sign
not_tree tree c part got sign is same answer =
    answer ∙ (ap (λ p. signed_tree p (not sign)) same ∙ (signed-Not part sign ∙ ap (λ d. signed_tree d sign) (sym is)))

-- a list of parts under one of the four signs
pub parts_tree : (Made : List Tree → Tree) (Form : List Constraint → Constraint) (known : Bool)
    → ((ps : List Constraint) → Made (trees_of_all ps known) ≡ signed_tree (Form ps) known)
    → (trees : List Tree) (c : Constraint) (parts slice : List Constraint) (sign : Bool) → c ≡ Form parts
    → slice ≡ parts → sign ≡ known → trees ≡ trees_of_all slice sign → Made trees ≡ signed_tree c sign
parts_tree Made Form known law trees c parts slice sign is same sign_is answer =
    ap Made (answer ∙ (ap (λ s. trees_of_all slice s) sign_is ∙ ap (λ ps. trees_of_all ps known) same))
    ∙ (law parts ∙ (ap (λ s. signed_tree (Form parts) s) (sym sign_is) ∙ ap (λ d. signed_tree d sign) (sym is)))

-- what holds where there is a tree
pub if_ok : (P Q : Tree → Type 0) (result : Result Tree Memory) → ((tree : Tree) → P tree → Q tree) → IfOk result P
    → IfOk result Q
if_ok P Q (Ok tree) implies holds = implies tree holds
if_ok P Q (Err fault) implies holds = tt

pub if_plus : (made both met consequent unmet : Tree) (c condition then first second third : Constraint)
    (otherwise : Option Constraint) (sign : Bool) → c ≡ If condition then otherwise → otherwise ≡ None → sign ≡ true
    → first ≡ condition → met ≡ signed_tree first true → second ≡ then → consequent ≡ signed_tree second sign
    → both ≡ All (met ∷ consequent ∷ []) → third ≡ condition → unmet ≡ signed_tree third false
    → made ≡ Any (both ∷ unmet ∷ []) → made ≡ signed_tree c sign
if_plus made both met consequent unmet c condition then first second third otherwise sign is none plus one met_is two
    consequent_is both_is three unmet_is made_is = let law = signed-If condition then None true in cc

pub if_minus : (both met consequent : Tree) (c condition then first second : Constraint) (otherwise : Option Constraint)
    (sign : Bool) → c ≡ If condition then otherwise → otherwise ≡ None → sign ≡ false → first ≡ condition
    → met ≡ signed_tree first true → second ≡ then → consequent ≡ signed_tree second sign
    → both ≡ All (met ∷ consequent ∷ []) → both ≡ signed_tree c sign
if_minus both met consequent c condition then first second otherwise sign is none minus one met_is two consequent_is
    both_is = let law = signed-If condition then None false in cc

pub if_other : (made both others met consequent unmet alternative : Tree)
    (c condition then other first second third fourth : Constraint) (otherwise : Option Constraint) (sign : Bool)
    → c ≡ If condition then otherwise → otherwise ≡ Some other → first ≡ condition → met ≡ signed_tree first true
    → second ≡ then → consequent ≡ signed_tree second sign → both ≡ All (met ∷ consequent ∷ []) → third ≡ condition
    → unmet ≡ signed_tree third false → fourth ≡ other → alternative ≡ signed_tree fourth sign
    → others ≡ All (unmet ∷ alternative ∷ []) → made ≡ Any (both ∷ others ∷ []) → made ≡ signed_tree c sign
if_other made both others met consequent unmet alternative c condition then other first second third fourth otherwise
    sign is some one met_is two consequent_is both_is three unmet_is four alternative_is others_is made_is =
    let law = signed-If condition then (Some other) sign in cc
