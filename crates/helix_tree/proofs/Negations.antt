-- The strict negation of a tree by its form, as code sees it.
use Rattle.std.proofs.Common.{◌≡◌, List, [], ◌∷◌, refl, sym, ap, ◌∙◌}
use Rattle.helix_tree.specs.TreeOf.{strict_negation, strict_negations, negations_of_all}
use Rattle.helix_tree.specs.declared.tree.Tree.{Tree, All', Any'}
use Rattle.helix_tree.specs.declared.tree.Tree.TheViews.{All, Any}

listed : Tree → List Tree
listed (All' shape parts) = strict_negations parts
listed (Any' shape parts) = strict_negations parts
listed other = []

listed-All : (parts : List Tree) → negations_of_all parts ≡ listed (All parts)
unfolding listed Rattle.helix_tree.specs.declared.tree.Tree.TheBlock.hidden-the_row-Tree-0 denote.Hole.Carrier.hidden
listed-All [] = refl
listed-All (part ∷ parts) = ap (λ trees. strict_negation part ∷ trees) (listed-All parts)

listed-Any : (parts : List Tree) → negations_of_all parts ≡ listed (Any parts)
unfolding listed Rattle.helix_tree.specs.declared.tree.Tree.TheBlock.hidden-the_row-Tree-0 denote.Hole.Carrier.hidden
listed-Any [] = refl
listed-Any (part ∷ parts) = ap (λ trees. strict_negation part ∷ trees) (listed-Any parts)

all_negated : (parts : List Tree) → Any (listed (All parts)) ≡ strict_negation (All parts)
unfolding listed Rattle.helix_tree.specs.declared.tree.Tree.TheBlock.hidden-the_row-Tree-0 denote.Hole.Carrier.hidden
all_negated parts = refl

any_negated : (parts : List Tree) → All (listed (Any parts)) ≡ strict_negation (Any parts)
unfolding listed Rattle.helix_tree.specs.declared.tree.Tree.TheBlock.hidden-the_row-Tree-0 denote.Hole.Carrier.hidden
any_negated parts = refl

pub All-negated : (parts : List Tree) → Any (negations_of_all parts) ≡ strict_negation (All parts)
All-negated parts = ap Any (listed-All parts) ∙ all_negated parts

pub Any-negated : (parts : List Tree) → All (negations_of_all parts) ≡ strict_negation (Any parts)
Any-negated parts = ap All (listed-Any parts) ∙ any_negated parts

-- the negation that the program answers of a list of parts
pub parts_negated : (Made Form : List Tree → Tree)
    → ((ps : List Tree) → Made (negations_of_all ps) ≡ strict_negation (Form ps))
    → (trees : List Tree) (tree : Tree) (parts slice : List Tree) → tree ≡ Form parts → slice ≡ parts
    → trees ≡ negations_of_all slice → Made trees ≡ strict_negation tree
parts_negated Made Form law trees tree parts slice is same answer =
    ap Made (answer ∙ ap negations_of_all same) ∙ (law parts ∙ ap strict_negation (sym is))
