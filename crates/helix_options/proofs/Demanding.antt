-- Demands for parts, and what a step of a branch leaves to find.
use Rattle.std.proofs.Common.{◌≡◌, ◌+◌, ◌<◌, Bool, true, List, [], ◌∷◌, ◌++◌, Result, Ok, Err, IfOk, refl, sym, ap, subst, ◌∙◌, arith, append_assoc}
use Rattle.std.proofs.Math.Path.{fun_ext}
use Rattle.helix_base.specs.declared.memory.Memory.{Memory}
use Rattle.helix_tree.specs.declared.literal.Literal.{Literal}
use Rattle.helix_tree.specs.declared.tree.Tree.{Tree}
use Rattle.helix_options.proofs.Searching.{search_all-append}
use Rattle.helix_options.specs.Inner.Search.{Found, nothing, one_path, both, one_step, tree_standing, search, each_of, search_all, found_by, found_by_all, GoesOn, with_branch, with_demand, demands_for}
use Rattle.helix_options.specs.declared.branch.Branch.{Branch}
use Rattle.helix_options.specs.declared.branch.Demand.{Demand}
use Rattle.helix_options.specs.declared.standing.Standing.{Standing}

-- demands for the parts of a list, in the order in which code makes them
pub demands_for-append : (parts : List Tree) (part : Tree) (sign : Bool)
    → demands_for (parts ++ part ∷ []) sign ≡ record { tree = part; sign = sign } ∷ demands_for parts sign
demands_for-append [] part sign = refl
demands_for-append (first ∷ parts) part sign =
    ap (λ demands. demands ++ record { tree = first; sign = sign } ∷ []) (demands_for-append parts part sign)

pub each_demand : (nullable : List Bool) (parts : List Tree) (sign : Bool) (rest : List Literal → Found)
    (literals : List Literal)
    → search_all nullable (demands_for parts sign) rest literals ≡ each_of nullable parts sign literals rest
each_demand nullable [] sign rest literals = refl
each_demand nullable (part ∷ parts) sign rest literals =
    search_all-append nullable (demands_for parts sign) (record { tree = part; sign = sign } ∷ []) rest literals
    ∙ ap (search nullable part sign literals) (fun_ext (λ more. each_demand nullable parts sign rest more))

-- a part that is taken from the end of a list
pub part_demanded : (demands new : List Demand) (parts rest : List Tree) (part : Tree) (sign : Bool)
    → parts ≡ rest ++ part ∷ [] → new ≡ demands ++ record { tree = part; sign = sign } ∷ []
    → new ++ demands_for rest sign ≡ demands ++ demands_for parts sign
part_demanded demands new parts rest part sign is pushed =
    ap (λ ds. ds ++ demands_for rest sign) pushed
    ∙ (append_assoc demands (record { tree = part; sign = sign } ∷ []) (demands_for rest sign)
    ∙ (ap (λ ds. demands ++ ds) (sym (demands_for-append rest part sign))
    ∙ ap (λ ps. demands ++ demands_for ps sign) (sym is)))

pub if_ok : {T : Type 0} (P Q : T → Type 0) (result : Result T Memory) → ((value : T) → P value → Q value)
    → IfOk result P → IfOk result Q
if_ok P Q (Ok value) implies holds = implies value holds
if_ok P Q (Err fault) implies holds = tt

-- what a callee answers by the same standing
pub stands_at : (nullable : List Bool) (part : Tree) (sign : Bool) (literals slice : List Literal) (standing : Standing)
    → slice ≡ literals → standing ≡ tree_standing nullable part sign slice
    → tree_standing nullable part sign literals ≡ standing
stands_at nullable part sign literals slice standing same answer =
    ap (tree_standing nullable part sign) (sym same) ∙ sym answer

-- one step less
pub stepped : (old new others : Found) → old ≡ one_step new → GoesOn (both old others) (both new others)
stepped old new others is = record {
  same = ap (λ found. found.paths ++ others.paths) (sym is);
  fewer = subst (λ steps. new.steps + others.steps < steps + others.steps) (ap (λ found. found.steps) (sym is))
      (omega arith);
}

-- the demand of a tree whose parts all have to hold
pub each_goes_on : (nullable : List Bool) (tree : Tree) (sign : Bool) (parts : List Tree) (part_sign : Bool)
    (old new : Branch) (others : List Branch)
    → ((literals : List Literal) (rest : List Literal → Found)
    → one_step (each_of nullable parts part_sign literals rest) ≡ search nullable tree sign literals rest)
    → new.literals ≡ old.literals → new.demands ≡ old.demands ++ demands_for parts part_sign
    → GoesOn (with_demand nullable (record { tree = tree; sign = sign }) old others)
    (with_branch nullable true new others)
each_goes_on nullable tree sign parts part_sign old new others law literals demands =
    stepped (search nullable tree sign old.literals (search_all nullable old.demands one_path)) (found_by nullable new)
    (found_by_all nullable others)
    (sym (law old.literals (search_all nullable old.demands one_path))
    ∙ ap one_step (sym ((λ i. search_all nullable (demands i) one_path (literals i))
    ∙ (search_all-append nullable old.demands (demands_for parts part_sign) one_path old.literals
    ∙ each_demand nullable parts part_sign (search_all nullable old.demands one_path) old.literals))))

-- a branch that has come to an end
pub ended : (old others : Found) → old ≡ one_step nothing → GoesOn (both old others) others
ended old others is = record {
  same = ap (λ found. found.paths ++ others.paths) (sym is);
  fewer = subst (λ steps. others.steps < steps + others.steps) (ap (λ found. found.steps) (sym is)) (omega arith);
}

-- the same of what is found, in another form
pub known : (old others new same : Found) → new ≡ same → GoesOn (both old others) same → GoesOn (both old others) new
known old others new same is goes = subst (GoesOn (both old others)) (sym is) goes
