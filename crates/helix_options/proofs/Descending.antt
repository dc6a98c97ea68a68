-- A branch goes down to its first path, and a list of branches to that of its last one.
use Rattle.std.proofs.Common.{◌≡◌, ◌≢◌, ◌==◌, ℕ, ◌+◌, ◌-◌, ◌<◌, ◌≤◌, Bool, true, false, Option, None, Some, List, [], ◌∷◌, ◌++◌, length, take, get_or, refl, sym, ap, subst, ◌∙◌, arith}
use Rattle.std.proofs.lemmas.Bool.{false≢true, eq-eqb}
use Rattle.std.proofs.lemmas.List.{take_more}
use Rattle.std.proofs.Math.Seq.{take-length}
use Rattle.helix_tree.specs.declared.literal.Literal.{Literal}
use Rattle.helix_options.proofs.Searching.{search_all-append, found_by_all-append, both-nothing, nothing-both}
use Rattle.helix_options.specs.Inner.Search.{Found, one_path, both, search_all, found_by, found_by_all, paths_left, GoesOn, Keeps, FirstPath, with_branch, with_demand}
use Rattle.helix_options.specs.declared.branch.Branch.{Branch}
use Rattle.helix_options.specs.declared.branch.Demand.{Demand}

module _ (nullable : List Bool) where
  pub begun : (branch : Branch) (others : List Branch) → others ≡ []
      → Keeps (found_by nullable branch) (both (found_by nullable branch) (found_by_all nullable others))
  begun branch others none = subst (λ bs. Keeps (found_by nullable branch) (both (found_by nullable branch)
      (found_by_all nullable bs))) (sym none)
      (subst (Keeps (found_by nullable branch)) (sym (both-nothing (found_by nullable branch)))
      (record { same = refl; no_more = omega arith }))

  -- the demand that is taken
  taken : (branch popped : Branch) (demand : Demand) (others : List Branch) → popped.literals ≡ branch.literals
      → branch.demands ≡ popped.demands ++ demand ∷ []
      → both (found_by nullable branch) (found_by_all nullable others) ≡ with_demand nullable demand popped others
  taken branch popped demand others literals demands = ap (λ found. both found (found_by_all nullable others))
      ((λ i. search_all nullable (demands i) one_path (sym literals i))
      ∙ search_all-append nullable popped.demands (demand ∷ []) one_path popped.literals)

  pub went_on : (all : Found) (branch popped new : Branch) (demand : Demand) (others more : List Branch) (alive : Bool)
      → Keeps all (both (found_by nullable branch) (found_by_all nullable others))
      → popped.literals ≡ branch.literals → branch.demands ≡ popped.demands ++ demand ∷ [] → alive ≡ true
      → GoesOn (with_demand nullable demand popped others) (with_branch nullable alive new more)
      → Keeps all (both (found_by nullable new) (found_by_all nullable more))
  went_on all branch popped new demand others more alive keeps literals demands lives goes =
      let one = taken branch popped demand others literals demands in
      let goes_on = subst (λ b. GoesOn (with_demand nullable demand popped others) (with_branch nullable b new more))
      lives goes in
      let went = subst (λ found. GoesOn found (both (found_by nullable new) (found_by_all nullable more))) (sym one)
      goes_on in
      record { same = went.same ∙ keeps.same; no_more = omega (arith, went.fewer, keeps.no_more) }

  pub took_a_step : (branch popped new : Branch) (demand : Demand) (others more : List Branch) (alive : Bool)
      → popped.literals ≡ branch.literals → branch.demands ≡ popped.demands ++ demand ∷ [] → alive ≡ true
      → GoesOn (with_demand nullable demand popped others) (with_branch nullable alive new more)
      → (both (found_by nullable new) (found_by_all nullable more)).steps
      < (both (found_by nullable branch) (found_by_all nullable others)).steps
  took_a_step branch popped new demand others more alive literals demands lives goes =
      let goes_on = subst (λ b. GoesOn (with_demand nullable demand popped others) (with_branch nullable b new more))
      lives goes in
      (subst (λ found. GoesOn found (both (found_by nullable new) (found_by_all nullable more)))
      (sym (taken branch popped demand others literals demands)) goes_on).fewer

  pub came_to_an_end : (all : Found) (branch popped new : Branch) (demand : Demand) (others more : List Branch)
      (alive : Bool) → Keeps all (both (found_by nullable branch) (found_by_all nullable others))
      → popped.literals ≡ branch.literals → branch.demands ≡ popped.demands ++ demand ∷ [] → alive ≡ false
      → GoesOn (with_demand nullable demand popped others) (with_branch nullable alive new more)
      → FirstPath all None (found_by_all nullable more)
  came_to_an_end all branch popped new demand others more alive keeps literals demands dead goes =
      let one = taken branch popped demand others literals demands in
      let ends = subst (λ b. GoesOn (with_demand nullable demand popped others) (with_branch nullable b new more))
      dead goes in
      let went = subst (λ found. GoesOn found (found_by_all nullable more)) (sym one) ends in
      (sym (went.same ∙ keeps.same), omega (arith, went.fewer, keeps.no_more))

  pub has_a_path : (all : Found) (branch : Branch) (others : List Branch)
      → Keeps all (both (found_by nullable branch) (found_by_all nullable others)) → branch.demands ≡ []
      → FirstPath all (Some branch.literals) (found_by_all nullable others)
  has_a_path all branch others keeps none = sym keeps.same
      ∙ ap (λ demands. (search_all nullable demands one_path branch.literals).paths
      ++ (found_by_all nullable others).paths) none

-- lists of branches

pub last_apart : (branches : List Branch) (last : Branch) → 1 ≤ length branches
    → last ≡ get_or branches (length branches - 1) last
    → branches ≡ take (length branches - 1) branches ++ last ∷ []
last_apart branches last some is =
    sym (subst (λ n. take n branches ≡ branches) whole (take-length branches))
    ∙ (take_more branches (length branches - 1) last within
    ∙ ap (λ x. take (length branches - 1) branches ++ x ∷ []) (sym is))
  where
    whole : length branches ≡ length branches - 1 + 1
    whole = omega (arith, some)

    within : length branches - 1 < length branches
    within = omega (arith, some)

module _ (nullable : List Bool) (branches new : List Branch) (last : Branch) (others : List Branch)
    (some : 1 ≤ length branches) (is : last ≡ get_or branches (length branches - 1) last)
    (replaced : new ≡ take (length branches - 1) branches ++ others) where
  abbrev before : Found
  before = both (found_by nullable last) (found_by_all nullable (take (length branches - 1) branches))

  abbrev after : Found
  after = both (found_by_all nullable others) (found_by_all nullable (take (length branches - 1) branches))

  was : found_by_all nullable branches ≡ before
  was = ap (found_by_all nullable) (last_apart branches last some is)
      ∙ (found_by_all-append nullable (take (length branches - 1) branches) (last ∷ [])
      ∙ ap (λ found. both found (found_by_all nullable (take (length branches - 1) branches)))
      (nothing-both (found_by nullable last)))

  now : found_by_all nullable new ≡ after
  now = ap (found_by_all nullable) replaced
      ∙ found_by_all-append nullable (take (length branches - 1) branches) others

  pub first_taken : (path : List Literal) → FirstPath (found_by nullable last) (Some path)
      (found_by_all nullable others)
      → paths_left nullable branches ≡ path ∷ paths_left nullable new
  first_taken path first = ap (λ found. found.paths) was
      ∙ (ap (λ paths. paths ++ (found_by_all nullable (take (length branches - 1) branches)).paths) first
      ∙ ap (λ found. path ∷ found.paths) (sym now))

  pub none_taken : FirstPath (found_by nullable last) None (found_by_all nullable others)
      → paths_left nullable new ≡ paths_left nullable branches
  none_taken none = ap (λ found. found.paths) now
      ∙ (ap (λ paths. paths ++ (found_by_all nullable (take (length branches - 1) branches)).paths) (sym none.0)
      ∙ ap (λ found. found.paths) (sym was))

  pub less_left : FirstPath (found_by nullable last) None (found_by_all nullable others)
      → (found_by_all nullable new).steps < (found_by_all nullable branches).steps
  less_left none = let one = ap (λ found. found.steps) was in let two = ap (λ found. found.steps) now in
      omega (arith, one, two, none.1)

-- as code has them

pub nonempty : (n m : ℕ) (b : Bool) → b ≡ (n == 0) → b ≡ false → n ≡ m → 1 ≤ m
nonempty n m b is fails same =
    let none : n ≢ 0 = λ z. false≢true (sym (sym is ∙ fails) ∙ eq-eqb n 0 z) in omega arith

pub last_is : (branches : List Branch) (branch item : Branch) (i : ℕ) → branch ≡ item → item ≡ get_or branches i item
    → i ≡ length branches - 1 → branch ≡ get_or branches (length branches - 1) branch
last_is branches branch item i same is last =
    subst (λ b. b ≡ get_or branches (length branches - 1) b) (sym same)
    (subst (λ n. item ≡ get_or branches n item) last is)

pub first_at : (slice nullable : List Bool) (branch : Branch) (answered path : Option (List Literal))
    (all others : List Branch) → slice ≡ nullable → path ≡ answered → others ≡ all
    → FirstPath (found_by slice branch) answered (found_by_all slice all)
    → FirstPath (found_by nullable branch) path (found_by_all nullable others)
first_at slice nullable branch answered path all others same path_is others_are first =
    subst (λ n. FirstPath (found_by n branch) path (found_by_all n others)) same
    (subst (λ p. FirstPath (found_by slice branch) p (found_by_all slice others)) (sym path_is)
    (subst (λ bs. FirstPath (found_by slice branch) answered (found_by_all slice bs)) (sym others_are) first))
