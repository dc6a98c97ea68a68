-- Trees of small numbers that were tested can be searched.
use Rattle.std.proofs.Common.{◌≡◌, ℕ, zero, suc, ◌<◌, Bool, true, false, List, [], ◌∷◌, Option, None, length, Some, get_or, refl, sym, ◌∙◌, subst, arith, slice_get}
use Rattle.std.specs.List.{All}
use Rattle.std.proofs.lemmas.Option.{slice_get_within, slice_get-get_or, same_Some}
use Rattle.helix_values.specs.declared.cell.Cell.{Cell}
use Rattle.helix_values.specs.Class.{numbers}
use Rattle.helix_values.specs.Counts.{IsMarkOf}
use Rattle.helix_values.specs.declared.mark.Mark.{Mark}
use Rattle.helix_search.specs.declared.node.Node.{Node}
use Rattle.helix_search.specs.declared.tree.Tree.{Tree}
use Rattle.helix_search.specs.Nodes.{AreNodes, Stands}
use Rattle.helix_search.specs.Trees.{AreFixed, IsMarkAt}
use Rattle.helix_search.specs.Inner.Small.{MeetsLower, MeetsUpper, IsAllowed, IsSmallNode}

-- with parent and child exchanged the bounds change places
lower_of_upper : (gap : Option ℕ) (v w : Cell) → MeetsUpper gap v w → MeetsLower gap w v
lower_of_upper (Some by) v w met = met
lower_of_upper None v w met = tt

upper_of_lower : (gap : Option ℕ) (v w : Cell) → MeetsLower gap v w → MeetsUpper gap w v
upper_of_lower (Some by) v w met = met
upper_of_lower None v w met = tt

allowed_both : (apart : Bool) (v w : Cell) → IsAllowed apart v w → IsAllowed apart w v
allowed_both true v w allowed = λ same. allowed (sym same)
allowed_both false v w allowed = tt

module _ {K : Type 0} (above below : K → Option ℕ) (other : K → Bool) where
  abbrev pub Says : K → Cell → Cell → Type 0
  Says = Stands (λ gap. MeetsLower (above gap)) (λ gap. MeetsUpper (below gap)) (λ gap. IsAllowed (other gap))

  exchanged : (one two : K) → above one ≡ below two → below one ≡ above two → other one ≡ other two
      → (v w : Cell) → Says one v w → Says two w v
  exchanged one two same_above same_below same_other v w says = record {
    lower = subst (λ gap. MeetsLower gap w v) same_below (lower_of_upper (below one) v w says.upper);
    upper = subst (λ gap. MeetsUpper gap w v) same_above (upper_of_lower (above one) v w says.lower);
    allowed = subst (λ apart. IsAllowed apart w v) same_other (allowed_both (other one) v w says.allowed);
  }

  module _ {V : Type 0} (tree : Tree V K) (small : All (IsSmallNode above below other tree) tree.nodes.now) where
    small_at : (u : ℕ) (node : Node V K) → slice_get tree.nodes.now u ≡ Some node
        → IsSmallNode above below other tree node
    small_at u node is =
        let within : u < length tree.nodes.now = slice_get_within tree.nodes.now u node is in
        subst (IsSmallNode above below other tree)
        (same_Some _ _ (sym (slice_get-get_or tree.nodes.now u node within) ∙ is)) (small u node within)

    pub small_nodes : AreNodes {V = V} {K = K} (λ s. numbers) (λ s. numbers) Says tree.nodes.now
    small_nodes = record {
      neighbours = λ u node is k d within.
          let n = get_or node.neighbours k d in
          let fits = (small_at u node is).each k d within in
          record {
            is_node =
                (get_or tree.nodes.now n.node node, slice_get-get_or tree.nodes.now n.node node fits.within, refl);
            down_class = refl;
            up_class = refl;
            both_ways = λ v w of_v of_w. (
              exchanged n.down n.up fits.same_above fits.same_below fits.same_other v w,
              exchanged n.up n.down (sym fits.same_below) (sym fits.same_above) (sym fits.same_other) w v,
            );
          };
      once = λ u node is i j d before within. (small_at u node is).once j within i d before;
    }

    pub small_fixed : AreFixed {V = V} {K = K} (λ s. numbers) tree
    small_fixed u node is k d within less = ((small_at u node is).each k d within).fixed less

-- a number can be asked for at each node
pub small_mark : {V K : Type 0} (tree : Tree V K) (u : ℕ) (m : Mark) → u < length tree.nodes.now → IsMarkOf numbers m
    → IsMarkAt {V = V} {K = K} (λ s. numbers) m (slice_get tree.nodes.now u)
small_mark {V} {K} tree u m within is = at tree.nodes.now u within
  where
    at : (nodes : List (Node V K)) (k : ℕ) → k < length nodes
        → IsMarkAt {V = V} {K = K} (λ s. numbers) m (slice_get nodes k)
    at [] k within = absurd (omega (arith, within))
    at (node ∷ nodes) zero within = is
    at (node ∷ nodes) (suc k) within = at nodes k (omega (arith, within))
