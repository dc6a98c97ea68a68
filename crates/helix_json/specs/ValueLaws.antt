-- What is known of a list or an object, over its items and members as code sees them: lemmas for the crates above.
use Rattle.std.proofs.Common.{◌≡◌, ◌≢◌, ◌≤◌, ◌↔◌, ◌⊎◌, inl, inr, ℕ, ◌+◌, max, List, [], ◌∷◌, sym, arith, ⊎_elim}
use Rattle.std.proofs.Math.Nat.{max-le, le-max_left, le-max_right}
use Rattle.std.specs.List.{AllByRecursion}
use Rattle.helix_json.specs.declared.value.Json.{Json}
use Rattle.helix_json.specs.declared.value.Json as json
use Rattle.helix_json.specs.declared.value.Json.TheViews as view
use Rattle.helix_json.specs.declared.value.Member.{Member}
use Rattle.helix_json.specs.Values.{HasKey, HasNumbers, HasNoRepeatedKey, HaveDifferentKeys, nesting}

pub numbers_of_items : (items : List Json) → HasNumbers (view.List items) ↔ AllByRecursion HasNumbers items
unfolding Rattle.helix_json.specs.declared.value.Json.TheBlock.hidden-the_row-Json-0 denote.Hole.Carrier.hidden
numbers_of_items [] = ((λ h. tt), (λ h. tt))
numbers_of_items (item ∷ items) = let others = numbers_of_items items in
    ((λ h. (h.0, others.0 h.1)), (λ h. (h.0, others.1 h.1)))

pub numbers_of_members : (members : List Member)
    → HasNumbers (view.Object members) ↔ AllByRecursion (λ member. HasNumbers member.value) members
unfolding Rattle.helix_json.specs.declared.value.Json.TheBlock.hidden-the_row-Member-1 denote.Hole.Carrier.hidden
numbers_of_members [] = ((λ h. tt), (λ h. tt))
numbers_of_members (member ∷ members) = let others = numbers_of_members members in
    ((λ h. (h.0, others.0 h.1)), (λ h. (h.0, others.1 h.1)))

pub keys_of_items : (items : List Json) → HasNoRepeatedKey (view.List items) ↔ AllByRecursion HasNoRepeatedKey items
unfolding Rattle.helix_json.specs.declared.value.Json.TheBlock.hidden-the_row-Json-0 denote.Hole.Carrier.hidden
keys_of_items [] = ((λ h. tt), (λ h. tt))
keys_of_items (item ∷ items) = let others = keys_of_items items in
    ((λ h. (h.0, others.0 h.1)), (λ h. (h.0, others.1 h.1)))

-- an object has the key
abbrev ObjectHasKey : List ℕ → Json → Type 0
ObjectHasKey key (json.Object' shape members) = HasKey key members
ObjectHasKey key v = ⊥

no_key : (key : List ℕ) (members : List Member)
    → ¬ (ObjectHasKey key (view.Object members)) ↔ AllByRecursion (λ other. key ≢ other.key) members
unfolding Rattle.helix_json.specs.declared.value.Json.TheBlock.hidden-the_row-Member-1 denote.Hole.Carrier.hidden
no_key key [] = ((λ none. tt), (λ all has. has))
no_key key (member ∷ members) = let others = no_key key members in (
  (λ none. ((λ e. none (inl (sym e))), others.0 (λ has. none (inr has)))),
  (λ all. ⊎_elim (λ e. all.0 (sym e)) (others.1 all.1)),
)

pub keys_of_members : (members : List Member) → HasNoRepeatedKey (view.Object members)
    ↔ (HaveDifferentKeys members × AllByRecursion (λ member. HasNoRepeatedKey member.value) members)
unfolding Rattle.helix_json.specs.declared.value.Json.TheBlock.hidden-the_row-Member-1 denote.Hole.Carrier.hidden
keys_of_members [] = ((λ h. (tt, tt)), (λ h. tt))
keys_of_members (member ∷ members) = let others = keys_of_members members in let key = no_key member.key members in (
  (λ h. ((key.0 h.0, (others.0 h.2).0), (h.1, (others.0 h.2).1))),
  (λ h. (key.1 h.0.0, h.1.0, others.1 (h.0.1, h.1.1))),
)

bound_parts : (a b most : ℕ) → max a b + 1 ≤ most + 1 → (a ≤ most) × (b + 1 ≤ most + 1)
bound_parts a b most h = (omega (arith, le-max_left a b), omega (arith, le-max_right a b))

bound_whole : (a b most : ℕ) → a ≤ most → b + 1 ≤ most + 1 → max a b + 1 ≤ most + 1
bound_whole a b most h k = let below : b ≤ most = omega arith in omega (arith, max-le h below)

pub nesting_of_items : (items : List Json) (most : ℕ)
    → (nesting (view.List items) ≤ most + 1) ↔ AllByRecursion (λ item. nesting item ≤ most) items
unfolding Rattle.helix_json.specs.declared.value.Json.TheBlock.hidden-the_row-Json-0 denote.Hole.Carrier.hidden
nesting_of_items [] most = ((λ h. tt), (λ h. omega arith))
nesting_of_items (item ∷ items) most = let others = nesting_of_items items most in (
  (λ h. let both = bound_parts (nesting item) _ most h in (both.0, others.0 both.1)),
  (λ h. bound_whole (nesting item) _ most h.0 (others.1 h.1)),
)

pub nesting_of_members : (members : List Member) (most : ℕ)
    → (nesting (view.Object members) ≤ most + 1) ↔ AllByRecursion (λ member. nesting member.value ≤ most) members
unfolding Rattle.helix_json.specs.declared.value.Json.TheBlock.hidden-the_row-Member-1 denote.Hole.Carrier.hidden
nesting_of_members [] most = ((λ h. tt), (λ h. omega arith))
nesting_of_members (member ∷ members) most = let others = nesting_of_members members most in (
  (λ h. let both = bound_parts (nesting member.value) _ most h in (both.0, others.0 both.1)),
  (λ h. bound_whole (nesting member.value) _ most h.0 (others.1 h.1)),
)
