-- What the three parts of all tests make together.
use Rattle.std.proofs.Common.{◌≡◌, ◌↔◌, ℕ, ◌+◌, ◌<◌, ◌≤◌, ℤ, Ok, Err, Result, List, [], ◌∷◌, ◌++◌, length, get_or, take, sym, subst, arith}
use Rattle.std.specs.List.{All, Contains}
use Rattle.std.specs.Result.{IfOk}
use Rattle.std.specs.List.Sorted.{IsPermutation}
use Rattle.std.proofs.lemmas.List.{take_more, take_all}
use Rattle.std.proofs.lemmas.List.Sorted.{Contains-permutation, IsPermutation-sym}
use Rattle.std.proofs.lemmas.List.Elements.{All-push, All-contains, All-weaker, All-contains_itself, Contains-append_left, Contains-append_right, Contains-append_cases, Contains-push}
use Rattle.std.proofs.Common.{⊎_elim}
use Rattle.helix_ladders.specs.Scale.{Ladder}
use Rattle.helix_grids.specs.declared.test.GridTest.{GridTest}
use Rattle.helix_grids.specs.declared.test.GridTest.TheVariants.{Least, Most, On, Off, OneOf, NoneOf}
use Rattle.helix_grids.specs.declared.window.Window.{Window}
use Rattle.helix_base.specs.declared.memory.Memory.{Memory}
use Rattle.helix_grids.specs.declared.members.Sieve.{Sieve}
use Rattle.helix_grids.specs.declared.members.Members.{Members}
use Rattle.helix_grids.specs.declared.members.Members.TheVariants.{Sifted}
use Rattle.helix_grids.specs.Tests.{IsMember, Passes}
use Rattle.helix_grids.specs.Inner.Window.{IsInWindow}
use Rattle.helix_grids.specs.Inner.Kept.{AreKept}
use Rattle.helix_grids.specs.Inner.Sieve.{IsSifted}
use Rattle.helix_grids.specs.Inner.Members.{AreInForm, AreMembersOf, HasMember}
use Rattle.helix_grids.specs.Inner.Parts.{IsInBounds, IsSpared, IsListed, IsBounded}
use Rattle.helix_grids.proofs.Narrowing.{sifted_within}

-- what holds of the first tests and of one more holds of all of them, and the other way round
all_push : (P : GridTest → Type 0) (tests : List GridTest) (test : GridTest) →
    All P (tests ++ test ∷ []) ↔ (All P tests × P test)
all_push P tests test = (
  (λ all. (
    All-weaker (Contains tests) P (λ t has. All-contains P (tests ++ test ∷ []) t all
        (Contains-append_left tests (test ∷ []) t has)) tests (All-contains_itself tests),
    All-contains P (tests ++ test ∷ []) test all (Contains-push tests test),
  )),
  (λ both. All-push P tests test both.0 both.1),
)

all_more : (P : GridTest → Type 0) (tests : List GridTest) (i : ℕ) (test : GridTest) → i < length tests →
    test ≡ get_or tests i test → All P (take (i + 1) tests) ↔ (All P (take i tests) × P test)
all_more P tests i test within is =
    subst (λ t. All P (take (i + 1) tests) ↔ (All P (take i tests) × P t)) (sym is)
    (subst (λ first. All P first ↔ (All P (take i tests) × P (get_or tests i test)))
    (sym (take_more tests i test within))
    (all_push P (take i tests) (get_or tests i test)))

-- the parts of one test
parts : (ladder : Ladder) (test : GridTest) (v : ℤ) → Passes ladder test v →
    IsInBounds ladder test v × IsSpared test v × IsListed test v
parts ladder (Least bound) v passes = (passes, tt, tt)
parts ladder (Most bound) v passes = (passes, tt, tt)
parts ladder (On level) v passes = (passes, tt, tt)
parts ladder (Off level) v passes = (passes, tt, tt)
parts ladder (OneOf members) v passes = (tt, tt, passes)
parts ladder (NoneOf others) v passes = (tt, passes, tt)

joined : (ladder : Ladder) (test : GridTest) (v : ℤ) → IsInBounds ladder test v → IsSpared test v → IsListed test v →
    Passes ladder test v
joined ladder (Least bound) v in_bounds spared listed = in_bounds
joined ladder (Most bound) v in_bounds spared listed = in_bounds
joined ladder (On level) v in_bounds spared listed = in_bounds
joined ladder (Off level) v in_bounds spared listed = in_bounds
joined ladder (OneOf members) v in_bounds spared listed = listed
joined ladder (NoneOf others) v in_bounds spared listed = spared

-- members in form that have the values of the window that no test excludes and each test lists
pub are_members : (ladder : Ladder) (level : ℕ) (tests : List GridTest) (window : Window) (others : List ℤ)
    (new : Members) →
    ((v : ℤ) → IsInWindow ladder window v ↔ IsBounded ladder level tests v) →
    ((v : ℤ) → (¬ Contains others v) ↔ All (λ test. IsSpared test v) tests) → AreInForm ladder new →
    ((v : ℤ) → HasMember ladder new v ↔ ((IsInWindow ladder window v × (¬ Contains others v))
    × All (λ test. IsListed test v) tests)) →
    AreMembersOf ladder level tests new
are_members ladder level tests window others new bounded spared form exact = record {
  in_form = form;
  exact = λ v. (
    (λ member. (exact v).1 ((
      (
        (bounded v).1 (
          record { from_low = member.from_low; to_high = member.to_high; on_level = member.on_level },
          λ k d within. (parts ladder (get_or tests k d) v (member.passes k d within)).0,
        ),
        (spared v).1 (λ k d within. (parts ladder (get_or tests k d) v (member.passes k d within)).1),
      ),
      (λ k d within. (parts ladder (get_or tests k d) v (member.passes k d within)).2),
    ))),
    (λ has.
        let was = (exact v).0 has in
        let in_bounds = (bounded v).0 was.0.0 in
        let apart = (spared v).0 was.0.1 in
        record {
          from_low = in_bounds.0.from_low;
          to_high = in_bounds.0.to_high;
          on_level = in_bounds.0.on_level;
          passes = λ k d within. joined ladder (get_or tests k d) v (in_bounds.1 k d within) (apart k d within)
              (was.1 k d within);
        }),
  );
}

-- a walk over the tests
module _ (tests : List GridTest) (i : ℕ) (test : GridTest) (within : i < length tests) (is : test ≡ get_or tests i test)
  where
    -- the window of one test more
    pub bounded_more : (ladder : Ladder) (level : ℕ) (window next : Window) →
        ((v : ℤ) → IsInWindow ladder window v ↔ IsBounded ladder level (take i tests) v) →
        ((v : ℤ) → IsInWindow ladder next v ↔ (IsInWindow ladder window v × IsInBounds ladder test v)) → (v : ℤ) →
        IsInWindow ladder next v ↔ IsBounded ladder level (take (i + 1) tests) v
    bounded_more ladder level window next so_far exact v =
        let more : All (λ t. IsInBounds ladder t v) (take (i + 1) tests)
        ↔ (All (λ t. IsInBounds ladder t v) (take i tests) × IsInBounds ladder test v) =
        all_more (λ t. IsInBounds ladder t v) tests i test within is in (
          (λ has. let was = (exact v).0 has in let first = (so_far v).0 was.0 in (first.0, more.1 (first.1, was.1))),
          (λ has. let both = more.0 has.1 in (exact v).1 ((so_far v).1 (has.0, both.0), both.1)),
        )

    -- the numbers that one test more excludes
    pub spared_more : (all others : List ℤ) → ((v : ℤ) → (¬ Contains all v) ↔ All (λ t. IsSpared t v) (take i tests)) →
        ((v : ℤ) → (¬ Contains others v) ↔ IsSpared test v) → (v : ℤ) →
        (¬ Contains (all ++ others) v) ↔ All (λ t. IsSpared t v) (take (i + 1) tests)
    spared_more all others so_far exact v =
        let more : All (λ t. IsSpared t v) (take (i + 1) tests)
        ↔ (All (λ t. IsSpared t v) (take i tests) × IsSpared test v) =
        all_more (λ t. IsSpared t v) tests i test within is in (
          (λ out. more.1 (
            (so_far v).0 (λ has. out (Contains-append_left all others v has)),
            (exact v).0 (λ has. out (Contains-append_right all others v has)),
          )),
          (λ spared has. let both = more.0 spared in
              ⊎_elim (λ old. (so_far v).1 both.0 old) (λ new. (exact v).1 both.1 new)
              (Contains-append_cases all others v has)),
        )

    -- the members that one test more lists
    pub listed_more : (ladder : Ladder) (all left next : Members) →
        ((v : ℤ) → HasMember ladder left v ↔ (HasMember ladder all v × All (λ t. IsListed t v) (take i tests))) →
        ((v : ℤ) → HasMember ladder next v ↔ (HasMember ladder left v × IsListed test v)) → (v : ℤ) →
        HasMember ladder next v ↔ (HasMember ladder all v × All (λ t. IsListed t v) (take (i + 1) tests))
    listed_more ladder all left next so_far exact v =
        let more : All (λ t. IsListed t v) (take (i + 1) tests)
        ↔ (All (λ t. IsListed t v) (take i tests) × IsListed test v) =
        all_more (λ t. IsListed t v) tests i test within is in (
          (λ has. let was = (exact v).0 has in let first = (so_far v).0 was.0 in (first.0, more.1 (first.1, was.1))),
          (λ has. let both = more.0 has.1 in (exact v).1 ((so_far v).1 (has.0, both.0), both.1)),
        )

-- no test leaves all
pub all_none : (P : GridTest → Type 0) (tests : List GridTest) → All P (take 0 tests)
all_none P tests k d within = absurd (omega arith)

-- the end of a walk over the tests
pub bounded_all : (ladder : Ladder) (level : ℕ) (tests : List GridTest) (window : Window) (i : ℕ) → length tests ≤ i →
    ((v : ℤ) → IsInWindow ladder window v ↔ IsBounded ladder level (take i tests) v) → (v : ℤ) →
    IsInWindow ladder window v ↔ IsBounded ladder level tests v
bounded_all ladder level tests window i past exact =
    subst (λ ts. (v : ℤ) → IsInWindow ladder window v ↔ IsBounded ladder level ts v) (take_all i tests past) exact

pub spared_all : (tests : List GridTest) (all sorted : List ℤ) (i : ℕ) → length tests ≤ i →
    ((v : ℤ) → (¬ Contains all v) ↔ All (λ test. IsSpared test v) (take i tests)) → IsPermutation all sorted → (v : ℤ) →
    (¬ Contains sorted v) ↔ All (λ test. IsSpared test v) tests
spared_all tests all sorted i past exact moved v =
    let whole : (¬ Contains all v) ↔ All (λ test. IsSpared test v) tests = subst (λ ts. (¬ Contains all v)
    ↔ All (λ test. IsSpared test v) ts) (take_all i tests past) (exact v) in (
      (λ out. whole.0 (λ has. out (Contains-permutation _ _ v moved has))),
      (λ spared has. whole.1 spared (Contains-permutation _ _ v (IsPermutation-sym _ _ moved) has)),
    )

pub listed_all : (ladder : Ladder) (tests : List GridTest) (all left : Members) (i : ℕ) → length tests ≤ i →
    ((v : ℤ) → HasMember ladder left v ↔ (HasMember ladder all v × All (λ test. IsListed test v) (take i tests)))
    → (v : ℤ) →
    HasMember ladder left v ↔ (HasMember ladder all v × All (λ test. IsListed test v) tests)
listed_all ladder tests all left i past exact =
    subst (λ ts. (v : ℤ) → HasMember ladder left v
    ↔ (HasMember ladder all v × All (λ test. IsListed test v) ts)) (take_all i tests past) exact

-- what a window leaves without those of the numbers that lie in it
pub spared_in_window : (ladder : Ladder) (window : Window) (numbers kept : List ℤ) →
    AreKept (IsSifted ladder window []) numbers kept → (v : ℤ) →
    IsSifted ladder window kept v ↔ (IsInWindow ladder window v × (¬ Contains numbers v))
spared_in_window ladder window numbers kept are_kept v =
    let both = sifted_within ladder window window numbers kept (λ w has. has) are_kept v in (
      (λ has. (both.0 has).0),
      (λ has. both.1 (has, has.0)),
    )

-- a sieve of that, whose members that are listed are those that pass all tests
pub are_members_of : (ladder : Ladder) (level : ℕ) (tests : List GridTest) (sieve : Sieve) (numbers : List ℤ)
    (result : Result Members Memory) →
    ((v : ℤ) → IsInWindow ladder sieve.window v ↔ IsBounded ladder level tests v) →
    ((v : ℤ) → (¬ Contains numbers v) ↔ All (λ test. IsSpared test v) tests) →
    AreKept (IsSifted ladder sieve.window []) numbers sieve.excluded.items → IfOk result (AreInForm ladder) →
    IfOk result (λ new. (v : ℤ) → HasMember ladder new v
    ↔ (HasMember ladder (Sifted sieve) v × All (λ test. IsListed test v) tests)) →
    IfOk result (AreMembersOf ladder level tests)
are_members_of ladder level tests sieve numbers (Ok new) bounded spared are_kept form exact =
    are_members ladder level tests sieve.window numbers new bounded spared form
    (λ v.
    let sifted = spared_in_window ladder sieve.window numbers sieve.excluded.items are_kept v in (
      (λ has. let was = (exact v).0 has in (sifted.0 was.0, was.1)),
      (λ has. (exact v).1 (sifted.1 has.0, has.1)),
    ))
are_members_of ladder level tests sieve numbers (Err e) bounded spared are_kept form exact = tt
