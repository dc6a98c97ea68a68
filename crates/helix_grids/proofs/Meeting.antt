-- The members that pass a list of tests, and one test more.
use Rattle.std.proofs.Common.{◌↔◌, ℕ, ◌≤◌, ◌^◌, ℤ, pos, ◌+ℤ◌, FitsSigned, List, [], ◌∷◌, ◌++◌}
use Rattle.std.specs.List.{Contains}
use Rattle.std.proofs.lemmas.List.Elements.{All-push, All-contains, Contains-append_left, Contains-push, All-contains_itself, All-weaker}
use Rattle.std.specs.Int.{w128}
use Rattle.helix_ladders.specs.Scale.{Ladder, IsLadder}
use Rattle.helix_grids.specs.declared.test.GridTest.{GridTest}
use Rattle.helix_grids.specs.declared.window.Window.{Window}
use Rattle.helix_grids.specs.declared.members.Members.{Members}
use Rattle.helix_grids.specs.declared.members.Members.TheVariants.{Listed, Sifted}
use Rattle.helix_grids.specs.Tests.{IsMember, Passes}
use Rattle.helix_grids.specs.Inner.Window.{IsInWindow, IsWindowOf}
use Rattle.helix_grids.specs.Inner.Members.{AreMembersOf, AreInForm, HasMember, window_of}
use Rattle.helix_grids.proofs.NextInWindow.{value_fits}

module _ (ladder : Ladder) where
  -- the window of members is one of the ladder
  pub has_window : (all : Members) → AreInForm ladder all →
      IsWindowOf ladder (window_of all)
  has_window (Listed list) form = form.window
  has_window (Sifted sieve) form = form.window

  -- members lie in their window
  pub lies_within : (all : Members) → AreInForm ladder all → (v : ℤ) → HasMember ladder all v →
      IsInWindow ladder (window_of all) v
  lies_within (Listed list) form v has = form.within v has
  lies_within (Sifted sieve) form v has = has.0

  -- a number that is a step above a member has 128 bits
  pub member_fits : IsLadder ladder → (all : Members) → AreInForm ladder all → (v : ℤ) → HasMember ladder all v
      → (n : ℕ) →
      n ≤ 2 ^ 65 → FitsSigned w128 (v +ℤ pos n)
  member_fits is_ladder all form v has = value_fits ladder is_ladder (window_of all) (has_window all form) v
      (lies_within all form v has)

  -- the members in a narrower window are those that meet the condition that makes it narrower
  pub narrowed_by : (Meets : ℤ → Type 0) (all new : Members) (window : Window) →
      AreInForm ladder all →
      ((v : ℤ) → IsInWindow ladder window v ↔ (IsInWindow ladder (window_of all) v × Meets v)) →
      ((v : ℤ) → HasMember ladder new v ↔ (HasMember ladder all v × IsInWindow ladder window v)) → (v : ℤ) →
      HasMember ladder new v ↔ (HasMember ladder all v × Meets v)
  narrowed_by Meets all new window form narrower exact v = (
    (λ has. let was = (exact v).0 has in (was.0, ((narrower v).0 was.1).1)),
    (λ has. (exact v).1 (has.0, (narrower v).1 (lies_within all form v has.0, has.1))),
  )

  module _ (level : ℕ) (tests : List GridTest) (test : GridTest) where
    -- a member passes one test more
    member_more : (v : ℤ) → IsMember ladder level tests v → Passes ladder test v →
        IsMember ladder level (tests ++ test ∷ []) v
    member_more v member passes = record {
      from_low = member.from_low;
      to_high = member.to_high;
      on_level = member.on_level;
      passes = All-push (λ t. Passes ladder t v) tests test member.passes passes;
    }

    -- what passes one test more passed the tests before
    member_before : (v : ℤ) → IsMember ladder level (tests ++ test ∷ []) v →
        IsMember ladder level tests v × Passes ladder test v
    member_before v member = (
      record {
        from_low = member.from_low;
        to_high = member.to_high;
        on_level = member.on_level;
        passes = All-weaker (Contains tests) (λ t. Passes ladder t v)
            (λ t has. All-contains (λ s. Passes ladder s v) (tests ++ test ∷ []) t member.passes
            (Contains-append_left tests (test ∷ []) t has)) tests (All-contains_itself tests);
      },
      All-contains (λ s. Passes ladder s v) (tests ++ test ∷ []) test member.passes (Contains-push tests test),
    )

    pub met : (all new : Members) → AreMembersOf ladder level tests all →
        AreInForm ladder new → ((v : ℤ) → HasMember ladder new v ↔ (HasMember ladder all v × Passes ladder test v)) →
        AreMembersOf ladder level (tests ++ test ∷ []) new
    met all new were form exact = record {
      in_form = form;
      exact = λ v. (
        (λ member. let before = member_before v member in (exact v).1 ((were.exact v).0 before.0, before.1)),
        (λ has. let was = (exact v).0 has in member_more v ((were.exact v).1 was.0) was.1),
      );
    }
