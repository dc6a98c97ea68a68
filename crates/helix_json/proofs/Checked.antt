-- How far the keys have been compared with those before them.
use Rattle.std.proofs.Common.{◌≡◌, ℕ, ◌+◌, ◌-◌, ◌<◌, ◌≤◌, Bool, true, false, not, cond, List, [], ◌∷◌, ◌++◌, length, take, drop, get_or, reverse, Bor, refl, sym, ◌∙◌, ap, subst, arith, length-take-le}
use Rattle.std.proofs.lemmas.List.{take_more, take_rest}
use Rattle.std.specs.BTreeMap.{is_at}
use Rattle.helix_json.specs.declared.token.Token.{Token}
use Rattle.helix_json.specs.Broken.{RepeatsKey, stays}
use Rattle.helix_json.specs.Inner.Rules.{AreTokens, IsFirstAt}
use Rattle.helix_json.specs.Inner.Scopes.{BeginsWithKey, Closes, MovesScope}
use Rattle.helix_json.proofs.Firsts.{NoneBefore, cut_at, found_at, none_more}
use Rattle.helix_json.proofs.Stays.{stays-tokens}
use Rattle.helix_json.proofs.Starts.{Nested, nested_start, nested_passes, inside}
use Rattle.helix_json.proofs.Repeats.{KeyAt, key_cmp, has, Seen, seen_skip, seen_more, repeats, repeats_none, no_key}

pub record Checked (all : List Token) (i : ℕ) (keys : List KeyAt) (outer : List ℕ) (start : ℕ) : Type 0 where
  pub nested : Nested (reverse outer) start (take i all)
  pub seen : Seen all i keys
  pub none : NoneBefore RepeatsKey all i

-- what is known of the next token
pub record Next (all : List Token) (i : ℕ) (t : Token) (keys : List KeyAt) : Type 0 where
  pub seen : Seen all (i + 1) keys
  pub new : ¬ (RepeatsKey (take i all) t (drop (i + 1) all))

had_it : (added had : Bool) → added ≡ not had → added ≡ false → had ≡ true
had_it added true e f = refl
had_it added false e f = cc

lacked_it : (added had : Bool) → added ≡ not had → added ≡ true → had ≡ false
lacked_it added true e f = cc
lacked_it added false e f = refl

-- the slice from an index on
abbrev from_index : ℕ → List Token → List Token
from_index i all = take (length all - i) (drop i all)

begins_at : (all : List Token) (i : ℕ) (key : List ℕ) → BeginsWithKey (from_index i all) key
    → BeginsWithKey (drop i all) key
begins_at all i key begins = subst (λ l. BeginsWithKey l key) (take_rest all i) begins

begins_none : (all : List Token) (i : ℕ) → ((key : List ℕ) → ¬ (BeginsWithKey (from_index i all) key)) → (key : List ℕ)
    → ¬ (BeginsWithKey (drop i all) key)
begins_none all i none key begins = none key (subst (λ l. BeginsWithKey l key) (sym (take_rest all i)) begins)

module _ (all : List Token) (i start : ℕ) (t : Token) (outer : List ℕ) (here : i < length all) (at : t ≡ get_or all i t)
  where
    -- the set had the key
    pub found : (keys : List KeyAt) (key : Bor (List ℕ)) (added : Bool) → Checked all i keys outer start
        → BeginsWithKey (from_index i all) key.now
        → added ≡ not (has keys (start, key)) → added ≡ false → IsFirstAt RepeatsKey all i
    found keys key added checked begins tells old =
        let starts = nested_start (reverse outer) start (take i all) checked.nested in
        let had = had_it added (has keys (start, key)) tells old in
        found_at RepeatsKey all i t here at checked.none
        (repeats all i start t key.now here at (begins_at all i key.now begins) starts (checked.seen.sound (
          start,
          key,
        ) had))

    -- the set lacked the key and has taken it
    pub new_key : (old new : List KeyAt) (key : Bor (List ℕ)) (added : Bool) → Checked all i old outer start
        → BeginsWithKey (from_index i all) key.now
        → added ≡ not (has old (start, key)) → added ≡ true
        → ((q : KeyAt) → has new q ≡ cond (is_at (key_cmp (start, key)) q) true (has old q)) → Next all i t new
    new_key old new key added checked begins tells is_new updates =
        let starts = nested_start (reverse outer) start (take i all) checked.nested in record {
          seen = seen_more all i old new (start, key) here (begins_at all i key.now begins) starts updates checked.seen;
          new = repeats_none all i t old (start, key) here at (begins_at all i key.now begins) starts checked.seen
              (lacked_it added (has old (start, key)) tells is_new);
        }

    -- there is no key
    pub passed_over : (keys : List KeyAt) → Checked all i keys outer start
        → ((key : List ℕ) → ¬ (BeginsWithKey (from_index i all) key)) → Next all i t keys
    passed_over keys checked none = record {
      seen = seen_skip all i keys (begins_none all i none) checked.seen;
      new = no_key all i t here at (begins_none all i none);
    }

    pub checked_more : (old new : List KeyAt) (others : List ℕ) (next : ℕ) → Checked all i old outer start
        → Next all i t new → MovesScope i t outer start others next
        → Checked all (i + 1) new others next
    checked_more old new others next checked step passes =
        let k : i ≤ length all = omega arith in record {
          nested = subst (Nested (reverse others) next)
              (sym (take_more all i t here ∙ ap (λ u. take i all ++ u ∷ []) (sym at)))
              (nested_passes outer others start next i (take i all) t (sym (length-take-le i all k)) passes
              checked.nested);
          seen = step.seen;
          none = none_more RepeatsKey all i t here at checked.none step.new;
        }

    -- what closes is inside of a container
    pub closes_inside : (keys : List KeyAt) → AreTokens all → Checked all i keys outer start → Closes t
        → 0 < length outer
    closes_inside keys (v, are) checked closes =
        inside outer start (take i all) (drop (i + 1) all) t (ap (stays 0) (sym (cut_at all i t here at) ∙ sym are)
        ∙ stays-tokens v) checked.nested closes
