-- What the calls of the Thompson construction answer, and what that says of the expression at hand.
use Rattle.std.proofs.Common.{◌≡◌, ℕ, ◌≤◌, ◌<◌, ◌+◌, ◌-◌, suc, ◌⊎◌, Option, Some, None, Result, Ok, Err, IfOk, OnOk, List, [], ◌∷◌, ◌++◌, length, take, drop, get_or, slice_get, sym, ap, ◌∙◌, subst, arith, append_assoc}
use Rattle.std.proofs.lemmas.List.{take-append-drop, length-append}
use Rattle.std.proofs.Common.{drop-cons}
use Rattle.std.proofs.Math.ListN.{drop_of_length-le}
use Rattle.helix_expr.specs.declared.expr.Expr.{Expr, Empty, Chars}
use Rattle.helix_expr.specs.declared.expr.Expr.TheViews.{Seq, Alt, Repeat}
use Rattle.helix_expr.specs.Matching.{Matches, MatchInOrder, MatchSome, Joined, UpTo, Repeats}
use Rattle.helix_expr.specs.MatchingLaws.{Matches-Seq, Matches-Alt, Matches-Repeat}
use Rattle.helix_compile.specs.declared.nfa.State.{State}
use Rattle.helix_compile.specs.declared.nfa.State.TheVariants.{Fail, Read, Split}
use Rattle.helix_compile.specs.Inner.Nfa.{Grows, Builds}
use Rattle.helix_compile.specs.Inner.Repeats.{AnyNumber, UpToNumber, RepeatsMore}
use Rattle.helix_compile.proofs.Leading.{Both, leads_read, leads_nowhere}
use Rattle.helix_compile.proofs.Building.{grows_none, grows_more, grows_push, pushed_there, builds_nothing, builds_same, builds_both, builds_early, builds_either}
use Rattle.helix_compile.proofs.EmptyWords.{Quiet, none_asked, once_asked, too_few_allowed}
use Rattle.helix_compile.proofs.Times.{repeats_is, any_is, up_to_is, none_is, up_to_none, up_to_more}

pub ok_map : {X Y : Type 0} (P Q : X → Type 0) (r : Result X Y) → ((x : X) → P x → Q x) → IfOk r P → IfOk r Q
ok_map P Q (Ok x) f h = f x h
ok_map P Q (Err y) f h = tt

pub ok_grows : {X Y : Type 0} (a b : List State) (state : State) (r : Result X Y) → OnOk r (b ≡ a ++ state ∷ [])
    → OnOk r (Grows a b)
ok_grows a b state (Ok x) is = grows_push a b state is
ok_grows a b state (Err y) is = tt

pub ok_with : {X Y : Type 0} (P : Type 0) (Q R : X → Type 0) (r : Result X Y) → (P → (x : X) → Q x → R x) → OnOk r P
    → IfOk r Q → IfOk r R
ok_with P Q R (Ok x) f h g = f h x g
ok_with P Q R (Err y) f h g = tt

module _ (a b : List State) (next : ℕ) where
  -- one state that was added
  pub builds_read : (ranges : List (ℕ × ℕ)) (number : ℕ) → b ≡ a ++ Read ranges next ∷ [] → number ≡ length a
      → Builds a b number (Matches (Chars ranges)) next
  builds_read ranges number is at nfa agree =
      leads_read nfa number ranges next (ap (slice_get nfa) at
      ∙ (agree (length a) (omega arith) (omega (arith, ap length is, length-append a (Read ranges next ∷ [])))
      ∙ pushed_there a b (Read ranges next) is))

  pub builds_stop : (number : ℕ) → b ≡ a ++ Fail ∷ [] → number ≡ length a → Builds a b number (λ w. ⊥) next
  builds_stop number is at nfa agree =
      leads_nowhere nfa number next (ap (slice_get nfa) at
      ∙ (agree (length a) (omega arith) (omega (arith, ap length is, length-append a (Fail ∷ [])))
      ∙ pushed_there a b Fail is))

  pub empty_arm : (expr : Expr) → expr ≡ Empty → Builds a a next (Matches expr) next
  empty_arm expr is = subst (λ e. Builds a a next (Matches e) next) (sym is) (builds_nothing a next)

  pub chars_arm : {Y : Type 0} (expr : Expr) (ranges copy : List (ℕ × ℕ)) (r : Result ℕ Y) → expr ≡ Chars ranges
      → copy ≡ ranges → OnOk r (b ≡ a ++ Read copy next ∷ []) → IfOk r (λ number. number ≡ length a)
      → IfOk r (λ first. Builds a b first (Matches expr) next)
  chars_arm expr ranges copy r is same added number =
      ok_with (b ≡ a ++ Read copy next ∷ []) (λ n. n ≡ length a) (λ first. Builds a b first (Matches expr) next) r
      (λ h n at. subst (λ e. Builds a b n (Matches e) next) (ap (λ l. Chars l) same ∙ sym is) (builds_read copy n h at))
      added number

  pub seq_arm : {Y : Type 0} (expr : Expr) (parts borrowed : List Expr) (r : Result ℕ Y) → expr ≡ Seq parts
      → borrowed ≡ parts
      → IfOk r (λ first. Builds a b first (MatchInOrder borrowed) next)
      → IfOk r (λ first. Builds a b first (Matches expr) next)
  seq_arm expr parts borrowed r is same builds =
      ok_map (λ first. Builds a b first (MatchInOrder borrowed) next) (λ first. Builds a b first (Matches expr) next) r
      (λ first h. subst (λ M. Builds a b first M next) (ap MatchInOrder same
      ∙ (sym (Matches-Seq parts) ∙ ap Matches (sym is))) h) builds

  pub alt_arm : {Y : Type 0} (expr : Expr) (parts borrowed : List Expr) (r : Result ℕ Y) → expr ≡ Alt parts
      → borrowed ≡ parts
      → IfOk r (λ first. Builds a b first (MatchSome borrowed) next)
      → IfOk r (λ first. Builds a b first (Matches expr) next)
  alt_arm expr parts borrowed r is same builds =
      ok_map (λ first. Builds a b first (MatchSome borrowed) next) (λ first. Builds a b first (Matches expr) next) r
      (λ first h. builds_same a b first next (MatchSome borrowed) (Matches expr) (λ w. (
        (λ m. subst (λ e. Matches e w) (sym is)
            (subst (λ T. T) (sym (Matches-Alt parts w)) (subst (λ l. MatchSome l w) same m))),
        (λ m. subst (λ l. MatchSome l w) (sym same)
            (subst (λ T. T) (Matches-Alt parts w) (subst (λ e. Matches e w) is m))),
      )) h) builds

  pub repeat_arm : {Y : Type 0} (expr part borrowed : Expr) (least : ℕ) (most : Option ℕ) (r : Result ℕ Y)
      → expr ≡ Repeat part least most → borrowed ≡ part
      → IfOk r (λ first. Builds a b first (Repeats (Matches borrowed) least most) next)
      → IfOk r (λ first. Builds a b first (Matches expr) next)
  repeat_arm expr part borrowed least most r is same builds =
      ok_map (λ first. Builds a b first (Repeats (Matches borrowed) least most) next)
      (λ first. Builds a b first (Matches expr) next) r
      (λ first h. builds_same a b first next (Repeats (Matches borrowed) least most) (Matches expr)
      (λ w. let law = Matches-Repeat part least most w in (
        (λ m. subst (λ e. Matches e w) (sym is) (law.1 (subst (λ p. Repeats (Matches p) least most w) same m))),
        (λ m. subst (λ p. Repeats (Matches p) least most w) (sym same) (law.0 (subst (λ e. Matches e w) is m))),
      )) h) builds

  -- what is rest the times that are asked for
  pub star_arm : {Y : Type 0} (L : List ℕ → Type 0) (least : ℕ) (most : Option ℕ) (r : Result ℕ Y) → most ≡ None
      → IfOk r (λ first. Builds a b first (AnyNumber L) next)
      → IfOk r (λ first. Builds a b first (RepeatsMore L least most) next)
  star_arm L least most r is builds =
      subst (λ m. IfOk r (λ first. Builds a b first (RepeatsMore L least m) next)) (sym is)
      (ok_map (λ first. Builds a b first (AnyNumber L) next) (λ first. Builds a b first (RepeatsMore L least None) next)
      r
      (λ first h. builds_same a b first next (AnyNumber L) (RepeatsMore L least None) (any_is L least) h) builds)

  pub stop_arm : {Y : Type 0} (L : List ℕ → Type 0) (least limit : ℕ) (most : Option ℕ) (r : Result ℕ Y)
      → most ≡ Some limit → limit < least
      → OnOk r (b ≡ a ++ Fail ∷ []) → IfOk r (λ number. number ≡ length a)
      → IfOk r (λ first. Builds a b first (RepeatsMore L least most) next)
  stop_arm L least limit most r is low added number =
      subst (λ m. IfOk r (λ first. Builds a b first (RepeatsMore L least m) next)) (sym is)
      (ok_with (b ≡ a ++ Fail ∷ []) (λ n. n ≡ length a)
      (λ first. Builds a b first (RepeatsMore L least (Some limit)) next) r
      (λ h n at. builds_same a b n next (λ w. ⊥) (RepeatsMore L least (Some limit)) (λ w. none_is L least limit w low)
      (builds_stop n h at)) added number)

  pub optional_arm : {Y : Type 0} (L : List ℕ → Type 0) (least limit : ℕ) (most : Option ℕ) (r : Result ℕ Y)
      → most ≡ Some limit → least ≤ limit
      → IfOk r (λ first. Builds a b first (UpToNumber L (limit - least)) next)
      → IfOk r (λ first. Builds a b first (RepeatsMore L least most) next)
  optional_arm L least limit most r is low builds =
      subst (λ m. IfOk r (λ first. Builds a b first (RepeatsMore L least m) next)) (sym is)
      (ok_map (λ first. Builds a b first (UpToNumber L (limit - least)) next)
      (λ first. Builds a b first (RepeatsMore L least (Some limit)) next) r
      (λ first h. builds_same a b first next (UpToNumber L (limit - least)) (RepeatsMore L least (Some limit))
      (λ w. up_to_is L least limit w low) h) builds)

-- a repeat of what reads nothing
pub unasked_arm : (a : List State) (next least : ℕ) (most : Option ℕ) (L : List ℕ → Type 0) → Quiet L → least ≡ 0
    → Builds a a next (Repeats L least most) next
unasked_arm a next least most L quiet is = subst (λ n. Builds a a next (Repeats L n most) next) (sym is)
    (builds_same a a next next (λ w. w ≡ []) (Repeats L 0 most) (none_asked L most quiet) (builds_nothing a next))

pub never_arm : {Y : Type 0} (a b : List State) (next least : ℕ) (most : Option ℕ) (L : List ℕ → Type 0)
    (r : Result ℕ Y) → ¬ (UpTo most least)
    → OnOk r (b ≡ a ++ Fail ∷ []) → IfOk r (λ number. number ≡ length a)
    → IfOk r (λ first. Builds a b first (Repeats L least most) next)
never_arm a b next least most L r never added number =
    ok_with (b ≡ a ++ Fail ∷ []) (λ n. n ≡ length a) (λ first. Builds a b first (Repeats L least most) next) r
    (λ h n at. builds_same a b n next (λ w. ⊥) (Repeats L least most) (too_few_allowed L least most never)
    (builds_stop a b next n h at)) added number

pub once_arm : {Y : Type 0} (a b : List State) (next least : ℕ) (most : Option ℕ) (L : List ℕ → Type 0) (r : Result ℕ Y)
    → Quiet L → 1 ≤ least → UpTo most least
    → IfOk r (λ first. Builds a b first L next) → IfOk r (λ first. Builds a b first (Repeats L least most) next)
once_arm a b next least most L r quiet some allowed builds =
    ok_map (λ first. Builds a b first L next) (λ first. Builds a b first (Repeats L least most) next) r
    (λ first h. builds_same a b first next L (Repeats L least most) (once_asked L least most quiet some allowed) h)
    builds

-- the times that are asked for, before what is rest them
pub repeated_arm : {Y : Type 0} (a b c : List State) (rest next least : ℕ) (most : Option ℕ) (L : List ℕ → Type 0)
    (r : Result ℕ Y) → Grows a b → Builds a b rest (RepeatsMore L least most) next
    → OnOk r (Grows b c) → IfOk r (λ first. Builds b c first (Joined L least) rest)
    → IfOk r (λ first. Builds a c first (Repeats L least most) next)
repeated_arm a b c rest next least most L r grows builds more first =
    ok_with (Grows b c) (λ f. Builds b c f (Joined L least) rest) (λ f. Builds a c f (Repeats L least most) next) r
    (λ g f h. builds_same a c f next (Both (Joined L least) (RepeatsMore L least most)) (Repeats L least most)
    (repeats_is L least most)
    (builds_both a b c f rest next (Joined L least) (RepeatsMore L least most) grows g builds h)) more first

-- one part more
pub last_part : (left : List Expr) (part : Expr) → 1 ≤ length left → part ≡ get_or left (length left - 1) part
    → left ≡ take (length left - 1) left ++ part ∷ []
last_part left part some is =
    let at = length left - 1 in
    let cut : drop at left ≡ get_or left at part ∷ drop (suc at) left = drop-cons left at part (omega (arith, some)) in
    let all : length left ≤ suc at = omega (arith, some) in
    let none : drop (suc at) left ≡ [] = drop_of_length-le left all in
    sym (take-append-drop at left)
    ∙ ap (λ l. take at left ++ l) (cut ∙ (ap (λ x. x ∷ drop (suc at) left) (sym is) ∙ ap (λ l. part ∷ l) none))

module _ (start now new : List State) (parts left done : List Expr) (part : Expr) (split : parts ≡ left ++ done)
    (some : 1 ≤ length left) (is : part ≡ get_or left (length left - 1) part) where
  pub parts_split : parts ≡ take (length left - 1) left ++ part ∷ done
  parts_split = split
      ∙ (ap (λ l. l ++ done) (last_part left part some is)
      ∙ append_assoc (take (length left - 1) left) (part ∷ []) done)

  pub in_order_more : (first one next : ℕ) → Grows start now → Builds start now first (MatchInOrder done) next
      → Grows now new → Builds now new one (Matches part) first
      → Grows start new
      × ((x : List Expr) × (parts ≡ take (length left - 1) left ++ x) × Builds start new one (MatchInOrder x) next)
  in_order_more first one next grows builds more before = (
    grows_more start now new grows more,
    (
      part ∷ done,
      parts_split,
      builds_both start now new one first next (Matches part) (MatchInOrder done) grows
          more builds before,
    ),
  )

-- one time more
module _ (start now new : List State) (L : List ℕ → Type 0) (count first one next : ℕ) (grows : Grows start now)
    (more : Grows now new) (before : Builds now new one L first) where
  pub times_more : Builds start now first (Joined L count) next → Grows start new
      × Builds start new one (Joined L (count + 1)) next
  times_more builds =
      let is : suc count ≡ count + 1 = omega arith in (
        grows_more start now new grows more,
        subst (λ n. Builds start new one (Joined L n) next) is
            (builds_both start now new one first next L (Joined L count) grows more builds before),
      )

  pub optional_more : (last : List State) (split : ℕ) → last ≡ new ++ Split one next ∷ [] → split ≡ length new
      → Builds start now first (UpToNumber L count) next
      → Grows start last × Builds start last split (UpToNumber L (count + 1)) next
  optional_more last split added at builds =
      let is : suc count ≡ count + 1 = omega arith in
      let both = grows_more start now new grows more in
      let nothing = builds_early start new new next next (λ w. w ≡ []) both (builds_nothing new next) in (
        grows_more start new last both (grows_push new last (Split one next) added),
        subst (λ n. Builds start last split (UpToNumber L n) next) is
            (builds_same start last split next (λ w. Both L (UpToNumber L count) w ⊎ (w ≡ []))
            (UpToNumber L (suc count)) (up_to_more L count)
            (builds_either start new last one next split next (Both L (UpToNumber L count)) (λ w. w ≡ []) both added at
            (builds_both start now new one first next L (UpToNumber L count) grows more builds before) nothing)),
      )

pub optional_start : (a : List State) (L : List ℕ → Type 0) (next : ℕ) → Grows a a
    × Builds a a next (UpToNumber L 0) next
optional_start a L next =
    (grows_none a, builds_same a a next next (λ w. w ≡ []) (UpToNumber L 0) (up_to_none L) (builds_nothing a next))
