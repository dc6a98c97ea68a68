-- What is built from the tokens of a pattern is what the pattern means.
use Rattle.std.proofs.Common.{◌≡◌, ℕ, ◌+◌, ◌<◌, ◌≤◌, ◌&&◌, ◌||◌, not, min, Bool, true, false, nat_lt, Option, Some, None, List, [], ◌∷◌, ◌++◌, length, take, get_or, refl, sym, ◌∙◌, ap, subst, append_assoc}
use Rattle.std.proofs.Math.Bool.{or-false, or_assoc}
use Rattle.std.proofs.lemmas.List.{take_more, take_all}
use Rattle.std.specs.List.{list_any}
use Rattle.helix_base.specs.Ranges.{in_ranges}
use Rattle.helix_expr.specs.declared.expr.Expr.{Expr, Chars}
use Rattle.helix_expr.specs.declared.expr.Expr.TheViews.{Repeat}
use Rattle.helix_regex.specs.declared.token.Token.{Token}
use Rattle.helix_regex.specs.declared.token.Token.TheVariants as token
use Rattle.helix_regex.specs.declared.builder.Builder.{Builder}
use Rattle.helix_regex.specs.Characters.{is_character}
use Rattle.helix_regex.specs.Pattern.{Item, single, range, set_item, dash, Single, literal, dot, escape, set, class, star, plus, question, exactly, at_least, between, Quant, once, times, item_text}
use Rattle.helix_regex.specs.Meaning.{item_has, single_has, number_of, quantified}
use Rattle.helix_regex.specs.Faults.{is_bad_count}
use Rattle.helix_regex.specs.Inner.Tokens.{item_tokens, single_tokens, capped, quant_tokens}
use Rattle.helix_regex.specs.Inner.Sets.{Gains}
use Rattle.helix_regex.specs.Inner.Building.{Same, Pushes, PushesSet, Gained, class_has, RepeatsLast, Steps, Runs}
use Rattle.helix_regex.proofs.CountRule.{low}
use Rattle.helix_regex.proofs.Counted.{third}

-- one more token
pub runs_more : (ts : List Token) (t : Token) (a b c : Builder) → Runs a ts b → Steps b t c → Runs a (ts ++ t ∷ []) c
runs_more [] t a b c h s = (c, subst (λ x. Steps x t c) (sym h) s, refl)
runs_more (x ∷ ts) t a b c (n, x_step, h) s = (n, x_step, runs_more ts t n b c h s)

pub runs_next : (ts : List Token) (i : ℕ) (d : Token) (a b c : Builder) → i < length ts → Runs a (take i ts) b
    → Steps b (get_or ts i d) c → Runs a (take (i + 1) ts) c
runs_next ts i d a b c lt h s = subst (λ l. Runs a l c) (sym (take_more ts i d lt))
    (runs_more (take i ts) (get_or ts i d) a b c h s)

pub runs_all : (ts : List Token) (i : ℕ) (a b : Builder) → length ts ≤ i → Runs a (take i ts) b → Runs a ts b
runs_all ts i a b le h = subst (λ l. Runs a l b) (take_all i ts le) h

-- the items of a class
pub record ReadsItems (items : List Item) (old new : Builder) : Type 0 where
  pub same : Same old new
  pub gains : Gains (λ c. list_any (λ item. item_has item c) items) old.raw.items new.raw.items
  pub excluded : new.excluded ≡ old.excluded

same_both : (a b c : Builder) → Same a b → Same b c → Same a c
same_both a b c h k = record { outer = k.outer ∙ h.outer; done = k.done ∙ h.done; pieces = k.pieces ∙ h.pieces }

no_items : (b : Builder) → ReadsItems [] b b
no_items b = record {
  same = record { outer = refl; done = refl; pieces = refl };
  gains = record { all = λ c. sym (or-false (in_ranges b.raw.items c)) };
  excluded = refl;
}

one_item : (item : Item) (items : List Item) (a b c : Builder) → Gained (λ code. item_has item code) a b
    → ReadsItems items b c → ReadsItems (item ∷ items) a c
one_item item items a b c h k = record {
  same = same_both a b c h.same k.same;
  gains = record {
    all = λ code. k.gains.all code ∙ (ap (λ x. x || list_any (λ i. item_has i code) items) (h.gains.all code)
        ∙ or_assoc (in_ranges a.raw.items code) (item_has item code) (list_any (λ i. item_has i code) items));
  };
  excluded = k.excluded ∙ h.excluded;
}

abbrev ItemsRun : List Item → Builder → List Token → Builder → Type 0
ItemsRun items b r m = (n : Builder) × ReadsItems items b n × Runs n r m

items_run : (items : List Item) (at : ℕ) (b m : Builder) (r : List Token) → Runs b (item_tokens at items ++ r) m
    → ItemsRun items b r m
items_run [] at b m r h = (b, no_items b, h)
items_run (single e ∷ items) at b m r (n, s, h) =
    let (k, reads, rest) = items_run items (at + length (item_text (single e))) n m r h in
    (k, one_item (single e) items b n k s reads, rest)
items_run (range e f ∷ items) at b m r (n, s, h) =
    let (k, reads, rest) = items_run items (at + length (item_text (range e f))) n m r h in
    (k, one_item (range e f) items b n k s reads, rest)
items_run (set_item c ∷ items) at b m r (n, s, h) =
    let (k, reads, rest) = items_run items (at + length (item_text (set_item c))) n m r h in
    (k, one_item (set_item c) items b n k s reads, rest)
items_run (dash ∷ items) at b m r (n, s, h) =
    let (k, reads, rest) = items_run items (at + length (item_text dash)) n m r h in
    (k, one_item dash items b n k s reads, rest)

-- one more piece, which some expression is
abbrev SingleRun : Single → Builder → List Token → Builder → Type 0
SingleRun s b r m = (n : Builder) × PushesSet (single_has s) b n × Runs n r m

same_set : (f g : ℕ → Bool) (b n : Builder) → ((c : ℕ) → f c ≡ g c) → PushesSet f b n → PushesSet g b n
same_set f g b n e (ranges, are, pushes) =
    (ranges, record { separate = are.separate; same = λ c. are.same c ∙ e c }, pushes)

after_same : (e : Expr) (a b c : Builder) → Same a b → Pushes e b c → Pushes e a c
after_same e a b c h k = record {
  outer = k.outer ∙ h.outer;
  done = k.done ∙ h.done;
  pieces = k.pieces ∙ ap (λ l. l ++ e ∷ []) h.pieces;
}

set_after_same : (f : ℕ → Bool) (a b c : Builder) → Same a b → PushesSet f b c → PushesSet f a c
set_after_same f a b c h (ranges, are, pushes) = (ranges, are, after_same (Chars ranges) a b c h pushes)

-- a class after its marks
abbrev Listed : List Item → ℕ → Bool
Listed items c = list_any (λ item. item_has item c) items

class_set : (n : Bool) (items : List Item) (excluded : Bool) (raw : List (ℕ × ℕ)) (c : ℕ) → excluded ≡ n
    → in_ranges raw c ≡ Listed items c → class_has excluded raw c ≡ single_has (class n items) c
class_set true items excluded raw c e f = ap (λ x. class_has x raw c) e ∙ ap (λ b. is_character c && not b) f
class_set false items excluded raw c e f = ap (λ x. class_has x raw c) e ∙ f

class_ends : (n : Bool) (items : List Item) (a b k m : Builder) → Same a b → b.raw.items ≡ [] → b.excluded ≡ n
    → ReadsItems items b k → PushesSet (class_has k.excluded k.raw.items) k m
    → PushesSet (single_has (class n items)) a m
class_ends n items a b k m same raw excluded reads pushes =
    set_after_same (single_has (class n items)) a k m (same_both a b k same reads.same)
    (same_set (class_has k.excluded k.raw.items) (single_has (class n items)) k m
    (λ c. class_set n items k.excluded k.raw.items c (reads.excluded ∙ excluded) (reads.gains.all c
    ∙ ap (λ l. in_ranges l c || Listed items c) raw)) pushes)

pub single_run : (s : Single) (at : ℕ) (b m : Builder) (r : List Token) → Runs b (single_tokens at s ++ r) m
    → SingleRun s b r m
single_run (literal c) at b m r (n, s, h) = (n, s, h)
single_run dot at b m r (n, s, h) = (n, s, h)
single_run (escape c) at b m r (n, s, h) = (n, s, h)
single_run (set c) at b m r (n, s, h) = (n, s, h)
single_run (class true items) at b m r (n, begins, (e, excludes, h)) =
    let regrouped : Runs e (item_tokens (at + 2) items ++ token.ClassEnd ∷ r) m = subst (λ l. Runs e l m)
    (append_assoc (item_tokens (at + 2) items) (token.ClassEnd ∷ []) r) h in
    let (k, reads, last) = items_run items (at + 2) e m (token.ClassEnd ∷ r) regrouped in
    let (z, ends, rest) = last in (
      z,
      class_ends true items b e k z (same_both b n e begins.same excludes.same) (excludes.raw
          ∙ begins.raw) excludes.excluded reads ends,
      rest,
    )
single_run (class false items) at b m r (n, begins, h) =
    let regrouped : Runs n (item_tokens (at + 1) items ++ token.ClassEnd ∷ r) m = subst (λ l. Runs n l m)
    (append_assoc (item_tokens (at + 1) items) (token.ClassEnd ∷ []) r) h in
    let (k, reads, last) = items_run items (at + 1) n m (token.ClassEnd ∷ r) regrouped in
    let (z, ends, rest) = last in
    (z, class_ends false items b n k z begins.same begins.raw begins.excluded reads ends, rest)

-- a quantifier after a piece
repeated : (e : Expr) (least : ℕ) (most : Option ℕ) (a b c : Builder) → Pushes e a b
    → ((prefix : List Expr) (piece : Expr) → b.pieces ≡ prefix ++ piece ∷ []
    → RepeatsLast prefix (Repeat piece least most) b c) → Pushes (Repeat e least most) a c
repeated e least most a b c h k = let s : RepeatsLast a.pieces (Repeat e least most) b c = k a.pieces e h.pieces in
    record { outer = s.outer ∙ h.outer; done = s.done ∙ h.done; pieces = s.pieces }

same_piece : (e f : Expr) (a b : Builder) → e ≡ f → Pushes e a b → Pushes f a b
same_piece e f a b h k = subst (λ x. Pushes x a b) h k

abbrev QuantRun : Quant → Expr → Builder → List Token → Builder → Type 0
QuantRun q e a r m = (n : Builder) × Pushes (quantified q e) a n × Runs n r m

exactly_piece : (e : Expr) (x : ℕ) → nat_lt 1000 x ≡ false
    → Repeat e (min x 1001) (Some (min x 1001)) ≡ Repeat e x (Some x)
exactly_piece e x h = ap (λ n. Repeat e n (Some n)) (low x h)

first_of_three : (a b c : Bool) → ((a || b) || c) ≡ false → a ≡ false
first_of_three true b c e = cc
first_of_three false b c e = refl

pub quant_run : (q : Quant) (at : ℕ) (e : Expr) (a b m : Builder) (r : List Token) → is_bad_count q ≡ false
    → Pushes e a b
    → Runs b (quant_tokens at q ++ r) m → QuantRun q e a r m
quant_run once at e a b m r good h k = (b, h, k)
quant_run (times star lazy) at e a b m r good h (n, s, k) = (n, repeated e 0 None a b n h s, k)
quant_run (times plus lazy) at e a b m r good h (n, s, k) = (n, repeated e 1 None a b n h s, k)
quant_run (times question lazy) at e a b m r good h (n, s, k) = (n, repeated e 0 (Some 1) a b n h s, k)
quant_run (times (exactly ds) lazy) at e a b m r good h (n, s, k) = (
  n,
  same_piece _ (Repeat e (number_of ds) (Some (number_of ds))) a n (exactly_piece e (number_of ds) good)
      (repeated e (capped ds) (Some (capped ds)) a b n h s),
  k,
)
quant_run (times (at_least ds) lazy) at e a b m r good h (n, s, k) = (
  n,
  same_piece _ (Repeat e (number_of ds) None) a n (ap (λ x. Repeat e x None) (low (number_of ds) good))
      (repeated e (capped ds) None a b n h s),
  k,
)
quant_run (times (between ds es) lazy) at e a b m r good h (n, s, k) =
    let x : capped ds ≡ number_of ds = low (number_of ds)
    (first_of_three (nat_lt 1000 (number_of ds)) (nat_lt 1000 (number_of es)) (nat_lt (number_of es) (number_of ds))
    good) in
    let y : capped es ≡ number_of es = low (number_of es)
    (third (nat_lt 1000 (number_of ds)) (nat_lt 1000 (number_of es)) (nat_lt (number_of es) (number_of ds)) good) in (
      n,
      same_piece _ (Repeat e (number_of ds) (Some (number_of es))) a n (ap (λ z. Repeat e z (Some (capped es))) x
          ∙ ap (λ z. Repeat e (number_of ds) (Some z)) y) (repeated e (capped ds) (Some (capped es)) a b n h s),
      k,
    )
