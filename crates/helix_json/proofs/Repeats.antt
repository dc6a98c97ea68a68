-- Which keys have been read, each with the start of its object.
use Rattle.std.proofs.Common.{◌≡◌, ℕ, ◌+◌, ◌<◌, ◌≤◌, ◌⊎◌, inl, inr, Bool, true, false, cond, List, [], ◌∷◌, ◌++◌, length, take, drop, get_or, Bor, refl, sym, ◌∙◌, ap, subst, arith, append_assoc, length-append, length-take-le, take-append-drop}
use Rattle.std.specs.declared.cmp.Ordering.{Ordering}
use Rattle.std.specs.declared.cmp.Ordering.TheVariants.{Less, Equal, Greater}
use Rattle.std.specs.Ordering.{nat_cmp, ordering_then, is_eq}
use Rattle.std.specs.Cmp.Lexicographic.{slice_cmp}
use Rattle.std.specs.List.{list_any}
use Rattle.std.specs.BTreeMap.{is_at}
use Rattle.std.proofs.lemmas.Bool.{cases_lt}
use Rattle.std.proofs.lemmas.Cmp.{nat_cmp_total, nat_list_cmp_total, tied_itself}
use Rattle.std.proofs.lemmas.Map.Lookups.{exact_unsigned, exact_bytes}
use Rattle.std.proofs.lemmas.List.{drop_more, drop_at, take_at}
use Rattle.helix_json.specs.declared.token.Token.{Token}
use Rattle.helix_json.specs.declared.token.Token.TheVariants as token
use Rattle.helix_json.specs.Broken.{RepeatsKey, stays}
use Rattle.helix_json.specs.Inner.Scopes.{BeginsWithKey}
use Rattle.helix_json.proofs.Firsts.{cut_at}
use Rattle.helix_json.proofs.Starts.{IsStart, one_start, start_before, stays_between}

abbrev pub KeyAt : Type 0
KeyAt = ℕ × Bor (List ℕ)

abbrev pub key_cmp : KeyAt → KeyAt → Ordering
key_cmp x y = ordering_then (nat_cmp x.0 y.0) (slice_cmp nat_cmp x.1.now y.1.now)

abbrev pub has : List KeyAt → KeyAt → Bool
has keys q = list_any (is_at (key_cmp q)) keys

then_equal : (a b : Ordering) → is_eq (ordering_then a b) ≡ true → (a ≡ Equal) × (b ≡ Equal)
then_equal Less b e = cc
then_equal Greater b e = cc
then_equal Equal Less e = cc
then_equal Equal Greater e = cc
then_equal Equal Equal e = (refl, refl)

-- two keys that are equal in the set's order are one key of one object
pub same_key : (p q : KeyAt) → is_at (key_cmp p) q ≡ true → (p.0 ≡ q.0) × (p.1.now ≡ q.1.now)
same_key p q e = let (a, b) = then_equal (nat_cmp p.0 q.0) (slice_cmp nat_cmp p.1.now q.1.now) e in
    (exact_unsigned p.0 q.0 a, exact_bytes p.1.now q.1.now b)

pub key_same : (p q : KeyAt) → p.0 ≡ q.0 → p.1.now ≡ q.1.now → is_at (key_cmp p) q ≡ true
key_same p q a b =
    ap is_eq (ap (λ o. ordering_then o (slice_cmp nat_cmp p.1.now q.1.now)) (ap (nat_cmp p.0) (sym a)
    ∙ tied_itself nat_cmp_total p.0)
    ∙ (ap (slice_cmp nat_cmp p.1.now) (sym b) ∙ tied_itself nat_list_cmp_total p.1.now))

-- among the first i tokens is this key, in an object with this start
pub record Recorded (all : List Token) (i s : ℕ) (key : List ℕ) : Type 0 where
  pub earlier : List Token
  pub more : List Token
  pub is : all ≡ earlier ++ token.Str key ∷ token.Colon ∷ more
  pub before : length earlier < i
  pub starts : IsStart earlier s

-- the set has them
pub record Seen (all : List Token) (i : ℕ) (keys : List KeyAt) : Type 0 where
  pub sound : (q : KeyAt) → has keys q ≡ true → Recorded all i q.0 q.1.now
  pub complete : (q : KeyAt) → Recorded all i q.0 q.1.now → has keys q ≡ true

later : (all : List Token) (i s : ℕ) (key : List ℕ) → Recorded all i s key → Recorded all (i + 1) s key
later all i s key r = record {
  earlier = r.earlier;
  more = r.more;
  is = r.is;
  before = let h = r.before in omega arith;
  starts = r.starts;
}

-- a key at the last of these indices, or before it
last_or_before : (all : List Token) (i s : ℕ) (key : List ℕ) (r : Recorded all (i + 1) s key)
    → (length r.earlier < i) ⊎ (i ≤ length r.earlier)
    → Recorded all i s key ⊎ (BeginsWithKey (drop i all) key × IsStart (take i all) s)
last_or_before all i s key r (inl h) = inl record {
  earlier = r.earlier;
  more = r.more;
  is = r.is;
  before = h;
  starts = r.starts;
}
last_or_before all i s key r (inr h) = let b = r.before in let n : length r.earlier ≡ i = omega arith in
    inr (
      (r.more, ap (drop i) r.is ∙ drop_at r.earlier (token.Str key ∷ token.Colon ∷ r.more) i n),
      subst (λ l. IsStart l s) (sym (ap (take i) r.is ∙ take_at r.earlier (token.Str key ∷ token.Colon ∷ r.more) i n))
          r.starts,
    )

here : (all : List Token) (i s : ℕ) (key : List ℕ) → i < length all → BeginsWithKey (drop i all) key
    → IsStart (take i all) s → Recorded all (i + 1) s key
here all i s key h (more, is) starts = let k : i ≤ length all = omega arith in let n = length-take-le i all k in
    record {
      earlier = take i all;
      more = more;
      is = sym (take-append-drop i all) ∙ ap (λ l. take i all ++ l) is;
      before = omega arith;
      starts = starts;
    }

one_key : (all : List Token) (a b : List ℕ) → BeginsWithKey all a → BeginsWithKey all b → a ≡ b
one_key all a b (more, e) (others, f) =
    let g : token.Str a ∷ token.Colon ∷ more ≡ token.Str b ∷ token.Colon ∷ others = sym e ∙ f in cc

-- no key is at this index
pub seen_skip : (all : List Token) (i : ℕ) (keys : List KeyAt) → ((key : List ℕ) → ¬ (BeginsWithKey (drop i all) key))
    → Seen all i keys → Seen all (i + 1) keys
seen_skip all i keys none seen = record {
  sound = λ q h. later all i q.0 q.1.now (seen.sound q h);
  complete =
      λ q r. elim (last_or_before all i q.0 q.1.now r (cases_lt (length r.earlier) i)) [
        | inl before ↦ seen.complete q before
        | inr at ↦ absurd (none q.1.now at.0)
      ];
}

sound_more : (all : List Token) (i : ℕ) (old : List KeyAt) (key q : KeyAt) (b : Bool) → is_at (key_cmp key) q ≡ b
    → i < length all → BeginsWithKey (drop i all) key.1.now
    → IsStart (take i all) key.0 → Seen all i old → cond b true (has old q) ≡ true → Recorded all (i + 1) q.0 q.1.now
sound_more all i old key q true e h begins starts seen has_it = let (a, b) = same_key key q e in
    subst (λ s. Recorded all (i + 1) s q.1.now) a
    (subst (λ k. Recorded all (i + 1) key.0 k) b (here all i key.0 key.1.now h begins starts))
sound_more all i old key q false e h begins starts seen has_it = later all i q.0 q.1.now (seen.sound q has_it)

cond_true : (b c : Bool) → c ≡ true → cond b true c ≡ true
cond_true true c e = refl
cond_true false c e = e

complete_more : (all : List Token) (i : ℕ) (old : List KeyAt) (key q : KeyAt) → BeginsWithKey (drop i all) key.1.now
    → IsStart (take i all) key.0 → Seen all i old
    → Recorded all i q.0 q.1.now ⊎ (BeginsWithKey (drop i all) q.1.now × IsStart (take i all) q.0)
    → cond (is_at (key_cmp key) q) true (has old q) ≡ true
complete_more all i old key q begins starts seen (inl before) =
    cond_true (is_at (key_cmp key) q) (has old q) (seen.complete q before)
complete_more all i old key q begins starts seen (inr (b, s)) =
    ap (λ c. cond c true (has old q)) (key_same key q (one_start (take i all) key.0 q.0 starts s)
    (one_key (drop i all) key.1.now q.1.now begins b))

-- a key is at this index, and the set takes it
pub seen_more : (all : List Token) (i : ℕ) (old new : List KeyAt) (key : KeyAt) → i < length all
    → BeginsWithKey (drop i all) key.1.now → IsStart (take i all) key.0
    → ((q : KeyAt) → has new q ≡ cond (is_at (key_cmp key) q) true (has old q)) → Seen all i old → Seen all (i + 1) new
seen_more all i old new key h begins starts updates seen = record {
  sound = λ q e. sound_more all i old key q (is_at (key_cmp key) q) refl h begins starts seen (sym (updates q) ∙ e);
  complete = λ q r. updates q ∙ complete_more all i old key q begins starts seen
      (last_or_before all i q.0 q.1.now r (cases_lt (length r.earlier) i));
}

-- what is between an earlier index and a later one
between_of : (e b m n : List Token) (j k : List ℕ) → e ++ token.Str j ∷ token.Colon ∷ m ≡ b ++ token.Str k ∷ n
    → length e < length b
    → (between : List Token) × (b ≡ e ++ token.Str j ∷ token.Colon ∷ between)
between_of [] [] m n j k is h = absurd (omega arith)
between_of [] (x ∷ []) m n j k is h = cc
between_of [] (x ∷ y ∷ b) m n j k is h = let f : x ≡ token.Str j = cc in let g : y ≡ token.Colon = cc in
    (b, ap (λ u. u ∷ y ∷ b) f ∙ ap (λ u. token.Str j ∷ u ∷ b) g)
between_of (x ∷ e) [] m n j k is h = absurd (omega arith)
between_of (x ∷ e) (y ∷ b) m n j k is h =
    let f : y ≡ x = cc in let g : e ++ token.Str j ∷ token.Colon ∷ m ≡ b ++ token.Str k ∷ n = cc in
    let less : length e < length b = omega arith in
    let (between, same) = between_of e b m n j k g less in (between, ap (λ u. u ∷ b) f ∙ ap (λ l. x ∷ l) same)

-- the token at the index of a key, and what is after it
key_here : (all : List Token) (i : ℕ) (t : Token) (key : List ℕ) → i < length all → t ≡ get_or all i t
    → BeginsWithKey (drop i all) key
    → (more : List Token) × (t ≡ token.Str key) × (drop (i + 1) all ≡ token.Colon ∷ more)
key_here all i t key h e (more, is) =
    let f : t ∷ drop (i + 1) all ≡ token.Str key ∷ token.Colon ∷ more = ap (λ u. u ∷ drop (i + 1) all) e
    ∙ (sym (drop_more all i t h) ∙ is) in (more, cc, cc)

pub repeats : (all : List Token) (i s : ℕ) (t : Token) (key : List ℕ) → i < length all → t ≡ get_or all i t
    → BeginsWithKey (drop i all) key → IsStart (take i all) s
    → Recorded all i s key → RepeatsKey (take i all) t (drop (i + 1) all)
repeats all i s t key h e begins starts r =
    let (more, is, rest) = key_here all i t key h e begins in
    let k : i ≤ length all = omega arith in
    let n : length (take i all) ≡ i = length-take-le i all k in
    let b = r.before in let less : length r.earlier < length (take i all) = omega arith in
    let whole : r.earlier ++ token.Str key ∷ token.Colon ∷ r.more ≡ take i all ++ token.Str key ∷ drop (i + 1) all =
    sym r.is ∙ (cut_at all i t h e ∙ ap (λ u. take i all ++ u ∷ drop (i + 1) all) is) in
    let (between, prefix) = between_of r.earlier (take i all) r.more (drop (i + 1) all) key key whole less in (
      key,
      r.earlier,
      between,
      more,
      is,
      rest,
      prefix,
      stays_between r.earlier (token.Str key ∷ token.Colon ∷ between) s r.starts
          (subst (λ l. IsStart l s) prefix starts),
    )

-- an earlier key of the object has been recorded
recorded : (all : List Token) (i s : ℕ) (t : Token) (rest : List Token) (key : List ℕ) → all ≡ take i all ++ t ∷ rest
    → length (take i all) ≡ i → IsStart (take i all) s
    → (earlier between : List Token) → take i all ≡ earlier ++ token.Str key ∷ token.Colon ∷ between
    → stays 0 between ≡ true → Recorded all i s key
recorded all i s t rest key is n starts earlier between prefix stay =
    let m : length (take i all) ≡ length earlier + length (token.Str key ∷ token.Colon ∷ between) = ap length prefix
    ∙ length-append earlier (token.Str key ∷ token.Colon ∷ between) in record {
      earlier = earlier;
      more = between ++ t ∷ rest;
      is = is ∙ (ap (λ l. l ++ t ∷ rest) prefix
          ∙ append_assoc earlier (token.Str key ∷ token.Colon ∷ between) (t ∷ rest));
      before = omega arith;
      starts = start_before earlier (token.Str key ∷ token.Colon ∷ between) s stay
          (subst (λ l. IsStart l s) prefix starts);
    }

-- a key that the set lacks repeats none
pub repeats_none : (all : List Token) (i : ℕ) (t : Token) (keys : List KeyAt) (key : KeyAt) → i < length all
    → t ≡ get_or all i t → BeginsWithKey (drop i all) key.1.now
    → IsStart (take i all) key.0 → Seen all i keys → has keys key ≡ false
    → ¬ (RepeatsKey (take i all) t (drop (i + 1) all))
repeats_none all i t keys key h e begins starts seen lacks (other, earlier, between, more, is, rest, prefix, stay) =
    let k : i ≤ length all = omega arith in
    let (follows, at, colon) = key_here all i t key.1.now h e begins in
    let same : other ≡ key.1.now = cc in
    let r = recorded all i key.0 t (drop (i + 1) all) other (cut_at all i t h e) (length-take-le i all k) starts earlier
    between prefix stay in
    let f : true ≡ false = sym (seen.complete key (subst (λ w. Recorded all i key.0 w) same r)) ∙ lacks in cc

-- what is no key repeats none
pub no_key : (all : List Token) (i : ℕ) (t : Token) → i < length all → t ≡ get_or all i t
    → ((key : List ℕ) → ¬ (BeginsWithKey (drop i all) key)) → ¬ (RepeatsKey (take i all) t (drop (i + 1) all))
no_key all i t h e none (key, earlier, between, more, is, rest, prefix, stay) =
    none key (
      more,
      drop_more all i t h ∙ (ap (λ u. u ∷ drop (i + 1) all) (sym e ∙ is)
          ∙ ap (λ l. token.Str key ∷ l) rest),
    )
