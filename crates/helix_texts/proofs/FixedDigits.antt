-- Numbers that are written in a fixed number of digits.
use Rattle.std.proofs.Common.{◌≡◌, ℕ, zero, suc, ◌+◌, ◌-◌, ◌*◌, ◌/◌, ◌%◌, ◌^◌, ◌<◌, List, [], ◌∷◌, ◌++◌, length, length-append, append_assoc, add-one, refl, sym, ap, ◌∙◌, arith}
use Rattle.std.proofs.Math.Nat.{mod-eq_of_lt}
use Rattle.std.proofs.Math.ListN.{set, take}
use Rattle.std.proofs.Math.Seq.{take-set-lt}
use Rattle.std.proofs.lemmas.List.{set-append_left, length-take, take_more_set, append-nil}
use Rattle.std.proofs.Math.Nat.{div-div-eq-div-mul}
use Rattle.helix_json.specs.Inner.DecimalLaws.{pow_more}
use Rattle.helix_json.specs.Numbers.{digits_from}
use Rattle.helix_texts.specs.Texts.{last_digits}
use Rattle.helix_texts.proofs.DecimalTexts.{last_digits-from}

pub length-last_digits : (width n : ℕ) → length (last_digits width n) ≡ width
unfolding last_digits
length-last_digits zero n = refl
length-last_digits (suc width) n = omega (
  arith,
  length-append (last_digits width (n / 10)) ((48 + n % 10) ∷ []),
  length-last_digits width (n / 10),
)

last_digits-value : (width n : ℕ) → digits_from 0 (last_digits width n) ≡ n % 10 ^ width
last_digits-value width n = omega (arith, last_digits-from width 0 n)

-- parts of one length are the same in two lists that are
pub same_prefixes : (a b c d : List ℕ) → length a ≡ length c → a ++ b ≡ c ++ d → (a ≡ c) × (b ≡ d)
same_prefixes [] b [] d lengths same = (refl, same)
same_prefixes [] b (y ∷ c) d lengths same = absurd (omega arith)
same_prefixes (x ∷ a) b [] d lengths same = absurd (omega arith)
same_prefixes (x ∷ a) b (y ∷ c) d lengths same =
    let head : x ≡ y = cc in
    let tail : a ++ b ≡ c ++ d = cc in
    let rest : (a ≡ c) × (b ≡ d) = same_prefixes a b c d (omega arith) tail in
    ((let prefix : a ≡ c = rest.0 in cc), rest.1)

-- the digits are those of one number
pub last_digits_same : (width m n : ℕ) → m < 10 ^ width → n < 10 ^ width → last_digits width m ≡ last_digits width n
    → m ≡ n
last_digits_same width m n small within same =
    sym (mod-eq_of_lt small)
    ∙ (sym (last_digits-value width m) ∙ (ap (digits_from 0) same ∙ (last_digits-value width n ∙ mod-eq_of_lt within)))

pub same_numbers : (width m n : ℕ) (b d : List ℕ) → m < 10 ^ width → n < 10 ^ width
    → last_digits width m ++ b ≡ last_digits width n ++ d → (m ≡ n) × (b ≡ d)
same_numbers width m n b d small within same =
    let parts = same_prefixes (last_digits width m) b (last_digits width n) d (length-last_digits width m
    ∙ sym (length-last_digits width n)) same in
    (last_digits_same width m n small within parts.0, parts.1)

-- one digit more at the start
next_digit : (width n : ℕ) → n / 10 / 10 ^ width ≡ n / 10 ^ suc width
next_digit width n =
    let power : 10 * 10 ^ width ≡ 10 ^ suc width = omega (arith, pow_more width, ap (λ k. 10 ^ k) (add-one width)) in
    div-div-eq-div-mul n 10 (10 ^ width) ∙ ap (λ k. n / k) power

pub last_digits-first : (width n : ℕ) → last_digits (suc width) n ≡ (48 + n / 10 ^ width % 10) ∷ last_digits width n
unfolding last_digits
last_digits-first zero n = ap (λ k. (48 + k % 10) ∷ []) (omega arith)
last_digits-first (suc width) n =
    ap (λ l. l ++ (48 + n % 10) ∷ []) (last_digits-first width (n / 10))
    ∙ ap (λ k. (48 + k % 10) ∷ (last_digits width (n / 10) ++ (48 + n % 10) ∷ [])) (next_digit width n)

-- a digit that is put before those at the end of a list
pub digit_before : (list prefix digits : List ℕ) (end place c : ℕ) → take end list ≡ take (place + 1) prefix ++ digits
    → place < end → place < length prefix
    → take end (set list place c) ≡ take place prefix ++ c ∷ digits
digit_before list prefix digits end place c is inside in_prefix =
    let added : set (take (place + 1) prefix) place c
    ≡ take place prefix ++ c ∷ [] = sym (take-set-lt (place + 1) prefix place c (omega arith))
    ∙ take_more_set prefix place c in_prefix in
    take-set-lt end list place c inside
    ∙ (ap (λ l. set l place c) is
    ∙ (set-append_left (take (place + 1) prefix) digits place c (omega (arith, length-take (place + 1) prefix))
    ∙ (ap (λ l. l ++ digits) added
    ∙ append_assoc (take place prefix) (c ∷ []) digits)))

-- the step of a loop that writes digits from the last one on
pub digit_step : (list prefix : List ℕ) (number rest done end place left : ℕ) → rest ≡ number / 10 ^ done
    → take end list ≡ take (end - done) prefix ++ last_digits done number
    → place + 1 ≡ end - done → place < end → place < length prefix → left ≡ place
    → take end (set list place (48 + rest % 10)) ≡ take left prefix ++ last_digits (done + 1) number
digit_step list prefix number rest done end place left is text next inside in_prefix same =
    let before : take end list ≡ take (place + 1) prefix ++ last_digits done number = rw next text in
    let digits : (48 + rest % 10) ∷ last_digits done number ≡ last_digits (done + 1) number =
    ap (λ k. (48 + k % 10) ∷ last_digits done number) is
    ∙ (sym (last_digits-first done number) ∙ ap (λ w. last_digits w number) (sym (add-one done))) in
    digit_before list prefix (last_digits done number) end place (48 + rest % 10) before inside in_prefix
    ∙ (ap (λ l. take place prefix ++ l) digits ∙ ap (λ k. take k prefix ++ last_digits (done + 1) number) (sym same))

pub no_digits_yet : (list : List ℕ) (number end left : ℕ) → left ≡ end
    → take end list ≡ take left list ++ last_digits 0 number
unfolding last_digits
no_digits_yet list number end left same = sym (append-nil (take end list)) ∙ ap (λ k. take k list ++ []) (sym same)
