-- The form that a member's key tells.
use Rattle.std.proofs.Common.{◌≡◌, ℕ, zero, suc, if◌then◌else◌, ◌<◌, ◌≤◌, inl, inr, Bool, true, false, List, [], ◌∷◌, length, slice_get, get_or, Option, Some, None, is_some, refl, sym, ◌∙◌, ap}
use Rattle.std.specs.Str.{bytes_eq}
use Rattle.std.proofs.lemmas.Bool.{false_from_ne_true}
use Rattle.std.proofs.lemmas.Option.{slice_get_read}
use Rattle.helix_json.specs.declared.value.Json.{Json}
use Rattle.helix_json.specs.declared.value.Member.{Member}
use Rattle.helix_places.specs.Members.{has_key, value_of}
use Rattle.helix_places.specs.KeyLaws.{Leads, leads, NoneBefore, none_at_all, bytes_same}
use Rattle.helix_keywords.specs.declared.form.Form.{Form}
use Rattle.helix_keywords.specs.declared.form.Form.TheVariants as form
use Rattle.helix_keywords.specs.Forms.{form_of, has_form}
use Rattle.helix_keywords.specs.Inner.Telling.{form_told, shorter, telling}
use Rattle.helix_keywords.specs.Inner.ToldLaws.{telling_there, told_is, told_telling}
use Rattle.helix_keywords.specs.FormLaws.{form_of_has, no_form, shorter_or_not}

not_both : (b : Bool) → b ≡ true → b ≡ false → ⊥
not_both b yes_it_is not_it = cc

some_either : (b : Bool) (v : Json) (o : Option Json) → is_some o ≡ true
    → is_some (if b then Some v else o) ≡ true
some_either true v o some = refl
some_either false v o some = some

has_at : (members : List Member) (i : ℕ) (m : Member) → slice_get members i ≡ Some m
    → has_key m.key members ≡ true
has_at [] i m at = absurd (cc)
has_at (n ∷ members) zero m at =
    let same : n ≡ m = cc in
    ap (λ b. is_some (if b then Some n.value else value_of m.key members))
    (ap (λ k. bytes_eq k.key m.key) same ∙ bytes_same m.key)
has_at (n ∷ members) (suc i) m at =
    some_either (bytes_eq n.key m.key) n.value (value_of m.key members) (has_at members i m at)

-- the key of a member tells a form
abbrev pub Tells : Member → Type 0
Tells m = (f : Form) × (form_told m.key ≡ Some f)

pub told_by : (members : List Member) (i : ℕ) (m : Member) (f : Form) (told : Option Form) → i < length members
    → m ≡ get_or members i m → told ≡ form_told m.key → told ≡ Some f
    → (g : Form) → has_form g members ≡ true → shorter g ≡ f
told_by members i m f told within read told_is_it some g has = told_is g f members m.key has
    (has_at members i m (slice_get_read members (length members) i m refl within read)) (sym told_is_it ∙ some)

pub tells_not : (m : Member) (told : Option Form) → told ≡ form_told m.key → ((f : Form) → told ≡ Some f → ⊥)
    → ¬ (Tells m)
tells_not m told is not_some tells = not_some tells.0 (is ∙ tells.1)

some_value : (o : Option Json) → is_some o ≡ true → (v : Json) × (o ≡ Some v)
some_value None some = absurd (not_both false some refl)
some_value (Some v) some = (v, refl)

pub none_told : (members : List Member) (i : ℕ) → length members ≤ i → NoneBefore Tells members i
    → (g : Form) → has_form g members ≡ false
none_told members i all none g = false_from_ne_true (has_form g members) (λ has.
    let there = some_value (value_of (telling g) members) (telling_there g members has) in
    let found : Leads (telling g) members there.0 = leads (telling g) members there.0 there.1 in
    none_at_all Tells members i found.index found.member all none found.at
    (shorter g, ap form_told found.key_is ∙ told_telling g))

-- the told form is there
pub told_here : (members : List Member) (f : Form) (answer : Bool) → answer ≡ has_form f members → answer ≡ true
    → Some f ≡ form_of members
told_here members f answer is yes_it_is = sym (form_of_has members f (sym is ∙ yes_it_is))

-- neither it nor that with an `else` is
pub none_here : (members : List Member) (told : Form) (first second : Bool)
    → ((g : Form) → has_form g members ≡ true → shorter g ≡ told)
    → first ≡ has_form told members → first ≡ false → second ≡ has_form form.IfElse members → second ≡ false
    → None ≡ form_of members
none_here members told first second only first_is not_first second_is not_second =
    sym (no_form members (λ g. false_from_ne_true (has_form g members) (λ has. elim (shorter_or_not g) [
      | inl short ↦ not_both first
          (first_is ∙ (ap (λ f. has_form f members) (sym (only g has) ∙ sym short) ∙ has)) not_first
      | inr long ↦ not_both second (second_is ∙ (ap (λ f. has_form f members) (sym long) ∙ has)) not_second
    ])))

pub none_at_all_told : (members : List Member) → ((g : Form) → has_form g members ≡ false) → None ≡ form_of members
none_at_all_told members none = sym (no_form members none)
