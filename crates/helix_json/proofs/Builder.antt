-- What the builder has so far leads on as the tokens do.
use Rattle.std.proofs.Common.{◌≡◌, ◌≢◌, ℕ, ◌+◌, ◌<◌, Result, Ok, Err, IfOk, Option, Some, None, IsSome, List, [], ◌∷◌, ◌++◌, length, take, drop, get_or, map, refl, sym, ◌∙◌, ap, subst}
use Rattle.std.proofs.lemmas.List.{map-id}
use Rattle.helix_base.specs.declared.memory.Memory.{Memory}
use Rattle.helix_json.specs.declared.value.Json.{Json}
use Rattle.helix_json.specs.declared.value.Member.{Member}
use Rattle.helix_json.specs.declared.token.Token.{Token}
use Rattle.helix_json.specs.declared.token.Token.TheVariants as token
use Rattle.helix_json.specs.declared.build.Frame.{Frame as Kept}
use Rattle.helix_json.specs.declared.build.Frame.TheVariants as kept
use Rattle.helix_json.specs.declared.build.Next.{Next}
use Rattle.helix_json.specs.declared.build.Next.TheVariants as next
use Rattle.helix_json.specs.Tokens.{tokens}
use Rattle.helix_json.specs.Inner.Machine.{Frame, in_list, in_object, Reading, value, first_item, colon, after, step, value_step, run, on_some}
use Rattle.helix_json.specs.Inner.Building.{frame_of, frames_of, reading_of}
use Rattle.helix_json.proofs.Machine.{refused, run-append, run_tokens}
use Rattle.helix_json.proofs.Firsts.{cut_at}

pub frames_of-push : (fs : List Kept) (f : Kept) → frames_of (fs ++ f ∷ []) ≡ frame_of f ∷ frames_of fs
frames_of-push [] f = refl
frames_of-push (g ∷ fs) f = ap (λ l. l ++ frame_of g ∷ []) (frames_of-push fs f)

pub pushed : (old new : List Kept) (f : Kept) → new ≡ old ++ f ∷ [] → frames_of new ≡ frame_of f ∷ frames_of old
pushed old new f e = ap frames_of e ∙ frames_of-push old f

item_step : (fs : List Frame) (t : Token) → t ≢ token.CloseList
    → step (first_item fs) t ≡ value_step (in_list [] ∷ fs) t
item_step fs token.CloseList h = absurd (h refl)
item_step fs token.OpenList h = refl
item_step fs token.OpenObject h = refl
item_step fs token.CloseObject h = refl
item_step fs token.Comma h = refl
item_step fs token.Colon h = refl
item_step fs token.Null h = refl
item_step fs token.True h = refl
item_step fs token.False h = refl
item_step fs (token.Number n) h = refl
item_step fs (token.Str s) h = refl

-- the first token of a list's first item
pub item_begins : (old new : List Kept) (xs : List Json) (t : Token) (n : Next) → t ≢ token.CloseList → xs ≡ []
    → new ≡ old ++ kept.List xs ∷ []
    → ((fs : List Kept) → value_step (frames_of fs) t ≡ Some (reading_of n fs))
    → step (first_item (frames_of old)) t ≡ Some (reading_of n new)
item_begins old new xs t n h none e begins = item_step (frames_of old) t h
    ∙ (ap (λ fs. value_step fs t) (ap (λ l. in_list l ∷ frames_of old) (sym none)
    ∙ sym (pushed old new (kept.List xs) e)) ∙ begins new)

-- a comma after an item
pub item_ends : (old new : List Kept) (xs ys : List Json) (x : Json) (t : Token) → t ≡ token.Comma → ys ≡ xs ++ x ∷ []
    → new ≡ old ++ kept.List ys ∷ []
    → step (after x (in_list xs ∷ frames_of old)) t ≡ Some (value (frames_of new))
item_ends old new xs ys x t is more e = ap (step (after x (in_list xs ∷ frames_of old))) is
    ∙ ap (λ fs. Some (value fs)) (ap (λ l. in_list l ∷ frames_of old) (sym more)
    ∙ sym (pushed old new (kept.List ys) e))

-- after a value, the frames outside of the innermost don't matter
after_item : (fs : List Frame) (xs : List Json) (x : Json) (t : Token) → IsSome (step (after x (in_list xs ∷ fs)) t)
    → IsSome (step (after x (in_list xs ∷ [])) t)
after_item fs xs x token.Comma h = refl
after_item fs xs x token.CloseList h = refl
after_item fs xs x _ h = h

after_member : (fs : List Frame) (ms : List Member) (k : List ℕ) (x : Json) (t : Token)
    → IsSome (step (after x (in_object ms k ∷ fs)) t)
    → IsSome (step (after x (in_object ms k ∷ [])) t)
after_member fs ms k x token.Comma h = refl
after_member fs ms k x token.CloseObject h = refl
after_member fs ms k x _ h = h

pub item_allowed : (old new : List Kept) (f : Kept) (xs : List Json) (x : Json) (t : Token) → old ≡ new ++ f ∷ []
    → f ≡ kept.List xs
    → IsSome (step (after x (frames_of old)) t) → IsSome (step (after x (in_list xs ∷ [])) t)
item_allowed old new f xs x t e is h =
    after_item (frames_of new) xs x t (subst (λ l. IsSome (step (after x l) t)) (pushed new old f e
    ∙ ap (λ g. frame_of g ∷ frames_of new) is) h)

pub member_allowed : (old new : List Kept) (f : Kept) (ms : List Member) (k : List ℕ) (x : Json) (t : Token)
    → old ≡ new ++ f ∷ [] → f ≡ kept.Object ms k
    → IsSome (step (after x (frames_of old)) t) → IsSome (step (after x (in_object ms k ∷ [])) t)
member_allowed old new f ms k x t e is h =
    after_member (frames_of new) ms k x t (subst (λ l. IsSome (step (after x l) t)) (pushed new old f e
    ∙ ap (λ g. frame_of g ∷ frames_of new) is) h)

-- the innermost frame is the one that was taken
pub item_taken : (old new : List Kept) (f : Kept) (xs : List Json) → old ≡ new ++ f ∷ [] → f ≡ kept.List xs
    → in_list xs ∷ frames_of new ≡ frames_of old
item_taken old new f xs e is = sym (pushed new old f e ∙ ap (λ g. frame_of g ∷ frames_of new) is)

pub member_taken : (old new : List Kept) (f : Kept) (ms : List Member) (k : List ℕ) → old ≡ new ++ f ∷ []
    → f ≡ kept.Object ms k
    → in_object ms k ∷ frames_of new ≡ frames_of old
member_taken old new f ms k e is = sym (pushed new old f e ∙ ap (λ g. frame_of g ∷ frames_of new) is)

is_colon : (ms : List Member) (k : List ℕ) (fs : List Frame) (t : Token) → IsSome (step (colon ms k fs) t)
    → step (colon ms k fs) t ≡ Some (value (in_object ms k ∷ fs))
is_colon ms k fs token.Colon h = refl
is_colon ms k fs _ h = cc

-- a colon after a key
pub colon_leads : (old new : List Kept) (n : Next) (ms : List Member) (k : List ℕ) (t : Token) → n ≡ next.Colon ms k
    → IsSome (step (reading_of n old) t)
    → new ≡ old ++ kept.Object ms k ∷ [] → step (reading_of n old) t ≡ Some (value (frames_of new))
colon_leads old new n ms k t is h e =
    ap (λ m. step (reading_of m old) t) is
    ∙ (is_colon ms k (frames_of old) t (subst (λ m. IsSome (step (reading_of m old) t)) is h)
    ∙ ap (λ l. Some (value l)) (sym (pushed old new (kept.Object ms k) e)))

allowed_by : (o : Option Reading) → o ≢ None → IsSome o
allowed_by None h = absurd (h refl)
allowed_by (Some r) h = refl

-- a token of a value is never refused
pub allowed : (v : Json) (all ds : List Token) (t : Token) (r : Reading) → tokens v ≡ all
    → map (λ x. x) ds ≡ take (length ds) all
    → (length ds < length all) × (t ≡ get_or all (length ds) t) → run (value []) ds ≡ Some r → IsSome (step r t)
allowed v all ds t r is so_far turn leads =
    let prefix : take (length ds) all ≡ ds = sym so_far ∙ map-id ds in
    allowed_by (step r t) (λ none. refused r ds t leads none v (drop (length ds + 1) all)
    (is ∙ (cut_at all (length ds) t turn.0 turn.1 ∙ ap (λ l. l ++ t ∷ drop (length ds + 1) all) prefix)))

-- one more token
pub leads_on : (ds : List Token) (t : Token) (r q : Reading) → run (value []) ds ≡ Some r → step r t ≡ Some q
    → run (value []) (ds ++ t ∷ []) ≡ Some q
leads_on ds t r q leads e = run-append ds (t ∷ []) (value []) r leads ∙ ap (λ o. on_some o (λ s. run s [])) e

-- after all of its tokens comes the value
pub arrives : (v : Json) (all ds : List Token) (n : Next) (fs : List Kept) → tokens v ≡ all → map (λ x. x) ds ≡ all
    → run (value []) ds ≡ Some (reading_of n fs)
    → reading_of n fs ≡ after v []
arrives v all ds n fs is every leads =
    let e : ds ≡ tokens v = sym (map-id ds) ∙ (every ∙ sym is) in
    let f : Some (reading_of n fs) ≡ Some (after v []) = sym leads ∙ (ap (run (value [])) e ∙ run_tokens v) in cc

pub arrived : (v : Json) (n : Next) (fs : List Kept) → reading_of n fs ≡ after v [] → n ≡ next.After v
arrived v next.Value fs e = cc
arrived v next.FirstItem fs e = cc
arrived v next.FirstKey fs e = cc
arrived v (next.Key ms) fs e = cc
arrived v (next.Colon ms k) fs e = cc
arrived v (next.After x) fs e = let f : x ≡ v = cc in ap (λ y. next.After y) f

pub built : (v w : Json) (all : List Token) (n : Next) → tokens v ≡ all → n ≡ next.After v → n ≡ next.After w
    → tokens w ≡ all
built v w all n is a b = let e : w ≡ v = cc in ap tokens e ∙ is

-- what was said of a step inside of any frames holds inside of these
pub inside_of : (result : Result Next Memory) (P : List Frame → Next → List Kept
    → Type 0) (f : Frame) (old new : List Kept) → f ∷ frames_of new ≡ frames_of old
    → IfOk result (λ then. (fs : List Kept) → P (f ∷ frames_of fs) then fs)
    → IfOk result (λ then. P (frames_of old) then new)
inside_of (Ok then) P f old new e h = subst (λ l. P l then new) e (h new)
inside_of (Err m) P f old new e h = h
