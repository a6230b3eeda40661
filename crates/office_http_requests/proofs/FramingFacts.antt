-- What one more field says.
use Rattle.std.proofs.Common.{◌≡◌, ℕ, ◌+◌, ◌<◌, Bool, true, false, cond, ◌&&◌, ◌||◌, List, [], ◌∷◌, ◌++◌, length, take, map, get_or, nat_le, codes, refl, sym, ap, ◌∙◌}
use Rattle.std.specs.List.{list_any}
use Rattle.std.proofs.lemmas.List.{take_more, map-append}
use Rattle.std.specs.Str.{str_eq_ignore_ascii_case}
use Rattle.std.specs.Str.Parse.{digits_value}
use Rattle.office_http_requests.specs.declared.request.Stated.{Stated}
use Rattle.office_http_requests.specs.declared.request.Stated.TheVariants.{Absent, Bad, TooLong, Exactly}
use Rattle.office_http_requests.specs.declared.request.Framing.{Framing}
use Rattle.office_http_requests.specs.declared.request.HostFields.{HostFields}
use Rattle.office_http_requests.specs.declared.request.HostFields.TheVariants.{NoHost}
use Rattle.office_http_requests.specs.Asked.{Line, values_named, are_digits, number_stated, stated, is_there, is_continue, is_foreign_site, hosts_stated, framing_of}
use Rattle.office_http_requests.specs.steps.Asked.{with_host, with_value, with_field}

-- the value of a field that has the name, or none
value_if : List ℕ → Line → List (List ℕ)
value_if name line = cond (str_eq_ignore_ascii_case line.0 name) (line.1 ∷ []) []

step : (b : Bool) (v : List ℕ) (vs ws : List (List ℕ)) → cond b (v ∷ (vs ++ ws)) (vs ++ ws) ≡ cond b (v ∷ vs) vs ++ ws
step true v vs ws = refl
step false v vs ws = refl

values-more : (name : List ℕ) (lines : List Line) (line : Line) → values_named name (lines ++ line ∷ []) ≡ values_named name lines ++ value_if name line
unfolding value_if
values-more name [] line = refl
values-more name (l ∷ ls) line =
    ap (λ (vs : List (List ℕ)). cond (str_eq_ignore_ascii_case l.0 name) (l.1 ∷ vs) vs) (values-more name ls line)
    ∙ step (str_eq_ignore_ascii_case l.0 name) l.1 (values_named name ls) (value_if name line)

bad_either : (b : Bool) (s t : Stated) (v : List ℕ) → with_value s v ≡ Bad → with_value t v ≡ Bad → with_value (cond b s t) v ≡ Bad
bad_either true s t v h k = h
bad_either false s t v h k = k

bad_again : (x v : List ℕ) → with_value (number_stated x) v ≡ Bad
unfolding number_stated
bad_again x v = bad_either (are_digits x) (cond (nat_le (digits_value 10 x) 65_536) (Exactly (digits_value 10 x)) TooLong) Bad v (bad_either (nat_le (digits_value 10 x) 65_536) (Exactly (digits_value 10 x)) TooLong v refl refl) refl

stated_more : (vs : List (List ℕ)) (v : List ℕ) → stated (vs ++ v ∷ []) ≡ with_value (stated vs) v
stated_more [] v = refl
stated_more (x ∷ []) v = sym (bad_again x v)
stated_more (x ∷ y ∷ vs) v = refl

there_more : (vs : List (List ℕ)) (v : List ℕ) → is_there (vs ++ v ∷ []) ≡ true
there_more [] v = refl
there_more (x ∷ vs) v = refl

or_false : (b : Bool) → b || false ≡ b
or_false true = refl
or_false false = refl

or_true : (b : Bool) → b || true ≡ true
or_true true = refl
or_true false = refl

or_step : (b c d : Bool) → b || (c || d) ≡ (b || c) || d
or_step true c d = refl
or_step false c d = refl

any_more : (p : List ℕ → Bool) (vs ws : List (List ℕ)) → list_any p (vs ++ ws) ≡ list_any p vs || list_any p ws
any_more p [] ws = refl
any_more p (v ∷ vs) ws = ap (λ b. p v || b) (any_more p vs ws) ∙ or_step (p v) (list_any p vs) (list_any p ws)

append_none : (vs : List (List ℕ)) → vs ++ [] ≡ vs
append_none [] = refl
append_none (v ∷ vs) = ap (λ (l : List (List ℕ)). v ∷ l) (append_none vs)

-- the five parts, by whether the field has the name
length_is : (b : Bool) (vs : List (List ℕ)) (v : List ℕ) → stated (vs ++ cond b (v ∷ []) []) ≡ cond b (with_value (stated vs) v) (stated vs)
length_is true vs v = stated_more vs v
length_is false vs v = ap stated (append_none vs)

coded_is : (b : Bool) (vs : List (List ℕ)) (v : List ℕ) → is_there (vs ++ cond b (v ∷ []) []) ≡ cond b true (is_there vs)
coded_is true vs v = there_more vs v
coded_is false vs v = ap is_there (append_none vs)

waits_one : (b c : Bool) (w : Bool) → w || cond b (c || false) false ≡ cond (b && c) true w
waits_one true true w = or_true w
waits_one true false w = or_false w
waits_one false c w = or_false w

any_if : (p : List ℕ → Bool) (b : Bool) (v : List ℕ) → list_any p (cond b (v ∷ []) []) ≡ cond b (p v || false) false
any_if p true v = refl
any_if p false v = refl

any_is : (p : List ℕ → Bool) (b : Bool) (vs : List (List ℕ)) (v : List ℕ) → list_any p (vs ++ cond b (v ∷ []) []) ≡ cond (b && p v) true (list_any p vs)
any_is p b vs v = any_more p vs (cond b (v ∷ []) []) ∙ ap (λ w. list_any p vs || w) (any_if p b v) ∙ waits_one b (p v) (list_any p vs)

either_is : (b d x y : Bool) → cond b true x || cond d true y ≡ cond b true (cond d true (x || y))
either_is true d x y = refl
either_is false true x y = or_true x
either_is false false x y = refl

hosts_more : (vs : List (List ℕ)) (v : List ℕ) → hosts_stated (vs ++ v ∷ []) ≡ with_host (hosts_stated vs)
hosts_more [] v = refl
hosts_more (x ∷ []) v = refl
hosts_more (x ∷ y ∷ vs) v = refl

hosts_is : (b : Bool) (vs : List (List ℕ)) (v : List ℕ) → hosts_stated (vs ++ cond b (v ∷ []) []) ≡ cond b (with_host (hosts_stated vs)) (hosts_stated vs)
hosts_is true vs v = hosts_more vs v
hosts_is false vs v = ap hosts_stated (append_none vs)

said : Stated → Bool → Bool → Bool → HostFields → Framing
said length coded waits foreign hosts = record { length = length; coded = coded; waits = waits; foreign = foreign; hosts = hosts }

-- one more field
pub framing-more : (lines : List Line) (line : Line) → framing_of (lines ++ line ∷ []) ≡ with_field (framing_of lines) line
unfolding framing_of said value_if
framing-more lines line =
    let cl : List ℕ = codes "content-length" in
    let te : List ℕ = codes "transfer-encoding" in
    let ex : List ℕ = codes "expect" in
    let og : List ℕ = codes "origin" in
    let sf : List ℕ = codes "sec-fetch-site" in
    let ho : List ℕ = codes "host" in
    let more : List Line = lines ++ line ∷ [] in
    let length : stated (values_named cl more) ≡ cond (str_eq_ignore_ascii_case line.0 cl) (with_value (stated (values_named cl lines)) line.1) (stated (values_named cl lines))
    = ap stated (values-more cl lines line) ∙ length_is (str_eq_ignore_ascii_case line.0 cl) (values_named cl lines) line.1 in
    let coded : is_there (values_named te more) ≡ cond (str_eq_ignore_ascii_case line.0 te) true (is_there (values_named te lines))
    = ap is_there (values-more te lines line) ∙ coded_is (str_eq_ignore_ascii_case line.0 te) (values_named te lines) line.1 in
    let waits : list_any is_continue (values_named ex more) ≡ cond (str_eq_ignore_ascii_case line.0 ex && is_continue line.1) true (list_any is_continue (values_named ex lines))
    = ap (list_any is_continue) (values-more ex lines line) ∙ any_is is_continue (str_eq_ignore_ascii_case line.0 ex) (values_named ex lines) line.1 in
    let origin : is_there (values_named og more) ≡ cond (str_eq_ignore_ascii_case line.0 og) true (is_there (values_named og lines))
    = ap is_there (values-more og lines line) ∙ coded_is (str_eq_ignore_ascii_case line.0 og) (values_named og lines) line.1 in
    let site : list_any is_foreign_site (values_named sf more) ≡ cond (str_eq_ignore_ascii_case line.0 sf && is_foreign_site line.1) true (list_any is_foreign_site (values_named sf lines))
    = ap (list_any is_foreign_site) (values-more sf lines line) ∙ any_is is_foreign_site (str_eq_ignore_ascii_case line.0 sf) (values_named sf lines) line.1 in
    let foreign : is_there (values_named og more) || list_any is_foreign_site (values_named sf more) ≡ cond (str_eq_ignore_ascii_case line.0 og) true (cond (str_eq_ignore_ascii_case line.0 sf && is_foreign_site line.1) true (is_there (values_named og lines) || list_any is_foreign_site (values_named sf lines)))
    = ap (λ b. b || list_any is_foreign_site (values_named sf more)) origin
    ∙ ap (λ b. cond (str_eq_ignore_ascii_case line.0 og) true (is_there (values_named og lines)) || b) site
    ∙ either_is (str_eq_ignore_ascii_case line.0 og) (str_eq_ignore_ascii_case line.0 sf && is_foreign_site line.1) (is_there (values_named og lines)) (list_any is_foreign_site (values_named sf lines)) in
    let hosts : hosts_stated (values_named ho more) ≡ cond (str_eq_ignore_ascii_case line.0 ho) (with_host (hosts_stated (values_named ho lines))) (hosts_stated (values_named ho lines))
    = ap hosts_stated (values-more ho lines line) ∙ hosts_is (str_eq_ignore_ascii_case line.0 ho) (values_named ho lines) line.1 in
    let length_now : Stated = cond (str_eq_ignore_ascii_case line.0 cl) (with_value (stated (values_named cl lines)) line.1) (stated (values_named cl lines)) in
    let coded_now : Bool = cond (str_eq_ignore_ascii_case line.0 te) true (is_there (values_named te lines)) in
    let waits_now : Bool = cond (str_eq_ignore_ascii_case line.0 ex && is_continue line.1) true (list_any is_continue (values_named ex lines)) in
    let foreign_now : Bool = cond (str_eq_ignore_ascii_case line.0 og) true (cond (str_eq_ignore_ascii_case line.0 sf && is_foreign_site line.1) true (is_there (values_named og lines) || list_any is_foreign_site (values_named sf lines))) in
    let named_now : HostFields = hosts_stated (values_named ho more) in
    ap (λ s. said s (is_there (values_named te more)) (list_any is_continue (values_named ex more)) (is_there (values_named og more) || list_any is_foreign_site (values_named sf more)) named_now) length
    ∙ ap (λ b. said length_now b (list_any is_continue (values_named ex more)) (is_there (values_named og more) || list_any is_foreign_site (values_named sf more)) named_now) coded
    ∙ ap (λ b. said length_now coded_now b (is_there (values_named og more) || list_any is_foreign_site (values_named sf more)) named_now) waits
    ∙ ap (λ b. said length_now coded_now waits_now b named_now) foreign
    ∙ ap (λ h. said length_now coded_now waits_now foreign_now h) hosts

-- the fields up to a place, and one more
pub framing_next : {A : Type 0} (f : A → Line) (xs : List A) (i : ℕ) (d : A) → i < length xs → framing_of (map f (take (i + 1) xs)) ≡ with_field (framing_of (map f (take i xs))) (f (get_or xs i d))
framing_next f xs i d h =
    ap (λ l. framing_of (map f l)) (take_more xs i d h)
    ∙ ap framing_of (map-append f (take i xs) (get_or xs i d ∷ []))
    ∙ framing-more (map f (take i xs)) (f (get_or xs i d))

pub framing_none : ◌≡◌ {A = Framing} (record { length = Absent; coded = false; waits = false; foreign = false; hosts = NoHost }) (framing_of [])
unfolding framing_of
framing_none = refl
