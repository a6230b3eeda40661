-- Reading one text after the other.
use Rattle.std.proofs.Common.{◌≡◌, ℕ, Bool, true, false, not, List, [], ◌∷◌, ◌++◌, map, Option, Result, Ok, Err, refl, sym, ap, ◌∙◌}
use Rattle.std.specs.List.{filter, list_all, slice_split}
use Rattle.std.specs.Option.{option_map_or}
use Rattle.std.specs.Borrow.{Bor}
use Rattle.std.proofs.lemmas.Bool.{cond-true, cond-false, not_from_true, not_from_false}
use Rattle.std.proofs.lemmas.List.{append-nil, append_assoc}
use Rattle.deb_control.specs.Text.{is_white}
use Rattle.deb_control.specs.Results.{each_of}
use Rattle.deb_control.specs.Relations.{◌>>=◌}
use Rattle.deb_control.specs.steps.RelationAnswers.{Fails}
use Rattle.deb_control.specs.declared.fault.RelationFault.{RelationFault}
use Rattle.deb_control.specs.declared.fault.RelationFault.TheVariants.{BadName, BadVersion, BadRelation, NoMemory}

-- texts as slices of the source, by their bytes
abbrev pub texts : List (Bor (List ℕ)) → List (List ℕ)
texts xs = map (λ (x : Bor (List ℕ)). x.now) xs

-- the items of what is left of a text, if anything is left
abbrev pub items_left : (ℕ → Bool) → Option (Bor (List ℕ)) → List (List ℕ)
items_left separates rest = option_map_or (λ (text : Bor (List ℕ)). slice_split separates text.now) rest []

-- the values so far, and then those of the rest
abbrev pub then_append : {A E : Type 0} → List A → Result (List A) E → Result (List A) E
then_append done r = r >>= λ more. Ok (done ++ more)

pub begins_with_none : {A E : Type 0} (r : Result (List A) E) → then_append [] r ≡ r
begins_with_none (Ok x) = refl
begins_with_none (Err e) = refl

regrouped : {A E : Type 0} (done : List A) (a : A) (r : Result (List A) E) → then_append done (r >>= λ values. Ok (a ∷ values)) ≡ then_append (done ++ a ∷ []) r
regrouped done a (Ok x) = ap Ok (sym (append_assoc done (a ∷ []) x))
regrouped done a (Err e) = refl

module _ {A E : Type 0} (read : List ℕ → Result A E) where
  -- one text more
  pub each_step : (done : List A) (texts rest : List (List ℕ)) (text : List ℕ) (a : A) → texts ≡ text ∷ rest → read text ≡ Ok a → then_append done (each_of read texts) ≡ then_append (done ++ a ∷ []) (each_of read rest)
  each_step done texts rest text a cut e =
      ap (λ ts. then_append done (each_of read ts)) cut ∙ ap (λ r. then_append done (r >>= λ value. each_of read rest >>= λ values. Ok (value ∷ values))) e ∙ regrouped done a (each_of read rest)

  -- the first fault is the fault of all
  pub each_fails : (done : List A) (texts rest : List (List ℕ)) (text : List ℕ) (e : E) → texts ≡ text ∷ rest → read text ≡ Err e → then_append done (each_of read texts) ≡ Err e
  each_fails done texts rest text e cut bad =
      ap (λ ts. then_append done (each_of read ts)) cut ∙ ap (λ r. then_append done (r >>= λ value. each_of read rest >>= λ values. Ok (value ∷ values))) bad

  pub each_ends : (done : List A) (texts : List (List ℕ)) → texts ≡ [] → then_append done (each_of read texts) ≡ Ok done
  each_ends done texts e = ap (λ ts. then_append done (each_of read ts)) e ∙ ap Ok (append-nil done)

-- the items among some texts
abbrev pub not_white : List ℕ → Bool
not_white text = not (list_all is_white text)

pub item_in_front : (text : List ℕ) (texts : List (List ℕ)) → list_all is_white text ≡ false → filter not_white (text ∷ texts) ≡ text ∷ filter not_white texts
item_in_front text texts h = cond-true _ _ _ (not_from_false _ h)

pub white_in_front : (text : List ℕ) (texts : List (List ℕ)) → list_all is_white text ≡ true → filter not_white (text ∷ texts) ≡ filter not_white texts
white_in_front text texts h = cond-false _ _ _ (not_from_true _ h)

-- a fault of a part is a fault of the whole
pub fails_as : {X Y : Type 0} (e : RelationFault) (said : Result X RelationFault) (whole : Result Y RelationFault) → ((f : RelationFault) → said ≡ Err f → whole ≡ Err f) → Fails e said → Fails e whole
fails_as BadName said whole h p = h BadName p
fails_as BadVersion said whole h p = h BadVersion p
fails_as BadRelation said whole h p = h BadRelation p
fails_as NoMemory said whole h p = tt

-- a text that stands nowhere
abbrev pub nowhere : Bor (List ℕ)
nowhere = record { ref_ptr = (0, 0); now = [] }
