-- What every setup keeps, from the tests of its text.
use Rattle.std.proofs.Common.{◌≡◌, ℕ, suc, ◌+◌, ◌<◌, ◌≤◌, Bool, true, false, cond, if◌then◌else◌, Option, Some, None, Result, Ok, Err, List, [], ◌∷◌, map, length, drop, get_or, refl, sym, ap, subst, ◌∙◌, arith}
use Rattle.std.specs.Cmp.{first_so, second_so}
use Rattle.std.proofs.lemmas.Bool.{leb-true, eqb-true}
use Rattle.std.proofs.lemmas.List.{drop_more}
use Rattle.std.proofs.lemmas.List.Sums.{sum_by-cons}
use Rattle.deb_control.specs.Relations.{◌>>=◌}
use Rattle.office_mail_setup.specs.declared.setup.Sender.{Sender}
use Rattle.office_mail_setup.specs.declared.setup.Role.{Role}
use Rattle.office_mail_setup.specs.declared.setup.SetupFault.{SetupFault}
use Rattle.office_mail_setup.specs.declared.setup.SetupFault.TheVariants.{BadRoles}
use Rattle.office_mail_setup.specs.Setup.{are_senders, are_roles, count_of, names_of, place_of_role, same_role, sender_in, IsSetup}
use Rattle.office_mail_setup.specs.WholeText.{given, each_of}
use Rattle.testing_rules_items.specs.Archs.{are_archs}
use Rattle.testing_rules_items.proofs.ArchFacts.{archs_kept}

same_value : (a b : List Sender) (r : Result (List Sender) SetupFault) → r ≡ Ok a → r ≡ Ok b → a ≡ b
same_value a b r e f = cc

-- one sender, and those after it
named_more : (name : List ℕ) (role : Option Role) (more : Result (List Sender) SetupFault) (names : List (List ℕ)) (senders : List Sender) → ((rest : List Sender) → more ≡ Ok rest → names_of rest ≡ names) → ((given role BadRoles >>= λ r. Ok (record { name = name; role = r })) >>= λ s. more >>= λ rest. Ok (s ∷ rest)) ≡ Ok senders → names_of senders ≡ name ∷ names
named_more name None more names senders h e = absurd (cc)
named_more name (Some role) (Err fault) names senders h e = absurd (cc)
named_more name (Some role) (Ok rest) names senders h e = ap names_of (same_value _ _ _ e refl) ∙ ap (λ ns. name ∷ ns) (h rest refl)

-- senders have the names that their lines state
pub names_stated : (lines : List (List ℕ × List ℕ)) (senders : List Sender) → each_of sender_in lines ≡ Ok senders → names_of senders ≡ map (λ (s : List ℕ × List ℕ). s.0) lines
unfolding sender_in
names_stated [] senders e = ap names_of (same_value _ _ _ e refl)
names_stated (line ∷ lines) senders e = named_more line.0 _ (each_of sender_in lines) _ senders (names_stated lines) e

pub setup_kept : (archs : List (List ℕ)) (lines : List (List ℕ × List ℕ)) (senders : List Sender) → are_archs archs ≡ true → length archs ≤ 16 → are_senders (map (λ (s : List ℕ × List ℕ). s.0) lines) ≡ true → each_of sender_in lines ≡ Ok senders → are_roles senders ≡ true → length senders ≤ 16 → IsSetup (record { archs = archs; senders = senders })
unfolding are_senders are_roles
setup_kept archs lines senders good few named said roles small =
    let names = names_stated lines senders said in
    record {
      archs = archs_kept archs good few;
      few = small;
      named = rw names (first_so _ _ named);
      distinct = rw names (second_so _ _ named);
      uploads = leb-true 1 _ (first_so _ _ (first_so _ _ (first_so _ _ (first_so _ _ roles))));
      builds = leb-true 1 _ (second_so _ _ (first_so _ _ (first_so _ _ (first_so _ _ roles))));
      bugs = eqb-true _ 1 (second_so _ _ (first_so _ _ (first_so _ _ roles)));
      release = eqb-true _ 1 (second_so _ _ (first_so _ _ roles));
      runs = eqb-true _ 1 (second_so _ _ roles);
    }

-- one sender, and the place of a role among those after it
below_more : (here : Bool) (count place size : ℕ) → (1 ≤ count → place < size) → 1 ≤ cond here 1 0 + count → cond here 0 (place + 1) < suc size
below_more true count place size h k = omega arith
below_more false count place size h k = omega (arith, h (omega (arith, k)))

-- where senders have a role, its first place is among them
pub place_below : (role : Role) (senders : List Sender) → 1 ≤ count_of role senders → place_of_role role senders < length senders
place_below role [] h = absurd (omega (arith, h))
place_below role (s ∷ ss) h = below_more (same_role role s.role) (count_of role ss) (place_of_role role ss) (length ss) (place_below role ss) (subst (λ n. 1 ≤ n) (sum_by-cons (λ (x : Sender). cond (same_role role x.role) 1 0) s ss) h)

left_more : (xs : List Sender) (i : ℕ) (s : Sender) → i < length xs → s ≡ get_or xs i s → drop i xs ≡ s ∷ drop (i + 1) xs
left_more xs i s h is = drop_more xs i s h ∙ ap (λ x. x ∷ drop (i + 1) xs) (sym is)

-- one more sender is counted, if it has the role
pub counted_more : (role : Role) (xs : List Sender) (i : ℕ) (s : Sender) (has : Bool) → i < length xs → s ≡ get_or xs i s → same_role role s.role ≡ has → count_of role (drop i xs) ≡ cond has 1 0 + count_of role (drop (i + 1) xs)
counted_more role xs i s has h is same =
    ap (count_of role) (left_more xs i s h is) ∙ sum_by-cons (λ (s : Sender). cond (same_role role s.role) 1 0) s (drop (i + 1) xs)
    ∙ ap (λ b. cond b 1 0 + count_of role (drop (i + 1) xs)) same

-- a sender of another role is passed by
pub passed_by : (role : Role) (xs : List Sender) (i place : ℕ) (s : Sender) → i < length xs → place ≡ i → s ≡ get_or xs i s → same_role role s.role ≡ false → place + place_of_role role (drop place xs) ≡ place_of_role role xs → (place + 1) + place_of_role role (drop (place + 1) xs) ≡ place_of_role role xs
passed_by role xs i place s h at is other so =
    let step : place_of_role role (drop place xs) ≡ place_of_role role (drop (place + 1) xs) + 1 =
    rw at (ap (place_of_role role) (left_more xs i s h is) ∙ ap (λ b. if b then 0 else place_of_role role (drop (i + 1) xs) + 1) other) in
    omega (arith, step, so)
